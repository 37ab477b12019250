-- Where a chip stands between two calls.
use Rattle.std.specs.Prelude.{◌≡◌, ℕ, ◌-◌, ◌%◌, ◌^◌, ◌<◌, Bool, true, false, cond, List}
use Rattle.protocol.specs.declared.instruction.Kind.{Kind}
use Rattle.protocol.specs.declared.parts.Width.{Width}
use Rattle.protocol.specs.Parts.{bits_of, cells_of, field_of, width_by}
use Rattle.protocol.specs.Instructions.{has_data}
use Rattle.chips.specs.declared.state.Decision.{Decision}
use Rattle.chips.specs.declared.state.Decision.TheVariants.{Instruction}
use Rattle.chips.specs.declared.state.Phase.TheVariants.{Waiting, Reading}
use Rattle.chips.specs.declared.state.State.{State}
use Rattle.chips.specs.Control.{is_clock_edition, verdict_of, obeyed}
use Rattle.chips.specs.Levels.{low, high_impedance}
use Rattle.chips.specs.Machine.{written}
use Rattle.chips.specs.Pins.{Pins}

-- the width that ORG gives
abbrev pub width_on : Pins → Width
width_on p = width_by p.machine.setup.part p.org

abbrev pub left_on : Pins → ℕ
left_on p = p.machine.state.left

-- At rest: CS low, waiting, status off. A cycle may be under way.
pub record Rest (p : Pins) : Type 0 where
  pub live : p.blank ≡ false
  pub low : p.machine.state.cs ≡ false
  pub waiting : p.machine.state.phase ≡ Waiting
  pub dark : p.machine.state.status ≡ false

-- Ready: at rest, and no cycle is under way.
pub record Ready (p : Pins) : Type 0 where
  pub rest : Rest p
  pub none : left_on p ≡ 0

-- the fields of an instruction fit their widths
pub record Sendable (p : Pins) (address value : ℕ) : Type 0 where
  pub in_field : address < 2 ^ field_of p.machine.setup.part (width_on p)
  pub in_width : value < 2 ^ bits_of (width_on p)

-- the chip with other bytes, in another state, with another level on DO
abbrev pub placed : Pins → State → List ℕ → ℕ → Pins
placed p st bytes out =
    record {
      blank = p.blank;
      machine = record { setup = p.machine.setup; state = st; bytes = bytes; out = out };
      org = p.org;
      pe = p.pe;
    }

-- a state at rest
abbrev pub rest_state : Bool → ℕ → State
rest_state enabled left = record { enabled = enabled; left = left; status = false; cs = false; sk = false; phase = Waiting }

-- the chip at rest, with so many samples left of a cycle
abbrev pub resting : Pins → ℕ → Pins
resting p left = placed p (rest_state p.machine.state.enabled left) p.machine.bytes high_impedance

-- what an instruction that is sent decides
abbrev pub decided : Pins → Kind → ℕ → ℕ → Decision
decided p kind address value =
    Instruction kind (width_on p) (address % cells_of p.machine.setup.part (width_on p)) (cond (has_data kind) value 0)
    (verdict_of p.machine.setup.edition p.machine.state.enabled p.pe kind)

-- the clock edition carries out two samples before the end of the frame, the fall edition at its end
abbrev pub since : Pins → ℕ → ℕ
since p left = cond (is_clock_edition p.machine.setup.edition) (left - 2) left

-- An instruction carried out once, and the chip at rest again.
abbrev pub carried_out : Pins → Kind → ℕ → ℕ → Pins
carried_out p kind address value =
    let d = decided p kind address value in
    let st = obeyed p.machine.setup d (rest_state p.machine.state.enabled 0) in
    placed p (rest_state st.enabled (since p st.left)) (written p.machine.setup.part d p.machine.bytes) high_impedance

-- The first bit of a cell is next, and DO is low.
abbrev pub reading : Pins → ℕ → Pins
reading p address =
    placed p
    (record {
      enabled = p.machine.state.enabled;
      left = 0;
      status = false;
      cs = true;
      sk = true;
      phase = Reading (width_on p) (address % cells_of p.machine.setup.part (width_on p)) 0;
    }) p.machine.bytes low
