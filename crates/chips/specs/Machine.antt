-- The pin machine: a control, the bytes and DO.
use Rattle.std.specs.Prelude.{ℕ, zero, suc, ◌+◌, ◌-◌, ◌*◌, ◌/◌, ◌%◌, ◌^◌, Bool, if◌then◌else◌, List, [], ◌∷◌, ◌==◌, slice_index, slice_set}
use Rattle.protocol.specs.declared.instruction.Kind.{Kind}
use Rattle.protocol.specs.declared.instruction.Kind.TheVariants.{Read, Write, Erase, Wen, Wds, Eral, Wrall}
use Rattle.protocol.specs.declared.parts.Part.{Part}
use Rattle.protocol.specs.declared.parts.Width.{Width}
use Rattle.protocol.specs.declared.parts.Width.TheVariants.{Eight, Sixteen}
use Rattle.protocol.specs.declared.sample.Sample.{Sample}
use Rattle.protocol.specs.declared.settings.Setup.{Setup}
use Rattle.protocol.specs.Parts.{bits_of, ones_of, cells_of}
use Rattle.protocol.specs.Samples.{levels}
use Rattle.chips.specs.declared.state.Phase.{Phase}
use Rattle.chips.specs.declared.state.Phase.TheVariants.{Waiting, Taking, Reading, Spoiled, Over}
use Rattle.chips.specs.declared.state.State.{State}
use Rattle.chips.specs.declared.state.Verdict.{Verdict}
use Rattle.chips.specs.declared.state.Verdict.TheVariants.{CarriedOut, Shut, Protected, WrongCount as WrongCountOf}
use Rattle.chips.specs.declared.state.Decision.{Decision}
use Rattle.chips.specs.declared.state.Decision.TheVariants.{Nothing, Start, Address, Data, Instruction, WrongCount}
use Rattle.chips.specs.Control.{Turn, turn, power_up}
use Rattle.chips.specs.Levels.{low, high, high_impedance}

pub record Machine : Type 0 where
  pub setup : Setup
  pub state : State
  pub bytes : List ℕ
  -- DO, as its level's number
  pub out : ℕ

-- Cells: cell k is byte k at width 8, and bytes 2k (high) and 2k + 1 (low) at width 16.
abbrev pub cell_value : Width → List ℕ → ℕ → ℕ
cell_value Eight bytes k = slice_index bytes k
cell_value Sixteen bytes k = 256 * slice_index bytes (2 * k) + slice_index bytes (2 * k + 1)

abbrev pub set_cell : Width → ℕ → ℕ → List ℕ → List ℕ
set_cell Eight k v bytes = slice_set bytes k v
set_cell Sixteen k v bytes = slice_set (slice_set bytes (2 * k) (v / 256)) (2 * k + 1) (v % 256)

-- the first n cells at v
abbrev pub fill_cells : Width → ℕ → ℕ → List ℕ → List ℕ
fill_cells width zero v bytes = bytes
fill_cells width (suc n) v bytes = set_cell width n v (fill_cells width n v bytes)

-- What an instruction of each kind does to the bytes. ERASE and ERAL give all ones.
abbrev pub changed : Part → Kind → Width → ℕ → ℕ → List ℕ → List ℕ
changed part Read width cell value bytes = bytes
changed part Write width cell value bytes = set_cell width cell value bytes
changed part Erase width cell value bytes = set_cell width cell (ones_of width) bytes
changed part Wen width cell value bytes = bytes
changed part Wds width cell value bytes = bytes
changed part Eral width cell value bytes = fill_cells width (cells_of part width) (ones_of width) bytes
changed part Wrall width cell value bytes = fill_cells width (cells_of part width) value bytes

abbrev pub if_carried_out : {T : Type 0} → Verdict → T → T → T
if_carried_out CarriedOut new old = new
if_carried_out Shut new old = old
if_carried_out Protected new old = old
if_carried_out WrongCountOf new old = old

-- Only an instruction that is carried out changes the bytes.
abbrev pub written : Part → Decision → List ℕ → List ℕ
written part Nothing bytes = bytes
written part (Start width) bytes = bytes
written part (Address width cell) bytes = bytes
written part (Data width cell next) bytes = bytes
written part (Instruction kind width cell value verdict) bytes = if_carried_out verdict (changed part kind width cell value bytes) bytes
written part WrongCount bytes = bytes

-- Rule 4, DO: the bits of a cell, highest first.
abbrev pub data_bit : Width → ℕ → ℕ → ℕ
data_bit width value next = (value / 2 ^ (bits_of width - 1 - next)) % 2

-- Rule 5. Outside reading DO is high impedance with status off, else low while a cycle is under way, else high.
abbrev pub shown : Bool → ℕ → ℕ
shown status left = if status then (if left == 0 then high else low) else high_impedance

abbrev pub held : State → Phase → ℕ → ℕ
held st Waiting out = shown st.status st.left
held st (Taking width count bits) out = shown st.status st.left
held st (Reading width cell next) out = out
held st Spoiled out = shown st.status st.left
held st Over out = shown st.status st.left

-- DO after a decision: low as a READ has its address, then the bits of the cell; in all else as it is held.
abbrev pub out_of : Decision → State → List ℕ → ℕ → ℕ
out_of Nothing st bytes out = held st st.phase out
out_of (Start width) st bytes out = held st st.phase out
out_of (Address width cell) st bytes out = low
out_of (Data width cell next) st bytes out = data_bit width (cell_value width bytes cell) next
out_of (Instruction kind width cell value verdict) st bytes out = held st st.phase out
out_of WrongCount st bytes out = held st st.phase out

-- One sample: the control turns, and its decision changes the bytes and DO.
abbrev pub after : Machine → Turn → Machine
after m t =
    record {
      setup = m.setup;
      state = t.state;
      bytes = written m.setup.part t.decision m.bytes;
      out = out_of t.decision t.state m.bytes m.out;
    }

abbrev pub step : Machine → Sample → Machine
step m s = after m (turn m.setup m.state s)

-- A run of sample bytes, and the levels of DO that it shows.
unfoldable pub run_on : Machine → List ℕ → Machine
run_on m [] = m
run_on m (b ∷ bs) = run_on (step m (levels b)) bs

unfoldable pub outs : Machine → List ℕ → List ℕ
outs m [] = []
outs m (b ∷ bs) = (step m (levels b)).out ∷ outs (step m (levels b)) bs

abbrev pub fresh_machine : Setup → List ℕ → Machine
fresh_machine setup bytes = record { setup = setup; state = power_up; bytes = bytes; out = high_impedance }
