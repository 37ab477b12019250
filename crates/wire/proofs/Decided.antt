-- The frame of any instruction, from a ready chip to a chip at rest, and what is noted of it.
use Rattle.std.proofs.Common.{◌≡◌, ℕ, suc, Bool, true, false, ◌-◌, ◌*◌, cond, List, ◌∷◌, refl, ap, ◌∙◌}
use Rattle.protocol.specs.declared.instruction.Instruction.{Instruction}
use Rattle.protocol.specs.declared.instruction.Instruction.TheVariants as instruction
use Rattle.protocol.specs.declared.instruction.Kind.TheVariants.{Read, Write, Erase, Wen, Wds, Eral, Wrall}
use Rattle.protocol.specs.Instructions.{kind_in, address_in, value_in}
use Rattle.protocol.specs.Parts.{bits_of}
use Rattle.chips.specs.Control.{is_clock_edition}
use Rattle.chips.specs.declared.state.Decision.TheVariants.{Start}
use Rattle.chips.specs.Pins.{Pins}
use Rattle.wire.specs.Frames.{clocks, ending, frame_of}
use Rattle.wire.specs.Deciding.{Note, note, address_sent, last_clock, frame_notes}
use Rattle.wire.specs.Places.{width_on, Ready, Sendable, rest_state, resting, placed, carried_out}
use Rattle.wire.proofs.Carrying.{carries_out, opens_cell}
use Rattle.wire.proofs.Going.{goes}
use Rattle.wire.proofs.Hears.{zeros_end}

-- no cycle, no samples left of it
none_since : (clock : Bool) → 0 ≡ cond clock (0 - 2) 0
none_since true = refl
none_since false = refl

read_carried : (p : Pins) (address : ℕ) → resting p 0 ≡ carried_out p Read address 0
read_carried p address =
    ap (λ n. placed p (rest_state p.machine.state.enabled n) p.machine.bytes 2) (none_since (is_clock_edition p.machine.setup.edition))

pub frame_goes : (p : Pins) (i : Instruction) (place : ℕ) → Ready p → Sendable p (address_in i) (value_in i) →
    goes place p (frame_of p.machine.setup.part (width_on p) i)
    ≡ (carried_out p (kind_in i) (address_in i) (value_in i), frame_notes p place i)
unfolding frame_of
frame_goes p (instruction.Read address words) place r f =
    opens_cell p address (clocks (words * bits_of (width_on p)) 0 ending) place r f
    ∙ ap (λ (x : Pins × List Note). (x.0, note (suc (suc place)) (Start (width_on p)) ∷ note (last_clock p Read place) (address_sent p address) ∷ x.1))
    (zeros_end p r.rest.live (width_on p) (words * bits_of (width_on p)) _ 0 0 (suc (last_clock p Read place)))
    ∙ ap (λ (q : Pins). (q, frame_notes p place (instruction.Read address words))) (read_carried p address)
frame_goes p (instruction.Write address value) place r f = carries_out p address value r f Write place refl
frame_goes p (instruction.Erase address) place r f = carries_out p address 0 r f Erase place refl
frame_goes p instruction.Wen place r f = carries_out p 0 0 r f Wen place refl
frame_goes p instruction.Wds place r f = carries_out p 0 0 r f Wds place refl
frame_goes p instruction.Eral place r f = carries_out p 0 0 r f Eral place refl
frame_goes p (instruction.Wrall value) place r f = carries_out p 0 value r f Wrall place refl
