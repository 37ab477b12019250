-- What the samples of a run decide, in order and each with its place.
use Rattle.std.specs.Prelude.{if◌then◌else◌, ℕ, suc, ◌+◌, ◌*◌, ◌%◌, List, [], ◌∷◌}
use Rattle.protocol.specs.declared.instruction.Instruction.{Instruction as Sent}
use Rattle.protocol.specs.declared.instruction.Kind.{Kind}
use Rattle.protocol.specs.declared.instruction.Kind.TheVariants.{Read, Write, Erase, Wen, Wds, Eral, Wrall}
use Rattle.protocol.specs.declared.settings.Edition.{Edition}
use Rattle.protocol.specs.Instructions.{has_data, length_of, kind_in, address_in, value_in}
use Rattle.protocol.specs.Parts.{cells_of, field_of}
use Rattle.chips.specs.declared.state.Decision.{Decision}
use Rattle.chips.specs.declared.state.Decision.TheVariants.{Nothing, Start, Address, Data, Instruction, WrongCount}
use Rattle.chips.specs.Control.{is_clock_edition, verdict_of, turn}
use Rattle.chips.specs.Pins.{Pins, Put, sample_of, put_on}
use Rattle.wire.specs.Frames.{field_bits, frame_of}
use Rattle.wire.specs.Places.{width_on, carried_out}

-- what one sample decides; on a blank nothing
abbrev pub decision_on : Pins → Put → Decision
decision_on p x = if p.blank then Nothing else (turn p.machine.setup p.machine.state (sample_of p x)).decision

-- a decision, and the place of its sample
pub record Note : Type 0 where
  pub place : ℕ
  pub decision : Decision

abbrev pub note : ℕ → Decision → Note
note place d = record { place = place; decision = d }

-- Start bits are noted, and what becomes of the instructions that they begin: the address of a READ, an instruction, a wrong count.
abbrev pub notes_with : ℕ → Decision → List Note → List Note
notes_with place Nothing ns = ns
notes_with place (Start width) ns = note place (Start width) ∷ ns
notes_with place (Address width cell) ns = note place (Address width cell) ∷ ns
notes_with place (Data width cell next) ns = ns
notes_with place (Instruction kind width cell value verdict) ns = note place (Instruction kind width cell value verdict) ∷ ns
notes_with place WrongCount ns = note place WrongCount ∷ ns

-- what is noted of samples, the first of which stands at a place
unfoldable pub notes : ℕ → Pins → List Put → List Note
notes place p [] = []
notes place p (x ∷ xs) = notes_with place (decision_on p x) (notes (suc place) (put_on p x) xs)

-- What the frame of a kind decides on a ready chip. The address bits of a kind without address are what the frame has there.
abbrev pub instruction_sent : Pins → Kind → ℕ → ℕ → Decision
instruction_sent p kind address value =
    Instruction kind (width_on p)
    (field_bits (field_of p.machine.setup.part (width_on p)) kind address % cells_of p.machine.setup.part (width_on p))
    (if has_data kind then value else 0)
    (verdict_of p.machine.setup.edition p.machine.state.enabled p.pe kind)

abbrev pub address_sent : Pins → ℕ → Decision
address_sent p address = Address (width_on p) (address % cells_of p.machine.setup.part (width_on p))

abbrev pub frame_decides : Pins → Kind → ℕ → ℕ → Decision
frame_decides p Read address value = address_sent p address
frame_decides p Write address value = instruction_sent p Write address value
frame_decides p Erase address value = instruction_sent p Erase address value
frame_decides p Wen address value = instruction_sent p Wen address value
frame_decides p Wds address value = instruction_sent p Wds address value
frame_decides p Eral address value = instruction_sent p Eral address value
frame_decides p Wrall address value = instruction_sent p Wrall address value

-- Where the sample stands that decides, in a frame that begins at a place: at the clock of the last bit, in the fall edition two samples on,
-- but for a READ.
abbrev pub last_clock : Pins → Kind → ℕ → ℕ
last_clock p kind place = place + (2 * length_of p.machine.setup.part (width_on p) kind + 2)

abbrev pub end_after : Edition → ℕ → ℕ
end_after edition place = if is_clock_edition edition then place else suc (suc place)

abbrev pub deciding_place : Pins → Kind → ℕ → ℕ
deciding_place p Read place = last_clock p Read place
deciding_place p Write place = end_after p.machine.setup.edition (last_clock p Write place)
deciding_place p Erase place = end_after p.machine.setup.edition (last_clock p Erase place)
deciding_place p Wen place = end_after p.machine.setup.edition (last_clock p Wen place)
deciding_place p Wds place = end_after p.machine.setup.edition (last_clock p Wds place)
deciding_place p Eral place = end_after p.machine.setup.edition (last_clock p Eral place)
deciding_place p Wrall place = end_after p.machine.setup.edition (last_clock p Wrall place)

-- The same of an instruction: its frame on a chip, its decision, the place of this, and the chip that has carried it out.
abbrev pub frame_on : Pins → Sent → List Put
frame_on p i = frame_of p.machine.setup.part (width_on p) i

abbrev pub decision_by : Pins → Sent → Decision
decision_by p i = frame_decides p (kind_in i) (address_in i) (value_in i)

abbrev pub decided_at : Pins → Sent → ℕ → ℕ
decided_at p i place = deciding_place p (kind_in i) place

abbrev pub carried_by : Pins → Sent → Pins
carried_by p i = carried_out p (kind_in i) (address_in i) (value_in i)

-- the notes of a frame: its start bit, and its decision
abbrev pub frame_notes : Pins → ℕ → Sent → List Note
frame_notes p place i = note (suc (suc place)) (Start (width_on p)) ∷ note (decided_at p i place) (decision_by p i) ∷ []
