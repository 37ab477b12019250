-- The frame of an instruction, as the samples that a driver puts.
use Rattle.std.specs.Prelude.{ℕ, zero, suc, ◌+◌, ◌-◌, ◌*◌, ◌/◌, ◌%◌, ◌^◌, Bool, true, false, cond, List, [], ◌∷◌, ◌==◌}
use Rattle.protocol.specs.declared.instruction.Instruction.{Instruction}
use Rattle.protocol.specs.declared.instruction.Instruction.TheVariants as instruction
use Rattle.protocol.specs.declared.instruction.Kind.{Kind}
use Rattle.protocol.specs.declared.instruction.Kind.TheVariants.{Read, Write, Erase, Wen, Wds, Eral, Wrall}
use Rattle.protocol.specs.declared.parts.Part.{Part}
use Rattle.protocol.specs.declared.parts.Width.{Width}
use Rattle.protocol.specs.Parts.{bits_of, field_of}
use Rattle.protocol.specs.Instructions.{has_data, length_of}
use Rattle.chips.specs.Pins.{Put, put}

abbrev pub idle : Put
idle = put false false false

-- CS alone is high
abbrev pub selected : Put
selected = put true false false

-- one bit, DI with SK low and again with SK high, and what follows it
abbrev pub clock : Bool → List Put → List Put
clock di after = put true false di ∷ (put true true di ∷ after)

-- bit n of a number
abbrev pub bit_at : ℕ → ℕ → Bool
bit_at code n = code / 2 ^ n % 2 == 1

-- the lowest n bits of a number, highest first, and what follows them
unfoldable pub clocks : ℕ → ℕ → List Put → List Put
clocks zero code after = after
clocks (suc n) code after = clock (bit_at code n) (clocks n code after)

-- what ends a frame and a polling
abbrev pub rest : List Put
rest = idle ∷ []

abbrev pub ending : List Put
ending = selected ∷ rest

-- CS alone, the start bit, n bits of a number, and what follows them
abbrev pub opening : ℕ → ℕ → List Put → List Put
opening n code after = selected ∷ clock true (clocks n code after)

-- The bits after the start bit: opcode, address, data. Bits that do not matter are 0.
abbrev pub opcode : Kind → ℕ
opcode Read = 2
opcode Write = 1
opcode Erase = 3
opcode Wen = 0
opcode Wds = 0
opcode Eral = 0
opcode Wrall = 0

abbrev pub field_bits : ℕ → Kind → ℕ → ℕ
field_bits size Read address = address
field_bits size Write address = address
field_bits size Erase address = address
field_bits size Wen address = 3 * 2 ^ (size - 2)
field_bits size Wds address = 0 * 2 ^ (size - 2)
field_bits size Eral address = 2 * 2 ^ (size - 2)
field_bits size Wrall address = 1 * 2 ^ (size - 2)

abbrev pub joined : ℕ → ℕ → ℕ → ℕ → ℕ → ℕ
joined op size field bits value = (op * 2 ^ size + field) * 2 ^ bits + value

abbrev pub code_of : Part → Width → Kind → ℕ → ℕ → ℕ
code_of part width kind address value =
    joined (opcode kind) (field_of part width) (field_bits (field_of part width) kind address)
    (cond (has_data kind) (bits_of width) 0) (cond (has_data kind) value 0)

-- what comes before the words of a READ
abbrev pub read_opening : Part → Width → ℕ → List Put → List Put
read_opening part width address after = opening (length_of part width Read) (code_of part width Read address 0) after

-- the frame of a kind that is no READ
abbrev pub plain_frame : Part → Width → Kind → ℕ → ℕ → List Put
plain_frame part width kind address value = opening (length_of part width kind) (code_of part width kind address value) ending

-- The frame of an instruction: a READ has as many zero bits after its address as its words have bits.
unfoldable pub frame_of : Part → Width → Instruction → List Put
frame_of part width (instruction.Read address words) = read_opening part width address (clocks (words * bits_of width) 0 ending)
frame_of part width (instruction.Write address value) = plain_frame part width Write address value
frame_of part width (instruction.Erase address) = plain_frame part width Erase address 0
frame_of part width instruction.Wen = plain_frame part width Wen 0 0
frame_of part width instruction.Wds = plain_frame part width Wds 0 0
frame_of part width instruction.Eral = plain_frame part width Eral 0 0
frame_of part width (instruction.Wrall value) = plain_frame part width Wrall 0 value
