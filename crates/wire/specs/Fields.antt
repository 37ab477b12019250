-- A frame in numbers: how many bits follow the start bit, the number that they are, and the zero bits of a READ.
use Rattle.std.specs.Prelude.{ℕ, ◌*◌, List}
use Rattle.protocol.specs.declared.instruction.Instruction.{Instruction}
use Rattle.protocol.specs.declared.instruction.Instruction.TheVariants as instruction
use Rattle.protocol.specs.declared.parts.Part.{Part}
use Rattle.protocol.specs.declared.parts.Width.{Width}
use Rattle.protocol.specs.Instructions.{length_of, kind_in, address_in, value_in}
use Rattle.protocol.specs.Parts.{bits_of}
use Rattle.chips.specs.Pins.{Put}
use Rattle.wire.specs.declared.frame.Frame.{Frame}
use Rattle.wire.specs.Frames.{clocks, ending, opening, code_of}

-- the bits after the start bit, but for the zero bits of a READ
unfoldable pub count_in : Part → Width → Instruction → ℕ
count_in part width i = length_of part width (kind_in i)

unfoldable pub code_in : Part → Width → Instruction → ℕ
code_in part width i = code_of part width (kind_in i) (address_in i) (value_in i)

abbrev pub zeros_in : Width → Instruction → ℕ
zeros_in width (instruction.Read address words) = words * bits_of width
zeros_in width (instruction.Write address value) = 0
zeros_in width (instruction.Erase address) = 0
zeros_in width instruction.Wen = 0
zeros_in width instruction.Wds = 0
zeros_in width instruction.Eral = 0
zeros_in width (instruction.Wrall value) = 0

-- the samples of a frame
abbrev pub samples_in : Frame → List Put
samples_in f = opening f.bits f.code (clocks f.zeros 0 ending)
