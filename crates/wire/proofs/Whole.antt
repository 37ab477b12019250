-- A frame from its numbers.
use Rattle.std.proofs.Common.{◌≡◌, refl}
use Rattle.protocol.specs.declared.instruction.Instruction.{Instruction}
use Rattle.protocol.specs.declared.instruction.Instruction.TheVariants.{Read, Write, Erase, Wen, Wds, Eral, Wrall}
use Rattle.protocol.specs.declared.parts.Part.{Part}
use Rattle.protocol.specs.declared.parts.Width.{Width}
use Rattle.wire.specs.Frames.{clocks, ending, opening, frame_of}
use Rattle.wire.specs.Fields.{count_in, code_in, zeros_in}

pub in_parts : (part : Part) (width : Width) (i : Instruction) →
    frame_of part width i ≡ opening (count_in part width i) (code_in part width i) (clocks (zeros_in width i) 0 ending)
unfolding frame_of count_in code_in clocks
in_parts part width (Read address words) = refl
in_parts part width (Write address value) = refl
in_parts part width (Erase address) = refl
in_parts part width Wen = refl
in_parts part width Wds = refl
in_parts part width Eral = refl
in_parts part width (Wrall value) = refl
