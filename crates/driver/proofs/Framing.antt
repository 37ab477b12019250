-- The frame of a READ from its parts.
use Rattle.std.proofs.Common.{◌≡◌, ℕ, ◌*◌, [], refl}
use Rattle.protocol.specs.declared.instruction.Instruction.TheVariants.{Read}
use Rattle.protocol.specs.declared.parts.Part.{Part}
use Rattle.protocol.specs.declared.parts.Width.{Width}
use Rattle.protocol.specs.Parts.{bits_of}
use Rattle.wire.specs.Fields.{count_in, code_in}
use Rattle.wire.specs.Frames.{clocks, ending, opening, read_opening, frame_of}
use Rattle.wire.proofs.Clocking.{joined}
use Rattle.wire.proofs.Tells.{told-append, told-pins}
use Rattle.wire.proofs.Whole.{in_parts}

pub read_parts : (part : Part) (width : Width) (address words : ℕ) →
    frame_of part width (Read address words)
    ≡ opening (count_in part width (Read address 0)) (code_in part width (Read address 0)) (clocks (words * bits_of width) 0 ending)
unfolding frame_of count_in code_in
read_parts part width address words = in_parts part width (Read address words)

pub read_starts : (part : Part) (width : Width) (address : ℕ) →
    read_opening part width address [] ≡ opening (count_in part width (Read address 0)) (code_in part width (Read address 0)) []
unfolding count_in code_in
read_starts part width address = refl

pub ruleset frames = (joined, read_parts, read_starts, told-append, told-pins)
