-- How many samples bits are, and how many a frame is.
use Rattle.std.proofs.Common.{◌≡◌, ℕ, zero, suc, ◌+◌, ◌*◌, List, length, arith}
use Rattle.chips.specs.Pins.{Put}
use Rattle.wire.specs.Frames.{clocks, rest, ending}
use Rattle.wire.specs.declared.frame.Frame.{Frame}
use Rattle.wire.specs.Fields.{samples_in}

length-clocks : (n code : ℕ) (xs : List Put) → length (clocks n code xs) ≡ 2 * n + length xs
unfolding clocks
length-clocks zero code xs = omega arith
length-clocks (suc n) code xs = omega (arith, length-clocks n code xs)

pub length_frame : (f : Frame) → length (samples_in f) ≡ 2 * f.bits + 2 * f.zeros + 4 + length rest
length_frame f = omega (arith, length-clocks f.bits f.code (clocks f.zeros 0 ending), length-clocks f.zeros 0 ending)
