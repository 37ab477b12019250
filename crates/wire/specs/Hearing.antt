-- The words that a chip in the middle of a READ gives out under zero bits.
use Rattle.std.specs.Prelude.{ℕ, zero, suc, ◌+◌, ◌*◌, ◌%◌, true, false, if◌then◌else◌, List, [], ◌∷◌, ◌==◌}
use Rattle.protocol.specs.declared.parts.Part.{Part}
use Rattle.protocol.specs.declared.parts.Width.{Width}
use Rattle.protocol.specs.Parts.{cells_of}
use Rattle.chips.specs.Levels.{high}
use Rattle.chips.specs.Machine.{cell_value}
use Rattle.chips.specs.Pins.{Pins, put, put_on, do_of}
use Rattle.wire.specs.Frames.{selected}

-- a zero bit
abbrev pub zero_bit : Pins → Pins
zero_bit p = put_on (put_on p selected) (put true true false)

-- the bit that a level of DO stands for
abbrev pub level_of : ℕ → ℕ
level_of out = if out == high then 1 else 0

-- n zero bits: DO is taken at each sample with SK high and joined to the bits before
unfoldable pub heard : ℕ → ℕ → Pins → ℕ
heard zero bits p = bits
heard (suc n) bits p = heard n (2 * bits + level_of (do_of (zero_bit p))) (zero_bit p)

unfoldable pub after_bits : ℕ → Pins → Pins
after_bits zero p = p
after_bits (suc n) p = after_bits n (zero_bit p)

-- n words of so many bits
unfoldable pub words_heard : ℕ → ℕ → Pins → List ℕ
words_heard bits zero p = []
words_heard bits (suc n) p = heard bits 0 p ∷ words_heard bits n (after_bits bits p)

-- the words in n cells from one on, with cell 0 after the last
unfoldable pub cells_from : Part → Width → List ℕ → ℕ → ℕ → List ℕ
cells_from part width bytes zero cell = []
cells_from part width bytes (suc n) cell = cell_value width bytes cell ∷ cells_from part width bytes n ((cell + 1) % cells_of part width)
