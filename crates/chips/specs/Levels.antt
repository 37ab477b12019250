-- The levels of DO, as `put` answers them.
use Rattle.std.specs.Prelude.{ℕ}

abbrev pub low : ℕ
low = 0

abbrev pub high : ℕ
high = 1

abbrev pub high_impedance : ℕ
high_impedance = 2
