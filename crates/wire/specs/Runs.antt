-- What a list of samples makes of a chip's meaning.
use Rattle.std.specs.Prelude.{List, [], ◌∷◌}
use Rattle.chips.specs.Pins.{Pins, Put, put_on}

unfoldable pub run : Pins → List Put → Pins
run p [] = p
run p (x ∷ xs) = run (put_on p x) xs
