-- What is seen of a chip after a list of samples.
use Rattle.std.specs.Prelude.{◌≡◌, List, [], ◌∷◌}
use Rattle.chips.specs.declared.chip.Chip.{Ghosts}
use Rattle.chips.specs.Pins.{Pins, Put}
use Rattle.chips.specs.Seen.{Seen, seen, stepped}

unfoldable pub told : {V : Type 0} → (V → Pins → Put → V) → Seen V → List Put → Seen V
told next x [] = x
told next x (s ∷ ss) = told next (stepped next x s) ss

-- the chip c has become d by these samples
abbrev pub Sends : {C : Type 0} → Ghosts C → C → C → List Put → Type 0
Sends g c d samples = seen g.view g.meaning d ≡ told g.next (seen g.view g.meaning c) samples
