-- A run and what is noted of it, sample by sample.
use Rattle.std.proofs.Common.{◌≡◌, ℕ, suc, List, ◌∷◌, ap}
use Rattle.chips.specs.declared.state.Decision.{Decision}
use Rattle.chips.specs.Pins.{Pins, Put, put_on}
use Rattle.wire.specs.Runs.{run}
use Rattle.wire.specs.Deciding.{Note, decision_on, notes_with, notes}

-- one sample
abbrev pub act : Pins → Put → Pins × Decision
act p x = (put_on p x, decision_on p x)

-- samples, the first of which stands at a place
abbrev pub goes : ℕ → Pins → List Put → Pins × List Note
goes place p xs = (run p xs, notes place p xs)

-- the sample at a place did this, and what follows it
abbrev pub goes_by : ℕ → Pins × Decision → List Put → Pins × List Note
goes_by place a xs = (run a.0 xs, notes_with place a.1 (notes (suc place) a.0 xs))

pub go : (place : ℕ) (p : Pins) (x : Put) (xs : List Put) (a : Pins × Decision) → act p x ≡ a → goes place p (x ∷ xs) ≡ goes_by place a xs
unfolding run notes
go place p x xs a e = ap (λ (b : Pins × Decision). goes_by place b xs) e
