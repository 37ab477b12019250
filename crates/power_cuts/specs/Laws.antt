-- What one call leaves, and what a supply that fails within it leaves.
use Rattle.std.specs.Prelude.{◌≡◌, ℕ, true, ◌⊎◌, take}
use Rattle.wire.specs.Places.{Rest}
use Rattle.wire.specs.Runs.{run}
use Rattle.driver.specs.Cases.{Request, record_after, samples_of}
use Rattle.driver.specs.Outcome.{State}

-- Of a driver whose chip, once greeted, is at rest: after any k samples of a call the bytes are as they were, or as the whole
-- call leaves them.
abbrev pub CallIsWhole : Type 0 → Type 0
CallIsWhole V = (r : Request) (s : State V) (k : ℕ) → (s.greeted ≡ true → Rest s.chip.pins) →
    let samples = samples_of r s in
    let bytes = (run s.chip.pins (take k samples)).machine.bytes in
    (bytes ≡ s.chip.pins.machine.bytes) ⊎ (bytes ≡ (run s.chip.pins samples).machine.bytes)

-- And a driver that then counts as greeted has its chip at rest.
abbrev pub CallRests : Type 0 → Type 0
CallRests V = (r : Request) (s : State V) → (s.greeted ≡ true → Rest s.chip.pins) → (record_after r s).0 ≡ true →
    Rest (run s.chip.pins (samples_of r s))
