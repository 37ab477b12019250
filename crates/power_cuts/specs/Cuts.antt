-- A supply that fails after so many samples of a history: which calls are whole, and what the bytes then are.
use Rattle.std.specs.Prelude.{Bool, true, Err, Result, IsOkAnd, ◌≡◌, ℕ, suc, ◌<◌, ◌≤◌, ◌⊎◌, false, List, length, take}
use Rattle.protocol.specs.declared.refusal.Cause.TheVariants.{NoRoom}
use Rattle.protocol.specs.declared.refusal.Refusal.{Refusal}
use Rattle.protocol.specs.Refusals.{refusal}
use Rattle.chips.specs.Pins.{Pins}
use Rattle.histories.specs.declared.call.Call.{Call}
use Rattle.histories.specs.Events.{end_on}
use Rattle.histories.specs.Samples.{samples_from}

-- the bytes that the first n of the calls leave
abbrev pub bytes_by : List Call → ℕ → Pins → List ℕ
bytes_by calls n p = (end_on (take n calls) p).machine.bytes

-- After k samples n of the calls are whole: all their samples have come, and not all of those of the next call, if there is one.
pub record AreWhole (calls : List Call) (p : Pins) (k n : ℕ) : Type 0 where
  pub within : n ≤ length calls
  pub come : length (samples_from (take n calls) p) ≤ k
  pub cut : n < length calls → k < length (samples_from (take (suc n) calls) p)

-- A chip has the bytes that n calls leave, or those that one call more leaves.
pub record HasBytesOfWhole (calls : List Call) (p : Pins) (n : ℕ) (chip : Pins) : Type 0 where
  pub either : (chip.machine.bytes ≡ bytes_by calls n p) ⊎ ((n < length calls) × (chip.machine.bytes ≡ bytes_by calls (suc n) p))

-- the answer: how many calls are whole after k samples, or a refusal without room for what the calls hand out
abbrev pub CountsWhole : Bool → List Call → Pins → ℕ → Result ℕ Refusal → Type 0
CountsWhole true calls p k r = IsOkAnd r (AreWhole calls p k)
CountsWhole false calls p k r = r ≡ Err (refusal NoRoom 0)
