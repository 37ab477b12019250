-- The outcomes of a read and of a run.
use Rattle.std.specs.Prelude.{◌≡◌, ℕ, List, length, Result}
use Rattle.protocol.specs.declared.refusal.Refusal.{Refusal}
use Rattle.chips.specs.Pins.{Pins, Put}
use Rattle.driver.specs.Calls.{fetched, as_word, as_done, filled_by}
use Rattle.driver.specs.Outcome.{State, Outcome, outcome}

module _ {V : Type 0} (next : V → Pins → Put → V) (address : ℕ) where
  abbrev pub read_word : State V → Outcome V ℕ
  read_word s = let o = fetched next address 1 s in outcome (as_word o.answer) o.after

  abbrev pub run_words : ℕ → State V → Outcome V (Unit {0})
  run_words count s = let o = fetched next address count s in outcome (as_done o.answer) o.after

  -- the caller's words afterwards
  abbrev pub filled : ℕ → List ℕ → State V → List ℕ
  filled count old s = filled_by (fetched next address count s).answer old

  -- what a run does with places that hold `old`: a driver goes from s to t, leaves these words and answers r
  abbrev pub RunLeaves : List ℕ → State V → State V → List ℕ → Result (Unit {0}) Refusal → Type 0
  RunLeaves old s t words r =
      (outcome r t ≡ run_words (length old) s) × (words ≡ filled (length old) old s)
