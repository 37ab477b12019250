-- Calls performed one after the other.
use Rattle.std.proofs.Common.{◌≡◌, ℕ, ◌+◌, ◌<◌, ◌≤◌, ◌⊎◌, List, [], length, get_or, drop, Ok, Err, Result, refl, inl, inr}
use Rattle.std.proofs.lemmas.List.{at_drop_more, at_drop_all}
use Rattle.std.proofs.lemmas.Bool.Decides.{nat_tests}
use Rattle.protocol.specs.declared.refusal.Refusal.{Refusal}
use Rattle.protocol.proofs.Adding.{added_none}
use Rattle.driver.specs.Calls.{as_done, filled_by}
use Rattle.histories.specs.declared.call.Call.{Call}
use Rattle.histories.specs.Performing.{wanted_by, words_wanted}

-- Room for words.
pub wanted_on : (calls : List Call) (i : ℕ) (d : Call) → i < length calls →
    words_wanted (drop i calls) ≡ wanted_by (get_or calls i d) + words_wanted (drop (i + 1) calls)
unfolding words_wanted
wanted_on calls i d h = at_drop_more words_wanted calls i d h

pub wanted_none : (calls : List Call) (i : ℕ) → length calls ≤ i → words_wanted (drop i calls) ≡ 0
unfolding words_wanted
wanted_none calls i h = at_drop_all words_wanted calls i h

pub ruleset fitting = (wanted_on, wanted_none, nat_tests)

-- a run that is refused hands out no word
pub none_filled : (x : Result (List ℕ) Refusal) → (as_done x ≡ Ok tt) ⊎ (filled_by x [] ≡ [])
none_filled (Ok words) = inl refl
none_filled (Err e) = inr refl

pub ruleset reading = (none_filled, added_none)
