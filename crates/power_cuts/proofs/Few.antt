-- Samples with at most one change among their decisions.
use Rattle.std.proofs.Common.{◌≡◌, ℕ, Bool, true, false, not, ◌&&◌, cond, ◌⊎◌, List, [], ◌∷◌, ◌++◌, take, drop, refl, sym, ap, ◌∙◌, inl, inr, arith}
use Rattle.std.proofs.lemmas.Bool.{and_parts}
use Rattle.std.proofs.lemmas.List.{take-append-drop}
use Rattle.chips.specs.declared.state.Decision.{Decision}
use Rattle.chips.specs.Pins.{Pins, Put}
use Rattle.wire.specs.Runs.{run}
use Rattle.wire.proofs.Keeping.{run_appends}
use Rattle.decisions.specs.Decided.{decisions_of, is_changing, no_change}
use Rattle.decisions.proofs.Folding.{decisions_append, bytes_stay}

-- at most one change
unfoldable pub few : List Decision → Bool
few [] = true
few (d ∷ ds) = cond (is_changing d) (no_change ds) (few ds)

-- no change in either part, or in both
pub no_changes : (a b : List Decision) → no_change a ≡ true → no_change b ≡ true → no_change (a ++ b) ≡ true
unfolding no_change
no_changes [] b h g = g
no_changes (d ∷ a) b h g =
    let both = and_parts (not (is_changing d)) (no_change a) h in let more = no_changes a b both.1 g in grind arith

no_change-last : (a b : List Decision) → no_change (a ++ b) ≡ true → no_change b ≡ true
unfolding no_change
no_change-last [] b h = h
no_change-last (d ∷ a) b h = no_change-last a b (and_parts (not (is_changing d)) (no_change (a ++ b)) h).1

pub few_none : (ds : List Decision) → no_change ds ≡ true → few ds ≡ true
unfolding no_change few
few_none [] h = refl
few_none (d ∷ ds) h = let both = and_parts (not (is_changing d)) (no_change ds) h in let more = few_none ds both.1 in grind arith

pub few_then : (a b : List Decision) → few a ≡ true → no_change b ≡ true → few (a ++ b) ≡ true
unfolding few
few_then [] b h g = few_none b g
few_then (d ∷ a) b h g = by (is_changing d) h (λ k. few_then a b k g)
  where
    by : (c : Bool) → cond c (no_change a) (few a) ≡ true → (few a ≡ true → few (a ++ b) ≡ true) → cond c (no_change (a ++ b)) (few (a ++ b)) ≡ true
    by true h more = no_changes a b h g
    by false h more = more h

pub then_few : (a b : List Decision) → no_change a ≡ true → few b ≡ true → few (a ++ b) ≡ true
unfolding few no_change
then_few [] b h g = g
then_few (d ∷ a) b h g =
    let both = and_parts (not (is_changing d)) (no_change a) h in let more = then_few a b both.1 g in grind arith

few_split : (a b : List Decision) → few (a ++ b) ≡ true → (no_change a ≡ true) ⊎ (no_change b ≡ true)
unfolding few no_change
few_split [] b h = inl refl
few_split (d ∷ a) b h = by (is_changing d) h (few_split a b)
  where
    by : (c : Bool) → cond c (no_change (a ++ b)) (few (a ++ b)) ≡ true → (few (a ++ b) ≡ true → (no_change a ≡ true) ⊎ (no_change b ≡ true)) →
        (not c && no_change a ≡ true) ⊎ (no_change b ≡ true)
    by true h more = inr (no_change-last a b h)
    by false h more = more h

-- so the bytes after the first k samples are those before them all or those after them all
pub few_cut : (p : Pins) (xs : List Put) (k : ℕ) → few (decisions_of p xs) ≡ true →
    ((run p (take k xs)).machine.bytes ≡ p.machine.bytes) ⊎ ((run p (take k xs)).machine.bytes ≡ (run p xs).machine.bytes)
few_cut p xs k h =
    let q = run p (take k xs) in
    let whole : take k xs ++ drop k xs ≡ xs = take-append-drop k xs in
    let ds : decisions_of p xs ≡ decisions_of p (take k xs) ++ decisions_of q (drop k xs) =
    ap (decisions_of p) (sym whole) ∙ decisions_append p (take k xs) (drop k xs) in
    elim (few_split _ _ (sym (ap few ds) ∙ h)) [
      | inl a ↦ inl (bytes_stay p (take k xs) a)
      | inr b ↦
          inr (sym (ap (λ (zs : List Put). (run p zs).machine.bytes) (sym whole) ∙ ap (λ (o : Pins). o.machine.bytes) (run_appends p (take k xs) (drop k xs))
          ∙ bytes_stay q (drop k xs) b))
    ]
