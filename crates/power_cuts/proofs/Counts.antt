-- Calls counted while they are performed.
use Rattle.std.proofs.Common.{◌≡◌, ℕ, ◌+◌, ◌<◌, ◌≤◌, Bool, true, false, List, ◌∷◌, [], length, get_or, drop, Result, sym, ap, zero-add, ◌∙◌, arith}
use Rattle.std.specs.Prelude.{if◌then◌else◌}
use Rattle.std.proofs.lemmas.List.{at_drop_more, at_drop_all}
use Rattle.protocol.specs.declared.refusal.Refusal.{Refusal}
use Rattle.chips.specs.Pins.{Pins, Put}
use Rattle.driver.specs.Outcome.{State}
use Rattle.histories.specs.declared.call.Call.{Call}
use Rattle.histories.specs.declared.told.Told.{Told}
use Rattle.histories.specs.Events.{performed}
use Rattle.histories.specs.Performing.{has_room, PerformsNext}
use Rattle.histories.proofs.Going.{Going, begun, more, next_done}
use Rattle.power_cuts.specs.Counting.{uncut_count}
use Rattle.power_cuts.specs.Twin.{Twinned}

module _ {V W : Type 0} (next : Twinned V W → Pins → Put → Twinned V W) where
  -- after i calls, of which so many were whole
  pub record Counts (calls : List Call) (s t : State (Twinned V W)) (old told : Told) (i whole : ℕ) : Type 0 where
    pub going : Going next calls s t old told i
    pub left : whole + uncut_count next (drop i calls) t ≡ uncut_count next calls s
    pub few : whole ≤ i

  pub none_counted : (calls : List Call) (s : State (Twinned V W)) (told : Told) → has_room calls told ≡ true → Counts calls s s told told 0 0
  none_counted calls s told h = record { going = begun next calls s told h; left = zero-add (uncut_count next calls s); few = omega arith }

  uncut-at : (calls : List Call) (i : ℕ) (d : Call) (t : State (Twinned V W)) → i < length calls →
      let u = (performed next (get_or calls i d) t).after in
      uncut_count next (drop i calls) t ≡ (if u.chip.view.cut then 0 else 1) + uncut_count next (drop (i + 1) calls) u
  unfolding uncut_count
  uncut-at calls i d t h = at_drop_more (λ xs. uncut_count next xs t) calls i d h

  uncut-none : (calls : List Call) (i : ℕ) (t : State (Twinned V W)) → length calls ≤ i → uncut_count next (drop i calls) t ≡ 0
  unfolding uncut_count
  uncut-none calls i t h = at_drop_all (λ xs. uncut_count next xs t) calls i h

  bit_most : (cut : Bool) → (if cut then 0 else 1) ≤ 1
  bit_most true = omega arith
  bit_most false = omega arith

  module _ (calls : List Call) (s t : State (Twinned V W)) (old told : Told) (i whole : ℕ) (c : Counts calls s t old told i whole) where
    pub one_counted : (d : Call) (u : State (Twinned V W)) (new : Told) (r : Result (Unit {0}) Refusal) (whole' : ℕ) → i < length calls →
        PerformsNext next (has_room (get_or calls i d ∷ []) told) (get_or calls i d) t u told new r →
        whole' ≡ whole + (if u.chip.view.cut then 0 else 1) → Counts calls s u old new (i + 1) whole'
    one_counted d u new r whole' h n e =
        let one = next_done next calls s t old told i c.going d u new r h n in
        let bit = if u.chip.view.cut then 0 else 1 in
        let at : uncut_count next (drop i calls) t ≡ bit + uncut_count next (drop (i + 1) calls) u =
        uncut-at calls i d t h
        ∙ ap (λ (v : State (Twinned V W)). (if v.chip.view.cut then 0 else 1) + uncut_count next (drop (i + 1) calls) v) (sym one.1) in
        record {
          going = more next calls s t old told i c.going d u new r h n;
          left = omega (arith, e, c.left, at);
          few = omega (arith, e, c.few, bit_most u.chip.view.cut);
        }

    pub all_counted : length calls ≤ i → uncut_count next calls s ≡ whole
    all_counted h =
        let none : uncut_count next (drop i calls) t ≡ 0 = uncut-none calls i t h in omega (arith, none, c.left)
