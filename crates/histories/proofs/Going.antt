-- A list of calls, performed in a loop.
use Rattle.std.proofs.Common.{◌≡◌, ℕ, ◌+◌, ◌-◌, ◌<◌, ◌≤◌, Bool, true, false, cond, List, [], ◌∷◌, ◌++◌, length, get_or, take, drop, Ok, Err, Result, sym, refl, ap, ◌∙◌, append_assoc, add-zero, arith, leb, leb-true, le-leb, le_refl, zero-le}
use Rattle.std.proofs.lemmas.List.{append-nil, take_more, take_all}
use Rattle.std.proofs.lemmas.Bool.{and_parts}
use Rattle.protocol.specs.declared.refusal.Refusal.{Refusal}
use Rattle.protocol.specs.Lists.{room}
use Rattle.protocol.proofs.Adding.{added_none, added_twice}
use Rattle.chips.specs.Pins.{Pins, Put}
use Rattle.chips.specs.Seen.{Seen}
use Rattle.driver.specs.Outcome.{State, state}
use Rattle.histories.specs.declared.call.Call.{Call}
use Rattle.histories.specs.declared.told.Told.{Told}
use Rattle.histories.specs.Events.{Answer, Event, event, performed, events_from, end_from}
use Rattle.histories.proofs.Views.{seen_by, events_by}
use Rattle.histories.proofs.Keeping.{end_keeps}
use Rattle.histories.proofs.Performs.{wanted_on}
use Rattle.histories.proofs.Filling.{handed_count}
use Rattle.histories.specs.Performing.{wanted_by, words_wanted, answers_in, words_in, has_room, Performed, Performs, PerformsNext}

-- one event more
answers-more : (es : List Event) (e : Event) → answers_in (es ++ e ∷ []) ≡ answers_in es ++ e.answer ∷ []
unfolding answers_in
answers-more [] e = refl
answers-more (x ∷ es) e = ap (λ (rs : List Answer). x.answer ∷ rs) (answers-more es e)

words_more : (es : List Event) (e : Event) → words_in (es ++ e ∷ []) ≡ words_in es ++ e.words
unfolding words_in
words_more [] e = append-nil e.words
words_more (x ∷ es) e = ap (λ (ws : List ℕ). x.words ++ ws) (words_more es e) ∙ sym (append_assoc x.words (words_in es) e.words)

cond_most : (b : Bool) (n : ℕ) → cond b n 0 ≤ n
cond_most true n = le_refl n
cond_most false n = zero-le

-- room for one call
one_wanted : (x : Call) → words_wanted (x ∷ []) ≡ wanted_by x
unfolding words_wanted
one_wanted x = add-zero (wanted_by x)

pub fits_next : (x : Call) (told : Told) → true ≡ has_room (x ∷ []) told → told.words.count + wanted_by x ≤ room told.words
fits_next x told h =
    let free = room told.words - told.words.count in
    let w : words_wanted (x ∷ []) ≤ free =
    leb-true (words_wanted (x ∷ [])) free (and_parts (leb 1 (room told.answers - told.answers.count)) _ (sym h)).1 in
    omega (arith, w, one_wanted x, told.words.within)

pub has_next : (x : Call) (told : Told) → told.answers.count + 1 ≤ room told.answers → told.words.count + wanted_by x ≤ room told.words →
    has_room (x ∷ []) told ≡ true
has_next x told a w =
    let j : leb 1 (room told.answers - told.answers.count) ≡ true = le-leb _ _ (omega (arith, a)) in
    let k : leb (words_wanted (x ∷ [])) (room told.words - told.words.count) ≡ true = le-leb _ _ (omega (arith, w, one_wanted x)) in
    rw (j, k)

module _ {V : Type 0} (next : V → Pins → Put → V) where
  end_more : (xs : List Call) (x : Call) (s : State V) → end_from next (xs ++ x ∷ []) s ≡ (performed next x (end_from next xs s)).after
  unfolding end_from
  end_more [] x s = refl
  end_more (y ∷ ys) x s = end_more ys x (performed next y s).after

  events_more : (xs : List Call) (x : Call) (s : State V) →
      events_from next (xs ++ x ∷ []) s ≡ events_from next xs s ++ event x (performed next x (end_from next xs s)) ∷ []
  unfolding events_from end_from
  events_more [] x s = refl
  events_more (y ∷ ys) x s = ap (λ (es : List Event). event y (performed next y s) ∷ es) (events_more ys x (performed next y s).after)

  -- no call hands out more words than it may
  words_most : (x : Call) (s : State V) → length (performed next x s).words ≤ wanted_by x
  words_most x s = rw (handed_count next x s) (cond_most _ (wanted_by x))

  -- after i calls
  pub record Going (calls : List Call) (s t : State V) (old told : Told) (i : ℕ) : Type 0 where
    pub performed : Performed next (take i calls) s t old told
    pub answers_fit : told.answers.count + (length calls - i) ≤ room told.answers
    pub words_fit : told.words.count + words_wanted (drop i calls) ≤ room told.words

  pub begun : (calls : List Call) (s : State V) (told : Told) → has_room calls told ≡ true → Going calls s s told told 0
  unfolding events_from end_from answers_in words_in
  begun calls s told h =
      let k = and_parts _ _ h in
      let a : length calls ≤ room told.answers - told.answers.count = leb-true _ _ k.0 in
      let w : words_wanted calls ≤ room told.words - told.words.count = leb-true _ _ k.1 in
      record {
        performed = record { ends = refl; answered = added_none told.answers; handed = added_none told.words };
        answers_fit = omega (arith, a, told.answers.within);
        words_fit = omega (arith, w, told.words.within);
      }

  module _ (calls : List Call) (s t : State V) (old told : Told) (i : ℕ) (g : Going calls s t old told i) where
    pub fits : (d : Call) → i < length calls → has_room (get_or calls i d ∷ []) told ≡ true
    fits d h = has_next _ told (omega (arith, h, g.answers_fit)) (omega (arith, wanted_on calls i d h, g.words_fit))

    -- there is room, so that the next call is performed
    pub next_done : (d : Call) (u : State V) (new : Told) (r : Answer) → i < length calls →
        PerformsNext next (has_room (get_or calls i d ∷ []) told) (get_or calls i d) t u told new r →
        PerformsNext next true (get_or calls i d) t u told new r
    next_done d u new r h n = rw (fits d h) at n

    pub not_refused : (d : Call) (u : State V) (new : Told) (r : Answer) (e : Refusal) → i < length calls →
        PerformsNext next (has_room (get_or calls i d ∷ []) told) (get_or calls i d) t u told new r → r ≡ Err e → ⊥
    not_refused d u new r e h n k = let done = (next_done d u new r h n).0 in absurd cc

    pub more : (d : Call) (u : State V) (new : Told) (r : Answer) → i < length calls →
        PerformsNext next (has_room (get_or calls i d ∷ []) told) (get_or calls i d) t u told new r → Going calls s u old new (i + 1)
    more d u new r h n =
        let x = get_or calls i d in
        let one = next_done d u new r h n in
        let p = g.performed in
        let e : take (i + 1) calls ≡ take i calls ++ x ∷ [] = take_more calls i d h in
        let es = events_from next (take i calls) s in
        let at : performed next x (end_from next (take i calls) s) ≡ performed next x t = ap (performed next x) (sym p.ends) in
        let ev : events_from next (take i calls ++ x ∷ []) s ≡ es ++ event x (performed next x t) ∷ [] =
        events_more (take i calls) x s ∙ ap (λ (y : _). es ++ event x y ∷ []) at in
        let rs : answers_in (events_from next (take i calls ++ x ∷ []) s) ≡ answers_in es ++ (performed next x t).answer ∷ [] =
        ap answers_in ev ∙ answers-more es _ in
        let ws : words_in (events_from next (take i calls ++ x ∷ []) s) ≡ words_in es ++ (performed next x t).words = ap words_in ev ∙ words_more es _ in
        record {
          performed =
              record {
                ends = one.1 ∙ ap (λ (y : _). y.after) (sym at) ∙ sym (end_more (take i calls) x s) ∙ ap (λ (xs : List Call). end_from next xs s) (sym e);
                answered = rw (e, rs) (added_twice old.answers told.answers new.answers _ _ p.answered one.2);
                handed = rw (e, ws) (added_twice old.words told.words new.words _ _ p.handed one.3);
              };
          answers_fit = omega (arith, g.answers_fit, one.2.counts, one.2.same_room);
          words_fit = omega (arith, wanted_on calls i d h, g.words_fit, one.3.counts, one.3.same_room, words_most x t);
        }

    pub done : length calls ≤ i → Performed next calls s t old told
    done h = rw (take_all i calls h) at g.performed

-- a chip that was lent, and what it keeps: what it kept, and whose it is
abbrev pub lent : {V L : Type 0} → (V → Pins → Put → V) → L × V → Pins → Put → L × V
lent next v p x = (v.0, next v.1 p x)

abbrev pub lent_chip : {V L : Type 0} → L → Seen V → Seen (L × V)
lent_chip name x = record { view = (name, x.view); pins = x.pins }

abbrev pub own_view : {V L : Type 0} → L × V → V
own_view v = v.1

-- it stays whose it is
pub lender_kept : {V L : Type 0} (next : V → Pins → Put → V) (calls : List Call) (s t : State (L × V)) → t ≡ end_from (lent next) calls s →
    t.chip.view.0 ≡ s.chip.view.0
lender_kept {V = V} {L = L} next calls s t e =
    ap (λ (u : State (L × V)). u.chip.view.0) e
    ∙ end_keeps (lent next) (λ x. x.view.0 ≡ s.chip.view.0) (λ x y h. h) calls s refl

-- a whole list, by a new driver on such a chip
pub performs : {V L : Type 0} (next : V → Pins → Put → V) (calls : List Call) (name : L) (chip chip' : Seen V) (s t : State (L × V)) (old new : Told)
    (fit : Bool) (r : Result (Unit {0}) Refusal) → true ≡ fit → s ≡ state false false (lent_chip name chip) → r ≡ Ok tt →
    Performed (lent next) calls s t old new → chip' ≡ seen_by own_view t.chip → Performs next fit calls chip chip' old new r
performs {V = V} {L = L} next calls name chip chip' s t old new fit r f e d p c =
    let same = events_by {V = L × V} own_view (lent next) next (λ _ _ _. refl) calls (state false false (lent_chip name chip)) in
    let ends : t ≡ end_from (lent next) calls (state false false (lent_chip name chip)) = p.ends ∙ ap (end_from (lent next) calls) e in
    rw (← f) (
      d,
      c ∙ ap (λ (u : State (L × V)). seen_by own_view u.chip) ends ∙ ap (λ (u : State V). u.chip) same.1,
      rw (e, same.0) at p.answered,
      rw (e, same.0) at p.handed,
    )
