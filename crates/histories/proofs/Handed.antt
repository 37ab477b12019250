-- The caller's lists tell the history of the calls.
use Rattle.std.proofs.Common.{◌≡◌, ℕ, zero, suc, ◌⊎◌, List, Some, subst, slice_get, [], ◌∷◌, ◌++◌, length, take, drop, Bool, true, false, Ok, Result, sym, refl, ap, ◌∙◌, inl, inr, le_of_eq, length-append}
use Rattle.std.proofs.lemmas.List.{take_at, drop_at, drop_all}
use Rattle.std.proofs.lemmas.Option.{none-some, same_Some}
use Rattle.protocol.specs.declared.list.List.{List as Held}
use Rattle.protocol.specs.declared.refusal.Refusal.{Refusal}
use Rattle.protocol.specs.Lists.{items, Added}
use Rattle.protocol.proofs.Adding.{length-items}
use Rattle.protocol.proofs.Passed.{ok_not_err}
use Rattle.chips.specs.Pins.{Pins, Put}
use Rattle.chips.specs.Seen.{Seen}
use Rattle.driver.specs.Outcome.{state}
use Rattle.histories.specs.declared.call.Call.{Call}
use Rattle.histories.specs.Events.{Event, event, performed, events_from, events_on, end_on, end_from, cells_in, unseen, bare_chip}
use Rattle.histories.specs.Performing.{answers_in, words_in, Performs}
use Rattle.histories.specs.declared.told.Told.{Told}
use Rattle.histories.specs.Handed.{new_items, hands_out, hand_out, history, Counted}
use Rattle.histories.specs.Told.{history_told}
use Rattle.histories.proofs.Filling.{handed_count}
use Rattle.histories.proofs.Sending.{Driver}
use Rattle.histories.proofs.Views.{views_do_not_matter}

pub new_added : {T : Type 0} (l m : Held T) (xs : List T) → Added l xs m → new_items l m ≡ xs
new_added l m xs a = ap (drop l.count) a.adds ∙ drop_at (items l) xs l.count (length-items l)

pub new_none : {T : Type 0} (l m : Held T) → m ≡ l → new_items l m ≡ []
new_none {T = T} l m e = ap (λ (k : Held T). drop l.count (items k)) e ∙ drop_all l.count (items l) (le_of_eq (length-items l))

-- nothing was answered
history_none : (xs : List Call) (words : List ℕ) (cells : ℕ → List ℕ) → history xs [] words cells ≡ []
unfolding history
history_none [] words cells = refl
history_none (x ∷ xs) words cells = refl

-- the answers and words of a history tell it, cut anew
pub told_again : (xs : List Call) (s : Driver) → let es = events_from unseen xs s in
    history xs (answers_in es) (words_in es) (λ i. cells_in (end_from unseen (take i xs) s).chip.pins) ≡ es
unfolding history events_from end_from answers_in words_in
told_again [] s = refl
told_again (x ∷ xs) s =
    let y = performed unseen x s in
    let e = event x y in
    let es = events_from unseen xs y.after in
    let n = hands_out x y.answer in
    let cells : ℕ → List ℕ = λ i. cells_in (end_from unseen (take i xs) y.after).chip.pins in
    let many : length y.words ≡ n = handed_count unseen x s in
    let first : take n (y.words ++ words_in es) ≡ y.words = take_at y.words (words_in es) n many in
    let rest : drop n (y.words ++ words_in es) ≡ words_in es = drop_at y.words (words_in es) n many in
    ap (λ (ws : List ℕ). record e { words = ws } ∷ history xs (answers_in es) (drop n (y.words ++ words_in es)) cells) first
    ∙ ap (λ (ws : List ℕ). e ∷ history xs (answers_in es) ws cells) rest
    ∙ ap (λ (fs : List Event). e ∷ fs) (told_again xs y.after)

pub events_length : (xs : List Call) (s : Driver) → length (events_from unseen xs s) ≡ length xs
unfolding events_from
events_length [] s = refl
events_length (x ∷ xs) s = ap suc (events_length xs (performed unseen x s).after)

each_counted : (xs : List Call) (s : Driver) (i : ℕ) (e : Event) → slice_get (events_from unseen xs s) i ≡ Some e →
    length e.words ≡ hands_out e.call e.answer
unfolding events_from
each_counted [] s i e h = absurd (none-some e h)
each_counted (x ∷ xs) s zero e h =
    subst (λ (e : Event). length e.words ≡ hands_out e.call e.answer) (same_Some (event x (performed unseen x s)) e h) (handed_count unseen x s)
each_counted (x ∷ xs) s (suc i) e h = each_counted xs (performed unseen x s).after i e h

counted : (xs : List Call) (s : Driver) → let es = events_from unseen xs s in Counted xs (answers_in es) (words_in es) es
unfolding events_from answers_in words_in hand_out
counted [] s = record { answered = refl; handed = refl; each = each_counted [] s }
counted (x ∷ xs) s =
    let y = performed unseen x s in
    let es = events_from unseen xs y.after in
    let c = counted xs y.after in
    record {
      answered = ap suc c.answered;
      handed = length-append y.words (words_in es) ∙ rw (handed_count unseen x s, c.handed) refl;
      each = each_counted (x ∷ xs) s;
    }

-- The lists tell the history of the calls, which took a chip from p to q, or nothing was performed.
abbrev pub Tells : List Call → Pins → Pins → List Event → Type 0
Tells calls p q es = ((es ≡ events_on calls p) × (q ≡ end_on calls p)) ⊎ (es ≡ [])

pub untold : (calls : List Call) (p q : Pins) (told : Told) → Tells calls p q (history_told calls p told told)
untold calls p q told = inr (rw (new_none told.answers told.answers refl) (history_none calls _ _))

-- what a whole call of `perform` adds to the lists
module _ {V : Type 0} (next : V → Pins → Put → V) (calls : List Call) (chip chip' : Seen V) (old new : Told) (r : Result (Unit {0}) Refusal) where
  pub tells : (fit : Bool) → Performs next fit calls chip chip' old new r →
      Tells calls chip.pins chip'.pins (history_told calls chip.pins old new)
  tells true h =
      let es = events_on calls chip.pins in
      let same = views_do_not_matter next calls chip in
      let a : new_items old.answers new.answers ≡ answers_in es = new_added old.answers new.answers _ h.2 ∙ ap answers_in same.0 in
      let w : new_items old.words new.words ≡ words_in es = new_added old.words new.words _ h.3 ∙ ap words_in same.0 in
      inl (rw (a, w) (told_again calls (state false false (bare_chip chip.pins))), ap (λ (x : Seen V). x.pins) h.1 ∙ same.1)
  tells false h = inr (rw (new_none old.answers new.answers h.2) (history_none calls _ _))

  pub counts : (fit : Bool) → Performs next fit calls chip chip' old new r → r ≡ Ok tt →
      Counted calls (new_items old.answers new.answers) (new_items old.words new.words) (history_told calls chip.pins old new)
  counts true h ok =
      let es = events_on calls chip.pins in
      let same = views_do_not_matter next calls chip in
      let a : new_items old.answers new.answers ≡ answers_in es = new_added old.answers new.answers _ h.2 ∙ ap answers_in same.0 in
      let w : new_items old.words new.words ≡ words_in es = new_added old.words new.words _ h.3 ∙ ap words_in same.0 in
      let s = state false false (bare_chip chip.pins) in
      rw (a, w) (subst (λ fs. Counted calls (answers_in es) (words_in es) fs) (sym (told_again calls s)) (counted calls s))
  counts false h ok = absurd (ok_not_err tt _ (sym ok ∙ h.0))
