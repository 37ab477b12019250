-- Reads and runs put into the caller's list of words.
use Rattle.std.proofs.Common.{◌≡◌, ℕ, zero, suc, ◌+◌, ◌≤◌, Bool, true, false, cond, List, [], ◌∷◌, length, take, Ok, Err, Result, refl, ap, ◌∙◌, arith}
use Rattle.protocol.specs.declared.list.List.{List as Held}
use Rattle.protocol.specs.declared.refusal.Refusal.{Refusal}
use Rattle.protocol.specs.Lists.{free, room, has_places, Added, Adds, Extended, AddsFrom}
use Rattle.protocol.proofs.Adding.{asked, unfilled, length-next}
use Rattle.chips.specs.declared.chip.Chip.{Ghosts}
use Rattle.chips.specs.Pins.{Pins, Put}
use Rattle.wire.specs.Hearing.{words_heard, after_bits}
use Rattle.driver.specs.Calls.{words_on, fetched, as_done, as_word, filled_by}
use Rattle.driver.specs.declared.driver.Driver.{Driver}
use Rattle.driver.specs.Held.{held}
use Rattle.driver.specs.Outcome.{State, Outcome, outcome, then}
use Rattle.driver.specs.Reads.{run_words, filled, RunLeaves}
use Rattle.histories.specs.declared.call.Call.{Call}
use Rattle.histories.specs.declared.call.Call.TheVariants.{Greet, Settle, Open, Shut, Read, Run, Write, Erase, Fill, Clear}
use Rattle.histories.specs.Book.{is_done}
use Rattle.histories.specs.Events.{Answer, performed}
use Rattle.histories.specs.Performing.{wanted_by, PerformedOne}

pub words_length : (bits n : ℕ) (p : Pins) → length (words_heard bits n p) ≡ n
unfolding words_heard
words_length bits zero p = refl
words_length bits (suc n) p = ap suc (words_length bits n (after_bits bits p))

no_words : (b : Bool) → length {A = ℕ} [] ≡ cond b 0 0
no_words true = refl
no_words false = refl

-- A done read hands out one word, a done run its count, every other call none.
module _ {V : Type 0} (next : V → Pins → Put → V) where
  fetched_many : (address count : ℕ) (r : Answer) (u : State V) (after : State V → State V) →
      let x = (then r u (λ _ v. outcome {T = List ℕ} (Ok (words_on v.chip.pins address count)) (after v))).answer in
      length (filled_by x []) ≡ cond (is_done (as_done x)) count 0
  fetched_many address count (Ok _) u after = words_length _ count _
  fetched_many address count (Err e) u after = refl

  pub handed_count : (x : Call) (s : State V) → length (performed next x s).words ≡ cond (is_done (performed next x s).answer) (wanted_by x) 0
  handed_count Greet s = no_words _
  handed_count Settle s = no_words _
  handed_count Open s = no_words _
  handed_count Shut s = no_words _
  handed_count (Read address) s = fetched_many address 1 _ _ _
  handed_count (Run address count) s = fetched_many address count _ _ _
  handed_count (Write address value) s = no_words _
  handed_count (Erase address) s = no_words _
  handed_count (Fill value) s = no_words _
  handed_count Clear s = no_words _

-- what a run that answers r has left in free places
module _ (l m : Held ℕ) (n : ℕ) (h : l.count + n ≤ room l) where
  left_by : (x : Result (List ℕ) Refusal) (r : Answer) (ys : List ℕ) → r ≡ as_done x → ys ≡ filled_by x (take n (free l)) → Extended l ys m r →
      Added l (filled_by x []) m
  left_by (Ok ws) r ys e f a = rw (e, f) at a
  left_by (Err c) r ys e f a = unfilled l m n h (rw (e, f) at a)

-- a run by a driver into the list
module _ {C : Type 0} (g : Ghosts C) (address count : ℕ) (d e : Driver C) (l m : Held ℕ) (r : Answer) where
  abbrev Leaves : List ℕ → Driver C → List ℕ → Answer → Type 0
  Leaves old u ys q = RunLeaves g.next address old (held g d) (held g u) ys q

  pub ran : l.count + count ≤ room l → AddsFrom Leaves (has_places l count) l count 0 d e m r →
      PerformedOne g.next (Run address count) (held g d) (held g e) l m r
  ran h a =
      let next = g.next in
      let s = held g d in
      let f = asked Leaves l m count 0 d e r h a in
      let long = length-next l m count h in
      let gave : outcome r (held g e) ≡ run_words next address count s = rw long at f.leaves.0 in
      let same : f.places ≡ filled next address count (take count (free l)) s = rw long at f.leaves.1 in
      let done : r ≡ as_done (fetched next address count s).answer = ap (λ (y : Outcome g.View (Unit {0})). y.answer) gave in
      record {
        answer = done;
        after = ap (λ (y : Outcome g.View (Unit {0})). y.after) gave;
        handed = left_by l m count h _ r f.places done same f.extends;
      }

-- one word that was read, and pushed
one_word : (x : Result (List ℕ) Refusal) (w : ℕ) → Ok w ≡ as_word x → length (filled_by x []) ≡ cond (is_done (as_done x)) 1 0 →
    (Ok tt ≡ as_done x) × (w ∷ [] ≡ filled_by x [])
one_word (Ok []) w e h = absurd (omega (arith, h))
one_word (Ok (v ∷ [])) w e h = (refl, grind arith)
one_word (Ok (v ∷ u ∷ us)) w e h = absurd (omega (arith, h))
one_word (Err r) w e h = absurd (cc)

pushed : (l m : Held ℕ) (w : ℕ) (r : Answer) → l.count + 1 ≤ room l → Adds l (w ∷ []) 0 m r → (r ≡ Ok tt) × Added l (w ∷ []) m
pushed l m w (Ok u) h a = (refl, a)
pushed l m w (Err e) h a = absurd (omega (arith, h, a.0))

module _ {V : Type 0} (next : V → Pins → Put → V) (address : ℕ) (s t : State V) (l m : Held ℕ) (w : ℕ) (r : Answer) where
  pub was_read : l.count + 1 ≤ room l → let o = fetched next address 1 s in outcome (Ok w) t ≡ outcome (as_word o.answer) o.after →
      Adds l (w ∷ []) 0 m r → PerformedOne next (Read address) s t l m r
  was_read h gave a =
      let o = fetched next address 1 s in
      let p = pushed l m w r h a in
      let one = one_word o.answer w (ap (λ (y : Outcome V ℕ). y.answer) gave) (handed_count next (Read address) s) in
      record { answer = p.0 ∙ one.0; after = ap (λ (y : Outcome V ℕ). y.after) gave; handed = rw (← one.1) p.1 }
