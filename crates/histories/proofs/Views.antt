-- What a chip keeps of the samples beside its meaning changes no event.
use Rattle.std.proofs.Common.{◌≡◌, ℕ, List, [], ◌∷◌, refl, sym, ap, ◌∙◌}
use Rattle.chips.specs.Pins.{Pins, Put, put_on}
use Rattle.chips.specs.Seen.{Seen, stepped}
use Rattle.wire.specs.Sent.{told}
use Rattle.driver.specs.Cases.{Request, Greet, Settle, Latch, Fetch, Change, stage_of, answer_to, record_after, samples_of, words_of}
use Rattle.driver.specs.Outcome.{State, Outcome, state, outcome}
use Rattle.driver.proofs.Following.{by_stage, words_of-fetched}
use Rattle.histories.specs.declared.call.Call.{Call}
use Rattle.histories.specs.declared.call.Call.TheVariants as call
use Rattle.histories.specs.Events.{Yield, performed, event, events_from, end_from, events_of, events_on, end_of, end_on, unseen}
use Rattle.histories.specs.Requests.{request_of}
use Rattle.histories.proofs.Requests.{performed-by_stage, without_words}

-- seen by less: of its own view a chip shows only what f tells
module _ {V W : Type 0} (f : V → W) where
  abbrev pub seen_by : Seen V → Seen W
  seen_by x = record { view = f x.view; pins = x.pins }

  abbrev pub state_by : State V → State W
  state_by s = state s.greeted s.opened (seen_by s.chip)

  abbrev yield_by : Yield V → Yield W
  yield_by y = record { answer = y.answer; words = y.words; after = state_by y.after }

-- the words that are handed out where this is asked
abbrev words_by : {V : Type 0} → Request → State V → List ℕ
words_by Greet s = []
words_by Settle s = []
words_by (Latch opened i) s = []
words_by (Fetch address count) s = words_of address count s
words_by (Change i) s = []

-- a call by what it asks of the driver
module _ {V : Type 0} (next : V → Pins → Put → V) where
  abbrev with_words : List ℕ → Outcome V (Unit {0}) → Yield V
  with_words words o = record { answer = o.answer; words = words; after = o.after }

  words_performed : (x : Call) (s : State V) → (performed next x s).words ≡ words_by (request_of x) s
  words_performed call.Greet s = refl
  words_performed call.Settle s = refl
  words_performed call.Open s = refl
  words_performed call.Shut s = refl
  words_performed (call.Read address) s = sym (words_of-fetched next address 1 s)
  words_performed (call.Run address count) s = sym (words_of-fetched next address count s)
  words_performed (call.Write address value) s = refl
  words_performed (call.Erase address) s = refl
  words_performed (call.Fill value) s = refl
  words_performed call.Clear s = refl

  asked : (x : Call) (s : State V) → performed next x s ≡ with_words (words_by (request_of x) s) (by_stage next (request_of x) s)
  asked x s =
      ap (λ ws. with_words ws (without_words (performed next x s))) (words_performed x s)
      ∙ ap (with_words (words_by (request_of x) s)) (performed-by_stage next x s)

-- What f tells goes on by itself: then calls seen by less are the same calls.
module _ {V W : Type 0} (f : V → W) (next : V → Pins → Put → V) (less : W → Pins → Put → W)
    (alone : (v : V) (p : Pins) (x : Put) → f (next v p x) ≡ less (f v) p x) where
  told-by : (x : Seen V) (xs : List Put) → seen_by f (told next x xs) ≡ told less (seen_by f x) xs
  unfolding told
  told-by x [] = refl
  told-by x (y ∷ ys) =
      told-by (stepped next x y) ys
      ∙ ap (λ (w : W). told less (record { view = w; pins = put_on x.pins y }) ys) (alone x.view x.pins y)

  same_words : (r : Request) (s : State V) → words_by r s ≡ words_by r (state_by f s)
  unfolding words_of stage_of
  same_words Greet s = refl
  same_words Settle s = refl
  same_words (Latch opened i) s = refl
  same_words (Fetch address count) s = refl
  same_words (Change i) s = refl

  asked-by : (r : Request) (s : State V) → yield_by f (with_words next (words_by r s) (by_stage next r s)) ≡ with_words less (words_by r (state_by f s)) (by_stage less r (state_by f s))
  unfolding stage_of samples_of
  asked-by r s =
      ap (λ c. with_words less (words_by r s) (outcome (answer_to r s) (state (record_after r s).0 (record_after r s).1 c))) (told-by s.chip (samples_of r s))
      ∙ ap (λ ws. with_words less ws (by_stage less r (state_by f s))) (same_words r s)

  pub performed-by : (x : Call) (s : State V) → yield_by f (performed next x s) ≡ performed less x (state_by f s)
  performed-by x s = ap (yield_by f) (asked next x s) ∙ asked-by (request_of x) s ∙ sym (asked less x (state_by f s))

  pub events_by : (xs : List Call) (s : State V) →
      (events_from next xs s ≡ events_from less xs (state_by f s)) × (state_by f (end_from next xs s) ≡ end_from less xs (state_by f s))
  unfolding events_from end_from
  events_by [] s = (refl, refl)
  events_by (x ∷ xs) s =
      let e = performed-by x s in
      let more = events_by xs (performed next x s).after in (
        ap (λ es. event x (performed next x s) ∷ es) more.0 ∙ ap (λ y. event x y ∷ events_from less xs y.after) e,
        more.1 ∙ ap (λ y. end_from less xs y.after) e,
      )

-- What a chip keeps of the samples beside its meaning changes no event, and nothing of what the chip means in the end.
pub views_do_not_matter : {V : Type 0} (next : V → Pins → Put → V) (xs : List Call) (chip : Seen V) →
    (events_of next xs chip ≡ events_on xs chip.pins) × ((end_of next xs chip).pins ≡ end_on xs chip.pins)
views_do_not_matter next xs chip =
    let e = events_by (λ _. tt) next unseen (λ _ _ _. refl) xs (state _ _ chip) in
    (e.0, ap (λ s. s.chip.pins) e.1)
