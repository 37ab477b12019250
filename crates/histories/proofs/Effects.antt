-- What each call makes of a driver and its chip.
use Rattle.std.proofs.Common.{◌≡◌, ℕ, Bool, true, false, cond, ◌⊎◌, List, [], ◌∷◌, Some, None, Ok, Err, sym, refl, ap, ◌∙◌, subst, inl, inr, zero-le, le_refl, arith}
use Rattle.std.proofs.lemmas.Bool.{both_ways, false≢true}
use Rattle.protocol.specs.declared.instruction.Instruction.{Instruction}
use Rattle.protocol.specs.declared.instruction.Instruction.TheVariants as instruction
use Rattle.protocol.specs.declared.refusal.Cause.TheVariants.{Busy, Unfinished}
use Rattle.protocol.specs.declared.refusal.Refusal.{Refusal}
use Rattle.protocol.specs.Instructions.{is_read, is_change, kind_in, address_in, value_in}
use Rattle.protocol.specs.Parts.{ones_of}
use Rattle.protocol.specs.Refusals.{refusal}
use Rattle.protocol.proofs.Table.{agreed}
use Rattle.chips.specs.Fitting.{Fits, Fitting}
use Rattle.chips.specs.Pins.{Pins, Put, put_on, pe_on}
use Rattle.wire.specs.Frames.{idle}
use Rattle.wire.specs.Places.{width_on, Rest, placed, rest_state, resting, carried_out}
use Rattle.wire.proofs.Cells.{cells_within}
use Rattle.wire.proofs.Resting.{idle-rests}
use Rattle.driver.specs.Checks.{Checked, greetable, admitted, changeable}
use Rattle.driver.specs.Outcome.{State, Outcome, state, outcome, bind, sent, noted}
use Rattle.driver.specs.Calls as calls
use Rattle.histories.specs.declared.call.Call.{Call}
use Rattle.histories.specs.declared.call.Call.TheVariants.{Greet, Settle, Open, Shut, Read, Run, Write, Erase, Fill, Clear}
use Rattle.histories.specs.Events.{Answer, Yield, plain, handed, performed, event, cells_in, unseen, bare_chip}
use Rattle.histories.specs.Book.{is_unfinished, is_done, is_accepted, changed_book, first_book}
use Rattle.histories.specs.Alike.{is_programming, was_programming}
use Rattle.histories.proofs.Cells.{all_cells, set_all, fill_all}
use Rattle.histories.proofs.Checks.{check_of, request_of, Admitted, admitted_finds, changeable_finds, sendable, check_early}
use Rattle.histories.proofs.Keeping.{call_later}
use Rattle.histories.proofs.Sending.{Driver, at, polled_ways, rest-placed, ready_at, frame_sent, words_in, fits-resting, words_read, read_sent}
use Rattle.histories.proofs.Sending.{changed_bytes, change_carried, idle-resting, idle-sent}

-- a greet from the polling on, and from the idle sample on
abbrev greeted : {V : Type 0} (next : V → Pins → Put → V) → State V → Outcome V (Unit {0})
greeted next s = outcome (Ok tt) (noted true false (calls.sent_frame next instruction.Wds s))

abbrev greets : {V : Type 0} (next : V → Pins → Put → V) → State V → Outcome V (Unit {0})
greets next s = bind (calls.polled next Busy (sent next (idle ∷ []) s)) (λ _ s₁. greeted next s₁)

abbrev pub yield : Answer → List ℕ → Driver → Yield (Unit {0})
yield answer words after = record { answer = answer; words = words; after = after }

-- the words that a call hands out if done
abbrev pub words_for : Call → Pins → List ℕ
words_for Greet p = []
words_for Settle p = []
words_for Open p = []
words_for Shut p = []
words_for (Read address) p = words_in p address 1
words_for (Run address count) p = words_in p address count
words_for (Write address value) p = []
words_for (Erase address) p = []
words_for (Fill value) p = []
words_for Clear p = []

-- the words of a call that its check lets through
abbrev pub handed_by : Call → Pins → Bool → Bool → List ℕ
handed_by x p greeted opened = cond (is_done (check_of (request_of x) p greeted opened)) (words_for x p) []

-- what a call leaves as opened if done
abbrev pub opened_by : Call → Bool → Bool
opened_by Greet opened = false
opened_by Settle opened = opened
opened_by Open opened = true
opened_by Shut opened = false
opened_by (Read address) opened = opened
opened_by (Run address count) opened = opened
opened_by (Write address value) opened = opened
opened_by (Erase address) opened = opened
opened_by (Fill value) opened = opened
opened_by Clear opened = opened

-- once greeted: at rest, and open as the record says
pub record Held (s : Driver) : Type 0 where
  pub rest : Rest s.chip.pins
  pub latch : s.chip.pins.machine.state.enabled ≡ s.opened

-- a driver between calls
pub record Sound (s : Driver) : Type 0 where
  pub fitting : Fitting s.chip.pins
  pub held : s.greeted ≡ true → Held s

-- What a call is to come to: its check, the words that it hands out and what it leaves as opened if done, the book if it is accepted.
pub record Aim : Type 0 where
  pub call : Call
  pub check : Checked
  pub words : List ℕ
  pub opens : Bool
  pub book : List ℕ

abbrev pub aim : Call → Checked → List ℕ → Bool → List ℕ → Aim
aim call check words opens book = record { call = call; check = check; words = words; opens = opens; book = book }

pub record Kept (a : Aim) (s : Driver) (y : Yield (Unit {0})) : Type 0 where
  pub answer : ((was_programming (event a.call y) ≡ true) × (y.words ≡ []))
      ⊎ ((y.answer ≡ a.check) × (y.words ≡ cond (is_done a.check) a.words []))
  pub greeted : y.after.greeted ≡ cond (is_done y.answer) true s.greeted
  pub opened : y.after.opened ≡ cond (is_done y.answer) a.opens s.opened
  pub held : y.after.greeted ≡ true → Held y.after
  pub first : s.greeted ≡ false → first_book a.call (event a.call y) ≡ cond y.after.greeted (Some (cells_in y.after.chip.pins)) None
  pub cells : s.greeted ≡ true → cells_in y.after.chip.pins ≡ cond (is_accepted y.answer) a.book (cells_in s.chip.pins)

abbrev pub KeptBy : Call → Driver → Yield (Unit {0}) → Type 0
KeptBy x s y =
    let p = s.chip.pins in
    Kept (aim x (check_of (request_of x) p s.greeted s.opened) (words_for x p) (opened_by x s.opened) (changed_book (ones_of (width_on p)) x (cells_in p))) s y

none_first : (x : Call) (e : Refusal) (s : Driver) → first_book x (event x (yield (Err e) [] s)) ≡ None
none_first x e s = grind arith

module _ (a : Aim) (s : Driver) where
  -- refused with no frame sent
  refused-kept : (e : Refusal) (p : Pins) → is_unfinished e.cause ≡ false → (is_programming e.cause ≡ true) ⊎ (a.check ≡ Err e) →
      (s.greeted ≡ true → Held (at s p) × (cells_in p ≡ cells_in s.chip.pins)) → Kept a s (yield (Err e) [] (at s p))
  refused-kept e p sure why still =
      record {
        answer = elim why [ inl h ↦ inl (h, refl) | inr h ↦ inr (sym h, rw h) ];
        greeted = refl;
        opened = refl;
        held = λ g. (still g).0;
        first = λ g. rw g (none_first a.call e (at s p));
        cells = λ g. rw sure (still g).1;
      }

  -- a frame sent by a greeted driver
  sent-kept : (r : Answer) (words : List ℕ) (opened : Bool) (p : Pins) → s.greeted ≡ true →
      ((was_programming (event a.call (yield r words s)) ≡ true) × (words ≡ []))
      ⊎ ((r ≡ a.check) × (words ≡ cond (is_done a.check) a.words [])) → opened ≡ cond (is_done r) a.opens s.opened → Rest p →
      p.machine.state.enabled ≡ opened → cells_in p ≡ cond (is_accepted r) a.book (cells_in s.chip.pins) →
      Kept a s (yield r words (state s.greeted opened (bare_chip p)))
  sent-kept r words opened p met answer opens rest latch cells =
      record {
        answer = answer;
        greeted = grind arith;
        opened = opens;
        held = λ _. record { rest = rest; latch = latch };
        first = λ g. absurd (both_ways s.greeted g met);
        cells = λ _. cells;
      }

  done-kept : (words : List ℕ) (p : Pins) → a.check ≡ Ok tt → s.greeted ≡ true → words ≡ a.words → Rest p →
      p.machine.state.enabled ≡ a.opens → cells_in p ≡ a.book → Kept a s (yield (Ok tt) words (state s.greeted a.opens (bare_chip p)))
  done-kept words p h met e rest latch cells = sent-kept (Ok tt) words a.opens p met (inr (sym h, e ∙ rw h)) refl rest latch cells

  -- the check and the polling with which every call but greet begins; `finish` is the rest of it
  begun_kept : (finish : Outcome (Unit {0}) (Unit {0}) → Yield (Unit {0})) →
      ((e : Refusal) (t : Driver) → finish (outcome (Err e) t) ≡ yield (Err e) [] t) →
      check_of (request_of a.call) s.chip.pins s.greeted s.opened ≡ a.check → (a.check ≡ Ok tt → s.greeted ≡ true) → (s.greeted ≡ true → Held s) →
      (a.check ≡ Ok tt → Held s → Kept a s (finish (outcome (Ok tt) (at s (resting s.chip.pins 0))))) →
      Kept a s (finish (calls.begun unseen a.check s))
  begun_kept finish stops is met held ready = by a.check refl
    where
      by : (c : Checked) → a.check ≡ c → Kept a s (finish (calls.begun unseen c s))
      by (Err e) h =
          rw (stops e s)
          (refused-kept e s.chip.pins (check_early a.call s.chip.pins s.greeted s.opened e (is ∙ h)).1 (inr h) (λ g. (held g, refl)))
      by (Ok u) h =
          let k = held (met h) in
          polled_ways (λ o. Kept a s (finish o)) Busy s k.rest (λ left.
          rw (stops (refusal Busy 0) (at s (resting s.chip.pins left)))
          (refused-kept (refusal Busy 0) (resting s.chip.pins left) refl (inl refl) (λ g.
          (record { rest = rest-placed s.chip.pins _ left _ k.rest.live; latch = k.latch }, refl)))) (ready h k)

module _ (s : Driver) (sound : Sound s) where
  abbrev pins : Pins
  pins = s.chip.pins

  settle-kept : let i = instruction.Wds in Kept (aim Settle (admitted pins s.greeted i) [] s.opened (cells_in pins)) s (plain (calls.settle unseen s))
  settle-kept =
      let a = aim Settle (admitted pins s.greeted instruction.Wds) [] s.opened (cells_in pins) in
      let met : a.check ≡ Ok tt → s.greeted ≡ true = λ h. (admitted_finds pins s.greeted instruction.Wds h).met in
      begun_kept a s plain (λ _ _. refl) refl met sound.held (λ h k.
      done-kept a s [] (resting pins 0) h (met h) refl (rest-placed pins _ _ _ k.rest.live) k.latch refl)

  turned-kept : (x : Call) (opens : Bool) (i : Instruction) → let check = admitted pins s.greeted i in
      check_of (request_of x) pins s.greeted s.opened ≡ check → is_read (kind_in i) ≡ false →
      ((p : Pins) → let q = carried_out p (kind_in i) (address_in i) (value_in i) in
      (q.machine.state.enabled ≡ opens) × (q.machine.bytes ≡ p.machine.bytes)) →
      Kept (aim x check [] opens (cells_in pins)) s (plain (calls.turned unseen opens i s))
  turned-kept x opens i is other turns =
      let a = aim x (admitted pins s.greeted i) [] opens (cells_in pins) in
      let found : a.check ≡ Ok tt → Admitted pins s.greeted i = admitted_finds pins s.greeted i in
      begun_kept a s (λ o. plain (bind o (λ _ s₁. outcome (Ok tt) (noted s₁.greeted opens (calls.sent_frame unseen i s₁))))) (λ _ _. refl) is
      (λ h. (found h).met) sound.held (λ h k.
      let q = resting pins 0 in
      let f = found h in
      subst (λ t. Kept a s (yield (Ok tt) [] (noted s.greeted opens t)))
      (sym (frame_sent (at s q) i other (ready_at pins k.rest.live) (sendable q (address_in i) (value_in i) f.address f.value)))
      (done-kept a s [] (carried_out q (kind_in i) (address_in i) (value_in i)) h f.met refl (rest-placed pins _ _ _ k.rest.live) (turns q).0
      (ap (all_cells pins.machine.setup.part (width_on pins)) (turns q).1)))

  fetched-kept : (x : Call) (address count : ℕ) → let check = admitted pins s.greeted (instruction.Read address count) in
      check_of (request_of x) pins s.greeted s.opened ≡ check →
      Kept (aim x check (words_in pins address count) s.opened (cells_in pins)) s (handed (calls.fetched unseen address count s))
  fetched-kept x address count is =
      let i = instruction.Read address count in
      let a = aim x (admitted pins s.greeted i) (words_in pins address count) s.opened (cells_in pins) in
      let found : a.check ≡ Ok tt → Admitted pins s.greeted i = admitted_finds pins s.greeted i in
      begun_kept a s (λ o. handed (bind o (λ _ s₁. outcome (Ok (calls.words_on s₁.chip.pins address count)) (calls.sent_frame unseen i s₁))))
      (λ _ _. refl) is (λ h. (found h).met) sound.held (λ h k.
      let q = resting pins 0 in
      let f = found h in
      let ready = ready_at pins k.rest.live in
      let send = sendable q address 0 f.address f.value in
      let words = calls.words_on q address count in
      subst (λ t. Kept a s (yield (Ok tt) words t)) (sym (read_sent (at s q) address count ready send))
      (done-kept a s words q h f.met
      (words_read q address count ready (fits-resting pins (sound.fitting k.rest.live)) send f.address) ready.rest k.latch refl))

  changed-kept : (x : Call) (i : Instruction) (book : List ℕ) → let check = changeable pins s.greeted s.opened i in
      check_of (request_of x) pins s.greeted s.opened ≡ check → is_read (kind_in i) ≡ false → is_change (kind_in i) ≡ true →
      (Fits pins → Admitted pins s.greeted i → all_cells pins.machine.setup.part (width_on pins) (changed_bytes pins i) ≡ book) →
      Kept (aim x check [] s.opened book) s (plain (calls.changed unseen i s))
  unfolding pe_on
  changed-kept x i book is other change cells =
      let a = aim x (changeable pins s.greeted s.opened i) [] s.opened book in
      let found = changeable_finds pins s.greeted s.opened i in
      begun_kept a s (λ o. plain (bind o (λ _ s₁. calls.polled unseen Unfinished (calls.sent_frame unseen i s₁)))) (λ _ _. refl) is
      (λ h. (found h).0.met) sound.held (λ h k.
      let q = resting pins 0 in
      let f = (found h).0 in
      let latch : true ≡ s.opened = sym (found h).1 in
      let t = change_carried q i change (k.latch ∙ (found h).1) (found h).2 in
      let p = placed q (rest_state true t.0) (changed_bytes pins i) 2 in
      let live = k.rest.live in
      let e = cells (sound.fitting live) f in
      subst (λ u. Kept a s (plain (calls.polled unseen Unfinished u)))
      (sym (frame_sent (at s q) i other (ready_at pins live) (sendable q (address_in i) (value_in i) f.address f.value) ∙ ap (at s) t.1))
      (polled_ways (λ o. Kept a s (plain o)) Unfinished (at s p) (rest-placed pins _ _ _ live) (λ left.
      sent-kept a s (Err (refusal Unfinished 0)) [] s.opened (resting p left) f.met (inl (refl, refl)) refl (rest-placed pins _ _ _ live) latch e)
      (done-kept a s [] (resting p 0) h f.met refl (rest-placed pins _ _ _ live) latch e)))

  abbrev greet_aim : Aim
  greet_aim = aim Greet (greetable pins) [] false (cells_in pins)

  abbrev idled : Pins
  idled = put_on pins idle

  idled_still : (left : ℕ) → s.greeted ≡ true → Held (at s (resting idled left)) × (cells_in (resting idled left) ≡ cells_in pins)
  idled_still left g =
      let k = sound.held g in
      let e = idle-resting pins k.rest in
      (record { rest = rest-placed idled _ left _ (rw e k.rest.live); latch = rw e k.latch }, rw e)

  greet-kept : Kept greet_aim s (plain (calls.greet unseen s))
  greet-kept = by (greetable pins) refl
    where
      by : (c : Checked) → greetable pins ≡ c → Kept greet_aim s (plain (bind (outcome c s) (λ _ s₁. greets unseen s₁)))
      by (Err e) h =
          refused-kept greet_aim s e pins (check_early Greet pins s.greeted s.opened e h).1 (inr h) (λ g. (sound.held g, refl))
      by (Ok u) h =
          let rest = idle-rests pins (grind arith) in
          subst (λ t. Kept greet_aim s (plain (bind (calls.polled unseen Busy t) (λ _ s₁. greeted unseen s₁)))) (sym (idle-sent s))
          (polled_ways (λ o. Kept greet_aim s (plain (bind o (λ _ s₁. greeted unseen s₁)))) Busy (at s idled) rest (λ left.
          refused-kept greet_aim s (refusal Busy 0) (resting idled left) refl (inl refl) (idled_still left))
          (subst (λ t. Kept greet_aim s (yield (Ok tt) [] (noted true false t)))
          (sym (frame_sent (at s (resting idled 0)) instruction.Wds refl (ready_at idled rest.live) (sendable (resting idled 0) 0 0 (agreed _ _).some zero-le)))
          (record {
            answer = inr (sym h, rw h);
            greeted = refl;
            opened = refl;
            held = λ _. record { rest = rest-placed idled _ _ _ rest.live; latch = refl };
            first = λ _. refl;
            cells = λ g. (idled_still 0 g).1;
          })))

  -- every call
  pub kept : (x : Call) → KeptBy x s (performed unseen x s)
  kept Greet = greet-kept
  kept Settle = settle-kept
  kept Open = turned-kept Open true instruction.Wen refl refl (λ _. (refl, refl))
  kept Shut = turned-kept Shut false instruction.Wds refl refl (λ _. (refl, refl))
  kept (Read address) = fetched-kept (Read address) address 1 refl
  kept (Run address count) = fetched-kept (Run address count) address count refl
  kept (Write address value) =
      changed-kept (Write address value) (instruction.Write address value) _ refl refl refl (λ f a.
      set_all _ _ _ (cells_within pins (width_on pins) f) value a.value address a.address)
  kept (Erase address) =
      changed-kept (Erase address) (instruction.Erase address) _ refl refl refl (λ f a.
      set_all _ _ _ (cells_within pins (width_on pins) f) _ (le_refl _) address a.address)
  kept (Fill value) =
      changed-kept (Fill value) (instruction.Wrall value) _ refl refl refl (λ f a.
      fill_all _ _ _ (cells_within pins (width_on pins) f) value a.value)
  kept Clear =
      changed-kept Clear instruction.Eral _ refl refl refl (λ f a.
      fill_all _ _ _ (cells_within pins (width_on pins) f) _ (le_refl _))

  pub sound_after : (x : Call) → Sound (performed unseen x s).after
  sound_after x = record { fitting = (call_later unseen x s sound.fitting).fitting; held = (kept x).held }

-- a new driver
pub sound_new : (p : Pins) → Fitting p → Sound (state false false (bare_chip p))
sound_new p fitting = record { fitting = fitting; held = λ g. absurd (false≢true g) }
