-- When a call finds the chip still programming: from how far it comes.
use Rattle.std.proofs.Common.{◌≡◌, ℕ, zero, suc, ◌<◌, ◌≤◌, ◌-◌, Bool, true, false, not, ◌||◌, List, [], ◌∷◌, take, leb, Some, Ok, Err, sym, refl, ap, ◌∙◌, subst, inl, inr, arith}
use Rattle.std.specs.Prelude.{slice_get, ◌↔◌}
use Rattle.std.proofs.lemmas.Bool.{both_ways, false≢true}
use Rattle.std.proofs.lemmas.Bool.Decides.{leb_tells}
use Rattle.std.proofs.lemmas.Option.{same_Some, none-some}
use Rattle.protocol.specs.declared.instruction.Instruction.{Instruction}
use Rattle.protocol.specs.declared.instruction.Instruction.TheVariants as instruction
use Rattle.protocol.specs.declared.refusal.Cause.TheVariants.{Busy, Unfinished}
use Rattle.protocol.specs.declared.refusal.Refusal.{Refusal}
use Rattle.protocol.specs.Instructions.{is_read, is_change, kind_in, address_in, value_in}
use Rattle.protocol.specs.Refusals.{refusal}
use Rattle.protocol.proofs.Passed.{ok_not_err}
use Rattle.chips.specs.Fitting.{Fitting}
use Rattle.chips.specs.Pins.{Pins, put_on, pe_on}
use Rattle.wire.specs.Frames.{idle}
use Rattle.wire.specs.Places.{left_on, resting, carried_out}
use Rattle.wire.specs.Polling.{polls, is_ready}
use Rattle.wire.specs.Runs.{run}
use Rattle.wire.proofs.Carrying.{frame_carries_out}
use Rattle.wire.proofs.Polls.{poll_rests, poll_ready_iff}
use Rattle.wire.proofs.Resting.{idle-rests}
use Rattle.driver.specs.Calls as calls
use Rattle.driver.specs.Cases as cases
use Rattle.driver.specs.Cases.{Request, check_of, pins_at_first, pins_at_second, polls_twice, stage_by, stage_of, answer_at}
use Rattle.driver.specs.Checks.{Checked, admitted, changeable}
use Rattle.driver.specs.Outcome.{state}
use Rattle.histories.specs.declared.call.Call.{Call}
use Rattle.histories.specs.declared.call.Call.TheVariants.{Greet, Settle, Open, Shut, Read, Run, Write, Erase, Fill, Clear}
use Rattle.histories.specs.Alike.{is_programming}
use Rattle.histories.specs.Book.{is_unfinished}
use Rattle.histories.specs.Busy.{left_at_first, IsLetThrough, BusyAt, WhenBusy}
use Rattle.histories.specs.Events.{Answer, Event, event, performed, events_from, events_on, end_from, unseen, bare_chip}
use Rattle.histories.specs.Requests.{request_of}
use Rattle.histories.proofs.Checks.{admitted_finds, changeable_finds, sendable, check_early}
use Rattle.histories.proofs.Effects.{Sound, sound_after, sound_new}
use Rattle.histories.proofs.Requests.{performed-by_stage}
use Rattle.histories.proofs.Sending.{Driver, ready_at, rest-placed, frame_is, change_carried}

-- How each polling ends.
abbrev Told : Pins → Type 0
Told p = is_ready p ≡ leb (left_on p) 4096

module _ (s : Driver) (sound : Sound s) where
  abbrev pins : Pins
  pins = s.chip.pins

  admitted-told : (i : Instruction) → admitted pins s.greeted i ≡ Ok tt → Told pins
  admitted-told i h = poll_ready_iff pins (sound.held (admitted_finds pins s.greeted i h).met).rest

  changeable-told : (i : Instruction) → changeable pins s.greeted s.opened i ≡ Ok tt → Told pins
  changeable-told i h = poll_ready_iff pins (sound.held (changeable_finds pins s.greeted s.opened i h).0.met).rest

  first_told : (r : Request) → IsLetThrough r s → Told (pins_at_first r pins)
  unfolding run
  first_told cases.Greet h = poll_ready_iff (put_on pins idle) (idle-rests pins (grind arith))
  first_told cases.Settle h = admitted-told instruction.Wds h
  first_told (cases.Latch opened i) h = admitted-told i h
  first_told (cases.Fetch address count) h = admitted-told (instruction.Read address count) h
  first_told (cases.Change i) h = changeable-told i h

  changed-told : (i : Instruction) → is_read (kind_in i) ≡ false → is_change (kind_in i) ≡ true →
      changeable pins s.greeted s.opened i ≡ Ok tt → left_on pins ≤ 4096 → Told (pins_at_second (cases.Change i) pins)
  unfolding pe_on run
  changed-told i other change h below =
      let f = changeable_finds pins s.greeted s.opened i h in
      let k = sound.held f.0.met in
      let q = resting pins 0 in
      let none : left_on pins - 4097 ≡ 0 = omega arith in
      let polled : run pins (polls pins) ≡ q = poll_rests pins k.rest ∙ ap (resting pins) none in
      let t = change_carried q i change (k.latch ∙ f.1) f.2 in
      let e : pins_at_second (cases.Change i) pins ≡ carried_out q (kind_in i) (address_in i) (value_in i) =
      ap (λ x. run x (calls.frame_on x i)) polled ∙ ap (run q) (frame_is _ _ i other)
      ∙ frame_carries_out q (kind_in i) (address_in i) (value_in i) (ready_at pins k.rest.live) (sendable q (address_in i) (value_in i) f.0.address f.0.value)
      other in
      subst Told (sym (e ∙ t.1)) (poll_ready_iff _ (rest-placed q true t.0 _ k.rest.live))

  second_told : (x : Call) → IsLetThrough (request_of x) s → left_at_first (request_of x) pins ≤ 4096 → polls_twice (request_of x) ≡ true →
      Told (pins_at_second (request_of x) pins)
  unfolding run
  second_told Greet h b twice = absurd (false≢true twice)
  second_told Settle h b twice = absurd (false≢true twice)
  second_told Open h b twice = absurd (false≢true twice)
  second_told Shut h b twice = absurd (false≢true twice)
  second_told (Read address) h b twice = absurd (false≢true twice)
  second_told (Run address count) h b twice = absurd (false≢true twice)
  second_told (Write address value) h b twice = changed-told (instruction.Write address value) refl refl h b
  second_told (Erase address) h b twice = changed-told (instruction.Erase address) refl refl h b
  second_told (Fill value) h b twice = changed-told (instruction.Wrall value) refl refl h b
  second_told Clear h b twice = changed-told instruction.Eral refl refl h b

-- what an answer was refused for
abbrev programming : Answer → Bool
programming r = elim r [ Ok _ ↦ false | Err e ↦ is_programming e.cause ]

abbrev unfinished : Answer → Bool
unfinished r = elim r [ Ok _ ↦ false | Err e ↦ is_unfinished e.cause ]

abbrev First : Checked → ℕ → Answer → Type 0
First c left r = (r ≡ Err (refusal Busy 0)) ↔ ((c ≡ Ok tt) × (4096 < left))

abbrev Second : Checked → ℕ → Type 0 → Answer → Type 0
Second c left long r = (r ≡ Err (refusal Unfinished 0)) ↔ ((c ≡ Ok tt) × (left ≤ 4096) × long)

refused_early : (e : Refusal) (left : ℕ) (long : Type 0) → is_programming e.cause ≡ false → First (Err e) left (Err e) × Second (Err e) left long (Err e)
refused_early e left long h = (
  (λ k. absurd (both_ways _ h (ap programming k)), λ k. absurd (ok_not_err tt e (sym k.0))),
  (λ k. absurd (both_ways _ h (ap programming k)), λ k. absurd (ok_not_err tt e (sym k.0))),
)

busy_first : (u : Unit {0}) (left : ℕ) (long : Type 0) → 4096 < left → First (Ok u) left (Err (refusal Busy 0)) × Second (Ok u) left long (Err (refusal Busy 0))
busy_first u left long h = (
  (λ _. (refl, h), λ _. refl),
  (λ k. absurd (false≢true (ap unfinished k)), λ k. absurd (omega (arith, k.1))),
)

done_all : (u : Unit {0}) (left : ℕ) (long : Type 0) → left ≤ 4096 → (long → ⊥) → First (Ok u) left (Ok tt) × Second (Ok u) left long (Ok tt)
done_all u left long h none = (
  (λ k. absurd (ok_not_err tt _ k), λ k. absurd (omega (arith, k.1))),
  (λ k. absurd (ok_not_err tt _ k), λ k. absurd (none k.2)),
)

busy_second : (u : Unit {0}) (left : ℕ) (long : Type 0) → left ≤ 4096 → long →
    First (Ok u) left (Err (refusal Unfinished 0)) × Second (Ok u) left long (Err (refusal Unfinished 0))
busy_second u left long h is = (
  (λ k. absurd (false≢true (ap unfinished (sym k))), λ k. absurd (omega (arith, k.1))),
  (λ _. (refl, h, is), λ _. refl),
)

-- after a first polling that found the chip ready
rest_answered : (u : Unit {0}) (left : ℕ) (twice : Bool) (p : Pins) → left ≤ 4096 → (twice ≡ true → Told p) →
    let r = answer_at (stage_by (Ok u) true (not twice || is_ready p)) in
    First (Ok u) left r × Second (Ok u) left ((twice ≡ true) × (4096 < left_on p)) r
rest_answered u left false p h told = done_all u left ((false ≡ true) × (4096 < left_on p)) h (λ k. false≢true k.0)
rest_answered u left true p h told =
    let P : Bool → Type 0 = λ b.
    let r = answer_at (stage_by (Ok u) true b) in First (Ok u) left r × Second (Ok u) left ((true ≡ true) × (4096 < left_on p)) r in
    elim (leb_tells (left_on p) 4096) [
      | inl t ↦ subst P (sym (told refl ∙ t.0)) (done_all u left ((true ≡ true) × (4096 < left_on p)) h (λ k. absurd (omega (arith, k.1, t.1))))
      | inr t ↦ subst P (sym (told refl ∙ t.0)) (busy_second u left ((true ≡ true) × (4096 < left_on p)) h (refl, t.1))
    ]

answered : (c : Checked) (ready : Bool) (left : ℕ) (twice : Bool) (p : Pins) →
    ((e : Refusal) → c ≡ Err e → is_programming e.cause ≡ false) → (c ≡ Ok tt → ready ≡ leb left 4096) →
    (c ≡ Ok tt → left ≤ 4096 → twice ≡ true → Told p) →
    let r = answer_at (stage_by c ready (not twice || is_ready p)) in First c left r × Second c left ((twice ≡ true) × (4096 < left_on p)) r
answered (Err e) ready left twice p early first second = refused_early e left ((twice ≡ true) × (4096 < left_on p)) (early e refl)
answered (Ok u) ready left twice p early first second =
    let long : Type 0 = (twice ≡ true) × (4096 < left_on p) in
    let P : Bool → Type 0 = λ b.
    let r = answer_at (stage_by (Ok u) b (not twice || is_ready p)) in First (Ok u) left r × Second (Ok u) left long r in
    elim (leb_tells left 4096) [
      | inl t ↦ subst P (sym (first refl ∙ t.0)) (rest_answered u left twice p t.1 (second refl t.1))
      | inr t ↦ subst P (sym (first refl ∙ t.0)) (busy_first u left long t.1)
    ]

busy_at : (x : Call) (s : Driver) → Sound s → BusyAt (request_of x) s (performed unseen x s).answer
unfolding stage_of
busy_at x s sound =
    let p = s.chip.pins in
    let r = request_of x in
    let a =
    answered (check_of r p s.greeted s.opened) (is_ready (pins_at_first r p)) (left_at_first r p) (polls_twice r) (pins_at_second r p)
    (λ e h. (check_early x p s.greeted s.opened e h).0) (first_told s sound r) (second_told s sound x) in
    subst (λ answer. BusyAt r s answer) (sym (ap (λ o. o.answer) (performed-by_stage unseen x s)))
    (record { first = a.0; second = (λ e. let h = a.1.0 e in (h.0, h.1, h.2.0, h.2.1), λ h. a.1.1 (h.0, h.1, (h.2, h.3))) })

busies : (xs : List Call) (s : Driver) → Sound s → (i : ℕ) (e : Event) → slice_get (events_from unseen xs s) i ≡ Some e →
    BusyAt (request_of e.call) (end_from unseen (take i xs) s) e.answer
unfolding events_from end_from
busies [] s sound i e h = absurd (none-some e h)
busies (x ∷ xs) s sound zero e h =
    subst (λ (e : Event). BusyAt (request_of e.call) s e.answer) (same_Some (event x (performed unseen x s)) e h) (busy_at x s sound)
busies (x ∷ xs) s sound (suc i) e h = busies xs (performed unseen x s).after (sound_after s sound x) i e h

pub when_busy : (calls : List Call) (p : Pins) → Fitting p → WhenBusy calls p (events_on calls p)
when_busy calls p fits = busies calls (state false false (bare_chip p)) (sound_new p fits)
