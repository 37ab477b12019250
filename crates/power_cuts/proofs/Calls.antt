-- Each call sends samples with at most one change among their decisions.
use Rattle.std.proofs.Common.{if◌then◌else◌, ◌≡◌, ℕ, ◌-◌, Bool, true, false, List, [], ◌∷◌, ◌++◌, Ok, Err, refl, sym, ap, ◌∙◌, subst, inl, inr, zero-le, arith}
use Rattle.std.proofs.lemmas.Bool.Decides.{leb_tells}
use Rattle.std.proofs.lemmas.List.{append-nil}
use Rattle.protocol.specs.declared.instruction.Instruction.{Instruction}
use Rattle.protocol.specs.declared.instruction.Instruction.TheVariants as instruction
use Rattle.protocol.specs.Instructions.{address_in, value_in}
use Rattle.protocol.proofs.Table.{agreed}
use Rattle.chips.specs.declared.state.Decision.{Decision}
use Rattle.chips.specs.Pins.{Pins, Put, put_on}
use Rattle.wire.specs.Deciding.{decision_on, frame_on}
use Rattle.wire.specs.Frames.{idle}
use Rattle.wire.specs.Places.{left_on, Rest, Ready, Sendable, resting}
use Rattle.wire.specs.Polling.{polls, is_ready}
use Rattle.wire.specs.Runs.{run}
use Rattle.wire.proofs.Keeping.{run_appends}
use Rattle.wire.proofs.Polls.{poll_rests, poll_ready_iff}
use Rattle.wire.proofs.Resting.{idle-rests}
use Rattle.driver.specs.Checks.{Checked, greetable, admitted, changeable}
use Rattle.driver.specs.Outcome.{State}
use Rattle.driver.specs.Cases.{Request, Greet, Settle, Latch, Fetch, Change, stage_by, stage_of, is_finished, record_by, record_after, samples_at, samples_of}
use Rattle.decisions.specs.Decided.{decisions_with, decisions_of, decisions_in, no_change}
use Rattle.decisions.proofs.Folding.{decisions_append, decisions_are_noted}
use Rattle.decisions.proofs.Prefixes.{frame_decided, frame_rests}
use Rattle.decisions.proofs.Still.{no_clock_decides_nothing, rest_owes_none, polling_has_no_clock}
use Rattle.histories.proofs.Checks.{Admitted, admitted_finds, changeable_finds, sendable}
use Rattle.power_cuts.specs.Laws.{CallIsWhole, CallRests}
use Rattle.power_cuts.proofs.Few.{few, few_none, no_changes, few_then, then_few, few_cut}

-- samples of which at most one, or none, decides a change
abbrev IsFew : Pins → List Put → Type 0
IsFew p xs = few (decisions_of p xs) ≡ true

abbrev IsQuiet : Pins → List Put → Type 0
IsQuiet p xs = no_change (decisions_of p xs) ≡ true

nothing_quiet : (p : Pins) → IsQuiet p []
unfolding decisions_of no_change
nothing_quiet p = refl

quiet_few : (p : Pins) (xs : List Put) → IsQuiet p xs → IsFew p xs
quiet_few p xs h = few_none _ h

quiet_quiet : (p : Pins) (xs ys : List Put) → IsQuiet p xs → IsQuiet (run p xs) ys → IsQuiet p (xs ++ ys)
quiet_quiet p xs ys h g = ap no_change (decisions_append p xs ys) ∙ no_changes _ _ h g

quiet_then_few : (p : Pins) (xs ys : List Put) → IsQuiet p xs → IsFew (run p xs) ys → IsFew p (xs ++ ys)
quiet_then_few p xs ys h g = ap few (decisions_append p xs ys) ∙ then_few _ _ h g

few_then_quiet : (p : Pins) (xs ys : List Put) → IsFew p xs → IsQuiet (run p xs) ys → IsFew p (xs ++ ys)
few_then_quiet p xs ys h g = ap few (decisions_append p xs ys) ∙ few_then _ _ h g

-- polling
polls_quiet : (p : Pins) → Rest p → IsQuiet p (polls p)
unfolding decisions_in no_change
polls_quiet p r =
    ap no_change
    (decisions_are_noted 0 p (polls p) ∙ ap decisions_in (no_clock_decides_nothing 0 p (polls p) (rest_owes_none p r) (polling_has_no_clock p)))

polled_ready : (p : Pins) → Rest p → is_ready p ≡ true → run p (polls p) ≡ resting p 0
polled_ready p r h = poll_rests p r ∙ ap (resting p) none
  where
    none : left_on p - 4097 ≡ 0
    none =
        elim (leb_tells (left_on p) 4096) [
          | inl t ↦ omega (arith, t.1)
          | inr t ↦ let e : true ≡ false = sym h ∙ poll_ready_iff p r ∙ t.0 in cc e
        ]

ready_at : (p : Pins) → p.blank ≡ false → Ready (resting p 0)
ready_at p live = record { rest = record { live = live; low = refl; waiting = refl; dark = refl }; none = refl }

-- frames
one_few : (d : Decision) → few (d ∷ []) ≡ true
unfolding few no_change
one_few d = grind arith

frame_few : (p : Pins) (i : Instruction) → Ready p → Sendable p (address_in i) (value_in i) → IsFew p (frame_on p i)
frame_few p i r f = ap few (frame_decided p i r f) ∙ one_few _

wds_quiet : (p : Pins) → Ready p → IsQuiet p (frame_on p instruction.Wds)
unfolding no_change
wds_quiet p r = ap no_change (frame_decided p instruction.Wds r (sendable p 0 0 (agreed _ _).some zero-le))

-- What a call sends by its stage, which has no more than one change if neither part has.
at_stage_few : (check : Checked) (ready again : Bool) (p : Pins) (first more : List Put) →
    (check ≡ Ok tt → IsFew p first) → (check ≡ Ok tt → ready ≡ true → IsFew p (first ++ more)) →
    IsFew p (samples_at (stage_by check ready again) first more)
at_stage_few (Err e) ready again p first more f g = quiet_few p [] (nothing_quiet p)
at_stage_few (Ok u) false again p first more f g = f refl
at_stage_few (Ok u) true true p first more f g = g refl refl
at_stage_few (Ok u) true false p first more f g = g refl refl

-- A chip is at rest after a call by its stage, if it is after each part.
abbrev Rests : {V : Type 0} → State V → Request → Type 0
Rests s r = (record_after r s).0 ≡ true → Rest (run s.chip.pins (samples_of r s))

at_stage_rests : {V : Type 0} (r : Request) (s : State V) (check : Checked) (ready again : Bool) (first more : List Put) →
    let p = s.chip.pins in
    let stage = stage_by check ready again in
    (s.greeted ≡ true → Rest p) → (check ≡ Ok tt → Rest (run p first)) → (check ≡ Ok tt → ready ≡ true → Rest (run p (first ++ more))) →
    (if is_finished stage then record_by r s.greeted s.opened else (s.greeted, s.opened)).0 ≡ true → Rest (run p (samples_at stage first more))
unfolding run
at_stage_rests r s (Err e) ready again first more rests f g h = rests h
at_stage_rests r s (Ok u) false again first more rests f g h = f refl
at_stage_rests r s (Ok u) true true first more rests f g h = g refl refl
at_stage_rests r s (Ok u) true false first more rests f g h = g refl refl

polled_rests : (p : Pins) → Rest p → Rest (run p (polls p))
polled_rests p r = rw (poll_rests p r) (record { live = r.live; low = refl; waiting = refl; dark = refl })

module _ {V : Type 0} (s : State V) (rests : s.greeted ≡ true → Rest s.chip.pins) where
  abbrev p : Pins
  p = s.chip.pins

  first_few : s.greeted ≡ true → IsFew p (polls p)
  first_few g = quiet_few p (polls p) (polls_quiet p (rests g))

  -- an instruction that is admitted may be sent once polling has found the chip ready
  framed : (i : Instruction) → Admitted p s.greeted i → is_ready p ≡ true →
      let q = run p (polls p) in Ready q × Sendable q (address_in i) (value_in i)
  framed i a ready =
      let e : run p (polls p) ≡ resting p 0 = polled_ready p (rests a.met) ready in
      rw e (ready_at p a.live, sendable (resting p 0) (address_in i) (value_in i) a.address a.value)

  -- and what is quiet after its frame
  framed_few : (i : Instruction) (more : List Put) → Admitted p s.greeted i → is_ready p ≡ true →
      let q = run p (polls p) in
      (Rest (run q (frame_on q i)) → IsQuiet (run q (frame_on q i)) more) → IsFew p (polls p ++ (frame_on q i ++ more))
  framed_few i more a ready quiet =
      let q = run p (polls p) in
      let f = framed i a ready in
      quiet_then_few p (polls p) (frame_on q i ++ more) (polls_quiet p (rests a.met))
      (few_then_quiet q (frame_on q i) more (frame_few q i f.0 f.1) (quiet (frame_rests q i f.0 f.1)))

  settle_few : IsFew p (samples_of Settle s)
  unfolding stage_of samples_of run
  settle_few =
      let check = admitted p s.greeted instruction.Wds in
      let met : check ≡ Ok tt → s.greeted ≡ true = λ h. (admitted_finds p s.greeted instruction.Wds h).met in
      at_stage_few check (is_ready p) true p (polls p) ([] ++ []) (λ h. first_few (met h))
      (λ h _. subst (IsFew p) (sym (append-nil (polls p))) (first_few (met h)))

  turn_few : (opened : Bool) (i : Instruction) → IsFew p (samples_of (Latch opened i) s)
  unfolding stage_of samples_of run
  turn_few opened i =
      let check = admitted p s.greeted i in
      at_stage_few check (is_ready p) true p (polls p) (frame_on (run p (polls p)) i ++ [])
      (λ h. first_few (admitted_finds p s.greeted i h).met)
      (λ h ready. framed_few i [] (admitted_finds p s.greeted i h) ready (λ _. nothing_quiet _))

  fetch_few : (address count : ℕ) → IsFew p (samples_of (Fetch address count) s)
  unfolding stage_of samples_of run
  fetch_few address count =
      let i = instruction.Read address count in
      let check = admitted p s.greeted i in
      at_stage_few check (is_ready p) true p (polls p) (frame_on (run p (polls p)) i ++ [])
      (λ h. first_few (admitted_finds p s.greeted i h).met)
      (λ h ready. framed_few i [] (admitted_finds p s.greeted i h) ready (λ _. nothing_quiet _))

  change_few : (i : Instruction) → IsFew p (samples_of (Change i) s)
  unfolding stage_of samples_of run
  change_few i =
      let check = changeable p s.greeted s.opened i in
      let q = run p (polls p) in
      at_stage_few check (is_ready p) (is_ready (run q (frame_on q i))) p (polls p) (frame_on q i ++ polls (run q (frame_on q i)))
      (λ h. first_few (changeable_finds p s.greeted s.opened i h).0.met)
      (λ h ready. framed_few i (polls (run q (frame_on q i))) (changeable_finds p s.greeted s.opened i h).0 ready (polls_quiet _))

  -- greeting: the idle sample may end an instruction that others began
  idle_few : IsFew p (idle ∷ [])
  unfolding decisions_of few no_change
  idle_few = by (decision_on p idle)
    where
      by : (d : Decision) → few (decisions_with d []) ≡ true
      by d = grind arith

  greet_few : IsFew p (samples_of Greet s)
  unfolding stage_of samples_of run
  greet_few =
      let q = put_on p idle in
      let first = (idle ∷ []) ++ polls q in
      let last = run q (polls q) in
      let rest_at : greetable p ≡ Ok tt → Rest q = λ h. let live : p.blank ≡ false = grind arith in idle-rests p live in
      let polled : greetable p ≡ Ok tt → IsFew p first = λ h. few_then_quiet p (idle ∷ []) (polls q) idle_few (polls_quiet q (rest_at h)) in
      at_stage_few (greetable p) (is_ready q) true p first (frame_on last instruction.Wds ++ []) polled
      (λ h ready. let r : Ready last = subst Ready (sym (polled_ready q (rest_at h) ready)) (ready_at q (rest_at h).live) in
      few_then_quiet p first (frame_on last instruction.Wds ++ []) (polled h) (quiet_quiet last (frame_on last instruction.Wds) [] (wds_quiet last r) (nothing_quiet _)))

  -- the chip at rest afterwards
  framed_rest : (i : Instruction) (more : List Put) → Admitted p s.greeted i → is_ready p ≡ true →
      let q = run p (polls p) in
      (Rest (run q (frame_on q i)) → Rest (run (run q (frame_on q i)) more)) → Rest (run p (polls p ++ (frame_on q i ++ more)))
  framed_rest i more a ready later =
      let q = run p (polls p) in
      let f = framed i a ready in
      rw (run_appends p (polls p) (frame_on q i ++ more), run_appends q (frame_on q i) more) (later (frame_rests q i f.0 f.1))

  settle_rests : Rests s Settle
  unfolding stage_of samples_of run
  settle_rests =
      let check = admitted p s.greeted instruction.Wds in
      let polled : check ≡ Ok tt → Rest (run p (polls p)) = λ h. polled_rests p (rests (admitted_finds p s.greeted instruction.Wds h).met) in
      at_stage_rests Settle s check (is_ready p) true (polls p) ([] ++ []) rests polled
      (λ h _. subst (λ (xs : List Put). Rest (run p xs)) (sym (append-nil (polls p))) (polled h))

  latch_rests : (opened : Bool) (i : Instruction) → Rests s (Latch opened i)
  unfolding stage_of samples_of run
  latch_rests opened i =
      let check = admitted p s.greeted i in
      at_stage_rests (Latch opened i) s check (is_ready p) true (polls p) (frame_on (run p (polls p)) i ++ []) rests
      (λ h. polled_rests p (rests (admitted_finds p s.greeted i h).met))
      (λ h ready. framed_rest i [] (admitted_finds p s.greeted i h) ready (λ r. r))

  fetch_rests : (address count : ℕ) → Rests s (Fetch address count)
  unfolding stage_of samples_of run
  fetch_rests address count =
      let i = instruction.Read address count in
      let check = admitted p s.greeted i in
      at_stage_rests (Fetch address count) s check (is_ready p) true (polls p) (frame_on (run p (polls p)) i ++ []) rests
      (λ h. polled_rests p (rests (admitted_finds p s.greeted i h).met))
      (λ h ready. framed_rest i [] (admitted_finds p s.greeted i h) ready (λ r. r))

  change_rests : (i : Instruction) → Rests s (Change i)
  unfolding stage_of samples_of run
  change_rests i =
      let check = changeable p s.greeted s.opened i in
      let q = run p (polls p) in
      at_stage_rests (Change i) s check (is_ready p) (is_ready (run q (frame_on q i))) (polls p) (frame_on q i ++ polls (run q (frame_on q i))) rests
      (λ h. polled_rests p (rests (changeable_finds p s.greeted s.opened i h).0.met))
      (λ h ready. framed_rest i (polls (run q (frame_on q i))) (changeable_finds p s.greeted s.opened i h).0 ready (polled_rests _))

  greet_rests : Rests s Greet
  unfolding stage_of samples_of run
  greet_rests =
      let q = put_on p idle in
      let first = (idle ∷ []) ++ polls q in
      let last = run q (polls q) in
      let rest_at : greetable p ≡ Ok tt → Rest q = λ h. let live : p.blank ≡ false = grind arith in idle-rests p live in
      at_stage_rests Greet s (greetable p) (is_ready q) true first (frame_on last instruction.Wds ++ []) rests
      (λ h. polled_rests q (rest_at h))
      (λ h ready. let r : Ready last = subst Ready (sym (polled_ready q (rest_at h) ready)) (ready_at q (rest_at h).live) in
      rw (run_appends q (polls q) (frame_on last instruction.Wds ++ []), append-nil (frame_on last instruction.Wds))
      (frame_rests last instruction.Wds r (sendable last 0 0 (agreed _ _).some zero-le)))

  pub call_few : (r : Request) → few (decisions_of s.chip.pins (samples_of r s)) ≡ true
  call_few Greet = greet_few
  call_few Settle = settle_few
  call_few (Latch opened i) = turn_few opened i
  call_few (Fetch address count) = fetch_few address count
  call_few (Change i) = change_few i

pub call_is_whole : {V : Type 0} → CallIsWhole V
call_is_whole r s k rests = few_cut s.chip.pins (samples_of r s) k (call_few s rests r)

pub call_rests : {V : Type 0} → CallRests V
call_rests Greet s rests h = greet_rests s rests h
call_rests Settle s rests h = settle_rests s rests h
call_rests (Latch opened i) s rests h = latch_rests s rests opened i h
call_rests (Fetch address count) s rests h = fetch_rests s rests address count h
call_rests (Change i) s rests h = change_rests s rests i h
