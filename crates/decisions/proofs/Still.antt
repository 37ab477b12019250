-- Without a clock a chip that owes nothing decides nothing.
use Rattle.decisions.proofs.Folding.{decisions_are_noted}
use Rattle.wire.specs.Runs.{run}
use Rattle.std.proofs.lemmas.List.{take-append-drop}
use Rattle.std.proofs.Common.{◌≡◌, ℕ, zero, suc, Bool, true, false, not, [], ◌∷◌, ◌++◌, refl, ap, ◌∙◌, arith, ◌&&◌, take, drop, List}
use Rattle.std.proofs.lemmas.Bool.{cond_both, and_parts, and_from}
use Rattle.protocol.specs.declared.sample.Sample.{Sample}
use Rattle.protocol.specs.declared.settings.Setup.{Setup}
use Rattle.chips.specs.declared.state.Decision.{Decision}
use Rattle.chips.specs.declared.state.Decision.TheVariants.{Nothing}
use Rattle.chips.specs.declared.state.Phase.{Phase}
use Rattle.chips.specs.declared.state.Phase.TheVariants.{Waiting, Taking, Reading, Spoiled, Over}
use Rattle.chips.specs.declared.state.State.{State}
use Rattle.chips.specs.Control.{Turn, turn_to, ending, aged, ended, deselected, is_busy_rise, shown_busy, is_clock, turned, turn}
use Rattle.chips.specs.Machine.{step}
use Rattle.chips.specs.Pins.{Pins, Put, sample_of, put_on}
use Rattle.wire.specs.Deciding.{decision_on, notes_with, notes}
use Rattle.wire.specs.Frames.{selected, rest, idle}
use Rattle.wire.specs.Places.{Rest}
use Rattle.wire.specs.Polling.{shows_busy, tries, most_tries, polls}
use Rattle.decisions.specs.Decided.{owes, has_no_clock, decisions_in, is_unselected}
use Rattle.decisions.specs.Laws.{NoClockDecidesNothing, PollingHasNoClock, PollTake, UnselectedHasNoClock, UnselectedRests}

record Calm (t : Turn) : Type 0 where
  pub nothing : t.decision ≡ Nothing
  pub owes_none : owes t.state.phase ≡ false

no_clock : (s : Sample) (st : State) → s.cs && s.sk ≡ false → is_clock s st ≡ false
no_clock s st h = grind arith

module _ (setup : Setup) where
  ends_none : (enabled pe : Bool) (phase : Phase) → owes phase ≡ false → ending setup enabled pe phase ≡ Nothing
  ends_none enabled pe Waiting h = refl
  ends_none enabled pe (Taking width count bits) h = cc
  ends_none enabled pe (Reading width cell next) h = refl
  ends_none enabled pe Spoiled h = cc
  ends_none enabled pe Over h = refl

  ended_none : (s : Sample) (st : State) → owes st.phase ≡ false → ended setup s st ≡ Nothing
  ended_none s st h =
      cond_both st.cs (ending setup st.enabled s.pe st.phase) Nothing (λ d. d ≡ Nothing) (λ _. ends_none st.enabled s.pe st.phase h) (λ _. refl)

  turned_calm : (s : Sample) (st : State) → owes st.phase ≡ false → s.cs && s.sk ≡ false → Calm (turned setup s st)
  turned_calm s st h low =
      cond_both (not s.cs) (deselected setup (ended setup s st) st) _ Calm
      (λ _. record { nothing = ended_none s st h; owes_none = refl })
      (λ _. cond_both (is_busy_rise st) (turn_to Nothing (shown_busy st)) _ Calm (λ _. record { nothing = refl; owes_none = refl })
      (λ _. rw (no_clock s st low) (record { nothing = refl; owes_none = h })))

  turn_calm : (s : Sample) (st : State) → owes st.phase ≡ false → s.cs && s.sk ≡ false → Calm (turn setup st s)
  unfolding turn
  turn_calm s st h low = let c = turned_calm s (aged st) h low in record { nothing = c.nothing; owes_none = c.owes_none }

module _ (p : Pins) (x : Put) (h : owes p.machine.state.phase ≡ false) (low : x.cs && x.sk ≡ false) where
  abbrev t : Turn
  t = turn p.machine.setup p.machine.state (sample_of p x)

  put_nothing : decision_on p x ≡ Nothing
  put_nothing =
      cond_both p.blank Nothing t.decision (λ d. d ≡ Nothing) (λ _. refl) (λ _. (turn_calm p.machine.setup (sample_of p x) p.machine.state h low).nothing)

  put_owes_none : owes (put_on p x).machine.state.phase ≡ false
  unfolding put_on
  put_owes_none =
      cond_both p.blank p.machine (step p.machine (sample_of p x)) (λ m. owes m.state.phase ≡ false) (λ _. h)
      (λ _. (turn_calm p.machine.setup (sample_of p x) p.machine.state h low).owes_none)

is_low : (b : Bool) → not b ≡ true → b ≡ false
is_low b h = grind arith

pub no_clock_decides_nothing : NoClockDecidesNothing
unfolding notes has_no_clock
no_clock_decides_nothing place p [] h s = refl
no_clock_decides_nothing place p (x ∷ xs) h s =
    let both = and_parts (not (x.cs && x.sk)) (has_no_clock xs) s in
    let low : x.cs && x.sk ≡ false = is_low (x.cs && x.sk) both.0 in
    ap (λ (d : Decision). notes_with place d (notes (suc place) (put_on p x) xs)) (put_nothing p x h low)
    ∙ no_clock_decides_nothing (suc place) (put_on p x) xs (put_owes_none p x h low) both.1

tries_still : (n : ℕ) (p : Pins) → has_no_clock (tries n p ++ rest) ≡ true
unfolding tries has_no_clock
tries_still zero p = refl
tries_still (suc n) p =
    cond_both (shows_busy p) (tries n (put_on p selected)) [] (λ xs. has_no_clock (xs ++ rest) ≡ true) (λ _. tries_still n (put_on p selected)) (λ _. refl)

pub polling_has_no_clock : PollingHasNoClock
polling_has_no_clock p = tries_still most_tries p

no_clock_first : (xs ys : List Put) → has_no_clock (xs ++ ys) ≡ true → has_no_clock xs ≡ true
unfolding has_no_clock
no_clock_first [] ys h = refl
no_clock_first (x ∷ xs) ys h =
    let both = and_parts (not (x.cs && x.sk)) (has_no_clock (xs ++ ys)) h in and_from (not (x.cs && x.sk)) (has_no_clock xs) both.0 (no_clock_first xs ys both.1)

pub rest_owes_none : (p : Pins) → Rest p → owes p.machine.state.phase ≡ false
rest_owes_none p r = rw r.waiting

pub idle_still : has_no_clock rest ≡ true
unfolding has_no_clock
idle_still = refl

pub idle_decides_nothing : (place : ℕ) (p : Pins) → Rest p → notes place p (idle ∷ []) ≡ []
idle_decides_nothing place p r = no_clock_decides_nothing place p rest (rest_owes_none p r) idle_still

poll_decides_nothing : (place : ℕ) (p : Pins) (xs ys : List Put) → Rest p → xs ++ ys ≡ polls p → notes place p xs ≡ []
poll_decides_nothing place p xs ys r h =
    no_clock_decides_nothing place p xs (rest_owes_none p r) (no_clock_first xs ys (ap has_no_clock h ∙ polling_has_no_clock p))

pub poll_take : PollTake
unfolding decisions_in
poll_take p k r =
    decisions_are_noted 0 p _ ∙ ap decisions_in (poll_decides_nothing 0 p (take k (polls p)) (drop k (polls p)) r (take-append-drop k (polls p)))

-- not selected
no_cs : (b c : Bool) → not b ≡ true → not (b && c) ≡ true
no_cs b c h = grind arith

pub unselected_has_no_clock : UnselectedHasNoClock
unfolding is_unselected has_no_clock
unselected_has_no_clock [] h = refl
unselected_has_no_clock (x ∷ xs) h =
    let both = and_parts (not x.cs) (is_unselected xs) h in
    and_from (not (x.cs && x.sk)) (has_no_clock xs) (no_cs x.cs x.sk both.0) (unselected_has_no_clock xs both.1)

put_rests : (p : Pins) (x : Put) → Rest p → x.cs ≡ false → Rest (put_on p x)
unfolding put_on turn
put_rests p x r low = record { live = r.live; low = simp (r.live, low); waiting = simp (r.live, low); dark = simp (r.live, low) }

pub unselected_rests : UnselectedRests
unfolding is_unselected run
unselected_rests p [] r h = r
unselected_rests p (x ∷ xs) r h =
    let both = and_parts (not x.cs) (is_unselected xs) h in unselected_rests (put_on p x) xs (put_rests p x r (is_low x.cs both.0)) both.1
