-- A chip that is selected while a cycle is under way.
use Rattle.wire.proofs.Keeping.{put_keeps_blank}
use Rattle.std.proofs.Common.{◌≡◌, ℕ, zero, suc, ◌-◌, ◌<◌, Bool, true, false, not, eqb, List, [], ◌∷◌, ◌++◌, refl, ap, ◌∙◌, arith, ◌&&◌}
use Rattle.std.proofs.lemmas.Bool.{cond_both, and_parts}
use Rattle.std.proofs.lemmas.Bool.Decides.{nat_tests}
use Rattle.protocol.specs.declared.instruction.Instruction.{Instruction as Sent}
use Rattle.protocol.specs.declared.parts.Part.{Part}
use Rattle.protocol.specs.declared.parts.Width.{Width}
use Rattle.protocol.specs.declared.sample.Sample.{Sample}
use Rattle.protocol.specs.declared.settings.Setup.{Setup}
use Rattle.chips.specs.declared.state.Decision.{Decision}
use Rattle.chips.specs.declared.state.Decision.TheVariants.{Nothing}
use Rattle.chips.specs.declared.state.Phase.TheVariants.{Over}
use Rattle.chips.specs.declared.state.State.{State}
use Rattle.chips.specs.Control.{Turn, turn_to, aged, ended, deselected, is_busy_rise, shown_busy, is_clock, clocked, turned, turn}
use Rattle.chips.specs.Pins.{Pins, Put, sample_of, put_on}
use Rattle.wire.specs.Deciding.{decision_on, notes_with, notes}
use Rattle.wire.specs.Fields.{count_in, code_in, zeros_in}
use Rattle.wire.specs.Frames.{selected, rest, clock, bit_at, clocks, opening, frame_of}
use Rattle.wire.specs.Places.{width_on, left_on, Rest}
use Rattle.wire.proofs.Whole.{in_parts}
use Rattle.decisions.specs.Laws.{BusyFrame}
use Rattle.decisions.proofs.Still.{no_clock_decides_nothing, idle_still, idle_decides_nothing}

-- CS stays high
unfoldable is_selected : List Put → Bool
is_selected [] = true
is_selected (x ∷ xs) = x.cs && is_selected xs

record Stays (t : Turn) : Type 0 where
  pub nothing : t.decision ≡ Nothing
  pub over : t.state.phase ≡ Over

both_not : (b : Bool) → not b ≡ true → b ≡ true → ⊥
both_not b h g = grind arith

module _ (setup : Setup) (s : Sample) (st : State) (high : s.cs ≡ true) where
  stays_over : st.phase ≡ Over → Stays (turned setup s st)
  stays_over e =
      cond_both (not s.cs) (deselected setup (ended setup s st) st) _ Stays (λ t. absurd (both_not s.cs t high))
      (λ _. cond_both (is_busy_rise st) (turn_to Nothing (shown_busy st)) _ Stays (λ _. record { nothing = refl; over = refl })
      (λ _. cond_both (is_clock s st) (clocked setup s st.phase st) (turn_to Nothing st) Stays (λ _. clocked_over e)
      (λ _. record { nothing = refl; over = e })))
    where
      clocked_over : st.phase ≡ Over → Stays (clocked setup s st.phase st)
      clocked_over e = rw e (record { nothing = refl; over = refl })

  rises_over : is_busy_rise st ≡ true → Stays (turned setup s st)
  rises_over b = rw (high, b) (record { nothing = refl; over = refl })

module _ (p : Pins) (x : Put) (high : x.cs ≡ true) where
  abbrev t : Turn
  t = turn p.machine.setup p.machine.state (sample_of p x)

  put_stays : Stays t → p.blank ≡ false → (decision_on p x ≡ Nothing) × ((put_on p x).machine.state.phase ≡ Over)
  unfolding put_on
  put_stays h live = (rw live h.nothing, rw live h.over)

  over_stays : p.machine.state.phase ≡ Over → Stays t
  unfolding turn
  over_stays e = let h = stays_over p.machine.setup (sample_of p x) (aged p.machine.state) high e in record { nothing = h.nothing; over = h.over }

  busy_rises : Rest p → 1 < left_on p → Stays t
  unfolding turn
  busy_rises r l =
      let z : eqb (left_on p - 1) 0 ≡ false = grind (arith, nat_tests) in
      let b : is_busy_rise (aged p.machine.state) ≡ true = simp (r.low, z) in
      let h = rises_over p.machine.setup (sample_of p x) (aged p.machine.state) high b in record { nothing = h.nothing; over = h.over }

over_none : (place : ℕ) (p : Pins) (xs : List Put) → p.blank ≡ false → p.machine.state.phase ≡ Over → is_selected xs ≡ true → notes place p (xs ++ rest) ≡ []
unfolding notes is_selected
over_none place p [] live e h = no_clock_decides_nothing place p rest (rw e) idle_still
over_none place p (x ∷ xs) live e h =
    let both = and_parts x.cs (is_selected xs) h in
    let t = put_stays p x both.0 (over_stays p x both.0 e) live in
    ap (λ (d : Decision). notes_with place d (notes (suc place) (put_on p x) (xs ++ rest))) t.0
    ∙ over_none (suc place) (put_on p x) xs (put_keeps_blank p x ∙ live) t.1 both.1

-- So until CS has been low again nothing is decided.
busy_decides_nothing : (place : ℕ) (p : Pins) (xs : List Put) → Rest p → 1 < left_on p → is_selected xs ≡ true →
    notes place p (xs ++ rest) ≡ []
unfolding notes is_selected
busy_decides_nothing place p [] r l h = idle_decides_nothing place p r
busy_decides_nothing place p (x ∷ xs) r l h =
    let both = and_parts x.cs (is_selected xs) h in
    let t = put_stays p x both.0 (busy_rises p x both.0 r l) r.live in
    ap (λ (d : Decision). notes_with place d (notes (suc place) (put_on p x) (xs ++ rest))) t.0
    ∙ over_none (suc place) (put_on p x) xs (put_keeps_blank p x ∙ r.live) t.1 both.1

-- a frame is selected but for its last sample
clocks_append : (n code : ℕ) (xs ys : List Put) → clocks n code (xs ++ ys) ≡ clocks n code xs ++ ys
unfolding clocks
clocks_append zero code xs ys = refl
clocks_append (suc n) code xs ys = ap (clock (bit_at code n)) (clocks_append n code xs ys)

clocks_select : (n code : ℕ) (xs : List Put) → is_selected (clocks n code xs) ≡ is_selected xs
unfolding clocks is_selected
clocks_select zero code xs = refl
clocks_select (suc n) code xs = clocks_select n code xs

abbrev before_last : Part → Width → Sent → List Put
before_last part width i = opening (count_in part width i) (code_in part width i) (clocks (zeros_in width i) 0 (selected ∷ []))

frame_splits : (part : Part) (width : Width) (i : Sent) → frame_of part width i ≡ before_last part width i ++ rest
frame_splits part width i =
    in_parts part width i
    ∙ ap (λ xs. opening (count_in part width i) (code_in part width i) xs) (clocks_append (zeros_in width i) 0 (selected ∷ []) rest)
    ∙ ap (λ xs. selected ∷ clock true xs) (clocks_append (count_in part width i) (code_in part width i) (clocks (zeros_in width i) 0 (selected ∷ [])) rest)

frame_selects : (part : Part) (width : Width) (i : Sent) → is_selected (before_last part width i) ≡ true
unfolding is_selected
frame_selects part width i =
    clocks_select (count_in part width i) (code_in part width i) (clocks (zeros_in width i) 0 (selected ∷ []))
    ∙ clocks_select (zeros_in width i) 0 (selected ∷ [])

pub busy_frame : BusyFrame
busy_frame place p i r l =
    let part = p.machine.setup.part in
    let width = width_on p in
    ap (notes place p) (frame_splits part width i) ∙ busy_decides_nothing place p (before_last part width i) r l (frame_selects part width i)
