-- Single samples at the places that polling comes through, and the idle sample.
use Rattle.std.proofs.Common.{◌≡◌, ℕ, ◌-◌, ◌<◌, ◌≤◌, true, false, eqb, arith}
use Rattle.std.proofs.lemmas.Bool.Decides.{nat_tests}
use Rattle.chips.specs.declared.state.Phase.TheVariants.{Waiting, Over}
use Rattle.chips.specs.Control.{turn}
use Rattle.chips.specs.Machine.{shown}
use Rattle.chips.specs.Pins.{Pins, put_on}
use Rattle.wire.specs.Frames.{idle, selected}
use Rattle.wire.specs.Places.{Rest, left_on, placed, resting}
use Rattle.wire.specs.Laws.{IdleRests}

-- selected with no cycle under way
abbrev pub chosen : Pins → Pins
chosen p =
    placed p (record { enabled = p.machine.state.enabled; left = 0; status = false; cs = true; sk = false; phase = Waiting }) p.machine.bytes 2

-- selected while a cycle goes on, or went on
abbrev pub watched : Pins → ℕ → Pins
watched p left =
    placed p (record { enabled = p.machine.state.enabled; left = left; status = true; cs = true; sk = false; phase = Over }) p.machine.bytes
    (shown true left)

pub idle-rests : IdleRests
unfolding put_on turn
idle-rests p live = record { live = live; low = simp live; waiting = simp live; dark = simp live }

module _ (p : Pins) (live : p.blank ≡ false) where
  pub watch_on : (left : ℕ) → put_on (watched p left) selected ≡ watched p (left - 1)
  unfolding put_on turn
  watch_on left = simp live

  pub watch_idle : (left : ℕ) → put_on (watched p left) idle ≡ resting p (left - 1)
  unfolding put_on turn
  watch_idle left = simp live

  pub chosen-idle : put_on (chosen p) idle ≡ resting p 0
  unfolding put_on turn
  chosen-idle = simp live

module _ (p : Pins) (r : Rest p) where
  pub choose_ready : left_on p ≤ 1 → put_on p selected ≡ chosen p
  unfolding put_on turn
  choose_ready h = let z : left_on p - 1 ≡ 0 = omega arith in simp (r.live, z, r.low, r.waiting, r.dark)

  pub choose_busy : 1 < left_on p → put_on p selected ≡ watched p (left_on p - 1)
  unfolding put_on turn
  choose_busy h = let z : eqb (left_on p - 1) 0 ≡ false = grind (arith, nat_tests) in simp (r.live, z, r.low, r.waiting, r.dark)
