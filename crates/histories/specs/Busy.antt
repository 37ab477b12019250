-- When a call finds the chip still programming.
use Rattle.std.specs.Prelude.{◌≡◌, ℕ, ◌<◌, ◌≤◌, ◌↔◌, true, List, Some, Ok, Err, slice_get}
use Rattle.protocol.specs.declared.refusal.Cause.TheVariants.{Busy, Unfinished}
use Rattle.protocol.specs.Refusals.{refusal}
use Rattle.chips.specs.Pins.{Pins}
use Rattle.wire.specs.Places.{left_on}
use Rattle.wire.specs.Polling.{most_tries}
use Rattle.driver.specs.Cases.{Request, check_of, pins_at_first, pins_at_second, polls_twice}
use Rattle.driver.specs.Outcome.{State}
use Rattle.histories.specs.declared.call.Call.{Call}
use Rattle.histories.specs.Events.{Answer, Event}
use Rattle.histories.specs.Handed.{driver_after}
use Rattle.histories.specs.Requests.{request_of}

-- How many samples of a cycle are left as the first polling of a call begins, and as its second begins.
abbrev pub left_at_first : Request → Pins → ℕ
left_at_first r p = left_on (pins_at_first r p)

abbrev pub left_at_second : Request → Pins → ℕ
left_at_second r p = left_on (pins_at_second r p)

abbrev pub IsLetThrough : Request → State (Unit {0}) → Type 0
IsLetThrough r s = check_of r s.chip.pins s.greeted s.opened ≡ Ok tt

-- A driver that stands at s is asked for this, and answers: 14 exactly where it lets the call through and more than
-- 4,096 samples are left as the first polling begins; 15 exactly where it lets it through, no more are left then, but
-- more are as the second begins.
pub record BusyAt (r : Request) (s : State (Unit {0})) (answer : Answer) : Type 0 where
  pub first : (answer ≡ Err (refusal Busy 0)) ↔ (IsLetThrough r s × (most_tries < left_at_first r s.chip.pins))
  pub second : (answer ≡ Err (refusal Unfinished 0))
      ↔ (IsLetThrough r s × (left_at_first r s.chip.pins ≤ most_tries)
      × (polls_twice r ≡ true) × (most_tries < left_at_second r s.chip.pins))

-- each call of a history of a new driver on a chip of this meaning
abbrev pub WhenBusy : List Call → Pins → List Event → Type 0
WhenBusy calls p es = (i : ℕ) (e : Event) → slice_get es i ≡ Some e → BusyAt (request_of e.call) (driver_after calls p i) e.answer
