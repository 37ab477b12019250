-- What a call of the driver does, by cases: how far it comes, what it then answers and records, and exactly which
-- samples it sends.
use Rattle.std.specs.Prelude.{◌≡◌, ℕ, ◌<◌, ◌↔◌, Bool, true, false, if◌then◌else◌, ◌||◌, not, List, [], ◌∷◌, ◌++◌, Ok, Err}
use Rattle.protocol.specs.declared.instruction.Instruction.{Instruction}
use Rattle.protocol.specs.declared.instruction.Instruction.TheVariants.{Read, Wds}
use Rattle.protocol.specs.declared.refusal.Cause.TheVariants.{Busy, Unfinished}
use Rattle.protocol.specs.declared.refusal.Refusal.{Refusal}
use Rattle.protocol.specs.Refusals.{refusal}
use Rattle.chips.specs.declared.chip.Chip.{Ghosts}
use Rattle.chips.specs.Pins.{Pins, Put}
use Rattle.wire.specs.Frames.{idle}
use Rattle.wire.specs.Places.{Rest, left_on}
use Rattle.wire.specs.Polling.{most_tries, polls, is_ready}
use Rattle.wire.specs.Runs.{run}
use Rattle.wire.specs.Sent.{Sends}
use Rattle.driver.specs.declared.driver.Driver.{Driver}
use Rattle.driver.specs.Calls.{frame_on, words_on}
use Rattle.driver.specs.Checks.{Checked, greetable, admitted, changeable}
use Rattle.driver.specs.Held.{held}
use Rattle.driver.specs.Outcome.{State}

-- What a driver is asked for. A latch is open or shut: whether the driver then counts as open, and what it sends. A
-- fetch is read or run: an address, and how many words. A change is write, erase, fill or clear.
pub data Request : Type 0 where
  Greet : Request
  Settle : Request
  Latch : (opened : Bool) (i : Instruction) → Request
  Fetch : (address count : ℕ) → Request
  Change : (i : Instruction) → Request

-- what it is refused for before anything is sent
abbrev pub check_of : Request → Pins → Bool → Bool → Checked
check_of Greet p greeted opened = greetable p
check_of Settle p greeted opened = admitted p greeted Wds
check_of (Latch turned i) p greeted opened = admitted p greeted i
check_of (Fetch address count) p greeted opened = admitted p greeted (Read address count)
check_of (Change i) p greeted opened = changeable p greeted opened i

-- Before its first polling a greet sends one idle sample, and every other call nothing.
abbrev pub lead_of : Request → List Put
lead_of Greet = idle ∷ []
lead_of Settle = []
lead_of (Latch turned i) = []
lead_of (Fetch address count) = []
lead_of (Change i) = []

-- After it comes the frame, to a chip as that polling left it; a settle only polls.
abbrev pub frame_by : Request → Pins → List Put
frame_by Greet p = frame_on p Wds
frame_by Settle p = []
frame_by (Latch turned i) p = frame_on p i
frame_by (Fetch address count) p = frame_on p (Read address count)
frame_by (Change i) p = frame_on p i

-- After its frame a change polls again.
abbrev pub polls_twice : Request → Bool
polls_twice Greet = false
polls_twice Settle = false
polls_twice (Latch turned i) = false
polls_twice (Fetch address count) = false
polls_twice (Change i) = true

-- the chip as the first polling begins, as it ends, and as the second begins
abbrev pub pins_at_first : Request → Pins → Pins
pins_at_first r p = run p (lead_of r)

abbrev pub pins_after_first : Request → Pins → Pins
pins_after_first r p = let q = pins_at_first r p in run q (polls q)

abbrev pub pins_at_second : Request → Pins → Pins
pins_at_second r p = let q = pins_after_first r p in run q (frame_by r q)

-- How far a call comes: it is refused before anything is sent; its first polling finds the chip still programming;
-- its frame is sent and taken, and the second polling finds the chip still programming; it is finished.
pub data Stage : Type 0 where
  Refused : (e : Refusal) → Stage
  Polled : Stage
  Started : Stage
  Finished : Stage

abbrev pub stage_by : Checked → Bool → Bool → Stage
stage_by (Err e) ready ready_again = Refused e
stage_by (Ok _) ready ready_again = if ready then (if ready_again then Finished else Started) else Polled

unfoldable pub stage_of : {V : Type 0} → Request → State V → Stage
stage_of r s =
    let p = s.chip.pins in
    let ready_again = not (polls_twice r) || is_ready (pins_at_second r p) in
    stage_by (check_of r p s.greeted s.opened) (is_ready (pins_at_first r p)) ready_again

-- what it answers
abbrev pub answer_at : Stage → Checked
answer_at (Refused e) = Err e
answer_at Polled = Err (refusal Busy 0)
answer_at Started = Err (refusal Unfinished 0)
answer_at Finished = Ok tt

abbrev pub answer_to : {V : Type 0} → Request → State V → Checked
answer_to r s = answer_at (stage_of r s)

abbrev pub is_finished : Stage → Bool
is_finished (Refused e) = false
is_finished Polled = false
is_finished Started = false
is_finished Finished = true

-- The record: has the driver greeted its chip, and does it count as open? After a greet it is greeted and shut.
abbrev pub record_by : Request → Bool → Bool → Bool × Bool
record_by Greet greeted opened = (true, false)
record_by Settle greeted opened = (greeted, opened)
record_by (Latch turned i) greeted opened = (greeted, turned)
record_by (Fetch address count) greeted opened = (greeted, opened)
record_by (Change i) greeted opened = (greeted, opened)

-- A call that is not finished leaves it.
abbrev pub record_after : {V : Type 0} → Request → State V → Bool × Bool
record_after r s = if is_finished (stage_of r s) then record_by r s.greeted s.opened else (s.greeted, s.opened)

-- Exactly the samples that it sends: none if it is refused; those up to the end of the first polling if that finds
-- the chip still programming; and else also the frame, and the second polling of a change.
abbrev pub samples_at : Stage → List Put → List Put → List Put
samples_at (Refused e) first more = []
samples_at Polled first more = first
samples_at Started first more = first ++ more
samples_at Finished first more = first ++ more

unfoldable pub samples_of : {V : Type 0} → Request → State V → List Put
samples_of r s =
    let p = s.chip.pins in
    let first = lead_of r ++ polls (pins_at_first r p) in
    let frame = frame_by r (pins_after_first r p) in
    let second = if polls_twice r then polls (pins_at_second r p) else [] in
    samples_at (stage_of r s) first (frame ++ second)

-- the words that a fetch hands out: those that the chip gives after the first polling, if it is finished
unfoldable pub words_of : {V : Type 0} → ℕ → ℕ → State V → List ℕ
words_of address count s =
    let r = Fetch address count in
    if is_finished (stage_of r s) then words_on (pins_after_first r s.chip.pins) address count else []

-- A driver was asked for this, went from one state to another, and answered: as far as the call came, and its chip,
-- whatever that keeps of samples, went on by exactly these samples.
pub record Follows {C : Type 0} (g : Ghosts C) (r : Request) (before after : Driver C) (result : Checked) : Type 0 where
  pub answer : result ≡ answer_to r (held g before)
  pub records : ((held g after).greeted, (held g after).opened) ≡ record_after r (held g before)
  pub sent : Sends g before.chip after.chip (samples_of r (held g before))

-- A settle that is let through, of a chip at rest, answers 14 exactly where the cycle has more than 4,096 samples left.
abbrev pub BusyIffLong : {V : Type 0} → State V → Checked → Type 0
BusyIffLong s answer = Rest s.chip.pins → check_of Settle s.chip.pins s.greeted s.opened ≡ Ok tt →
    (answer ≡ Err (refusal Busy 0)) ↔ (most_tries < left_on s.chip.pins)
