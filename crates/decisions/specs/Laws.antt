-- The laws of what samples decide, over every part, width, edition and instruction.
use Rattle.std.specs.Prelude.{if◌then◌else◌, ◌≡◌, ℕ, ◌+◌, ◌-◌, true, false, List, [], ◌∷◌, ◌++◌, length, take, nat_lt, ◌<◌}
use Rattle.protocol.specs.declared.instruction.Instruction.{Instruction as Sent}
use Rattle.protocol.specs.declared.settings.Setup.{Setup}
use Rattle.protocol.specs.Instructions.{address_in, value_in}
use Rattle.chips.specs.Machine.{Machine, run_on}
use Rattle.chips.specs.Pins.{Pins, Put, put_on}
use Rattle.wire.specs.Deciding.{decision_on, notes, frame_notes, frame_on, decision_by, decided_at, carried_by}
use Rattle.wire.specs.Places.{width_on, left_on, Rest, Ready, Sendable, resting}
use Rattle.wire.specs.Polling.{polls, is_ready}
use Rattle.wire.specs.Runs.{run}
use Rattle.traces.specs.declared.start_bit.StartBit.{StartBit}
use Rattle.traces.specs.Entries.{entries_of}
use Rattle.decisions.specs.Decided.{decisions_of, decisions_in, notes_before, written_all, enabled_all, left_by, left_after, no_change, owes, has_no_clock, is_unselected, Settled, Alternate, InOrder}
use Rattle.decisions.specs.Reader.{Reader, reader_after, entries_by, bytes_put, byte_notes, entries_in, start_in, reader_at, entry_sent, EntriesOrdered}

-- RUNS, of any samples on any chip.
-- What samples decide is what the first of them decide and then, on the chip that these leave, the others.
abbrev pub DecisionsAppend : Type 0
DecisionsAppend = (p : Pins) (xs ys : List Put) → decisions_of p (xs ++ ys) ≡ decisions_of p xs ++ decisions_of (run p xs) ys

-- The notes likewise, each with its place.
abbrev pub NotesAppend : Type 0
NotesAppend = (place : ℕ) (p : Pins) (xs ys : List Put) →
    notes place p (xs ++ ys) ≡ notes place p xs ++ notes (place + length xs) (run p xs) ys

-- The decisions are those of the notes, wherever the samples stand.
abbrev pub DecisionsAreNoted : Type 0
DecisionsAreNoted = (place : ℕ) (p : Pins) (xs : List Put) → decisions_of p xs ≡ decisions_in (notes place p xs)

-- The first of some samples have the notes that stand at their places.
abbrev pub NotesOfFirst : Type 0
NotesOfFirst = (place : ℕ) (p : Pins) (xs ys : List Put) → notes place p xs ≡ notes_before (place + length xs) (notes place p (xs ++ ys))

-- After any k samples of a run the decisions are the first of the run's.
abbrev pub TakeOfDecisions : Type 0
TakeOfDecisions = (p : Pins) (xs : List Put) (k : ℕ) →
    decisions_of p (take k xs) ≡ take (length (decisions_of p (take k xs))) (decisions_of p xs)

-- The bytes are the old ones changed by the decisions, in order.
abbrev pub BytesAreDecided : Type 0
BytesAreDecided = (p : Pins) (xs : List Put) →
    (run p xs).machine.bytes ≡ written_all p.machine.setup.part (decisions_of p xs) p.machine.bytes

-- Whether the chip is open follows from the decisions too.
abbrev pub EnabledIsDecided : Type 0
EnabledIsDecided = (p : Pins) (xs : List Put) →
    (run p xs).machine.state.enabled ≡ enabled_all (decisions_of p xs) p.machine.state.enabled

-- At each sample those left of a cycle fall by one, and then are what the decision makes of them.
abbrev pub LeftIsDecided : Type 0
LeftIsDecided = (p : Pins) (x : Put) → p.blank ≡ false →
    left_on (put_on p x) ≡ left_by p.machine.setup (decision_on p x) (left_on p - 1)

-- So over a run they follow from the notes and their places.
abbrev pub LeftOfRun : Type 0
LeftOfRun = (place : ℕ) (p : Pins) (xs : List Put) → p.blank ≡ false →
    left_on (run p xs) ≡ left_after p.machine.setup place (place + length xs) (notes place p xs) (left_on p)

-- With no change decided they only fall by one each sample.
abbrev pub LeftOnlyAges : Type 0
LeftOnlyAges = (p : Pins) (xs : List Put) → p.blank ≡ false → no_change (decisions_of p xs) ≡ true →
    left_on (run p xs) ≡ left_on p - length xs

-- With no change decided no byte changes.
abbrev pub BytesStay : Type 0
BytesStay = (p : Pins) (xs : List Put) → no_change (decisions_of p xs) ≡ true → (run p xs).machine.bytes ≡ p.machine.bytes

-- Every instruction that is begun is decided once, before the next one begins; one may be owed at the end.
abbrev pub EachStartIsDecided : Type 0
EachStartIsDecided = (place : ℕ) (p : Pins) (xs : List Put) → Settled p →
    Alternate (owes p.machine.state.phase) (notes place p xs) (owes (run p xs).machine.state.phase)

-- What this asks of a chip, every sample keeps.
abbrev pub RunsSettle : Type 0
RunsSettle = (p : Pins) (xs : List Put) → Settled p → Settled (run p xs)

-- Notes stand in order, at the places of their samples.
abbrev pub NotesInOrder : Type 0
NotesInOrder = (place : ℕ) (p : Pins) (xs : List Put) → InOrder place (notes place p xs) (place + length xs)

pub record RunLaws : Type 0 where
  pub decisions_append : DecisionsAppend
  pub notes_append : NotesAppend
  pub decisions_are_noted : DecisionsAreNoted
  pub notes_of_first : NotesOfFirst
  pub take_of_decisions : TakeOfDecisions
  pub bytes_are_decided : BytesAreDecided
  pub enabled_is_decided : EnabledIsDecided
  pub left_is_decided : LeftIsDecided
  pub left_of_run : LeftOfRun
  pub left_only_ages : LeftOnlyAges
  pub bytes_stay : BytesStay
  pub each_start_is_decided : EachStartIsDecided
  pub runs_settle : RunsSettle
  pub notes_in_order : NotesInOrder

-- REST. A chip that owes no decision makes none while CS and SK are never high together.
abbrev pub NoClockDecidesNothing : Type 0
NoClockDecidesNothing = (place : ℕ) (p : Pins) (xs : List Put) → owes p.machine.state.phase ≡ false → has_no_clock xs ≡ true →
    notes place p xs ≡ []

-- Polling is such, as idle samples are.
abbrev pub PollingHasNoClock : Type 0
PollingHasNoClock = (p : Pins) → has_no_clock (polls p) ≡ true

-- So is whatever SK and DI do while CS stays low,
abbrev pub UnselectedHasNoClock : Type 0
UnselectedHasNoClock = (xs : List Put) → is_unselected xs ≡ true → has_no_clock xs ≡ true

-- and a chip at rest that is not selected stays at rest.
abbrev pub UnselectedRests : Type 0
UnselectedRests = (p : Pins) (xs : List Put) → Rest p → is_unselected xs ≡ true → Rest (run p xs)

-- At rest the first k samples of a polling decide nothing.
abbrev pub PollTake : Type 0
PollTake = (p : Pins) (k : ℕ) → Rest p → decisions_of p (take k (polls p)) ≡ []

-- FRAMES. On a ready chip the frame of an instruction makes exactly its start and its one decision, each at its place.
abbrev pub FrameNotes : Type 0
FrameNotes = (place : ℕ) (p : Pins) (i : Sent) → Ready p → Sendable p (address_in i) (value_in i) →
    notes place p (frame_on p i) ≡ frame_notes p place i

abbrev pub FrameDecides : Type 0
FrameDecides = (p : Pins) (i : Sent) → Ready p → Sendable p (address_in i) (value_in i) →
    decisions_of p (frame_on p i) ≡ decision_by p i ∷ []

-- It carries the instruction out, or turns it down where its decision says so, and leaves the chip at rest.
abbrev pub FrameEnds : Type 0
FrameEnds = (p : Pins) (i : Sent) → Ready p → Sendable p (address_in i) (value_in i) → run p (frame_on p i) ≡ carried_by p i

abbrev pub FrameRests : Type 0
FrameRests = (p : Pins) (i : Sent) → Ready p → Sendable p (address_in i) (value_in i) → Rest (run p (frame_on p i))

-- The sample that decides is one of the frame.
abbrev pub DecidesInside : Type 0
DecidesInside = (p : Pins) (i : Sent) → Ready p → Sendable p (address_in i) (value_in i) → decided_at p i 0 < length (frame_on p i)

-- The first k samples of a frame decide the instruction once that sample is among them, and nothing before: so the bytes are changed or not.
abbrev pub TakeDecide : Type 0
TakeDecide = (p : Pins) (i : Sent) (k : ℕ) → Ready p → Sendable p (address_in i) (value_in i) →
    decisions_of p (take k (frame_on p i)) ≡ (if nat_lt (decided_at p i 0) k then decision_by p i ∷ [] else [])

abbrev pub TakeChange : Type 0
TakeChange = (p : Pins) (i : Sent) (k : ℕ) → Ready p → Sendable p (address_in i) (value_in i) →
    (run p (take k (frame_on p i))).machine.bytes
    ≡ (if nat_lt (decided_at p i 0) k then (carried_by p i).machine.bytes else p.machine.bytes)

-- A chip that is programming as a frame begins, with more than one sample left, hears nothing of it.
abbrev pub BusyFrame : Type 0
BusyFrame = (place : ℕ) (p : Pins) (i : Sent) → Rest p → 1 < left_on p → notes place p (frame_on p i) ≡ []

-- What a change sends where polling finds the chip ready: polling, its frame, polling.
abbrev pub changed_chip : Pins → Sent → Pins
changed_chip p i = carried_by (resting p 0) i

abbrev pub polled_frame : Pins → Sent → List Put
polled_frame p i = polls p ++ (frame_on p i ++ polls (changed_chip p i))

-- After the first k of these samples the instruction was decided or not, and nothing in between.
abbrev pub PolledDecide : Type 0
PolledDecide = (p : Pins) (i : Sent) (k : ℕ) → Rest p → is_ready p ≡ true → Sendable p (address_in i) (value_in i) →
    decisions_of p (take k (polled_frame p i)) ≡ (if nat_lt (length (polls p) + decided_at p i 0) k then decision_by p i ∷ [] else [])

abbrev pub PolledChange : Type 0
PolledChange = (p : Pins) (i : Sent) (k : ℕ) → Rest p → is_ready p ≡ true → Sendable p (address_in i) (value_in i) →
    (run p (take k (polled_frame p i))).machine.bytes
    ≡ (if nat_lt (length (polls p) + decided_at p i 0) k then (changed_chip p i).machine.bytes else p.machine.bytes)

pub record FrameLaws : Type 0 where
  pub no_clock_decides_nothing : NoClockDecidesNothing
  pub polling_has_no_clock : PollingHasNoClock
  pub unselected_has_no_clock : UnselectedHasNoClock
  pub unselected_rests : UnselectedRests
  pub poll_take : PollTake
  pub frame_notes : FrameNotes
  pub frame_decides : FrameDecides
  pub frame_ends : FrameEnds
  pub frame_rests : FrameRests
  pub decides_inside : DecidesInside
  pub take_decide : TakeDecide
  pub take_change : TakeChange
  pub busy_frame : BusyFrame
  pub polled_decide : PolledDecide
  pub polled_change : PolledChange

-- THE READER. Reading two lists of sample bytes in a row is reading the second from where the first ended.
abbrev pub ReaderAppends : Type 0
ReaderAppends = (setup : Setup) (r : Reader) (xs ys : List ℕ) →
    entries_by setup r (xs ++ ys) ≡ entries_by setup r xs ++ entries_by setup (reader_after setup r xs) ys

abbrev pub ReaderGoesOn : Type 0
ReaderGoesOn = (setup : Setup) (r : Reader) (xs ys : List ℕ) → reader_after setup r (xs ++ ys) ≡ reader_after setup (reader_after setup r xs) ys

-- Whatever samples a trace holds, its entries are those of its notes,
abbrev pub EntriesOfAny : Type 0
EntriesOfAny = (setup : Setup) (r : Reader) (bs : List ℕ) →
    entries_by setup r bs ≡ entries_in r.start (byte_notes setup r.state r.place bs)

-- the bytes are the old ones changed by the decisions among these,
abbrev pub BytesOfAny : Type 0
BytesOfAny = (m : Machine) (place : ℕ) (bs : List ℕ) →
    (run_on m bs).bytes ≡ written_all m.setup.part (decisions_in (byte_notes m.setup m.state place bs)) m.bytes

-- and the entries stand one after the other.
abbrev pub EntriesInOrder : Type 0
EntriesInOrder = (setup : Setup) (bs : List ℕ) → EntriesOrdered 0 (entries_of setup bs) (length bs)

-- Of the samples put on a chip the notes are the chip's, and the machine that runs them is the chip's.
abbrev pub NotesOfBytes : Type 0
NotesOfBytes = (p : Pins) (place : ℕ) (xs : List Put) → p.blank ≡ false →
    byte_notes p.machine.setup p.machine.state place (bytes_put p xs) ≡ notes place p xs

abbrev pub RunOfBytes : Type 0
RunOfBytes = (p : Pins) (xs : List Put) → p.blank ≡ false → run_on p.machine (bytes_put p xs) ≡ (run p xs).machine

-- So the entries are those of the chip's notes, and the reader stands where the chip does.
abbrev pub EntriesAreNoted : Type 0
EntriesAreNoted = (p : Pins) (start : StartBit) (place : ℕ) (xs : List Put) → p.blank ≡ false →
    entries_by p.machine.setup (reader_at p start place) (bytes_put p xs) ≡ entries_in start (notes place p xs)

abbrev pub ReaderFollows : Type 0
ReaderFollows = (p : Pins) (start : StartBit) (place : ℕ) (xs : List Put) → p.blank ≡ false →
    reader_after p.machine.setup (reader_at p start place) (bytes_put p xs)
    ≡ reader_at (run p xs) (start_in start (notes place p xs)) (place + length xs)

-- A frame on a ready chip makes exactly one entry, that of its instruction.
abbrev pub FrameEntry : Type 0
FrameEntry = (p : Pins) (i : Sent) (start : StartBit) (place : ℕ) → Ready p → Sendable p (address_in i) (value_in i) →
    entries_by p.machine.setup (reader_at p start place) (bytes_put p (frame_on p i)) ≡ entry_sent p i place ∷ []

-- Its first k samples make it once the deciding sample is among them, and no other.
abbrev pub TakeEntry : Type 0
TakeEntry = (p : Pins) (i : Sent) (start : StartBit) (place k : ℕ) → Ready p → Sendable p (address_in i) (value_in i) →
    entries_by p.machine.setup (reader_at p start place) (bytes_put p (take k (frame_on p i)))
    ≡ (if nat_lt (decided_at p i 0) k then entry_sent p i place ∷ [] else [])

-- Afterwards the reader is at rest with the chip, and knows the frame's start bit.
abbrev pub FrameIsRead : Type 0
FrameIsRead = (p : Pins) (i : Sent) (start : StartBit) (place : ℕ) → Ready p → Sendable p (address_in i) (value_in i) →
    reader_after p.machine.setup (reader_at p start place) (bytes_put p (frame_on p i))
    ≡ reader_at (carried_by p i) (record { width = width_on p; place = place + 2 }) (place + length (frame_on p i))

-- Samples without a clock make no entry where none is owed: so idle samples and polling.
abbrev pub NoClockNoEntry : Type 0
NoClockNoEntry = (p : Pins) (start : StartBit) (place : ℕ) (xs : List Put) → p.blank ≡ false → owes p.machine.state.phase ≡ false →
    has_no_clock xs ≡ true → entries_by p.machine.setup (reader_at p start place) (bytes_put p xs) ≡ []

-- After polling the reader is at rest with the chip.
abbrev pub PollIsRead : Type 0
PollIsRead = (p : Pins) (start : StartBit) (place : ℕ) → Rest p →
    reader_after p.machine.setup (reader_at p start place) (bytes_put p (polls p))
    ≡ reader_at (resting p (left_on p - 4097)) start (place + length (polls p))

pub record ReaderLaws : Type 0 where
  pub reader_appends : ReaderAppends
  pub reader_goes_on : ReaderGoesOn
  pub entries_of_any : EntriesOfAny
  pub bytes_of_any : BytesOfAny
  pub entries_in_order : EntriesInOrder
  pub notes_of_bytes : NotesOfBytes
  pub run_of_bytes : RunOfBytes
  pub entries_are_noted : EntriesAreNoted
  pub reader_follows : ReaderFollows
  pub frame_entry : FrameEntry
  pub take_entry : TakeEntry
  pub frame_is_read : FrameIsRead
  pub no_clock_no_entry : NoClockNoEntry
  pub poll_is_read : PollIsRead

-- All of them together.
pub record Decisions : Type 0 where
  pub runs : RunLaws
  pub frames : FrameLaws
  pub reader : ReaderLaws
