-- What performing a list of calls yields.
use Rattle.std.specs.Prelude.{◌≡◌, ℕ, ◌+◌, ◌-◌, Bool, true, false, cond, ◌&&◌, List, [], ◌∷◌, ◌++◌, length, Ok, Err, Result, nat_le}
use Rattle.protocol.specs.declared.list.List.{List as Held}
use Rattle.protocol.specs.declared.refusal.Cause.TheVariants.{NoRoom}
use Rattle.protocol.specs.declared.refusal.Refusal.{Refusal}
use Rattle.protocol.specs.Lists.{room, Added}
use Rattle.protocol.specs.Refusals.{refusal}
use Rattle.chips.specs.declared.chip.Chip.{Ghosts}
use Rattle.chips.specs.Pins.{Pins, Put}
use Rattle.chips.specs.Seen.{Seen, seen}
use Rattle.driver.specs.Outcome.{State}
use Rattle.histories.specs.declared.told.Told.{Told}
use Rattle.histories.specs.declared.call.Call.{Call}
use Rattle.histories.specs.declared.call.Call.TheVariants.{Greet, Settle, Open, Shut, Read, Run, Write, Erase, Fill, Clear}
use Rattle.histories.specs.Events.{Answer, Event, performed, events_from, end_from, events_of, end_of}

-- the most words that a call hands out
abbrev pub wanted_by : Call → ℕ
wanted_by Greet = 0
wanted_by Settle = 0
wanted_by Open = 0
wanted_by Shut = 0
wanted_by (Read address) = 1
wanted_by (Run address count) = count
wanted_by (Write address value) = 0
wanted_by (Erase address) = 0
wanted_by (Fill value) = 0
wanted_by Clear = 0

unfoldable pub words_wanted : List Call → ℕ
words_wanted [] = 0
words_wanted (x ∷ xs) = wanted_by x + words_wanted xs

-- the answers of a history, and the words that it handed out, in order
unfoldable pub answers_in : List Event → List Answer
answers_in [] = []
answers_in (e ∷ es) = e.answer ∷ answers_in es

unfoldable pub words_in : List Event → List ℕ
words_in [] = []
words_in (e ∷ es) = e.words ++ words_in es

-- is there room for an answer to each call, and for the most words that they hand out?
abbrev pub has_room : List Call → Told → Bool
has_room calls told =
    nat_le (length calls) (room told.answers - told.answers.count) && nat_le (words_wanted calls) (room told.words - told.words.count)

-- One call was performed by a driver: it went from s to t, and the list got its words.
pub record PerformedOne {V : Type 0} (next : V → Pins → Put → V) (call : Call) (s t : State V) (words words' : Held ℕ) (r : Answer) : Type 0 where
  pub answer : r ≡ (performed next call s).answer
  pub after : t ≡ (performed next call s).after
  pub handed : Added words (performed next call s).words words'

-- The calls were performed by a driver: it went from s to t, and the lists got the answers and the words.
pub record Performed {V : Type 0} (next : V → Pins → Put → V) (calls : List Call) (s t : State V) (old new : Told) : Type 0 where
  pub ends : t ≡ end_from next calls s
  pub answered : Added old.answers (answers_in (events_from next calls s)) new.answers
  pub handed : Added old.words (words_in (events_from next calls s)) new.words

-- What one more call by a driver does: with room it is performed; without, nothing is done.
abbrev pub PerformsNext : {V : Type 0} → (V → Pins → Put → V) → Bool → Call → State V → State V → Told → Told → Result (Unit {0}) Refusal → Type 0
PerformsNext next true call s t old new r =
    (r ≡ Ok tt) × (t ≡ (performed next call s).after) × Added old.answers ((performed next call s).answer ∷ []) new.answers
    × Added old.words (performed next call s).words new.words
PerformsNext next false call s t old new r =
    (r ≡ Err (refusal NoRoom 0)) × (t ≡ s) × (new.answers ≡ old.answers) × (new.words ≡ old.words)

-- What a whole call of `perform` does: with room all calls are performed by a new driver; without, nothing is done.
abbrev pub Performs : {V : Type 0} → (V → Pins → Put → V) → Bool → List Call → Seen V → Seen V → Told → Told → Result (Unit {0}) Refusal → Type 0
Performs next true calls chip chip' old new r =
    (r ≡ Ok tt) × (chip' ≡ end_of next calls chip) × Added old.answers (answers_in (events_of next calls chip)) new.answers
    × Added old.words (words_in (events_of next calls chip)) new.words
Performs next false calls chip chip' old new r =
    (r ≡ Err (refusal NoRoom 0)) × (chip' ≡ chip) × (new.answers ≡ old.answers) × (new.words ≡ old.words)

-- the same of a chip, with what it promises
abbrev pub PerformsOn : {C : Type 0} → Ghosts C → List Call → C → C → Told → Told → Result (Unit {0}) Refusal → Type 0
PerformsOn g calls chip chip' old new r =
    Performs g.next (has_room calls old) calls (seen g.view g.meaning chip) (seen g.view g.meaning chip') old new r

-- the answer of a test for room
abbrev pub room_answer : Bool → Result (Unit {0}) Refusal
room_answer fit = cond fit (Ok tt) (Err (refusal NoRoom 0))

-- the same of a chip, where a test says whether the calls are performed
abbrev pub PerformsIf : {C : Type 0} → Ghosts C → Bool → List Call → C → C → Told → Told → Type 0
PerformsIf g fit calls chip chip' old new =
    Performs g.next fit calls (seen g.view g.meaning chip) (seen g.view g.meaning chip') old new (room_answer fit)
