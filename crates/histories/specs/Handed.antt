-- A history as the caller's lists tell it: the calls, the answers, and the flat list of words, cut by both.
use Rattle.std.specs.Prelude.{◌≡◌, ℕ, suc, ◌+◌, false, cond, List, [], ◌∷◌, length, take, drop, Some, slice_get}
use Rattle.protocol.specs.declared.list.List.{List as Held}
use Rattle.protocol.specs.Lists.{items}
use Rattle.chips.specs.Pins.{Pins}
use Rattle.driver.specs.Outcome.{State, state}
use Rattle.histories.specs.declared.call.Call.{Call}
use Rattle.histories.specs.Book.{is_done}
use Rattle.histories.specs.Events.{Answer, Event, cells_in, end_from, unseen, bare_chip}
use Rattle.histories.specs.Performing.{wanted_by}

-- what a call added to a list
abbrev pub new_items : {T : Type 0} → Held T → Held T → List T
new_items l m = drop l.count (items m)

-- How many words a call hands out: a done read one, a done run its count, every other call none.
abbrev pub hands_out : Call → Answer → ℕ
hands_out call answer = cond (is_done answer) (wanted_by call) 0

-- of all calls
unfoldable pub hand_out : List Call → List Answer → ℕ
hand_out [] rs = 0
hand_out (x ∷ xs) [] = 0
hand_out (x ∷ xs) (r ∷ rs) = hands_out x r + hand_out xs rs

-- a call with its answer, the first of the words that are left, and the cells of the chip afterwards
abbrev pub told_event : Call → Answer → List ℕ → List ℕ → Event
told_event call answer left cells = record { call = call; answer = answer; words = take (hands_out call answer) left; cells = cells }

-- call by call; `cells` has the cells of the chip after so many of the calls
unfoldable pub history : List Call → List Answer → List ℕ → (ℕ → List ℕ) → List Event
history [] rs words cells = []
history (x ∷ xs) [] words cells = []
history (x ∷ xs) (r ∷ rs) words cells = told_event x r words (cells 1) ∷ history xs rs (drop (hands_out x r) words) (λ i. cells (suc i))

-- a new driver on a chip of this meaning, after the first i calls, and the cells that the chip then has
abbrev pub driver_after : List Call → Pins → ℕ → State (Unit {0})
driver_after calls p i = end_from unseen (take i calls) (state false false (bare_chip p))

abbrev pub cells_after : List Call → Pins → ℕ → List ℕ
cells_after calls p i = cells_in (driver_after calls p i).chip.pins

-- There is an answer to each call, there are as many words as the done calls hand out, and each call has its own.
pub record Counted (calls : List Call) (answers : List Answer) (words : List ℕ) (es : List Event) : Type 0 where
  pub answered : length answers ≡ length calls
  pub handed : length words ≡ hand_out calls answers
  pub each : (i : ℕ) (e : Event) → slice_get es i ≡ Some e → length e.words ≡ hands_out e.call e.answer
