-- The laws over whole histories, of what a call hands out: its lists before and after it.
use Rattle.std.specs.Prelude.{◌≡◌, List}
use Rattle.protocol.specs.Parts.{ones_of}
use Rattle.chips.specs.declared.chip.Chip.{Ghosts}
use Rattle.chips.specs.Pins.{Pins, facts_of}
use Rattle.wire.specs.Places.{width_on}
use Rattle.histories.specs.declared.call.Call.{Call}
use Rattle.histories.specs.declared.told.Told.{Told}
use Rattle.histories.specs.Book.{book_of}
use Rattle.histories.specs.Busy.{WhenBusy}
use Rattle.histories.specs.Events.{Event, cells_in}
use Rattle.histories.specs.Handed.{new_items, history, cells_after, Counted}
use Rattle.histories.specs.Laws.{Truthful, Believed, Alike}

-- the history that the lists tell of calls on a chip of this meaning
abbrev pub history_told : List Call → Pins → Told → Told → List Event
history_told calls p old new = history calls (new_items old.answers new.answers) (new_items old.words new.words) (cells_after calls p)

module _ {C : Type 0} (g : Ghosts C) (calls : List Call) (chip : C) where
  -- An answer to each call, and the words that the done calls hand out.
  abbrev pub CountedTold : Told → Told → Type 0
  CountedTold old new =
      Counted calls (new_items old.answers new.answers) (new_items old.words new.words) (history_told calls (g.meaning chip) old new)

  -- Every word is what the book then holds for its cell.
  abbrev pub TruthfulTold : Told → Told → Type 0
  TruthfulTold old new = Truthful (ones_of (width_on (g.meaning chip))) (history_told calls (g.meaning chip) old new)

  -- In the end the book is what the cells of the chip hold.
  abbrev pub BelievedTold : C → Told → Told → Type 0
  BelievedTold chip' old new =
      Believed (book_of (ones_of (width_on (g.meaning chip))) (history_told calls (g.meaning chip) old new)) (cells_in (g.meaning chip'))

  -- When a call answers 14, and when 15.
  abbrev pub BusyTold : Told → Told → Type 0
  BusyTold old new = WhenBusy calls (g.meaning chip) (history_told calls (g.meaning chip) old new)

  -- Another chip of the same facts told the same.
  abbrev pub AlikeTold : {D : Type 0} → Ghosts D → D → Told → Told → Told → Told → Type 0
  AlikeTold h other old new other_old other_new = facts_of (g.meaning chip) ≡ facts_of (h.meaning other) →
      Alike (history_told calls (g.meaning chip) old new) (history_told calls (h.meaning other) other_old other_new)
