-- The book: the cells as a user may believe them to be: those at the first greet that is done, and from then on what calls and their
-- answers alone tell.
use Rattle.std.specs.Prelude.{ℕ, Bool, true, false, cond, List, [], ◌∷◌, length, replicate, Some, None, Ok, Err, Option, slice_set}
use Rattle.protocol.specs.declared.refusal.Cause.{Cause}
use Rattle.protocol.specs.declared.refusal.Cause.TheVariants.{
  Address,
  Value,
  WordCount,
  HighSample,
  BufferLength,
  BadSettings,
  MemorySize,
  NoRoom,
  FileForm,
  BlankChip,
  NotGreeted,
  Shut as ShutOf,
  Protected,
  Busy,
  Unfinished,
}
use Rattle.histories.specs.declared.call.Call.{Call}
use Rattle.histories.specs.declared.call.Call.TheVariants.{Greet, Settle, Open, Shut, Read, Run, Write, Erase, Fill, Clear}
use Rattle.histories.specs.Events.{Answer, Event}

-- the frame was sent and taken, but the chip is still programming
abbrev pub is_unfinished : Cause → Bool
is_unfinished Address = false
is_unfinished Value = false
is_unfinished WordCount = false
is_unfinished HighSample = false
is_unfinished BufferLength = false
is_unfinished BadSettings = false
is_unfinished MemorySize = false
is_unfinished NoRoom = false
is_unfinished FileForm = false
is_unfinished BlankChip = false
is_unfinished NotGreeted = false
is_unfinished ShutOf = false
is_unfinished Protected = false
is_unfinished Busy = false
is_unfinished Unfinished = true

abbrev pub is_done : Answer → Bool
is_done (Ok _) = true
is_done (Err e) = false

-- A change is accepted if it is done or unfinished.
abbrev pub is_accepted : Answer → Bool
is_accepted (Ok _) = true
is_accepted (Err e) = is_unfinished e.cause

-- what a call that is accepted does to the book; `ones` is a word of ones at the width of the chip
abbrev pub changed_book : ℕ → Call → List ℕ → List ℕ
changed_book ones Greet book = book
changed_book ones Settle book = book
changed_book ones Open book = book
changed_book ones Shut book = book
changed_book ones (Read address) book = book
changed_book ones (Run address count) book = book
changed_book ones (Write address value) book = slice_set book address value
changed_book ones (Erase address) book = slice_set book address ones
changed_book ones (Fill value) book = replicate (length book) value
changed_book ones Clear book = replicate (length book) ones

-- An accepted change sets its cell, or every cell; nothing else alters the book.
abbrev pub kept_book : ℕ → Event → List ℕ → List ℕ
kept_book ones e book = cond (is_accepted e.answer) (changed_book ones e.call book) book

-- At the first greet that is done the book takes the cells as they then stand.
abbrev pub first_book : Call → Event → Option (List ℕ)
first_book Greet e = cond (is_done e.answer) (Some e.cells) None
first_book Settle e = None
first_book Open e = None
first_book Shut e = None
first_book (Read address) e = None
first_book (Run address count) e = None
first_book (Write address value) e = None
first_book (Erase address) e = None
first_book (Fill value) e = None
first_book Clear e = None

abbrev pub fed : ℕ → Option (List ℕ) → Event → Option (List ℕ)
fed ones None e = first_book e.call e
fed ones (Some book) e = Some (kept_book ones e book)

-- the book after some events
unfoldable pub book_after : ℕ → Option (List ℕ) → List Event → Option (List ℕ)
book_after ones book [] = book
book_after ones book (e ∷ es) = book_after ones (fed ones book e) es

-- the book of a history, from its beginning on
abbrev pub book_of : ℕ → List Event → Option (List ℕ)
book_of ones es = book_after ones None es
