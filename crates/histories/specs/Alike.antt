-- Which events met a chip that was still programming, and the cells after the first greet.
use Rattle.std.specs.Prelude.{ℕ, Bool, true, false, List, [], ◌∷◌, Some, None, Ok, Err, Option}
use Rattle.protocol.specs.declared.refusal.Cause.{Cause}
use Rattle.protocol.specs.declared.refusal.Cause.TheVariants.{
  Address,
  Value,
  WordCount,
  HighSample,
  BufferLength,
  BadSettings,
  MemorySize,
  NoRoom,
  FileForm,
  BlankChip,
  NotGreeted,
  Shut,
  Protected,
  Busy,
  Unfinished,
}
use Rattle.histories.specs.Events.{Event}
use Rattle.histories.specs.Book.{first_book}

-- still programming, with or without a frame sent
abbrev pub is_programming : Cause → Bool
is_programming Address = false
is_programming Value = false
is_programming WordCount = false
is_programming HighSample = false
is_programming BufferLength = false
is_programming BadSettings = false
is_programming MemorySize = false
is_programming NoRoom = false
is_programming FileForm = false
is_programming BlankChip = false
is_programming NotGreeted = false
is_programming Shut = false
is_programming Protected = false
is_programming Busy = true
is_programming Unfinished = true

abbrev pub was_programming : Event → Bool
was_programming e = elim e.answer [ Ok _ ↦ false | Err r ↦ is_programming r.cause ]

-- the cells after the first greet that was done
unfoldable pub first_cells : List Event → Option (List ℕ)
first_cells [] = None
first_cells (e ∷ es) = elim (first_book e.call e) [ None ↦ first_cells es | Some cells ↦ Some cells ]
