-- The numbers of the refusals.
use Rattle.std.specs.Prelude.{ℕ, List, ◌++◌, codes, decimal}
use Rattle.protocol.specs.declared.refusal.Cause.{Cause}
use Rattle.protocol.specs.declared.refusal.Cause.TheVariants.{
  Address,
  Value,
  WordCount,
  HighSample,
  BufferLength,
  BadSettings,
  MemorySize,
  NoRoom,
  FileForm,
  BlankChip,
  NotGreeted,
  Shut,
  Protected,
  Busy,
  Unfinished,
}
use Rattle.protocol.specs.declared.refusal.Refusal.{Refusal}

abbrev pub number_of : Cause → ℕ
number_of Address = 1
number_of Value = 2
number_of WordCount = 3
number_of HighSample = 4
number_of BufferLength = 5
number_of BadSettings = 6
number_of MemorySize = 7
number_of NoRoom = 8
number_of FileForm = 9
number_of BlankChip = 10
number_of NotGreeted = 11
number_of Shut = 12
number_of Protected = 13
number_of Busy = 14
number_of Unfinished = 15

abbrev pub refusal : Cause → ℕ → Refusal
refusal cause place = record { cause = cause; place = place }

-- as text
abbrev pub refusal_text : Refusal → List ℕ
refusal_text r = codes "refused " ++ (decimal (number_of r.cause) ++ (codes " at " ++ decimal r.place))
