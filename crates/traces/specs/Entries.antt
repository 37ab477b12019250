-- The entries that a trace makes.
use Rattle.std.specs.Prelude.{ℕ, ◌+◌, List, [], ◌∷◌, Some, None, Option}
use Rattle.protocol.specs.declared.instruction.Kind.{Kind}
use Rattle.protocol.specs.declared.instruction.Kind.TheVariants.{Read, Write, Erase, Wen, Wds, Eral, Wrall}
use Rattle.protocol.specs.declared.parts.Width.TheVariants.{Sixteen}
use Rattle.protocol.specs.declared.settings.Setup.{Setup}
use Rattle.protocol.specs.Samples.{levels}
use Rattle.chips.specs.declared.state.State.{State}
use Rattle.chips.specs.declared.state.Verdict.TheVariants.{CarriedOut, WrongCount as WrongCountOf}
use Rattle.chips.specs.declared.state.Decision.{Decision}
use Rattle.chips.specs.declared.state.Decision.TheVariants.{Nothing, Start, Address, Data, Instruction, WrongCount}
use Rattle.chips.specs.Control.{turn, power_up}
use Rattle.traces.specs.declared.entry.Entry.{Entry}
use Rattle.traces.specs.declared.start_bit.StartBit.{StartBit}

-- an address and data where the kind has them
abbrev pub address_of : Kind → ℕ → Option ℕ
address_of Read cell = Some cell
address_of Write cell = Some cell
address_of Erase cell = Some cell
address_of Wen cell = None
address_of Wds cell = None
address_of Eral cell = None
address_of Wrall cell = None

abbrev pub data_of : Kind → ℕ → Option ℕ
data_of Read value = None
data_of Write value = Some value
data_of Erase value = None
data_of Wen value = None
data_of Wds value = None
data_of Eral value = None
data_of Wrall value = Some value

-- The width and the place of the last start bit are kept: the control forgets the width of a spoiled instruction.
abbrev pub no_start : StartBit
no_start = record { width = Sixteen; place = 0 }

abbrev pub start_after : StartBit → ℕ → Decision → StartBit
start_after start place Nothing = start
start_after start place (Start width) = record { width = width; place = place }
start_after start place (Address width cell) = start
start_after start place (Data width cell next) = start
start_after start place (Instruction kind width cell value verdict) = start
start_after start place WrongCount = start

-- The entry that the decision of the sample at a place makes.
abbrev pub entry_of : StartBit → ℕ → Decision → Option Entry
entry_of start place Nothing = None
entry_of start place (Start width) = None
entry_of start place (Address width cell) =
    Some (record {
      kind = Some Read;
      address = Some cell;
      «data» = None;
      width = width;
      first = start.place;
      last = place;
      verdict = CarriedOut;
    })
entry_of start place (Data width cell next) = None
entry_of start place (Instruction kind width cell value verdict) =
    Some (record {
      kind = Some kind;
      address = address_of kind cell;
      «data» = data_of kind value;
      width = width;
      first = start.place;
      last = place;
      verdict = verdict;
    })
entry_of start place WrongCount =
    Some (record {
      kind = None;
      address = None;
      «data» = None;
      width = start.width;
      first = start.place;
      last = place;
      verdict = WrongCountOf;
    })

abbrev pub before : {T : Type 0} → Option T → List T → List T
before (Some x) xs = x ∷ xs
before None xs = xs

-- the entries of the samples from a place on
unfoldable pub entries_from : Setup → State → StartBit → ℕ → List ℕ → List Entry
entries_from setup st start place [] = []
entries_from setup st start place (b ∷ bs) =
    before (entry_of start place (turn setup st (levels b)).decision)
    (entries_from setup (turn setup st (levels b)).state (start_after start place (turn setup st (levels b)).decision) (place + 1) bs)

-- The entries of a trace, from power-up.
abbrev pub entries_of : Setup → List ℕ → List Entry
entries_of setup samples = entries_from setup power_up no_start 0 samples
