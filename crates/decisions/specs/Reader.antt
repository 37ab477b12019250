-- The reader as a fold, and the entries of a chip's run.
use Rattle.std.specs.Prelude.{ℕ, suc, ◌+◌, ◌%◌, List, [], ◌∷◌, Some, ◌≤◌, ◌<◌}
use Rattle.protocol.specs.declared.instruction.Instruction.{Instruction as Sent}
use Rattle.protocol.specs.declared.settings.Setup.{Setup}
use Rattle.protocol.specs.Instructions.{kind_in, address_in, value_in}
use Rattle.protocol.specs.Parts.{cells_of}
use Rattle.protocol.specs.Samples.{levels, byte_of}
use Rattle.chips.specs.declared.state.State.{State}
use Rattle.chips.specs.Control.{verdict_of, turn}
use Rattle.chips.specs.Pins.{Pins, Put, sample_of}
use Rattle.wire.specs.Deciding.{Note, notes_with, deciding_place}
use Rattle.wire.specs.Places.{width_on}
use Rattle.traces.specs.declared.entry.Entry.{Entry}
use Rattle.traces.specs.declared.start_bit.StartBit.{StartBit}
use Rattle.traces.specs.Entries.{address_of, data_of, start_after, entry_of, before, entries_from}

-- what the reader keeps between two samples
pub record Reader : Type 0 where
  pub state : State
  pub start : StartBit
  pub place : ℕ

abbrev pub reader : State → StartBit → ℕ → Reader
reader st start place = record { state = st; start = start; place = place }

abbrev pub read_one : Setup → Reader → ℕ → Reader
read_one setup r b =
    let t = turn setup r.state (levels b) in reader t.state (start_after r.start r.place t.decision) (r.place + 1)

unfoldable pub reader_after : Setup → Reader → List ℕ → Reader
reader_after setup r [] = r
reader_after setup r (b ∷ bs) = reader_after setup (read_one setup r b) bs

-- the entries that it makes from there on
abbrev pub entries_by : Setup → Reader → List ℕ → List Entry
entries_by setup r bs = entries_from setup r.state r.start r.place bs

-- the sample bytes of samples put on a chip
unfoldable pub bytes_put : Pins → List Put → List ℕ
bytes_put p [] = []
bytes_put p (x ∷ xs) = byte_of (sample_of p x) ∷ bytes_put p xs

-- what is noted of any sample bytes, from a state on
unfoldable pub byte_notes : Setup → State → ℕ → List ℕ → List Note
byte_notes setup st place [] = []
byte_notes setup st place (b ∷ bs) =
    notes_with place (turn setup st (levels b)).decision (byte_notes setup (turn setup st (levels b)).state (suc place) bs)

-- the entries of notes, and the start bit after them
unfoldable pub entries_in : StartBit → List Note → List Entry
entries_in start [] = []
entries_in start (n ∷ ns) = before (entry_of start n.place n.decision) (entries_in (start_after start n.place n.decision) ns)

unfoldable pub start_in : StartBit → List Note → StartBit
start_in start [] = start
start_in start (n ∷ ns) = start_in (start_after start n.place n.decision) ns

-- Entries one after the other, from a place on and before an end, each with its start bit before its decision.
unfoldable pub EntriesOrdered : ℕ → List Entry → ℕ → Type 0
EntriesOrdered place [] end = place ≤ end
EntriesOrdered place (e ∷ es) end = (place ≤ e.first) × (e.first < e.last) × EntriesOrdered (suc e.last) es end

-- the reader that has read a chip's samples up to a place
abbrev pub reader_at : Pins → StartBit → ℕ → Reader
reader_at p start place = reader p.machine.state start place

-- the entry of an instruction that is sent to a ready chip by a frame that begins at a place
abbrev pub entry_sent : Pins → Sent → ℕ → Entry
entry_sent p i place =
    record {
      kind = Some (kind_in i);
      address = address_of (kind_in i) (address_in i % cells_of p.machine.setup.part (width_on p));
      «data» = data_of (kind_in i) (value_in i);
      width = width_on p;
      first = suc (suc place);
      last = deciding_place p (kind_in i) place;
      verdict = verdict_of p.machine.setup.edition p.machine.state.enabled p.pe (kind_in i);
    }
