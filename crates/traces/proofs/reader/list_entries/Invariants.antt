use Rattle.std.proofs.Common.{◌≡◌, drop}
use Rattle.protocol.specs.declared.list.List.{List as Held}
use Rattle.protocol.specs.Inputs.{Checked}
use Rattle.traces.specs.declared.entry.Entry.{Entry}
use Rattle.traces.specs.Entries.{entries_from}
use Rattle.traces.specs.Reading.{Listed}
use Rattle.traces.proofs.Entering.{Enters}
use Rattle.traces.proofs.reader.list_entries.Given as goal

-- What the entries still to come do to the list is what all entries do to the first one.
abbrev pub invariant-loop-place : goal.invariant-loop-place
invariant-loop-place l = record {
  setup : l.control.setup ≡ l.fn.setup;
  all : (m : Held Entry) (r : Checked) → Enters (entries_from l.fn.setup l.control.state l.start l.place (drop l.place l.samples)) l.entries m r
      → Listed l.fn.setup l.samples l.initial.entries m r;
}
