-- The account that the entries of a trace give of the bytes.
use Rattle.std.specs.Prelude.{ℕ, List, [], ◌∷◌, drop, Some, None, Option}
use Rattle.protocol.specs.declared.instruction.Kind.{Kind}
use Rattle.protocol.specs.declared.list.List.{List as Held}
use Rattle.protocol.specs.declared.parts.Part.{Part}
use Rattle.protocol.specs.declared.parts.Width.{Width}
use Rattle.protocol.specs.Lists.{items}
use Rattle.chips.specs.Machine.{changed, if_carried_out}
use Rattle.traces.specs.declared.entry.Entry.{Entry}

abbrev pub number_in : Option ℕ → ℕ
number_in (Some n) = n
number_in None = 0

abbrev pub changed_by : Part → Option Kind → Width → ℕ → ℕ → List ℕ → List ℕ
changed_by part (Some kind) width cell value bytes = changed part kind width cell value bytes
changed_by part None width cell value bytes = bytes

-- An entry that was carried out does to bytes what carrying it out does at its width, every other entry nothing.
abbrev pub applied : Part → Entry → List ℕ → List ℕ
applied part e bytes =
    if_carried_out e.verdict (changed_by part e.kind e.width (number_in e.address) (number_in e.«data») bytes) bytes

-- the entries, in order
unfoldable pub applied_all : Part → List Entry → List ℕ → List ℕ
applied_all part [] bytes = bytes
applied_all part (e ∷ es) bytes = applied_all part es (applied part e bytes)

-- the entries that came to a list
abbrev pub new_in : Held Entry → Held Entry → List Entry
new_in l m = drop l.count (items m)
