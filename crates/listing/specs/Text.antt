-- The text of a listing.
use Rattle.std.specs.Prelude.{ℕ, List, [], ◌∷◌, ◌++◌, length, Some, None, Ok, Err, codes, decimal, Option, Result}
use Rattle.protocol.specs.declared.instruction.Kind.{Kind}
use Rattle.protocol.specs.declared.refusal.Refusal.{Refusal}
use Rattle.protocol.specs.Instructions.{kind_word}
use Rattle.protocol.specs.Parts.{bits_of}
use Rattle.protocol.specs.Refusals.{refusal_text}
use Rattle.chips.specs.Verdicts.{verdict_number}
use Rattle.traces.specs.declared.entry.Entry.{Entry}

-- an absent field is "-"
abbrev pub field_text : Option ℕ → List ℕ
field_text (Some n) = decimal n
field_text None = codes "-"

abbrev pub kind_text : Option Kind → List ℕ
kind_text (Some kind) = kind_word kind
kind_text None = codes "BAD"

-- Words and numbers stand one space apart.
abbrev pub fields_text : Entry → List ℕ
fields_text e =
    field_text e.address
    ++ (codes " " ++ (field_text e.«data» ++ (codes " " ++ (decimal (bits_of e.width) ++ (codes " " ++ (decimal e.first
    ++ (codes " " ++ (decimal e.last ++ (codes " " ++ decimal (verdict_number e.verdict))))))))))

abbrev pub line_text : Entry → List ℕ
line_text e = kind_text e.kind ++ (codes " " ++ fields_text e)

-- every line has its end
abbrev pub lines_text : List Entry → List ℕ
lines_text [] = []
lines_text (e ∷ es) = (line_text e ++ codes "\n") ++ lines_text es

abbrev pub header_text : List ℕ
header_text = codes "kind address data width first last verdict\n"

abbrev pub last_text : ℕ → Result (Unit {0}) Refusal → List ℕ
last_text count (Ok _) = codes "end " ++ (decimal count ++ codes "\n")
last_text count (Err e) = refusal_text e ++ codes "\n"

-- Header, a line for each entry, and how it ended.
unfoldable pub listing_text : List Entry → Result (Unit {0}) Refusal → List ℕ
listing_text entries answer = (header_text ++ lines_text entries) ++ last_text (length entries) answer
