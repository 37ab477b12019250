-- What the bits of an instruction say. They are a count and the number that they are in base two.
use Rattle.std.specs.Prelude.{ℕ, ◌+◌, ◌-◌, ◌/◌, ◌%◌, ◌^◌, Bool, true, false, ◌&&◌, cond, if◌then◌else◌, List, ◌==◌, codes}
use Rattle.protocol.specs.declared.instruction.Instruction.{Instruction}
use Rattle.protocol.specs.declared.instruction.Instruction.TheVariants as instruction
use Rattle.protocol.specs.declared.instruction.Kind.{Kind}
use Rattle.protocol.specs.declared.instruction.Kind.TheVariants.{Read, Write, Erase, Wen, Wds, Eral, Wrall}
use Rattle.protocol.specs.declared.parts.Part.{Part}
use Rattle.protocol.specs.declared.parts.Width.{Width}
use Rattle.protocol.specs.Parts.{bits_of, cells_of, field_of}

-- the kind, by the opcode and, under opcode 00, the first two address bits
abbrev pub kind_of : ℕ → ℕ → Kind
kind_of opcode first =
    if opcode == 2 then Read else if opcode == 1 then Write else if opcode == 3 then Erase
    else if opcode == 0 && first == 3 then Wen else if opcode == 0 && first == 0 then Wds else if opcode == 0 && first == 2 then Eral
    else Wrall

-- its word in a listing
abbrev pub kind_word : Kind → List ℕ
kind_word Read = codes "READ"
kind_word Write = codes "WRITE"
kind_word Erase = codes "ERASE"
kind_word Wen = codes "WEN"
kind_word Wds = codes "WDS"
kind_word Eral = codes "ERAL"
kind_word Wrall = codes "WRALL"

-- What an instruction that is to be sent says: its kind, its address and its data, 0 where it has none.
abbrev pub kind_in : Instruction → Kind
kind_in (instruction.Read address words) = Read
kind_in (instruction.Write address value) = Write
kind_in (instruction.Erase address) = Erase
kind_in instruction.Wen = Wen
kind_in instruction.Wds = Wds
kind_in instruction.Eral = Eral
kind_in (instruction.Wrall value) = Wrall

abbrev pub address_in : Instruction → ℕ
address_in (instruction.Read address words) = address
address_in (instruction.Write address value) = address
address_in (instruction.Erase address) = address
address_in instruction.Wen = 0
address_in instruction.Wds = 0
address_in instruction.Eral = 0
address_in (instruction.Wrall value) = 0

abbrev pub value_in : Instruction → ℕ
value_in (instruction.Read address words) = 0
value_in (instruction.Write address value) = value
value_in (instruction.Erase address) = 0
value_in instruction.Wen = 0
value_in instruction.Wds = 0
value_in instruction.Eral = 0
value_in (instruction.Wrall value) = value

abbrev pub has_data : Kind → Bool
has_data Read = false
has_data Write = true
has_data Erase = false
has_data Wen = false
has_data Wds = false
has_data Eral = false
has_data Wrall = true

abbrev pub is_read : Kind → Bool
is_read Read = true
is_read Write = false
is_read Erase = false
is_read Wen = false
is_read Wds = false
is_read Eral = false
is_read Wrall = false

-- does it change cells?
abbrev pub is_change : Kind → Bool
is_change Read = false
is_change Write = true
is_change Erase = true
is_change Wen = false
is_change Wds = false
is_change Eral = true
is_change Wrall = true

-- the number of bits after the start bit: opcode, address, data
abbrev pub length_of : Part → Width → Kind → ℕ
length_of part width kind = 2 + field_of part width + cond (has_data kind) (bits_of width) 0

-- the n bits that follow the first `from` of `count` bits
abbrev pub span_of : ℕ → ℕ → ℕ → ℕ → ℕ
span_of count bits from n = (bits / 2 ^ (count - (from + n))) % 2 ^ n

abbrev pub kind_at : ℕ → ℕ → Kind
kind_at count bits = kind_of (span_of count bits 0 2) (span_of count bits 2 2)

-- an address names the cell of its value modulo the number of cells
abbrev pub cell_at : Part → Width → ℕ → ℕ → ℕ
cell_at part width count bits = span_of count bits 2 (field_of part width) % cells_of part width

-- the data, 0 where the kind has none
abbrev pub value_at : Part → Width → Kind → ℕ → ℕ → ℕ
value_at part width kind count bits = cond (has_data kind) (span_of count bits (2 + field_of part width) (bits_of width)) 0
