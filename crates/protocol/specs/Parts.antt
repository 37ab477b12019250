-- The table of parts, and what is looked up in it.
use Rattle.std.specs.Prelude.{◌≡◌, ℕ, ◌*◌, ◌^◌, Bool, true, cond, ◌&&◌, List, [], ◌∷◌, Some, None, Option, ◌==◌, nat_le}
use Rattle.protocol.specs.declared.parts.Part.{Part}
use Rattle.protocol.specs.declared.parts.Part.TheVariants.{C46, C56, C66, C76, C86}
use Rattle.protocol.specs.declared.parts.Width.{Width}
use Rattle.protocol.specs.declared.parts.Width.TheVariants.{Eight, Sixteen}
use Rattle.protocol.specs.declared.parts.Organisation.{Organisation}
use Rattle.protocol.specs.declared.parts.Layout.{Layout}
use Rattle.protocol.specs.declared.parts.Row.{Row}

abbrev pub layout : ℕ → ℕ → Layout
layout cells field = record { cells = cells; field = field }

abbrev pub row : Part → ℕ → ℕ → Layout → Option Layout → Row
row part number bytes sixteen eight = record { part = part; number = number; bytes = bytes; sixteen = sixteen; eight = eight }

-- The row of each part: number, bytes, cells and address bits at width 16, then at width 8.
abbrev pub row_of : Part → Row
row_of C46 = row C46 46 128 (layout 64 6) None
row_of C56 = row C56 56 256 (layout 128 8) (Some (layout 256 9))
row_of C66 = row C66 66 512 (layout 256 8) (Some (layout 512 9))
row_of C76 = row C76 76 1024 (layout 512 10) (Some (layout 1024 11))
row_of C86 = row C86 86 2048 (layout 1024 10) (Some (layout 2048 11))

-- The table.
abbrev pub rows : List Row
rows = row_of C46 ∷ row_of C56 ∷ row_of C66 ∷ row_of C76 ∷ row_of C86 ∷ []

-- the part with a number, if there is one
abbrev pub find_part : List Row → ℕ → Option Part
find_part [] number = None
find_part (r ∷ rs) number = cond (r.number == number) (Some r.part) (find_part rs number)

abbrev pub part_numbered : ℕ → Option Part
part_numbered number = find_part rows number

-- the bits of a word
abbrev pub bits_of : Width → ℕ
bits_of Eight = 8
bits_of Sixteen = 16

-- the bytes of a cell
abbrev pub bytes_in : Width → ℕ
bytes_in Eight = 1
bytes_in Sixteen = 2

-- a word of ones
abbrev pub ones_of : Width → ℕ
ones_of Eight = 255
ones_of Sixteen = 65535

abbrev pub or_else : Option Layout → Layout → Layout
or_else None l = l
or_else (Some k) l = k

-- the part at a width (a part that has no width 8 is never at it, and keeps its one layout)
abbrev pub layout_of : Part → Width → Layout
layout_of part Eight = or_else (row_of part).eight (row_of part).sixteen
layout_of part Sixteen = (row_of part).sixteen

abbrev pub organisation : Part → Width → Organisation
organisation part width = record { part = part; width = width }

abbrev pub bytes_of : Part → ℕ
bytes_of part = (row_of part).bytes

unfoldable pub cells_of : Part → Width → ℕ
cells_of part width = (layout_of part width).cells

unfoldable pub field_of : Part → Width → ℕ
field_of part width = (layout_of part width).field

-- The 46 never reads ORG.
abbrev pub width_by : Part → Bool → Width
width_by C46 org = Sixteen
width_by C56 org = cond org Sixteen Eight
width_by C66 org = cond org Sixteen Eight
width_by C76 org = cond org Sixteen Eight
width_by C86 org = cond org Sixteen Eight

-- There are cells, they fill the bytes, every cell has an address, and an address has from 6 to 11 bits.
abbrev pub agrees_at : ℕ → Width → Layout → Bool
agrees_at bytes width l =
    nat_le 1 l.cells && (l.cells * bytes_in width == bytes && (nat_le l.cells (2 ^ l.field) && (nat_le 6 l.field && nat_le l.field 11)))

abbrev pub agrees_at_eight : ℕ → Option Layout → Bool
agrees_at_eight bytes None = true
agrees_at_eight bytes (Some l) = agrees_at bytes Eight l

abbrev pub agrees : Row → Bool
agrees r = agrees_at r.bytes Sixteen r.sixteen && agrees_at_eight r.bytes r.eight

abbrev pub every : (Row → Bool) → List Row → Bool
every test [] = true
every test (r ∷ rs) = test r && every test rs

-- The whole table agrees.
abbrev pub TableAgrees : Type 0
TableAgrees = every agrees rows ≡ true
