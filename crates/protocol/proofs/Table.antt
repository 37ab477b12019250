-- From the test of the whole table to the rule at each part and width.
use Rattle.std.proofs.Common.{◌≡◌, ℕ, zero, suc, ◌*◌, ◌^◌, ◌<◌, ◌≤◌, Bool, true, false, cond, ◌==◌, sym, ap, List, [], ◌∷◌, length, get_or, Some, None, Option, refl, ◌∙◌, not-suc-le-zero, arith, lit<, eqb-true, leb-true}
use Rattle.std.proofs.lemmas.Bool.{and_parts}
use Rattle.std.specs.List.{find}
use Rattle.std.specs.Option.{option_map}
use Rattle.protocol.specs.declared.parts.Part.{Part}
use Rattle.protocol.specs.declared.parts.Part.TheVariants.{C46, C56, C66, C76, C86}
use Rattle.protocol.specs.declared.parts.Width.{Width}
use Rattle.protocol.specs.declared.parts.Width.TheVariants.{Eight, Sixteen}
use Rattle.protocol.specs.declared.parts.Layout.{Layout}
use Rattle.protocol.specs.declared.parts.Row.{Row}
use Rattle.protocol.specs.Parts.{row_of, rows, find_part, part_numbered, bytes_in, or_else, bytes_of, cells_of, field_of, agrees_at, agrees_at_eight, agrees, every, TableAgrees}

pub table_agrees : TableAgrees
table_agrees = refl

-- what holds of every row holds of the row of a part
every-at : (test : Row → Bool) (rs : List Row) (i : ℕ) (d : Row) → every test rs ≡ true → i < length rs → test (get_or rs i d) ≡ true
every-at test [] i d h k = absurd (not-suc-le-zero k)
every-at test (r ∷ rs) zero d h k = (and_parts (test r) (every test rs) h).0
every-at test (r ∷ rs) (suc i) d h k = every-at test rs i d (and_parts (test r) (every test rs) h).1 (omega arith)

every-part : (test : Row → Bool) → every test rows ≡ true → (part : Part) → test (row_of part) ≡ true
every-part test h C46 = every-at test rows 0 (row_of C46) h (lit< tt)
every-part test h C56 = every-at test rows 1 (row_of C46) h (lit< tt)
every-part test h C66 = every-at test rows 2 (row_of C46) h (lit< tt)
every-part test h C76 = every-at test rows 3 (row_of C46) h (lit< tt)
every-part test h C86 = every-at test rows 4 (row_of C46) h (lit< tt)

-- the rule at a part and a width
pub record Agreed (part : Part) (width : Width) : Type 0 where
  pub some : 0 < cells_of part width
  pub within : cells_of part width * bytes_in width ≤ bytes_of part
  pub addressed : cells_of part width ≤ 2 ^ field_of part width
  pub least : 6 ≤ field_of part width
  pub most : field_of part width ≤ 11

record Ruled (bytes : ℕ) (width : Width) (l : Layout) : Type 0 where
  some : 1 ≤ l.cells
  filled : l.cells * bytes_in width ≡ bytes
  addressed : l.cells ≤ 2 ^ l.field
  least : 6 ≤ l.field
  most : l.field ≤ 11

ruled : (bytes : ℕ) (width : Width) (l : Layout) → agrees_at bytes width l ≡ true → Ruled bytes width l
ruled bytes width l h =
    let a = and_parts _ _ h in
    let b = and_parts _ _ a.1 in
    let c = and_parts _ _ b.1 in
    let d = and_parts _ _ c.1 in
    record {
      some = leb-true _ _ a.0;
      filled = eqb-true _ _ b.0;
      addressed = leb-true _ _ c.0;
      least = leb-true _ _ d.0;
      most = leb-true _ _ d.1;
    }

at_sixteen : (part : Part) → Ruled (bytes_of part) Sixteen (row_of part).sixteen
at_sixteen part = ruled _ _ _ (and_parts _ _ (every-part agrees table_agrees part)).0

-- a part that has no width 8 keeps its one layout
at_eight : (bytes : ℕ) (eight : Option Layout) (l : Layout) → agrees_at_eight bytes eight ≡ true → Ruled bytes Sixteen l →
    (0 < (or_else eight l).cells) × ((or_else eight l).cells * 1 ≤ bytes) × ((or_else eight l).cells ≤ 2 ^ (or_else eight l).field)
    × (6 ≤ (or_else eight l).field) × ((or_else eight l).field ≤ 11)
at_eight bytes None l h r = (r.some, omega (arith, r.filled), r.addressed, r.least, r.most)
at_eight bytes (Some k) l h r = let q = ruled bytes Eight k h in (q.some, omega (arith, q.filled), q.addressed, q.least, q.most)

pub agreed : (part : Part) (width : Width) → Agreed part width
unfolding cells_of field_of
agreed part Sixteen =
    let r = at_sixteen part in
    record { some = r.some; within = omega (arith, r.filled); addressed = r.addressed; least = r.least; most = r.most }
agreed part Eight =
    let e = at_eight (bytes_of part) (row_of part).eight (row_of part).sixteen (and_parts _ _ (every-part agrees table_agrees part)).1 (at_sixteen part) in
    record { some = e.0; within = e.1; addressed = e.2; least = e.3; most = e.4 }

-- the row that has a number
abbrev pub has_number : ℕ → Row → Bool
has_number number r = r.number == number

picked : (b : Bool) (r : Row) (p : Option Part) (o : Option Row) → p ≡ option_map (λ (r : Row). r.part) o →
    cond b (Some r.part) p ≡ option_map (λ (r : Row). r.part) (cond b (Some r) o)
picked true r p o e = refl
picked false r p o e = e

-- The part of a number is that of the first row that has it.
pub found_in : (rs : List Row) (number : ℕ) → find_part rs number ≡ option_map (λ (r : Row). r.part) (find (has_number number) rs)
found_in [] number = refl
found_in (r ∷ rs) number = picked (r.number == number) r _ _ (found_in rs number)

-- what finding the row of a number among the rows answers
pub answered : (number : ℕ) (r : Option Row) → r ≡ find (has_number number) rows → option_map (λ (r : Row). r.part) r ≡ part_numbered number
answered number r e = ap (option_map (λ (r : Row). r.part)) e ∙ sym (found_in rows number)
