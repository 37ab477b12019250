-- Cells that are set, filled and read.
use Rattle.std.proofs.Common.{◌≡◌, ℕ, zero, suc, ◌+◌, ◌*◌, ◌/◌, ◌%◌, ◌^◌, ◌<◌, ◌≤◌, true, ltb, List, [], ◌∷◌, length, get_or, set, refl, ap, ◌∙◌, inl, inr, add-zero, mod-eq_of_lt, suc-mul, arith, lit<}
use native.Mathlib.Nat.{mod-add-mod}
use Rattle.std.proofs.lemmas.List.{length-set, get_or-set_same, get_or-set_other}
use Rattle.std.proofs.lemmas.Nat.{mod_below}
use Rattle.std.proofs.lemmas.Bool.{ltb-true, lt-ltb, and_parts, and_from, cases_eq}
use Rattle.protocol.specs.declared.parts.Width.{Width}
use Rattle.protocol.specs.declared.parts.Width.TheVariants.{Eight, Sixteen}
use Rattle.protocol.specs.Parts.{bits_of, bytes_in, ones_of, cells_of}
use Rattle.protocol.proofs.Table.{agreed}
use Rattle.chips.specs.Fitting.{are_bytes, Fits}
use Rattle.chips.specs.Machine.{cell_value, set_cell, fill_cells}
use Rattle.chips.specs.Pins.{Pins}
use Rattle.wire.specs.Hearing.{cells_from}
use Rattle.wire.specs.Laws.{CellsFromLength, CellsFromAt, SetCellSame, SetCellOther}
use Rattle.wire.specs.Laws.{FillCellsInside}

pub some_bits : (width : Width) → 0 < bits_of width
some_bits Eight = lit< tt
some_bits Sixteen = lit< tt

-- the bytes of a chip that fits have all its cells
pub cells_within : (p : Pins) (width : Width) → Fits p → cells_of p.machine.setup.part width * bytes_in width ≤ length p.machine.bytes
cells_within p width f = omega (arith, (agreed p.machine.setup.part width).within, f.size)

-- what every cell set at a value of the width keeps, filling cells keeps
pub fill_keeps : (P : List ℕ → Type 0) (width : Width) (v : ℕ) → ((k : ℕ) (bytes : List ℕ) → P bytes → P (set_cell width k v bytes)) →
    (n : ℕ) (bytes : List ℕ) → P bytes → P (fill_cells width n v bytes)
fill_keeps P width v keeps zero bytes h = h
fill_keeps P width v keeps (suc n) bytes h = keeps n (fill_cells width n v bytes) (fill_keeps P width v keeps n bytes h)

-- the number of bytes
set-length : (width : Width) (k v : ℕ) (bytes : List ℕ) → length (set_cell width k v bytes) ≡ length bytes
set-length Eight k v bytes = simp length-set
set-length Sixteen k v bytes = simp length-set

pub cells_keep_length : (width : Width) (k v : ℕ) (bytes : List ℕ) →
    (length (set_cell width k v bytes) ≡ length bytes) × (length (fill_cells width k v bytes) ≡ length bytes)
cells_keep_length width k v bytes =
    (set-length width k v bytes, fill_keeps (λ bs. length bs ≡ length bytes) width v (λ j bs e. set-length width j v bs ∙ e) k bytes refl)

-- bytes stay bytes
byte_set : (bytes : List ℕ) (i v : ℕ) → v < 256 → are_bytes bytes ≡ true → are_bytes (set bytes i v) ≡ true
unfolding are_bytes
byte_set [] i v h b = refl
byte_set (x ∷ xs) zero v h b = and_from (ltb v 256) (are_bytes xs) (lt-ltb v 256 h) (and_parts (ltb x 256) (are_bytes xs) b).1
byte_set (x ∷ xs) (suc i) v h b =
    let p = and_parts (ltb x 256) (are_bytes xs) b in and_from (ltb x 256) (are_bytes (set xs i v)) p.0 (byte_set xs i v h p.1)

cell_set : (width : Width) (k v : ℕ) (bytes : List ℕ) → v ≤ ones_of width → are_bytes bytes ≡ true → are_bytes (set_cell width k v bytes) ≡ true
cell_set Eight k v bytes h b = byte_set bytes k v (omega arith) b
cell_set Sixteen k v bytes h b = byte_set _ (2 * k + 1) (v % 256) (omega arith) (byte_set bytes (2 * k) (v / 256) (omega arith) b)

pub cells_keep_bytes : (width : Width) (k v : ℕ) (bytes : List ℕ) → v ≤ ones_of width → are_bytes bytes ≡ true →
    (are_bytes (set_cell width k v bytes) ≡ true) × (are_bytes (fill_cells width k v bytes) ≡ true)
cells_keep_bytes width k v bytes h b =
    (cell_set width k v bytes h b, fill_keeps (λ bs. are_bytes bs ≡ true) width v (λ j bs c. cell_set width j v bs h c) k bytes b)

pub byte_below : (bytes : List ℕ) (k : ℕ) → are_bytes bytes ≡ true → get_or bytes k 0 < 256
unfolding are_bytes
byte_below [] k b = lit< tt
byte_below (x ∷ xs) zero b = ltb-true x 256 (and_parts (ltb x 256) (are_bytes xs) b).0
byte_below (x ∷ xs) (suc k) b = byte_below xs k (and_parts (ltb x 256) (are_bytes xs) b).1

-- a cell of bytes is a word of the width
pub cell_below : (width : Width) (bytes : List ℕ) (k : ℕ) → are_bytes bytes ≡ true → cell_value width bytes k < 2 ^ bits_of width
cell_below Eight bytes k b = byte_below bytes k b
cell_below Sixteen bytes k b = omega (arith, byte_below bytes (2 * k) b, byte_below bytes (2 * k + 1) b)

-- a cell that is set, and the others
pub set_cell_same : SetCellSame
set_cell_same Eight cells k v bytes within inside fits = get_or-set_same bytes k v 0 (omega arith)
set_cell_same Sixteen cells k v bytes within inside fits =
    let high = set bytes (2 * k) (v / 256) in
    let l : length high ≡ length bytes = simp length-set in
    let a : get_or (set high (2 * k + 1) (v % 256)) (2 * k) 0 ≡ get_or high (2 * k) 0 =
    get_or-set_other high (2 * k + 1) (2 * k) (v % 256) 0 (λ e. omega arith) in
    let b : get_or high (2 * k) 0 ≡ v / 256 = get_or-set_same bytes (2 * k) (v / 256) 0 (omega arith) in
    let c : get_or (set high (2 * k + 1) (v % 256)) (2 * k + 1) 0 ≡ v % 256 = get_or-set_same high (2 * k + 1) (v % 256) 0 (omega arith) in
    omega arith

pub set_cell_other : SetCellOther
set_cell_other Eight k v j bytes other = get_or-set_other bytes k j v 0 other
set_cell_other Sixteen k v j bytes other =
    let high = set bytes (2 * k) (v / 256) in
    let at : (i : ℕ) → (i ≡ 2 * k → ⊥) → (i ≡ 2 * k + 1 → ⊥) → get_or (set high (2 * k + 1) (v % 256)) i 0 ≡ get_or bytes i 0 =
    λ i a b. get_or-set_other high (2 * k + 1) i (v % 256) 0 b ∙ get_or-set_other bytes (2 * k) i (v / 256) 0 a in
    rw (at (2 * j) (λ e. other (omega arith)) (λ e. omega arith), at (2 * j + 1) (λ e. omega arith) (λ e. other (omega arith)))

pub fill_cells_inside : FillCellsInside
fill_cells_inside width zero v j bytes within inside fits = absurd (omega arith)
fill_cells_inside width (suc n) v j bytes within inside fits =
    let filled = fill_cells width n v bytes in
    let l : length filled ≡ length bytes = (cells_keep_length width n v bytes).1 in
    elim (cases_eq j n) [
      | inl e ↦ rw e (set_cell_same width (suc n) n v filled (omega arith) (omega arith) fits)
      | inr other ↦
          set_cell_other width n v j filled other
          ∙ fill_cells_inside width n v j bytes (omega (arith, suc-mul n (bytes_in width))) (omega (arith, other)) fits
    ]

-- the words of a READ, one by one
pub cells_from-length : CellsFromLength
unfolding cells_from
cells_from-length part width bytes zero cell = refl
cells_from-length part width bytes (suc n) cell = ap suc (cells_from-length part width bytes n ((cell + 1) % cells_of part width))

pub cells_from-at : CellsFromAt
unfolding cells_from
cells_from-at part width bytes zero cell k inside h = absurd (omega arith)
cells_from-at part width bytes (suc n) cell zero inside h = rw (add-zero, mod-eq_of_lt inside)
cells_from-at part width bytes (suc n) cell (suc k) inside h =
    let e : cell + 1 + k ≡ cell + suc k = omega arith in
    cells_from-at part width bytes n ((cell + 1) % cells_of part width) k (mod_below _ _ (agreed part width).some) (omega arith)
    ∙ rw (mod-add-mod, e)
