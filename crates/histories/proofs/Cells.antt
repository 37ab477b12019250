-- The cells of a chip as a list: what reads and changes do, by the list alone.
use Rattle.std.proofs.Common.{◌≡◌, ℕ, ◌+◌, ◌*◌, ◌%◌, ◌<◌, ◌≤◌, List, length, get_or, slice_get, Some, set, replicate, sym, ap, ◌∙◌, inl, inr, mod-eq_of_lt, zero-add, arith}
use Rattle.std.proofs.lemmas.Nat.{mod_below}
use Rattle.std.proofs.lemmas.List.{ext_get_or, length-set, length-replicate, get_or-replicate, get_or-set_same, get_or-set_other}
use Rattle.std.proofs.lemmas.Option.{slice_get-get_or}
use Rattle.std.proofs.lemmas.Bool.{cases_eq}
use Rattle.protocol.specs.declared.parts.Part.{Part}
use Rattle.protocol.specs.declared.parts.Width.{Width}
use Rattle.protocol.specs.Parts.{bytes_in, ones_of, cells_of}
use Rattle.protocol.proofs.Table.{agreed}
use Rattle.chips.specs.Machine.{cell_value, set_cell, fill_cells}
use Rattle.wire.specs.Hearing.{cells_from}
use Rattle.wire.proofs.Cells.{cells_from-length, cells_from-at, set_cell_same, set_cell_other, fill_cells_inside}

module _ (part : Part) (width : Width) where
  abbrev count : ℕ
  count = cells_of part width

  -- all cells of these bytes
  abbrev pub all_cells : List ℕ → List ℕ
  all_cells bytes = cells_from part width bytes count 0

  pub all_length : (bytes : List ℕ) → length (all_cells bytes) ≡ count
  all_length bytes = cells_from-length part width bytes count 0

  pub all_at : (bytes : List ℕ) (k : ℕ) → k < count → get_or (all_cells bytes) k 0 ≡ cell_value width bytes k
  all_at bytes k h = cells_from-at part width bytes count 0 k (agreed part width).some h ∙ rw (zero-add, mod-eq_of_lt h)

  -- words from a cell on
  from_all : (bytes : List ℕ) (n cell k : ℕ) → cell < count → k < n →
      get_or (cells_from part width bytes n cell) k 0 ≡ get_or (all_cells bytes) ((cell + k) % length (all_cells bytes)) 0
  from_all bytes n cell k h i =
      cells_from-at part width bytes n cell k h i
      ∙ rw (all_length bytes) (sym (all_at bytes ((cell + k) % count) (mod_below _ _ (agreed part width).some)))

  pub in_cells : (bytes : List ℕ) (n cell k : ℕ) → cell < count → k < n →
      slice_get (all_cells bytes) ((cell + k) % length (all_cells bytes)) ≡ Some (get_or (cells_from part width bytes n cell) k 0)
  in_cells bytes n cell k h i =
      let within : (cell + k) % length (all_cells bytes) < length (all_cells bytes) =
      rw (all_length bytes) (mod_below (cell + k) count (agreed part width).some) in
      slice_get-get_or (all_cells bytes) ((cell + k) % length (all_cells bytes)) 0 within ∙ ap Some (sym (from_all bytes n cell k h i))

  pub same_words : (bytes others : List ℕ) (n cell : ℕ) → cell < count → all_cells bytes ≡ all_cells others →
      cells_from part width bytes n cell ≡ cells_from part width others n cell
  same_words bytes others n cell h e =
      let l = cells_from-length part width bytes n cell in
      ext_get_or 0 _ _ (l ∙ sym (cells_from-length part width others n cell)) (λ k i.
      from_all bytes n cell k h (omega arith) ∙ ap (λ cells. get_or cells ((cell + k) % length cells) 0) e
      ∙ sym (from_all others n cell k h (omega arith)))

  -- what holds cell by cell holds of the list
  all_same : (bytes book : List ℕ) → length book ≡ count → ((k : ℕ) → k < count → cell_value width bytes k ≡ get_or book k 0) → all_cells bytes ≡ book
  all_same bytes book l each =
      let m = all_length bytes in
      ext_get_or 0 _ _ (m ∙ sym l) (λ k h. all_at bytes k (omega arith) ∙ each k (omega arith))

  module _ (bytes : List ℕ) (within : count * bytes_in width ≤ length bytes) (v : ℕ) (fits : v ≤ ones_of width) where
    -- one cell that is set
    pub set_all : (cell : ℕ) → cell < count → all_cells (set_cell width (cell % count) v bytes) ≡ set (all_cells bytes) cell v
    set_all cell h =
        let l = all_length bytes in
        rw (mod-eq_of_lt h)
        (all_same (set_cell width cell v bytes) (set (all_cells bytes) cell v) (simp length-set l) (λ k i.
        elim (cases_eq k cell) [
          | inl e ↦
              rw e (set_cell_same width count cell v bytes within h fits ∙ sym (get_or-set_same (all_cells bytes) cell v 0 (omega arith)))
          | inr other ↦
              set_cell_other width cell v k bytes other ∙ sym (all_at bytes k i) ∙ sym (get_or-set_other (all_cells bytes) cell k v 0 other)
        ]))

    -- all cells filled
    pub fill_all : all_cells (fill_cells width count v bytes) ≡ replicate (length (all_cells bytes)) v
    fill_all =
        rw (all_length bytes)
        (all_same (fill_cells width count v bytes) (replicate count v) (length-replicate count v) (λ k i.
        fill_cells_inside width count v k bytes within i fits ∙ sym (get_or-replicate count k v 0 i)))
