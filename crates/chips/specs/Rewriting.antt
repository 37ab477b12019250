-- What is done to cells.
use Rattle.std.specs.Prelude.{◌≡◌, ℕ, List}
use Rattle.chips.specs.declared.cells.Cells.{Cells}

-- The cells c become d, with these bytes: of the same part, in the same memory.
pub record Rewritten (c d : Cells) (memory : List ℕ) : Type 0 where
  pub bytes : d.memory.now ≡ memory
  pub part : d.part ≡ c.part
  pub lender : d.memory.ghost_name ≡ c.memory.ghost_name
