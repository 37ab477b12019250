-- What a control keeps true of its phase, and of the decisions that it hands out. In other phases the numbers stand for nothing.
use Rattle.std.specs.Prelude.{ℕ, ◌+◌, ◌<◌, ◌≤◌, cond, ◌⊎◌}
use Rattle.protocol.specs.declared.parts.Part.{Part}
use Rattle.protocol.specs.declared.parts.Width.{Width}
use Rattle.protocol.specs.declared.settings.Setup.{Setup}
use Rattle.protocol.specs.Instructions.{length_of, kind_at}
use Rattle.protocol.specs.Parts.{bits_of, ones_of, cells_of, field_of}
use Rattle.chips.specs.declared.state.Phase.{Phase}
use Rattle.chips.specs.declared.state.Phase.TheVariants.{Waiting, Taking, Reading, Spoiled, Over}
use Rattle.chips.specs.Control.{is_clock_edition}
use Rattle.chips.specs.declared.state.Decision.{Decision}
use Rattle.chips.specs.declared.state.Decision.TheVariants.{Nothing, Start, Address, Data, Instruction, WrongCount}

-- how many bits were taken, and their value
abbrev pub count_in : Phase → ℕ
count_in Waiting = 0
count_in (Taking width count bits) = count
count_in (Reading width cell next) = 0
count_in Spoiled = 0
count_in Over = 0

abbrev pub value_in : Phase → ℕ
value_in Waiting = 0
value_in (Taking width count bits) = bits
value_in (Reading width cell next) = 0
value_in Spoiled = 0
value_in Over = 0

-- the cell that is read and its next bit, with what they stay below
abbrev pub cell_in : Phase → ℕ
cell_in Waiting = 0
cell_in (Taking width count bits) = 0
cell_in (Reading width cell next) = cell
cell_in Spoiled = 0
cell_in Over = 0

abbrev pub cells_in : Part → Phase → ℕ
cells_in part Waiting = 1
cells_in part (Taking width count bits) = 1
cells_in part (Reading width cell next) = cells_of part width
cells_in part Spoiled = 1
cells_in part Over = 1

abbrev pub next_in : Phase → ℕ
next_in Waiting = 0
next_in (Taking width count bits) = 0
next_in (Reading width cell next) = next
next_in Spoiled = 0
next_in Over = 0

abbrev pub bits_in : Phase → ℕ
bits_in Waiting = 1
bits_in (Taking width count bits) = 1
bits_in (Reading width cell next) = bits_of width
bits_in Spoiled = 1
bits_in Over = 1

-- What the count of bits stays below: the length, which only an instruction of the fall edition is at in taking.
unfoldable pub bits_below : Setup → Width → ℕ → ℕ → ℕ
bits_below setup width count bits = length_of setup.part width (kind_at count bits) + cond (is_clock_edition setup.edition) 0 1

abbrev pub counts_in : Setup → Phase → ℕ
counts_in setup Waiting = 1
counts_in setup (Taking width count bits) = bits_below setup width count bits
counts_in setup (Reading width cell next) = 1
counts_in setup Spoiled = 1
counts_in setup Over = 1

-- a decision names a cell of the part, a bit of the width and a value of the width
abbrev pub cell_by : Decision → ℕ
cell_by Nothing = 0
cell_by (Start width) = 0
cell_by (Address width cell) = cell
cell_by (Data width cell next) = cell
cell_by (Instruction kind width cell value verdict) = cell
cell_by WrongCount = 0

abbrev pub cells_by : Part → Decision → ℕ
cells_by part Nothing = 1
cells_by part (Start width) = 1
cells_by part (Address width cell) = cells_of part width
cells_by part (Data width cell next) = cells_of part width
cells_by part (Instruction kind width cell value verdict) = cells_of part width
cells_by part WrongCount = 1

abbrev pub next_by : Decision → ℕ
next_by Nothing = 0
next_by (Start width) = 0
next_by (Address width cell) = 0
next_by (Data width cell next) = next
next_by (Instruction kind width cell value verdict) = 0
next_by WrongCount = 0

abbrev pub bits_by : Decision → ℕ
bits_by Nothing = 1
bits_by (Start width) = 1
bits_by (Address width cell) = 1
bits_by (Data width cell next) = bits_of width
bits_by (Instruction kind width cell value verdict) = 1
bits_by WrongCount = 1

abbrev pub value_by : Decision → ℕ
value_by Nothing = 0
value_by (Start width) = 0
value_by (Address width cell) = 0
value_by (Data width cell next) = 0
value_by (Instruction kind width cell value verdict) = value
value_by WrongCount = 0

abbrev pub most_by : Decision → ℕ
most_by Nothing = 0
most_by (Start width) = 0
most_by (Address width cell) = 0
most_by (Data width cell next) = 0
most_by (Instruction kind width cell value verdict) = ones_of width
most_by WrongCount = 0

pub record DecisionFits (part : Part) (decision : Decision) : Type 0 where
  pub cell : cell_by decision < cells_by part decision
  pub next : next_by decision < bits_by decision
  pub value : value_by decision ≤ most_by decision

-- An instruction with more than one bit to come, of its address or of its data.
abbrev pub Midway : Part → Width → ℕ → ℕ → Type 0
Midway part width count bits =
    (count + 1 < 2 + field_of part width) ⊎ ((2 + field_of part width ≤ count) × (count + 1 < length_of part width (kind_at count bits)))
