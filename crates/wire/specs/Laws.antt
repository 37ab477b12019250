-- What polling and frames do to a chip, over every part, width and edition.
use Rattle.std.specs.Prelude.{◌≡◌, ℕ, ◌+◌, ◌-◌, ◌*◌, ◌%◌, ◌<◌, ◌≤◌, false, List, [], ◌∷◌, ◌++◌, length, ◌≢◌, nat_le, slice_index}
use Rattle.protocol.specs.declared.instruction.Kind.{Kind}
use Rattle.protocol.specs.declared.parts.Part.{Part}
use Rattle.protocol.specs.declared.parts.Width.{Width}
use Rattle.protocol.specs.Parts.{bits_of, bytes_in, ones_of, cells_of}
use Rattle.protocol.specs.Instructions.{is_read}
use Rattle.chips.specs.Fitting.{Fits}
use Rattle.chips.specs.Machine.{cell_value, set_cell, fill_cells}
use Rattle.chips.specs.Pins.{Pins, Put, put_on}
use Rattle.wire.specs.Frames.{idle, ending, plain_frame, read_opening, clocks}
use Rattle.wire.specs.Runs.{run}
use Rattle.wire.specs.Polling.{most_tries, polls, is_ready}
use Rattle.wire.specs.Hearing.{heard, after_bits, words_heard, cells_from}
use Rattle.wire.specs.Places.{width_on, left_on, Rest, Ready, Sendable, resting, carried_out, reading}

-- Polling finds a resting chip still programming exactly where left is above 4,096.
abbrev pub PollReadyIff : Type 0
PollReadyIff = (p : Pins) → Rest p → is_ready p ≡ nat_le (left_on p) most_tries

-- Afterwards the chip is at rest again, and left is what is left.
abbrev pub PollRests : Type 0
PollRests = (p : Pins) → Rest p → run p (polls p) ≡ resting p (left_on p - 4097)

-- An idle sample brings any chip to rest, whatever it was doing.
abbrev pub IdleRests : Type 0
IdleRests = (p : Pins) → p.blank ≡ false → Rest (put_on p idle)

-- Every sample keeps a chip fitting.
abbrev pub PutKeepsFits : Type 0
PutKeepsFits = (p : Pins) (x : Put) → p.blank ≡ false → Fits p → Fits (put_on p x)

-- A frame of exact length, sent to a ready chip, has its instruction decided once, which is carried out or turned down, and leaves
-- the chip at rest.
abbrev pub FrameCarriesOut : Type 0
FrameCarriesOut = (p : Pins) (kind : Kind) (address value : ℕ) → Ready p → Sendable p address value → is_read kind ≡ false →
    run p (plain_frame p.machine.setup.part (width_on p) kind address value) ≡ carried_out p kind address value

-- The opening of a READ leaves the chip at the first bit of its cell.
abbrev pub ReadOpensCell : Type 0
ReadOpensCell = (p : Pins) (address : ℕ) (after : List Put) → Ready p → Sendable p address 0 →
    run p (read_opening p.machine.setup.part (width_on p) address after) ≡ run (reading p address) after

-- A READ answers the cells from its address on, wrapping.
abbrev pub ReadAnswersCells : Type 0
ReadAnswersCells = (p : Pins) (address n : ℕ) → Ready p → Fits p →
    words_heard (bits_of (width_on p)) n (reading p address)
    ≡ cells_from p.machine.setup.part (width_on p) p.machine.bytes n (address % cells_of p.machine.setup.part (width_on p))

-- It changes no cell: after any number of bits and the ending the chip is at rest as it was.
abbrev pub ReadRests : Type 0
ReadRests = (p : Pins) (address n : ℕ) → Ready p → run (after_bits n (reading p address)) ending ≡ resting p 0

-- Zero bits that are heard are zero bits that are sent.
abbrev pub HeardIsRun : Type 0
HeardIsRun = (p : Pins) (n : ℕ) (after : List Put) → run p (clocks n 0 after) ≡ run (after_bits n p) after

-- One word more is heard after the bits of the words before it.
abbrev pub WordsHeardMore : Type 0
WordsHeardMore = (p : Pins) (bits n : ℕ) → words_heard bits (n + 1) p ≡ words_heard bits n p ++ (heard bits 0 (after_bits (n * bits) p) ∷ [])

-- n words are answered to a READ of n words.
abbrev pub CellsFromLength : Type 0
CellsFromLength = (part : Part) (width : Width) (bytes : List ℕ) (n cell : ℕ) → length (cells_from part width bytes n cell) ≡ n

-- Word k of them is cell k from the first on, wrapping.
abbrev pub CellsFromAt : Type 0
CellsFromAt = (part : Part) (width : Width) (bytes : List ℕ) (n cell k : ℕ) → cell < cells_of part width → k < n →
    slice_index (cells_from part width bytes n cell) k ≡ cell_value width bytes ((cell + k) % cells_of part width)

-- A cell that is set holds the value, where the bytes have so many cells.
abbrev pub SetCellSame : Type 0
SetCellSame = (width : Width) (cells k v : ℕ) (bytes : List ℕ) → cells * bytes_in width ≤ length bytes → k < cells → v ≤ ones_of width →
    cell_value width (set_cell width k v bytes) k ≡ v

-- Every other cell holds what it held.
abbrev pub SetCellOther : Type 0
SetCellOther = (width : Width) (k v j : ℕ) (bytes : List ℕ) → (j ≢ k) → cell_value width (set_cell width k v bytes) j ≡ cell_value width bytes j

-- The first n cells, once filled, hold the value, where the bytes have so many cells.
abbrev pub FillCellsInside : Type 0
FillCellsInside = (width : Width) (n v j : ℕ) (bytes : List ℕ) → n * bytes_in width ≤ length bytes → j < n → v ≤ ones_of width →
    cell_value width (fill_cells width n v bytes) j ≡ v

-- All of them together.
pub record Laws : Type 0 where
  pub poll_ready_iff : PollReadyIff
  pub poll_rests : PollRests
  pub idle_rests : IdleRests
  pub put_keeps_fits : PutKeepsFits
  pub frame_carries_out : FrameCarriesOut
  pub read_opens_cell : ReadOpensCell
  pub read_answers_cells : ReadAnswersCells
  pub read_rests : ReadRests
  pub heard_is_run : HeardIsRun
  pub words_heard_more : WordsHeardMore
  pub cells_from_length : CellsFromLength
  pub cells_from_at : CellsFromAt
  pub set_cell_same : SetCellSame
  pub set_cell_other : SetCellOther
  pub fill_cells_inside : FillCellsInside
