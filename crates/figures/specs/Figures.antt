-- Worked figures, in the words of the definitions that the contracts use.
use Rattle.std.specs.Prelude.{◌≡◌, ℕ, ◌+◌, ◌*◌, ◌<◌, Bool, true, false, not, ◌&&◌, if◌then◌else◌}
use Rattle.std.specs.Prelude.{List, [], ◌∷◌, ◌++◌, length, Some, None, Ok, Err}
use Rattle.protocol.specs.declared.instruction.Instruction.TheVariants as instruction
use Rattle.protocol.specs.declared.instruction.Kind.TheVariants.{Read, Write, Wen}
use Rattle.protocol.specs.declared.parts.Part.TheVariants.{C46, C56, C76, C86}
use Rattle.protocol.specs.declared.parts.Width.TheVariants.{Eight, Sixteen}
use Rattle.protocol.specs.declared.refusal.Cause.TheVariants.{Busy}
use Rattle.protocol.specs.declared.settings.Edition.{Edition}
use Rattle.protocol.specs.declared.settings.Edition.TheVariants.{Fall, Clock}
use Rattle.protocol.specs.declared.settings.Setup.{Setup}
use Rattle.protocol.specs.Instructions.{length_of, cell_at}
use Rattle.protocol.specs.Refusals.{refusal}
use Rattle.chips.specs.declared.state.Phase.TheVariants.{Over}
use Rattle.chips.specs.declared.state.Verdict.TheVariants.{CarriedOut, WrongCount}
use Rattle.chips.specs.Fitting.{Fits}
use Rattle.chips.specs.Machine.{cell_value, set_cell, fresh_machine}
use Rattle.chips.specs.Pins.{Pins, Put, put_on, do_of}
use Rattle.wire.specs.Frames.{idle, selected, ending, opening, joined, code_of, frame_of}
use Rattle.wire.specs.Hearing.{cells_from}
use Rattle.wire.specs.Places.{width_on, left_on, Rest, Ready}
use Rattle.wire.specs.Polling.{most_tries, tries, ready_in}
use Rattle.wire.specs.Runs.{run}
use Rattle.driver.specs.Calls.{settle}
use Rattle.driver.specs.Outcome.{State}
use Rattle.driver.specs.Reads.{run_words, filled}
use Rattle.frame_writer.specs.Written.{bytes_of, written}
use Rattle.traces.specs.declared.entry.Entry.{Entry}
use Rattle.traces.specs.Entries.{entries_of}

-- A clock: CS is high now and before, SK is high now and low before.
abbrev pub is_clock_from : Put → Put → Bool
is_clock_from before now = before.cs && now.cs && (not before.sk && now.sk)

-- how many clocks are among samples that come after one
abbrev pub clocks_after : Put → List Put → ℕ
clocks_after before [] = 0
clocks_after before (now ∷ later) = (if is_clock_from before now then 1 else 0) + clocks_after now later

-- before the first sample all levels are low
abbrev pub clock_count : List Put → ℕ
clock_count samples = clocks_after idle samples

-- the frame of a WRITE on a 46, and on an 86 at width 8
abbrev pub write_of_46 : ℕ → ℕ → List Put
write_of_46 address value = frame_of C46 Sixteen (instruction.Write address value)

abbrev pub write_of_86 : ℕ → ℕ → List Put
write_of_86 address value = frame_of C86 Eight (instruction.Write address value)

-- the levels of DO that samples show
abbrev pub levels_of : Pins → List Put → List ℕ
levels_of p [] = []
levels_of p (x ∷ xs) = do_of (put_on p x) ∷ levels_of (put_on p x) xs

-- A cycle of 5 samples has just begun: in the fall edition the chip is then at rest, in the clock edition
-- it is still selected.
pub record BegunAtFall (p : Pins) : Type 0 where
  pub rest : Rest p
  pub left : left_on p ≡ 5

pub record BegunAtClock (p : Pins) : Type 0 where
  pub live : p.blank ≡ false
  pub high : p.machine.state.cs ≡ true
  pub over : p.machine.state.phase ≡ Over
  pub lit : p.machine.state.status ≡ true
  pub left : left_on p ≡ 5

-- CS alone is high from the next sample on, or from the fifth
abbrev pub watched : List Put
watched = selected ∷ selected ∷ selected ∷ selected ∷ selected ∷ selected ∷ []

abbrev pub late_watched : List Put
late_watched = idle ∷ idle ∷ idle ∷ idle ∷ selected ∷ []

-- part 76 with cycles of 5 samples
abbrev pub setup76 : Edition → Setup
setup76 edition = record { part = C76; edition = edition; cycles = record { write = 5; eral = 5; wrall = 5 } }

-- such a chip with ORG and PE high, from power-up through WEN
abbrev pub open76 : Edition → List ℕ → Pins
open76 edition bytes =
    run (record { blank = false; machine = fresh_machine (setup76 edition) bytes; org = true; pe = true })
    (frame_of C76 Sixteen instruction.Wen)

-- WEN, then a WRITE of 0x1234 to cell 5 with a zero bit more: ORG and PE are high
abbrev pub write_of_17_bits : List ℕ
write_of_17_bits =
    bytes_of true true (frame_of C76 Sixteen instruction.Wen)
    ++ bytes_of true true (opening 29 (joined 1 10 5 17 (2 * 0x1234)) ending)

-- its entries, each with the place where it is made
abbrev pub wen_at : ℕ → Entry
wen_at last =
    record {
      kind = Some Wen;
      address = None;
      «data» = None;
      width = Sixteen;
      first = 2;
      last = last;
      verdict = CarriedOut;
    }

abbrev pub wrong_count_at : ℕ → Entry
wrong_count_at last =
    record {
      kind = None;
      address = None;
      «data» = None;
      width = Sixteen;
      first = 31;
      last = last;
      verdict = WrongCount;
    }

abbrev pub write_at : ℕ → Entry
write_at last =
    record {
      kind = Some Write;
      address = Some 5;
      «data» = Some 0x1234;
      width = Sixteen;
      first = 31;
      last = last;
      verdict = CarriedOut;
    }

module _ {V : Type 0} where
  -- A greeted driver, whose chip is at rest with so many samples left of a cycle.
  pub record HasLeft (s : State V) (samples : ℕ) : Type 0 where
    pub greeted : s.greeted ≡ true
    pub rest : Rest s.chip.pins
    pub left : left_on s.chip.pins ≡ samples

  -- A greeted driver, whose chip is a ready 86 at width 16.
  pub record IsReady86 (s : State V) : Type 0 where
    pub greeted : s.greeted ≡ true
    pub ready : Ready s.chip.pins
    pub fits : Fits s.chip.pins
    pub part : s.chip.pins.machine.setup.part ≡ C86
    pub width : width_on s.chip.pins ≡ Sixteen

  -- the word in a cell of its chip at width 16
  abbrev pub word_in : State V → ℕ → ℕ
  word_in s cell = cell_value Sixteen s.chip.pins.machine.bytes cell

  -- The figures; what is seen of a chip beside its pins may go on in any way.
  pub record Figures (next : V → Pins → Put → V) : Type 0 where
    -- The WEN frame of a 46 with ORG and PE high.
    pub wen_frame : written 46 true true instruction.Wen
        ≡ Ok
        (25 ∷ 29 ∷ 31 ∷ 25 ∷ 27 ∷ 25 ∷ 27 ∷ 29 ∷ 31 ∷ 29 ∷ 31 ∷ 25 ∷ 27 ∷ 25 ∷ 27 ∷ 25 ∷ 27 ∷ 25 ∷ 27 ∷ 25 ∷ 24 ∷ [])
    -- The frame of a WRITE on a 46 has 25 clocks.
    pub write_46_clocks : (address value : ℕ) → clock_count (write_of_46 address value) ≡ 25
    -- It has 53 samples.
    pub write_46_samples : (address value : ℕ) → length (write_of_46 address value) ≡ 53
    -- On an 86 at width 8 it has 22 clocks.
    pub write_86_clocks : (address value : ℕ) → clock_count (write_of_86 address value) ≡ 22
    -- It then has 47 samples.
    pub write_86_samples : (address value : ℕ) → length (write_of_86 address value) ≡ 47
    -- On a 56 at width 16 the address field 130 names cell 2.
    pub field_130 : cell_at C56 Sixteen (length_of C56 Sixteen Read) (code_of C56 Sixteen Read 130 0) ≡ 2
    -- 17 data bits in a WRITE on an open 76 are a wrong count in the fall edition.
    pub data_17_fall : entries_of (setup76 Fall) write_of_17_bits ≡ wen_at 28 ∷ wrong_count_at 91 ∷ []
    -- In the clock edition the WRITE is carried out at the 16th of them.
    pub data_17_clock : entries_of (setup76 Clock) write_of_17_bits ≡ wen_at 26 ∷ write_at 87 ∷ []
    -- Two words from cell 1023 of an 86 at width 16 are those of cells 1023 and 0.
    pub last_cells : (bytes : List ℕ) →
        cells_from C86 Sixteen bytes 2 1023 ≡ cell_value Sixteen bytes 1023 ∷ cell_value Sixteen bytes 0 ∷ []
    -- A run of these two is done.
    pub last_run : (s : State V) → IsReady86 s → (run_words next 1023 2 s).answer ≡ Ok tt
    -- The caller's two words become those of cells 1023 and 0.
    pub last_words : (s : State V) (first second : ℕ) → IsReady86 s →
        filled next 1023 2 (first ∷ second ∷ []) s ≡ word_in s 1023 ∷ word_in s 0 ∷ []
    -- The last sample of a WRITE begins its cycle in the fall edition.
    pub write_begins_fall : (bytes : List ℕ) →
        BegunAtFall (run (open76 Fall bytes) (frame_of C76 Sixteen (instruction.Write 5 0x1234)))
    -- Its last clock begins the cycle in the clock edition.
    pub write_begins_clock : (bytes : List ℕ) →
        BegunAtClock
        (run (open76 Clock bytes) (opening (length_of C76 Sixteen Write) (code_of C76 Sixteen Write 5 0x1234) []))
    -- A chip that is selected from the next sample on shows 4 samples of the cycle, and then ready.
    pub cycle_fall : (p : Pins) → BegunAtFall p →
        levels_of p watched ≡ 0 ∷ 0 ∷ 0 ∷ 0 ∷ 1 ∷ 1 ∷ []
    pub cycle_clock : (p : Pins) → BegunAtClock p →
        levels_of p watched ≡ 0 ∷ 0 ∷ 0 ∷ 0 ∷ 1 ∷ 1 ∷ []
    -- A chip that is first selected at the fifth sample shows nothing.
    pub cycle_fall_late : (p : Pins) → BegunAtFall p →
        levels_of p late_watched ≡ 2 ∷ 2 ∷ 2 ∷ 2 ∷ 2 ∷ []
    pub cycle_clock_late : (p : Pins) → BegunAtClock p →
        levels_of p late_watched ≡ 2 ∷ 2 ∷ 2 ∷ 2 ∷ 2 ∷ []
    -- With 4,096 samples left as polling begins, settle is done.
    pub left_4096_done : (s : State V) → HasLeft s 4096 → (settle next s).answer ≡ Ok tt
    -- The chip is then seen ready at try 4,096.
    pub left_4096_ready : (p : Pins) → Rest p → left_on p ≡ 4096 → ready_in 4096 p ≡ true
    -- It is not seen ready before.
    pub left_4096_before : (p : Pins) → Rest p → left_on p ≡ 4096 → ready_in 4095 p ≡ false
    -- Polling then takes all its tries.
    pub left_4096_tries : (p : Pins) → Rest p → left_on p ≡ 4096 → length (tries most_tries p) ≡ 4096
    -- With 4,097 samples left settle is refused, by 14: still programming.
    pub left_4097_busy : (s : State V) → HasLeft s 4097 → (settle next s).answer ≡ Err (refusal Busy 0)
    -- 0x1234 in cell 0 at width 16 is 0x34 in cell 1 at width 8.
    pub low_byte : (bytes : List ℕ) → 1 < length bytes →
        cell_value Eight (set_cell Sixteen 0 0x1234 bytes) 1 ≡ 0x34
