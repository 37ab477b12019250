-- The control of a chip: how one sample of the pins takes its state on, and what the sample decides. No byte of the memory plays a part.
use Rattle.std.specs.Prelude.{ℕ, ◌+◌, ◌-◌, ◌*◌, ◌%◌, Bool, true, false, cond, not, ◌&&◌, ◌||◌, ◌==◌, nat_lt}
use Rattle.protocol.specs.declared.instruction.Kind.{Kind}
use Rattle.protocol.specs.declared.instruction.Kind.TheVariants.{Read, Write, Erase, Wen, Wds, Eral, Wrall}
use Rattle.protocol.specs.declared.parts.Part.{Part}
use Rattle.protocol.specs.declared.parts.Width.{Width}
use Rattle.protocol.specs.declared.sample.Sample.{Sample}
use Rattle.protocol.specs.declared.settings.Edition.{Edition}
use Rattle.protocol.specs.declared.settings.Edition.TheVariants.{Fall, Clock}
use Rattle.protocol.specs.declared.settings.Setup.{Setup}
use Rattle.protocol.specs.Parts.{bits_of, cells_of, field_of, width_by}
use Rattle.protocol.specs.Samples.{bit_of}
use Rattle.protocol.specs.Instructions.{is_read, is_change, length_of, kind_at, cell_at, value_at}
use Rattle.chips.specs.declared.state.Phase.{Phase}
use Rattle.chips.specs.declared.state.Phase.TheVariants.{Waiting, Taking, Reading, Spoiled, Over}
use Rattle.chips.specs.declared.state.State.{State}
use Rattle.chips.specs.declared.state.Verdict.{Verdict}
use Rattle.chips.specs.declared.state.Verdict.TheVariants.{CarriedOut, Shut, Protected, WrongCount as WrongCountOf}
use Rattle.chips.specs.declared.state.Decision.{Decision}
use Rattle.chips.specs.declared.state.Decision.TheVariants.{Nothing, Start, Address, Data, Instruction, WrongCount}

abbrev pub is_clock_edition : Edition → Bool
is_clock_edition Fall = false
is_clock_edition Clock = true

-- the state after a sample, and what the sample decided
pub record Turn : Type 0 where
  pub state : State
  pub decision : Decision

abbrev pub turn_to : Decision → State → Turn
turn_to decision st = record { state = st; decision = decision }

abbrev pub in_phase : Phase → State → State
in_phase phase st = record { enabled = st.enabled; left = st.left; status = st.status; cs = st.cs; sk = st.sk; phase = phase }

-- Carrying out.
-- Only a change is turned down: where the chip is shut, else where PE is low, which the fall edition never reads.
abbrev pub verdict_of : Edition → Bool → Bool → Kind → Verdict
verdict_of edition enabled pe kind =
    cond (is_change kind) (cond enabled (cond (is_clock_edition edition && not pe) Protected CarriedOut) Shut) CarriedOut

-- what an instruction of its whole length decides
abbrev pub instruction_at : Setup → Bool → Bool → Width → ℕ → ℕ → Decision
instruction_at setup enabled pe width count bits =
    Instruction (kind_at count bits) width (cell_at setup.part width count bits) (value_at setup.part width (kind_at count bits) count bits)
    (verdict_of setup.edition enabled pe (kind_at count bits))

-- A change begins its cycle; in the clock edition status goes on.
abbrev pub begun : Edition → ℕ → Verdict → State → State
begun edition cycle CarriedOut st =
    record { enabled = st.enabled; left = cycle; status = st.status || is_clock_edition edition; cs = st.cs; sk = st.sk; phase = st.phase }
begun edition cycle Shut st = st
begun edition cycle Protected st = st
begun edition cycle WrongCountOf st = st

-- WEN opens and WDS shuts.
abbrev pub opened : Bool → State → State
opened enabled st = record { enabled = enabled; left = st.left; status = st.status; cs = st.cs; sk = st.sk; phase = st.phase }

abbrev pub carried : Setup → Kind → Verdict → State → State
carried setup Read verdict st = st
carried setup Write verdict st = begun setup.edition setup.cycles.write verdict st
carried setup Erase verdict st = begun setup.edition setup.cycles.write verdict st
carried setup Wen verdict st = opened true st
carried setup Wds verdict st = opened false st
carried setup Eral verdict st = begun setup.edition setup.cycles.eral verdict st
carried setup Wrall verdict st = begun setup.edition setup.cycles.wrall verdict st

abbrev pub obeyed : Setup → Decision → State → State
obeyed setup Nothing st = st
obeyed setup (Start width) st = st
obeyed setup (Address width cell) st = st
obeyed setup (Data width cell next) st = st
obeyed setup (Instruction kind width cell value verdict) st = carried setup kind verdict st
obeyed setup WrongCount st = st

-- Rule 1. The samples left of a cycle fall by one.
abbrev pub aged : State → State
aged st = record { enabled = st.enabled; left = st.left - 1; status = st.status; cs = st.cs; sk = st.sk; phase = st.phase }

-- Rule 2. CS is low. Where it was high an instruction ends: in the fall edition it is carried out at exactly its length, all else is a wrong count.
abbrev pub ending : Setup → Bool → Bool → Phase → Decision
ending setup enabled pe Waiting = Nothing
ending setup enabled pe (Taking width count bits) =
    cond (not (is_clock_edition setup.edition) && count == length_of setup.part width (kind_at count bits))
    (instruction_at setup enabled pe width count bits) WrongCount
ending setup enabled pe (Reading width cell next) = Nothing
ending setup enabled pe Spoiled = WrongCount
ending setup enabled pe Over = Nothing

abbrev pub ended : Setup → Sample → State → Decision
ended setup s st = cond st.cs (ending setup st.enabled s.pe st.phase) Nothing

-- then the chip waits, with status off
abbrev pub rested : State → State
rested st = record { enabled = st.enabled; left = st.left; status = false; cs = st.cs; sk = st.sk; phase = Waiting }

abbrev pub deselected : Setup → Decision → State → Turn
deselected setup decision st = turn_to decision (rested (obeyed setup decision st))

-- Rule 3. CS rises while a cycle is under way: status goes on, and nothing is taken.
abbrev pub is_busy_rise : State → Bool
is_busy_rise st = not st.cs && not (st.left == 0)

abbrev pub shown_busy : State → State
shown_busy st = record { enabled = st.enabled; left = st.left; status = true; cs = st.cs; sk = st.sk; phase = Over }

-- Rule 4. A clock: CS high now and before, SK high now and low before; while a cycle is under way it does nothing.
abbrev pub is_clock : Sample → State → Bool
is_clock s st = s.cs && st.cs && s.sk && not st.sk && st.left == 0

-- in taking, an instruction that has got one more bit: a READ begins at its address, the clock edition carries out at the length
abbrev pub taken : Setup → Bool → Width → ℕ → ℕ → State → Turn
taken setup pe width count bits st =
    cond (count == 2 + field_of setup.part width && is_read (kind_at count bits))
    (turn_to (Address width (cell_at setup.part width count bits)) (in_phase (Reading width (cell_at setup.part width count bits) 0) st))
    (cond (is_clock_edition setup.edition && count == length_of setup.part width (kind_at count bits))
    (turn_to (instruction_at setup st.enabled pe width count bits) (in_phase Over (obeyed setup (instruction_at setup st.enabled pe width count bits) st)))
    (turn_to Nothing (in_phase (Taking width count bits) st)))

-- in taking, an instruction of the fall edition that is already at its length is spoiled; else DI is appended
unfoldable pub appended : Setup → Sample → Width → ℕ → ℕ → State → Turn
appended setup s width count bits st =
    cond (not (is_clock_edition setup.edition) && count == length_of setup.part width (kind_at count bits))
    (turn_to Nothing (in_phase Spoiled st))
    (taken setup s.pe width (count + 1) (2 * bits + bit_of s.di) st)

-- in reading, the next bit of the cell, then the next cell, and cell 0 after the last
abbrev pub read_on : Part → Width → ℕ → ℕ → Phase
read_on part width cell next =
    cond (nat_lt (next + 1) (bits_of width)) (Reading width cell (next + 1)) (Reading width ((cell + 1) % cells_of part width) 0)

-- in over, DI 1 turns status off
abbrev pub darkened : Bool → State → State
darkened di st = record { enabled = st.enabled; left = st.left; status = st.status && not di; cs = st.cs; sk = st.sk; phase = st.phase }

abbrev pub clocked : Setup → Sample → Phase → State → Turn
clocked setup s Waiting st =
    cond s.di (turn_to (Start (width_by setup.part s.org)) (in_phase (Taking (width_by setup.part s.org) 0 0) st)) (turn_to Nothing st)
clocked setup s (Taking width count bits) st = appended setup s width count bits st
clocked setup s (Reading width cell next) st = turn_to (Data width cell next) (in_phase (read_on setup.part width cell next) st)
clocked setup s Spoiled st = turn_to Nothing st
clocked setup s Over st = turn_to Nothing (darkened s.di st)

-- Rules 2 to 4, in this order.
abbrev pub turned : Setup → Sample → State → Turn
turned setup s st =
    cond (not s.cs) (deselected setup (ended setup s st) st)
    (cond (is_busy_rise st) (turn_to Nothing (shown_busy st))
    (cond (is_clock s st) (clocked setup s st.phase st) (turn_to Nothing st)))

-- every sample's CS and SK are kept
abbrev pub kept : Sample → State → State
kept s st = record { enabled = st.enabled; left = st.left; status = st.status; cs = s.cs; sk = s.sk; phase = st.phase }

-- One sample.
unfoldable pub turn : Setup → State → Sample → Turn
turn setup st s = turn_to (turned setup s (aged st)).decision (kept s (turned setup s (aged st)).state)

-- CS stays as it was and no clock is heard: such a sample decides nothing
abbrev pub is_quiet : Sample → State → Bool
is_quiet s st = cond s.cs (st.cs && not (is_clock s (aged st))) (not st.cs)

-- At power-up a chip is shut and waits, with no cycle under way, status off and both levels low.
abbrev pub power_up : State
power_up = record { enabled = false; left = 0; status = false; cs = false; sk = false; phase = Waiting }
