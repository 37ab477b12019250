-- What one sample makes of bytes, open flag and cycle is what it decides.
use Rattle.std.proofs.Common.{◌≡◌, ℕ, ◌+◌, ◌-◌, ◌*◌, Bool, true, false, not, ◌&&◌, cond, eqb, List, refl, ap, ◌∙◌, arith}
use Rattle.std.proofs.lemmas.Bool.{cond_both}
use Rattle.protocol.specs.declared.instruction.Kind.{Kind}
use Rattle.protocol.specs.declared.instruction.Kind.TheVariants.{Read, Write, Erase, Wen, Wds, Eral, Wrall}
use Rattle.protocol.specs.declared.parts.Part.{Part}
use Rattle.protocol.specs.declared.parts.Width.{Width}
use Rattle.protocol.specs.declared.sample.Sample.{Sample}
use Rattle.protocol.specs.declared.settings.Edition.{Edition}
use Rattle.protocol.specs.declared.settings.Setup.{Setup}
use Rattle.protocol.specs.Parts.{field_of, width_by}
use Rattle.protocol.specs.Instructions.{is_read, is_change, length_of, kind_at, cell_at}
use Rattle.protocol.specs.Samples.{bit_of}
use Rattle.chips.specs.declared.state.Decision.{Decision}
use Rattle.chips.specs.declared.state.Decision.TheVariants.{Nothing, Start, Address, Data, Instruction, WrongCount}
use Rattle.chips.specs.declared.state.Phase.{Phase}
use Rattle.chips.specs.declared.state.Phase.TheVariants.{Waiting, Taking, Reading, Spoiled, Over}
use Rattle.chips.specs.declared.state.State.{State}
use Rattle.chips.specs.declared.state.Verdict.{Verdict}
use Rattle.chips.specs.declared.state.Verdict.TheVariants.{CarriedOut, Shut, Protected, WrongCount as WrongCountOf}
use Rattle.chips.specs.Control.{Turn, turn_to, in_phase, is_clock_edition, instruction_at, begun, carried, obeyed, aged, ended, deselected, is_busy_rise, shown_busy, is_clock, taken, appended, clocked, turned, turn}
use Rattle.chips.specs.Machine.{if_carried_out, changed, written, step}
use Rattle.chips.specs.Pins.{Pins, Put, sample_of, put_on}
use Rattle.wire.specs.Deciding.{decision_on}
use Rattle.decisions.specs.Decided.{opened_by, enabled_by, cycle_of, left_by, is_changing}
use Rattle.decisions.specs.Laws.{LeftIsDecided}

-- the open flag and the samples left, after a turn from a state
record TurnBy (setup : Setup) (st : State) (t : Turn) : Type 0 where
  pub enabled : t.state.enabled ≡ enabled_by t.decision st.enabled
  pub left : t.state.left ≡ left_by setup t.decision st.left

pub either_way : {T : Type 0} (verdict : Verdict) (x : T) → if_carried_out verdict x x ≡ x
either_way CarriedOut x = refl
either_way Shut x = refl
either_way Protected x = refl
either_way WrongCountOf x = refl

begun-left : (edition : Edition) (cycle : ℕ) (verdict : Verdict) (st : State) → (begun edition cycle verdict st).left ≡ if_carried_out verdict cycle st.left
begun-left edition cycle CarriedOut st = refl
begun-left edition cycle Shut st = refl
begun-left edition cycle Protected st = refl
begun-left edition cycle WrongCountOf st = refl

begun-enabled : (edition : Edition) (cycle : ℕ) (verdict : Verdict) (st : State) → (begun edition cycle verdict st).enabled ≡ st.enabled
begun-enabled edition cycle CarriedOut st = refl
begun-enabled edition cycle Shut st = refl
begun-enabled edition cycle Protected st = refl
begun-enabled edition cycle WrongCountOf st = refl

same_left : (verdict : Verdict) (x : ℕ) → x ≡ if_carried_out verdict x x
same_left CarriedOut x = refl
same_left Shut x = refl
same_left Protected x = refl
same_left WrongCountOf x = refl

module _ (setup : Setup) where
  carried-left : (kind : Kind) (verdict : Verdict) (st : State) → (carried setup kind verdict st).left ≡ if_carried_out verdict (cycle_of setup kind st.left) st.left
  carried-left Read verdict st = same_left verdict st.left
  carried-left Write verdict st = begun-left setup.edition _ verdict st
  carried-left Erase verdict st = begun-left setup.edition _ verdict st
  carried-left Wen verdict st = same_left verdict st.left
  carried-left Wds verdict st = same_left verdict st.left
  carried-left Eral verdict st = begun-left setup.edition _ verdict st
  carried-left Wrall verdict st = begun-left setup.edition _ verdict st

  carried-enabled : (kind : Kind) (verdict : Verdict) (st : State) → (carried setup kind verdict st).enabled ≡ opened_by kind st.enabled
  carried-enabled Read verdict st = refl
  carried-enabled Write verdict st = begun-enabled setup.edition _ verdict st
  carried-enabled Erase verdict st = begun-enabled setup.edition _ verdict st
  carried-enabled Wen verdict st = refl
  carried-enabled Wds verdict st = refl
  carried-enabled Eral verdict st = begun-enabled setup.edition _ verdict st
  carried-enabled Wrall verdict st = begun-enabled setup.edition _ verdict st

  obeyed-enabled : (d : Decision) (st : State) → (obeyed setup d st).enabled ≡ enabled_by d st.enabled
  obeyed-enabled Nothing st = refl
  obeyed-enabled (Start width) st = refl
  obeyed-enabled (Address width cell) st = refl
  obeyed-enabled (Data width cell next) st = refl
  obeyed-enabled (Instruction kind width cell value verdict) st = carried-enabled kind verdict st
  obeyed-enabled WrongCount st = refl

  obeyed-left : (d : Decision) (st : State) → (obeyed setup d st).left ≡ left_by setup d st.left
  obeyed-left Nothing st = refl
  obeyed-left (Start width) st = refl
  obeyed-left (Address width cell) st = refl
  obeyed-left (Data width cell next) st = refl
  obeyed-left (Instruction kind width cell value verdict) st = carried-left kind verdict st
  obeyed-left WrongCount st = refl

  taken-by : (pe : Bool) (width : Width) (count bits : ℕ) (st : State) → TurnBy setup st (taken setup pe width count bits st)
  taken-by pe width count bits st =
      let d = instruction_at setup st.enabled pe width count bits in
      let cell = cell_at setup.part width count bits in
      let whole = turn_to d (in_phase Over (obeyed setup d st)) in
      let more = turn_to Nothing (in_phase (Taking width count bits) st) in
      let read = turn_to (Address width cell) (in_phase (Reading width cell 0) st) in
      cond_both (eqb count (2 + field_of setup.part width) && is_read (kind_at count bits)) read _ (TurnBy setup st)
      (λ _. record { enabled = refl; left = refl })
      (λ _. cond_both (is_clock_edition setup.edition && eqb count (length_of setup.part width (kind_at count bits))) whole more (TurnBy setup st)
      (λ _. record { enabled = obeyed-enabled d st; left = obeyed-left d st })
      (λ _. record { enabled = refl; left = refl }))

  appended-by : (s : Sample) (width : Width) (count bits : ℕ) (st : State) → TurnBy setup st (appended setup s width count bits st)
  unfolding appended
  appended-by s width count bits st =
      cond_both (not (is_clock_edition setup.edition) && eqb count (length_of setup.part width (kind_at count bits)))
      (turn_to Nothing (in_phase Spoiled st)) _ (TurnBy setup st)
      (λ _. record { enabled = refl; left = refl }) (λ _. taken-by s.pe width (count + 1) (2 * bits + bit_of s.di) st)

  clocked-by : (s : Sample) (phase : Phase) (st : State) → TurnBy setup st (clocked setup s phase st)
  clocked-by s Waiting st =
      let width = width_by setup.part s.org in
      cond_both s.di (turn_to (Start width) (in_phase (Taking width 0 0) st)) (turn_to Nothing st) (TurnBy setup st)
      (λ _. record { enabled = refl; left = refl }) (λ _. record { enabled = refl; left = refl })
  clocked-by s (Taking width count bits) st = appended-by s width count bits st
  clocked-by s (Reading width cell next) st = record { enabled = refl; left = refl }
  clocked-by s Spoiled st = record { enabled = refl; left = refl }
  clocked-by s Over st = record { enabled = refl; left = refl }

  turned-by : (s : Sample) (st : State) → TurnBy setup st (turned setup s st)
  turned-by s st =
      cond_both (not s.cs) (deselected setup (ended setup s st) st) _ (TurnBy setup st)
      (λ _. record { enabled = obeyed-enabled (ended setup s st) st; left = obeyed-left (ended setup s st) st })
      (λ _. cond_both (is_busy_rise st) (turn_to Nothing (shown_busy st)) _ (TurnBy setup st) (λ _. record { enabled = refl; left = refl })
      (λ _. cond_both (is_clock s st) (clocked setup s st.phase st) (turn_to Nothing st) (TurnBy setup st)
      (λ _. clocked-by s st.phase st) (λ _. record { enabled = refl; left = refl })))

  turn-enabled : (s : Sample) (st : State) → (turn setup st s).state.enabled ≡ enabled_by (turn setup st s).decision st.enabled
  unfolding turn
  turn-enabled s st = (turned-by s (aged st)).enabled

  turn-left : (s : Sample) (st : State) → (turn setup st s).state.left ≡ left_by setup (turn setup st s).decision (st.left - 1)
  unfolding turn
  turn-left s st = (turned-by s (aged st)).left

-- on a chip, or on a blank
module _ (p : Pins) (x : Put) where
  abbrev turned_to : Turn
  turned_to = turn p.machine.setup p.machine.state (sample_of p x)

  pub put-setup : (put_on p x).machine.setup ≡ p.machine.setup
  unfolding put_on
  put-setup = elim p.blank as (λ b. (cond b p.machine (step p.machine (sample_of p x))).setup ≡ p.machine.setup) [ true ↦ refl | false ↦ refl ]

  pub put-bytes : (put_on p x).machine.bytes ≡ written p.machine.setup.part (decision_on p x) p.machine.bytes
  unfolding put_on
  put-bytes =
      elim p.blank as (λ b. (cond b p.machine (step p.machine (sample_of p x))).bytes ≡ written p.machine.setup.part (cond b Nothing turned_to.decision) p.machine.bytes)
      [ true ↦ refl | false ↦ refl ]

  pub put-enabled : (put_on p x).machine.state.enabled ≡ enabled_by (decision_on p x) p.machine.state.enabled
  unfolding put_on
  put-enabled =
      elim p.blank as (λ b. (cond b p.machine (step p.machine (sample_of p x))).state.enabled ≡ enabled_by (cond b Nothing turned_to.decision) p.machine.state.enabled)
      [ true ↦ refl | false ↦ turn-enabled p.machine.setup (sample_of p x) p.machine.state ]

pub left_is_decided : LeftIsDecided
unfolding put_on
left_is_decided p x live = rw live (turn-left p.machine.setup (sample_of p x) p.machine.state)

-- what is no change leaves the bytes and the samples left
kept-bytes : (part : Part) (kind : Kind) (width : Width) (cell value : ℕ) (bytes : List ℕ) → is_change kind ≡ false → changed part kind width cell value bytes ≡ bytes
kept-bytes part kind width cell value bytes h = grind arith

kept-cycle : (setup : Setup) (kind : Kind) (left : ℕ) → is_change kind ≡ false → cycle_of setup kind left ≡ left
kept-cycle setup kind left h = grind arith

pub unwritten : (part : Part) (d : Decision) (bytes : List ℕ) → is_changing d ≡ false → written part d bytes ≡ bytes
unwritten part Nothing bytes h = refl
unwritten part (Start width) bytes h = refl
unwritten part (Address width cell) bytes h = refl
unwritten part (Data width cell next) bytes h = refl
unwritten part (Instruction kind width cell value verdict) bytes h =
    ap (λ (b : List ℕ). if_carried_out verdict b bytes) (kept-bytes part kind width cell value bytes h) ∙ either_way verdict bytes
unwritten part WrongCount bytes h = refl

pub uncycled : (setup : Setup) (d : Decision) (left : ℕ) → is_changing d ≡ false → left_by setup d left ≡ left
uncycled setup Nothing left h = refl
uncycled setup (Start width) left h = refl
uncycled setup (Address width cell) left h = refl
uncycled setup (Data width cell next) left h = refl
uncycled setup (Instruction kind width cell value verdict) left h =
    ap (λ (b : ℕ). if_carried_out verdict b left) (kept-cycle setup kind left h) ∙ either_way verdict left
uncycled setup WrongCount left h = refl
