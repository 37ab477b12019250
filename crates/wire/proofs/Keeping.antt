-- Every sample keeps a chip fitting.
use Rattle.std.proofs.Common.{◌≡◌, ℕ, ◌+◌, ◌*◌, ◌^◌, ◌<◌, ◌≤◌, Bool, true, false, not, ◌&&◌, eqb, List, [], ◌∷◌, ◌++◌, length, refl, ◌∙◌, arith, lit≤}
use Rattle.std.proofs.lemmas.Nat.{pow_pos, mod_below}
use Rattle.std.proofs.lemmas.Bool.{cond_both}
use Rattle.protocol.specs.declared.instruction.Kind.{Kind}
use Rattle.protocol.specs.declared.instruction.Kind.TheVariants.{Read, Write, Erase, Wen, Wds, Eral, Wrall}
use Rattle.protocol.specs.declared.parts.Part.{Part}
use Rattle.protocol.specs.declared.parts.Width.{Width}
use Rattle.protocol.specs.declared.parts.Width.TheVariants.{Eight, Sixteen}
use Rattle.protocol.specs.declared.sample.Sample.{Sample}
use Rattle.protocol.specs.declared.settings.Setup.{Setup}
use Rattle.protocol.specs.Parts.{bits_of, ones_of, bytes_of, cells_of, field_of}
use Rattle.protocol.specs.Instructions.{has_data, is_read, length_of, kind_at}
use Rattle.chips.specs.declared.state.Phase.{Phase}
use Rattle.chips.specs.declared.state.Phase.TheVariants.{Waiting, Taking, Reading, Spoiled, Over}
use Rattle.chips.specs.declared.state.State.{State}
use Rattle.chips.specs.declared.state.Verdict.{Verdict}
use Rattle.chips.specs.declared.state.Verdict.TheVariants.{CarriedOut, Shut, Protected, WrongCount as WrongCountOf}
use Rattle.chips.specs.declared.state.Decision.{Decision}
use Rattle.chips.specs.declared.state.Decision.TheVariants.{Nothing, Start, Address, Data, Instruction, WrongCount}
use Rattle.protocol.specs.Samples.{bit_of}
use Rattle.chips.specs.Control.{Turn, turn, turned, aged, is_clock_edition, is_busy_rise, is_clock}
use Rattle.chips.specs.Control.{instruction_at, ending, clocked, appended, taken}
use Rattle.chips.specs.Fits.{value_by, most_by}
use Rattle.chips.specs.Fitting.{are_bytes}
use Rattle.chips.specs.Machine.{set_cell, fill_cells, changed, written, if_carried_out, step}
use Rattle.chips.specs.Pins.{Pins, Put, put_on, sample_of}
use Rattle.wire.specs.Runs.{run}
use Rattle.wire.specs.Laws.{PutKeepsFits}
use Rattle.wire.proofs.Cells.{fill_keeps, cells_keep_length, cells_keep_bytes}

-- what is decided has a value of its width
abbrev Small : Decision → Type 0
Small d = value_by d ≤ most_by d

abbrev SmallTurn : Turn → Type 0
SmallTurn t = Small t.decision

value_small : (width : Width) (x : ℕ) → x < 2 ^ bits_of width → x ≤ ones_of width
value_small Eight x h = omega arith
value_small Sixteen x h = omega arith

-- in any state, one that no run reaches too: the data are a span as wide as the width
module _ (setup : Setup) where
  instruction-small : (enabled pe : Bool) (width : Width) (count bits : ℕ) → Small (instruction_at setup enabled pe width count bits)
  instruction-small enabled pe width count bits =
      cond_both (has_data (kind_at count bits)) _ 0 (λ v. v ≤ ones_of width)
      (λ _. value_small width _ (mod_below _ _ (pow_pos (bits_of width)))) (λ _. omega arith)

  abbrev whole : Width → ℕ → ℕ → Bool
  whole width count bits = eqb count (length_of setup.part width (kind_at count bits))

  ending-small : (enabled pe : Bool) (phase : Phase) → Small (ending setup enabled pe phase)
  ending-small enabled pe Waiting = lit≤ tt
  ending-small enabled pe (Taking width count bits) =
      cond_both (not (is_clock_edition setup.edition) && whole width count bits) _ WrongCount Small
      (λ _. instruction-small enabled pe width count bits) (λ _. lit≤ tt)
  ending-small enabled pe (Reading width cell next) = lit≤ tt
  ending-small enabled pe Spoiled = lit≤ tt
  ending-small enabled pe Over = lit≤ tt

  taken-small : (pe : Bool) (width : Width) (count bits : ℕ) (st : State) → SmallTurn (taken setup pe width count bits st)
  taken-small pe width count bits st =
      cond_both (eqb count (2 + field_of setup.part width) && is_read (kind_at count bits)) _ _ SmallTurn
      (λ _. lit≤ tt)
      (λ _. cond_both (is_clock_edition setup.edition && whole width count bits) _ _ SmallTurn
      (λ _. instruction-small st.enabled pe width count bits) (λ _. lit≤ tt))

  appended-small : (s : Sample) (width : Width) (count bits : ℕ) (st : State) → SmallTurn (appended setup s width count bits st)
  unfolding appended
  appended-small s width count bits st =
      cond_both (not (is_clock_edition setup.edition) && whole width count bits) _ _ SmallTurn (λ _. lit≤ tt)
      (λ _. taken-small s.pe width (count + 1) (2 * bits + bit_of s.di) st)

  clocked-small : (s : Sample) (phase : Phase) (st : State) → SmallTurn (clocked setup s phase st)
  clocked-small s Waiting st = cond_both s.di _ _ SmallTurn (λ _. lit≤ tt) (λ _. lit≤ tt)
  clocked-small s (Taking width count bits) st = appended-small s width count bits st
  clocked-small s (Reading width cell next) st = lit≤ tt
  clocked-small s Spoiled st = lit≤ tt
  clocked-small s Over st = lit≤ tt

  turned-small : (s : Sample) (st : State) → SmallTurn (turned setup s st)
  turned-small s st =
      cond_both (not s.cs) _ _ SmallTurn
      (λ _. cond_both st.cs _ _ Small (λ _. ending-small st.enabled s.pe st.phase) (λ _. lit≤ tt))
      (λ _. cond_both (is_busy_rise st) _ _ SmallTurn (λ _. lit≤ tt)
      (λ _. cond_both (is_clock s st) _ _ SmallTurn (λ _. clocked-small s st.phase st) (λ _. lit≤ tt)))

  pub turn-small : (s : Sample) (st : State) → SmallTurn (turn setup st s)
  unfolding turn
  turn-small s st = turned-small s (aged st)

-- what every cell set at a value of its width keeps, a decision that fits keeps
module _ (P : List ℕ → Type 0) (keeps : (width : Width) (k v : ℕ) (bytes : List ℕ) → v ≤ ones_of width → P bytes → P (set_cell width k v bytes)) where
  fill : (width : Width) (n v : ℕ) (bytes : List ℕ) → v ≤ ones_of width → P bytes → P (fill_cells width n v bytes)
  fill width n v bytes h b = fill_keeps P width v (λ k bs c. keeps width k v bs h c) n bytes b

  changed_keeps : (part : Part) (kind : Kind) (width : Width) (cell v : ℕ) (bytes : List ℕ) → v ≤ ones_of width → P bytes →
      P (changed part kind width cell v bytes)
  changed_keeps part Read width cell v bytes h b = b
  changed_keeps part Write width cell v bytes h b = keeps width cell v bytes h b
  changed_keeps part Erase width cell v bytes h b = keeps width cell (ones_of width) bytes (omega arith) b
  changed_keeps part Wen width cell v bytes h b = b
  changed_keeps part Wds width cell v bytes h b = b
  changed_keeps part Eral width cell v bytes h b = fill width (cells_of part width) (ones_of width) bytes (omega arith) b
  changed_keeps part Wrall width cell v bytes h b = fill width (cells_of part width) v bytes h b

  either : (verdict : Verdict) (new old : List ℕ) → P new → P old → P (if_carried_out verdict new old)
  either CarriedOut new old n o = n
  either Shut new old n o = o
  either Protected new old n o = o
  either WrongCountOf new old n o = o

  pub written_keeps : (part : Part) (d : Decision) (bytes : List ℕ) → Small d → P bytes → P (written part d bytes)
  written_keeps part Nothing bytes f b = b
  written_keeps part (Start width) bytes f b = b
  written_keeps part (Address width cell) bytes f b = b
  written_keeps part (Data width cell next) bytes f b = b
  written_keeps part (Instruction kind width cell value verdict) bytes f b =
      either verdict _ bytes (changed_keeps part kind width cell value bytes f b) b
  written_keeps part WrongCount bytes f b = b

-- a sample on a chip that is no blank
pub put_is : (p : Pins) (x : Put) → p.blank ≡ false →
    put_on p x ≡ record { blank = p.blank; machine = step p.machine (sample_of p x); org = p.org; pe = p.pe }
unfolding put_on
put_is p x live = simp live

pub put_keeps_fits : PutKeepsFits
put_keeps_fits p x live f =
    let setup = p.machine.setup in
    let small = turn-small setup (sample_of p x) p.machine.state in
    let d = (turn setup p.machine.state (sample_of p x)).decision in
    let bytes = p.machine.bytes in
    rw (put_is p x live) (record {
      offered = f.offered;
      size =
          written_keeps (λ bs. length bs ≡ bytes_of setup.part) (λ w k v bs _ e. (cells_keep_length w k v bs).0 ∙ e)
          setup.part d bytes small f.size;
      bytes =
          written_keeps (λ bs. are_bytes bs ≡ true) (λ w k v bs h b. (cells_keep_bytes w k v bs h b).0)
          setup.part d bytes small f.bytes;
    })

pub put_keeps_blank : (p : Pins) (x : Put) → (put_on p x).blank ≡ p.blank
unfolding put_on
put_keeps_blank p x = refl

-- samples in a row do what the first of them do and then the others
pub run_appends : (p : Pins) (xs ys : List Put) → run p (xs ++ ys) ≡ run (run p xs) ys
unfolding run
run_appends p [] ys = refl
run_appends p (x ∷ xs) ys = run_appends (put_on p x) xs ys
