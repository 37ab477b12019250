-- What the trace call answers, and what chip and buffer then are.
use Rattle.std.specs.Prelude.{ℕ, cond, List, length, Ok, Err, Result, ◌==◌}
use Rattle.std.specs.Result.{result_and}
use Rattle.protocol.specs.declared.refusal.Cause.TheVariants.{BufferLength, BlankChip}
use Rattle.protocol.specs.declared.refusal.Refusal.{Refusal}
use Rattle.protocol.specs.Inputs.{Checked}
use Rattle.protocol.specs.Refusals.{refusal}
use Rattle.protocol.specs.Samples.{samples_checked}
use Rattle.chips.specs.Machine.{run_on, outs}
use Rattle.chips.specs.Pins.{Pins}

-- A sample above 31, then a buffer of another length.
abbrev pub trace_checked : List ℕ → ℕ → Checked
trace_checked samples size = result_and (samples_checked samples) (cond (size == length samples) (Ok tt) (Err (refusal BufferLength 0)))

-- Before these, a blank.
abbrev pub trace_answer : Pins → List ℕ → ℕ → Checked
trace_answer p samples size = cond p.blank (Err (refusal BlankChip 0)) (trace_checked samples size)

-- the straps stay as they are: each sample brings its own levels
abbrev pub trace_pins : Result (Unit {0}) Refusal → Pins → List ℕ → Pins
trace_pins (Ok _) p samples = record { blank = p.blank; machine = run_on p.machine samples; org = p.org; pe = p.pe }
trace_pins (Err _) p samples = p

abbrev pub trace_outs : Result (Unit {0}) Refusal → Pins → List ℕ → List ℕ → List ℕ
trace_outs (Ok _) p samples buffer = outs p.machine samples
trace_outs (Err _) p samples buffer = buffer
