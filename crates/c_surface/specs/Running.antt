-- A trace run on a chip at power-up.
use Rattle.std.specs.Prelude.{ℕ, List, length, Ok, Err, Result}
use Rattle.std.specs.Result.{result_and}
use Rattle.protocol.specs.declared.refusal.Refusal.{Refusal}
use Rattle.protocol.specs.declared.settings.Settings.{Settings}
use Rattle.protocol.specs.declared.settings.Setup.{Setup}
use Rattle.protocol.specs.Inputs.{Checked}
use Rattle.chips.specs.Machine.{fresh_machine, run_on, outs}
use Rattle.chips.specs.Powered.{fitted}
use Rattle.chips.specs.Traced.{trace_checked}
use Rattle.c_surface.specs.declared.answer.Answer.{Answer}
use Rattle.c_surface.specs.Answers.{ended}

abbrev pub checked_for : Result Setup Refusal → Checked → Result Setup Refusal
checked_for (Ok setup) check = result_and check (Ok setup)
checked_for (Err e) check = Err e

-- What stands in the way: a chip that does not exist, a memory of another size, a sample above 31, a buffer of another length.
abbrev pub runnable : Settings → ℕ → List ℕ → ℕ → Result Setup Refusal
runnable settings memory samples levels = checked_for (fitted settings memory) (trace_checked samples levels)

-- A chip is powered up over the caller's bytes and run: its bytes, and its levels of DO in the caller's buffer.
abbrev pub bytes_ran : Result Setup Refusal → List ℕ → List ℕ → List ℕ
bytes_ran (Ok setup) samples bytes = (run_on (fresh_machine setup bytes) samples).bytes
bytes_ran (Err e) samples bytes = bytes

abbrev pub levels_ran : Result Setup Refusal → List ℕ → List ℕ → List ℕ → List ℕ
levels_ran (Ok setup) samples bytes buffer = outs (fresh_machine setup bytes) samples
levels_ran (Err e) samples bytes buffer = buffer

-- the length is the number of samples
abbrev pub run_answer : Result Setup Refusal → List ℕ → Answer
run_answer (Ok setup) samples = ended (Ok tt) (length samples)
run_answer (Err e) samples = ended (Err e) 0
