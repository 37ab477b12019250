-- What comes of listing a file: the entries that found room, and the answer.
use Rattle.std.specs.Prelude.{ℕ, List, [], take, drop, Ok, Err, Result}
use Rattle.protocol.specs.declared.refusal.Refusal.{Refusal}
use Rattle.protocol.specs.declared.settings.Settings.{Settings}
use Rattle.protocol.specs.declared.settings.Setup.{Setup}
use Rattle.trace_file.specs.Form.{trace_of}
use Rattle.traces.specs.declared.entry.Entry.{Entry}
use Rattle.traces.specs.Entries.{entries_of}
use Rattle.traces.specs.Reading.{readable, answer_of}

pub record Outcome : Type 0 where
  pub entries : List Entry
  pub answer : Result (Unit {0}) Refusal

abbrev pub refused_with : Refusal → Outcome
refused_with e = record { entries = []; answer = Err e }

-- the entries of a chip that exists, as many as there is room for
abbrev pub of_chip : ℕ → Result Setup Refusal → List ℕ → Outcome
of_chip n (Ok setup) samples = record { entries = take n (entries_of setup samples); answer = answer_of (drop n (entries_of setup samples)) }
of_chip n (Err e) samples = refused_with e

abbrev pub of_trace : ℕ → Result (Settings × List ℕ) Refusal → Outcome
of_trace n (Ok trace) = of_chip n (readable trace.0 trace.1) trace.1
of_trace n (Err e) = refused_with e

-- With room for n entries. The form of the file is judged first, then the samples, then the settings.
unfoldable pub outcome_of : ℕ → List ℕ → Outcome
outcome_of n file = of_trace n (trace_of file)
