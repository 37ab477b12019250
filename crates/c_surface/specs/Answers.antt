-- Answers and settings as numbers.
use Rattle.std.specs.Prelude.{ℕ, Ok, Err, Result}
use Rattle.protocol.specs.declared.refusal.Cause.TheVariants.{NoRoom}
use Rattle.protocol.specs.declared.refusal.Refusal.{Refusal}
use Rattle.protocol.specs.declared.settings.Settings.{Settings}
use Rattle.protocol.specs.declared.settings.Setup.{Setup}
use Rattle.protocol.specs.Parts.{bytes_of}
use Rattle.protocol.specs.Inputs.{Checked}
use Rattle.protocol.specs.Refusals.{number_of, refusal}
use Rattle.c_surface.specs.declared.answer.Answer.{Answer}

-- how it ended, with a length
abbrev pub ended : Checked → ℕ → Answer
ended (Ok _) length = record { refusal = 0; place = 0; length = length }
ended (Err e) length = record { refusal = number_of e.cause; place = e.place; length = length }

-- a length, or a refusal with length 0
abbrev pub answered : Result ℕ Refusal → Answer
answered (Ok length) = ended (Ok tt) length
answered (Err e) = ended (Err e) 0

-- no room for so many bytes
abbrev pub too_short : ℕ → Answer
too_short length = ended (Err (refusal NoRoom 0)) length

abbrev pub settings_from : ℕ → ℕ → ℕ → ℕ → ℕ → Settings
settings_from part edition write eral wrall =
    record { part = part; edition = edition; cycles = record { write = write; eral = eral; wrall = wrall } }

-- the length is the number of the chip's bytes
abbrev pub settings_answer : Result Setup Refusal → Answer
settings_answer (Ok setup) = ended (Ok tt) (bytes_of setup.part)
settings_answer (Err e) = ended (Err e) 0
