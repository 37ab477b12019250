-- What comes to stand in a caller's buffer: a frame, the text of a listing.
use Rattle.std.specs.Prelude.{◌≡◌, ℕ, Bool, cond, ◌⊎◌, List, ◌++◌, length, drop, Some, None, Ok, Err, Option, Result, ◌==◌, nat_le}
use Rattle.protocol.specs.declared.instruction.Instruction.{Instruction}
use Rattle.protocol.specs.declared.instruction.Instruction.TheVariants.{Read, Write, Erase, Wen, Wds, Eral, Wrall}
use Rattle.protocol.specs.declared.refusal.Cause.TheVariants.{BadSettings, NoRoom}
use Rattle.protocol.specs.declared.refusal.Refusal.{Refusal}
use Rattle.protocol.specs.declared.settings.Settings.{Settings}
use Rattle.protocol.specs.Inputs.{Checked}
use Rattle.protocol.specs.Refusals.{refusal}
use Rattle.traces.specs.Reading.{readable}
use Rattle.listing.specs.Listed.{listed, file_text}
use Rattle.listing.specs.Outcome.{Outcome, of_chip}
use Rattle.frame_writer.specs.Written.{written}
use Rattle.c_surface.specs.declared.answer.Answer.{Answer}
use Rattle.c_surface.specs.Answers.{answered, ended, too_short}

abbrev pub fits : List ℕ → List ℕ → Bool
fits bytes buffer = nat_le (length bytes) (length buffer)

-- bytes at the front of a buffer, if they fit
abbrev pub filled_with : List ℕ → List ℕ → List ℕ
filled_with bytes buffer = cond (fits bytes buffer) (bytes ++ drop (length bytes) buffer) buffer

-- An instruction by the number of its kind; the value is the word of a WRITE or WRALL, and the number of words of a READ.
abbrev pub instruction_from : ℕ → ℕ → ℕ → Option Instruction
instruction_from kind address value =
    cond (kind == 0) (Some (Read address value))
    (cond (kind == 1) (Some (Write address value))
    (cond (kind == 2) (Some (Erase address))
    (cond (kind == 3) (Some Wen)
    (cond (kind == 4) (Some Wds)
    (cond (kind == 5) (Some Eral)
    (cond (kind == 6) (Some (Wrall value)) None))))))

-- the frame of an instruction, if there is one of that kind
abbrev pub framed : ℕ → Bool → Bool → Option Instruction → Result (List ℕ) Refusal
framed part org pe (Some i) = written part org pe i
framed part org pe None = Err (refusal BadSettings 0)

abbrev pub frame_buffer : Result (List ℕ) Refusal → List ℕ → List ℕ
frame_buffer (Ok bytes) buffer = filled_with bytes buffer
frame_buffer (Err e) buffer = buffer

-- the length of the frame, if there is room for it
abbrev pub frame_length : Result (List ℕ) Refusal → List ℕ → Result ℕ Refusal
frame_length (Ok bytes) buffer = cond (fits bytes buffer) (Ok (length bytes)) (Err (refusal NoRoom 0))
frame_length (Err e) buffer = Err e

abbrev pub frame_answer : Result (List ℕ) Refusal → List ℕ → Answer
frame_answer frame buffer = answered (frame_length frame buffer)

-- the length is that of the text, even where it does not fit
abbrev pub text_answer : Checked → List ℕ → List ℕ → Answer
text_answer result text buffer = cond (fits text buffer) (ended result (length text)) (too_short (length text))

-- The buffer `old` becomes `new`: it has the text of the file's listing, or the heap had no memory.
abbrev pub TextGiven : List ℕ → List ℕ → List ℕ → Answer → Type 0
TextGiven file old new r =
    ((r ≡ text_answer (listed file).answer (file_text file) old) × (new ≡ filled_with (file_text file) old)) ⊎ ((r ≡ too_short 0) × (new ≡ old))

-- how the reading of a trace ended, and how many entries fitted
abbrev pub count_answer : Outcome → Answer
count_answer o = ended o.answer (length o.entries)

-- The entries are counted, or the heap had no memory.
abbrev pub Counted : Settings → List ℕ → ℕ → Answer → Type 0
Counted settings samples room r = (r ≡ count_answer (of_chip room (readable settings samples) samples)) ⊎ (r ≡ too_short 0)
