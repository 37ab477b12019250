-- The form of a trace file.
use Rattle.std.specs.Prelude.{◌≡◌, ℕ, zero, suc, ◌+◌, ◌-◌, ◌*◌, Bool, cond, ◌&&◌, List, ◌++◌, length, take, drop, Ok, Err, Result, ◌==◌, nat_le, nat_lt, slice_index}
use Rattle.protocol.specs.declared.list.List.{List as Held}
use Rattle.protocol.specs.declared.refusal.Cause.TheVariants.{FileForm, NoRoom}
use Rattle.protocol.specs.declared.refusal.Refusal.{Refusal}
use Rattle.protocol.specs.declared.settings.Settings.{Settings}
use Rattle.protocol.specs.Lists.{room, Added}
use Rattle.protocol.specs.Refusals.{refusal}

-- what is left of a file: the bytes from a place on
pub record Rest : Type 0 where
  pub place : ℕ
  pub bytes : List ℕ

-- the refusal of a record that is bad or missing
abbrev pub bad_form : ℕ → Refusal
bad_form place = refusal FileForm place

-- what comes next, unless there was a refusal
abbrev pub bind : {A B : Type 0} → Result A Refusal → (A → Result B Refusal) → Result B Refusal
bind (Ok x) next = next x
bind (Err e) next = Err e

-- A record begins with a mark of two bytes: 0x93, and one that tells its kind.
abbrev pub marked : ℕ → List ℕ → Bool
marked kind bytes = slice_index bytes 0 == 0x93 && slice_index bytes 1 == kind

-- two bytes make a number, the high byte first
abbrev pub pair_at : ℕ → List ℕ → ℕ
pair_at i bytes = slice_index bytes i * 256 + slice_index bytes (i + 1)

-- the bytes behind the first n, to the end
abbrev pub behind : ℕ → List ℕ → List ℕ
behind n bytes = take (length bytes - n) (drop n bytes)

-- A settings record has ten bytes: mark, part, edition and the three lengths.
abbrev pub settings_of : List ℕ → Result (Settings × Rest) Refusal
settings_of file =
    cond (nat_le 10 (length file) && marked 1 file)
    (Ok (
      record {
        part = slice_index file 2;
        edition = slice_index file 3;
        cycles = record { write = pair_at 4 file; eral = pair_at 6 file; wrall = pair_at 8 file };
      },
      record { place = 10; bytes = behind 10 file },
    ))
    (Err (bad_form 0))

-- A sample record begins with four bytes, mark and count.
abbrev pub count_of : Rest → Result (ℕ × List ℕ) Refusal
count_of rest =
    cond (nat_le 4 (length rest.bytes) && marked 2 rest.bytes) (Ok (pair_at 2 rest.bytes, behind 4 rest.bytes)) (Err (bad_form rest.place))

-- So many samples follow.
abbrev pub record_of : Rest → Result (List ℕ × Rest) Refusal
record_of rest =
    bind (count_of rest) (λ head.
    cond (nat_le head.0 (length head.1))
    (Ok (take head.0 head.1, record { place = rest.place + 4 + head.0; bytes = drop head.0 head.1 }))
    (Err (bad_form rest.place)))

-- the samples of the records that are left, joined: of one at least, and of at most so many
unfoldable pub samples_up_to : ℕ → Rest → Result (List ℕ) Refusal
samples_up_to zero rest = Err (bad_form rest.place)
samples_up_to (suc most) rest =
    bind (record_of rest) (λ first.
    cond (length first.1.bytes == 0) (Ok first.0) (bind (samples_up_to most first.1) (λ more. Ok (first.0 ++ more))))

-- A record has four bytes or more, so there are at most as many records as bytes.
abbrev pub samples_of : Rest → Result (List ℕ) Refusal
samples_of rest = samples_up_to (length rest.bytes) rest

-- the settings of a file, and the samples of all its records
abbrev pub contents_of : List ℕ → Result (Settings × List ℕ) Refusal
contents_of file = bind (settings_of file) (λ head. bind (samples_of head.1) (λ samples. Ok (head.0, samples)))

-- A file has at most 65,536 bytes.
abbrev pub too_long : List ℕ → Bool
too_long file = nat_lt 65536 (length file)

-- The trace of a file, with the settings. The length of the file is judged before anything else.
unfoldable pub trace_of : List ℕ → Result (Settings × List ℕ) Refusal
trace_of file = cond (too_long file) (Err (bad_form 65536)) (contents_of file)

-- A trace is taken where there are places enough for all samples.
abbrev pub in_places : ℕ → Result (Settings × List ℕ) Refusal → Result (Settings × List ℕ) Refusal
in_places places r = bind r (λ trace. cond (nat_le (length trace.1) places) (Ok trace) (Err (refusal NoRoom 0)))

-- The list l becomes m, and r is the answer: the samples are added, or nothing has changed.
abbrev pub Taken : Result (Settings × List ℕ) Refusal → Held ℕ → Held ℕ → Result Settings Refusal → Type 0
Taken (Ok trace) l m r = Added l trace.1 m × (r ≡ Ok trace.0)
Taken (Err e) l m r = (m ≡ l) × (r ≡ Err e)

-- what taking a trace does
abbrev pub Takes : Result (Settings × List ℕ) Refusal → Held ℕ → Held ℕ → Result Settings Refusal → Type 0
Takes trace l m r = Taken (in_places (room l - l.count) trace) l m r

-- what taking the trace of a file does
abbrev pub TookTrace : List ℕ → Held ℕ → Held ℕ → Result Settings Refusal → Type 0
TookTrace file l m r = Takes (trace_of file) l m r
