-- What one function hands to the next, with its references followed.
use Rattle.std.specs.Borrow.{Bor}
use Rattle.std.specs.Prelude.{◌≡◌, ℕ, ◌+◌, ◌<◌, ◌≤◌, cond, List, [], length, Some, None, Ok, Err, Option, Result, ◌==◌}
use Rattle.protocol.specs.declared.list.List.{List as Held}
use Rattle.protocol.specs.declared.refusal.Refusal.{Refusal}
use Rattle.protocol.specs.declared.settings.Settings.{Settings}
use Rattle.protocol.specs.Lists.{room, Added}
use Rattle.trace_file.specs.declared.records.Records.{Records}
use Rattle.trace_file.specs.Form.{Rest, bind, record_of, samples_of}

abbrev pub rest_of : Records → Rest
rest_of records = record { place = records.place; bytes = records.bytes.now }

abbrev pub settings_read : Result (Settings × Records) Refusal → Result (Settings × Rest) Refusal
settings_read r = bind r (λ q. Ok (q.0, rest_of q.1))

abbrev pub count_read : Result (ℕ × Bor (List ℕ)) Refusal → Result (ℕ × List ℕ) Refusal
count_read r = bind r (λ q. Ok (q.0, q.1.now))

abbrev pub record_read : Result (Bor (List ℕ) × Records) Refusal → Result (List ℕ × Rest) Refusal
record_read r = bind r (λ q. Ok (q.0.now, rest_of q.1))

-- the samples of the records that are left, of which there may be none
abbrev pub samples_left : Rest → Result (List ℕ) Refusal
samples_left rest = cond (length rest.bytes == 0) (Ok []) (samples_of rest)

-- the samples of records that have their form are added where there is room for them
abbrev pub AddsAll : Result (List ℕ) Refusal → Held ℕ → Held ℕ → Result (Unit {0}) Refusal → Type 0
AddsAll (Ok samples) l m r = l.count + length samples ≤ room l → Added l samples m × (r ≡ Ok tt)
AddsAll (Err e) l m r = Unit {0}

-- One record is handed out after the other: its samples, or what it is refused for.
abbrev pub Next : Rest → Option (Result (List ℕ) Refusal) → Rest → Type 0
Next rest None next = length rest.bytes ≡ 0
Next rest (Some (Ok samples)) next = (0 < length rest.bytes) × (Ok (samples, next) ≡ record_of rest)
Next rest (Some (Err e)) next = (0 < length rest.bytes) × (Err e ≡ record_of rest)

abbrev pub samples_read : Result (Bor (List ℕ)) Refusal → Result (List ℕ) Refusal
samples_read r = bind r (λ samples. Ok samples.now)

abbrev pub next_read : Option (Result (Bor (List ℕ)) Refusal) → Option (Result (List ℕ) Refusal)
next_read (Some r) = Some (samples_read r)
next_read None = None
