-- What the reader answers, and what the list then holds.
use Rattle.std.specs.Prelude.{◌≡◌, ℕ, cond, List, [], ◌∷◌, ◌++◌, length, take, drop, Ok, Err, Result, nat_lt}
use Rattle.protocol.specs.declared.list.List.{List as Held}
use Rattle.protocol.specs.declared.refusal.Cause.TheVariants.{HighSample, NoRoom}
use Rattle.protocol.specs.declared.refusal.Refusal.{Refusal}
use Rattle.protocol.specs.declared.settings.Settings.{Settings}
use Rattle.protocol.specs.declared.settings.Setup.{Setup}
use Rattle.protocol.specs.Chosen.{setup_of}
use Rattle.protocol.specs.Lists.{items, free, room}
use Rattle.protocol.specs.Refusals.{refusal}
use Rattle.protocol.specs.Samples.{high_at}
use Rattle.traces.specs.declared.entry.Entry.{Entry}
use Rattle.traces.specs.Entries.{entries_of}

-- What stands in the way of reading: a sample above 31, then settings that fit no chip.
abbrev pub readable : Settings → List ℕ → Result Setup Refusal
readable settings samples =
    cond (nat_lt (high_at samples) (length samples)) (Err (refusal HighSample (high_at samples))) (setup_of settings)

-- done, or the first entry that found no room
abbrev pub answer_of : List Entry → Result (Unit {0}) Refusal
answer_of [] = Ok tt
answer_of (e ∷ _) = Err (refusal NoRoom e.last)

-- all entries that should come to stand in the list
abbrev pub wanted : Setup → List ℕ → Held Entry → List Entry
wanted setup samples l = items l ++ entries_of setup samples

-- The list l, after a trace of a chip that exists, is m: its items and then the entries of the trace, or what fitted of them.
pub record Listed (setup : Setup) (samples : List ℕ) (l m : Held Entry) (r : Result (Unit {0}) Refusal) : Type 0 where
  pub holds : items m ≡ take (room l) (wanted setup samples l)
  pub past : free m ≡ drop m.count l.slice.now
  pub answer : r ≡ answer_of (drop (room l) (wanted setup samples l))
  pub same_room : room m ≡ room l
  pub same_slice : m.slice.ghost_name ≡ l.slice.ghost_name

-- After a check: what it refused, with the list as it was, or the entries.
abbrev pub ReadAfter : Result Setup Refusal → List ℕ → Held Entry → Held Entry → Result (Unit {0}) Refusal → Type 0
ReadAfter (Ok setup) samples l m r = Listed setup samples l m r
ReadAfter (Err e) samples l m r = (r ≡ Err e) × (m ≡ l)

abbrev pub WasRead : Settings → List ℕ → Held Entry → Held Entry → Result (Unit {0}) Refusal → Type 0
WasRead settings samples l m r = ReadAfter (readable settings samples) samples l m r
