-- What taking and reading the trace of a file come to, from empty lists.
use Rattle.std.proofs.Common.{◌≡◌, ℕ, ◌-◌, ◌≤◌, List, [], ◌++◌, length, take, Ok, Err, Result, sym, refl, ap, ◌∙◌, arith, le-leb}
use Rattle.protocol.specs.declared.list.List.{List as Held}
use Rattle.protocol.specs.declared.refusal.Refusal.{Refusal}
use Rattle.protocol.specs.declared.settings.Settings.{Settings}
use Rattle.protocol.specs.declared.settings.Setup.{Setup}
use Rattle.protocol.specs.Lists.{items, room}
use Rattle.protocol.proofs.Passed.{ok_not_err}
use Rattle.trace_file.specs.Form.{trace_of, in_places, Taken, TookTrace}
use Rattle.trace_file.proofs.Reading.{trace_within}
use Rattle.traces.specs.declared.entry.Entry.{Entry}
use Rattle.traces.specs.Reading.{readable, ReadAfter, WasRead}
use Rattle.listing.specs.Outcome.{Outcome, of_chip, outcome_of}

abbrev Trace : Type 0
Trace = Result (Settings × List ℕ) Refusal

-- a trace finds room in as many places as a file may have bytes
all_fit : (r : Trace) → ((settings : Settings) (samples : List ℕ) → Ok (settings, samples) ≡ r → length samples ≤ 65536) → in_places 65536 r ≡ r
all_fit (Ok t) h = rw (le-leb (length t.1) 65536 (h t.0 t.1 refl))
all_fit (Err e) h = refl

abbrev Empty : {T : Type 0} → Held T → Type 0
Empty l = l.count ≡ 0

none_in : {T : Type 0} (l : Held T) → Empty l → items l ≡ []
none_in l e = ap (λ (n : ℕ). take n l.slice.now) e

module _ (file : List ℕ) (l m : Held ℕ) (empty : Empty l) (limit : room l ≡ 65536) where
  taken : (r : Result Settings Refusal) → TookTrace file l m r → Taken (trace_of file) l m r
  taken r t =
      let p : room l - l.count ≡ 65536 = omega arith in
      rw (all_fit (trace_of file) (trace_within file)) at (rw p at t)

  refused-by : (x : Trace) (e : Refusal) → Taken x l m (Err e) → x ≡ Err e
  refused-by (Ok t) e h = absurd (ok_not_err t.0 e (sym h.1))
  refused-by (Err d) e h = let y = h.1 in let q : d ≡ e = cc in ap Err q

  given_by : (x : Trace) (settings : Settings) → Taken x l m (Ok settings) → x ≡ Ok (settings, items m)
  given_by (Ok t) settings h =
      let s : settings ≡ t.0 = let y = h.1 in cc in
      let i : items m ≡ t.1 = h.0.adds ∙ ap (λ (xs : List ℕ). xs ++ t.1) (none_in l empty) in
      rw (s, i)
  given_by (Err d) settings h = absurd (ok_not_err settings d h.1)

  pub refused : (e : Refusal) → TookTrace file l m (Err e) → trace_of file ≡ Err e
  refused e t = refused-by (trace_of file) e (taken (Err e) t)

  pub given : (settings : Settings) → TookTrace file l m (Ok settings) → trace_of file ≡ Ok (settings, items m)
  given settings t = given_by (trace_of file) settings (taken (Ok settings) t)

-- an empty list after a reading
pub record Comes (o : Outcome) (m : Held Entry) (r : Result (Unit {0}) Refusal) : Type 0 where
  pub entries : items m ≡ o.entries
  pub answer : r ≡ o.answer

pub read_comes : (x : Result Setup Refusal) (samples : List ℕ) (l m : Held Entry) (r : Result (Unit {0}) Refusal) → Empty l →
    ReadAfter x samples l m r → Comes (of_chip (room l) x samples) m r
read_comes (Ok setup) samples l m r e h = record { entries = rw (none_in l e) at h.holds; answer = rw (none_in l e) at h.answer }
read_comes (Err d) samples l m r e h = record { entries = ap items h.1 ∙ none_in l e; answer = h.0 }

pub file_comes : (file : List ℕ) (settings : Settings) (samples : List ℕ) (l m : Held Entry) (r : Result (Unit {0}) Refusal) → Empty l →
    trace_of file ≡ Ok (settings, samples) → WasRead settings samples l m r → Comes (outcome_of (room l) file) m r
unfolding outcome_of
file_comes file settings samples l m r e t h = rw t (read_comes (readable settings samples) samples l m r e h)

pub file_refused : (file : List ℕ) (l : Held Entry) (d : Refusal) → Empty l → trace_of file ≡ Err d → Comes (outcome_of (room l) file) l (Err d)
unfolding outcome_of
file_refused file l d e t = rw t (record { entries = none_in l e; answer = refl })
