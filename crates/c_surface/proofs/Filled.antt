-- A buffer after bytes were added to an empty list kept in it.
use Rattle.std.proofs.Common.{◌≡◌, ℕ, ◌+◌, ◌<◌, ◌≤◌, true, false, List, ◌++◌, length, drop, Ok, Err, Result, sym, ap, ◌∙◌, arith}
use Rattle.std.proofs.lemmas.List.{take-append-drop}
use Rattle.std.proofs.lemmas.Bool.{le-leb, lt-leb}
use Rattle.protocol.specs.declared.list.List.{List as Held}
use Rattle.protocol.specs.declared.refusal.Refusal.{Refusal}
use Rattle.protocol.specs.Lists.{items, free, room, Added}
use Rattle.protocol.proofs.Passed.{ok_not_err}
use Rattle.frame_writer.specs.Written.{Writes}
use Rattle.c_surface.specs.Filling.{fits, filled_with, frame_buffer, frame_length}

module _ (l m : Held ℕ) (old xs : List ℕ) (none : l.count ≡ 0) (is : l.slice.now ≡ old) where
  counted : Added l xs m → m.count ≡ length xs
  counted a = omega (arith, a.counts, none)

  fitted : Added l xs m → length xs ≤ length old
  fitted a = omega (arith, counted a, m.within, a.same_room, ap length is)

  pub fits_in : Added l xs m → fits xs old ≡ true
  fits_in a = le-leb (length xs) (length old) (fitted a)

  whole : Added l xs m → m.slice.now ≡ xs ++ drop (length xs) old
  whole a =
      let p : items m ≡ xs = a.adds ∙ rw none in
      let q : free m ≡ drop (length xs) old = a.past ∙ rw (none, is) in
      sym (take-append-drop m.count m.slice.now) ∙ rw (p, q)

  pub fills : Added l xs m → m.slice.now ≡ filled_with xs old
  fills a = rw (fits_in a) (whole a)

  pub fits_not : room l < l.count + length xs → fits xs old ≡ false
  fits_not h = lt-leb (length xs) (length old) (omega (arith, h, none, ap length is))

module _ (l m : Held ℕ) (old : List ℕ) (none : l.count ≡ 0) (is : l.slice.now ≡ old) where
  -- a frame was written
  pub written_well : (frame : Result (List ℕ) Refusal) → Writes frame l m (Ok tt) →
      (Ok m.count ≡ frame_length frame old) × (m.slice.now ≡ frame_buffer frame old)
  written_well (Ok bytes) a = (rw (fits_in l m old bytes none is a, counted l m old bytes none is a), fills l m old bytes none is a)
  written_well (Err d) a = absurd (ok_not_err tt d a.1)

  -- or refused, which leaves the list as it was
  pub written_not : (frame : Result (List ℕ) Refusal) (e : Refusal) → Writes frame l m (Err e) →
      (m ≡ l) × (Err e ≡ frame_length frame old) × (m.slice.now ≡ frame_buffer frame old)
  written_not (Ok bytes) e a =
      let f = fits_not l m old bytes none is a.0 in
      (a.2, rw (f, a.1), rw f (ap (λ (k : Held ℕ). k.slice.now) a.2 ∙ is))
  written_not (Err d) e a =
      let h : d ≡ e = (let k = a.1 in cc) in
      (a.0, rw h, ap (λ (k : Held ℕ). k.slice.now) a.0 ∙ is)
