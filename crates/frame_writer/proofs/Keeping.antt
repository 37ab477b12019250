-- Samples that a writer keeps.
use Rattle.std.proofs.Common.{◌≡◌, ℕ, ◌+◌, ◌-◌, ◌≤◌, ◌<◌, List, [], ◌∷◌, ◌++◌, length, drop, Ok, Err, Result, refl, ap, ◌∙◌, append_assoc, arith, length-drop, length-append}
use Rattle.std.proofs.lemmas.List.{append-nil, length-map}
use Rattle.std.proofs.lemmas.Grind.{common_steps}
use Rattle.protocol.specs.declared.list.List.{List as Held}
use Rattle.protocol.specs.declared.refusal.Refusal.{Refusal}
use Rattle.protocol.specs.declared.sample.Straps.{Straps}
use Rattle.protocol.specs.Lists.{items, free, room, Adds}
use Rattle.protocol.proofs.Adding.{length-items}
use Rattle.chips.specs.Pins.{Put, put_on}
use Rattle.chips.specs.Seen.{Seen}
use Rattle.wire.specs.Sent.{told}
use Rattle.frame_writer.specs.Kept.{Kept, kept, keep, keep_byte, blank_at}
use Rattle.frame_writer.specs.Written.{byte_of, bytes_of}
use Rattle.frame_writer.specs.Wrote.{Wrote}
use Rattle.frame_writer.specs.declared.writer.Writer.{Writer}

free_length : (l : Held ℕ) → l.count + length (free l) ≡ room l
free_length l = grind (arith, common_steps, l.within)

-- a byte that has a place, and one that has none
kept_one : (v : Kept) (byte : ℕ) (places : List ℕ) → 0 < length places →
    keep_byte v byte places ≡ record { lender = v.lender; slice = v.slice; bytes = v.bytes ++ (byte ∷ []); places = drop 1 places }
kept_one v byte [] h = absurd (omega (arith, h))
kept_one v byte (x ∷ places) h = refl

kept_none : (v : Kept) (byte : ℕ) (places : List ℕ) → length places ≤ 0 → keep_byte v byte places ≡ v
kept_none v byte [] h = refl
kept_none v byte (x ∷ places) h = absurd (omega (arith, h))

-- what one byte more makes of a list
pub kept_more : (lender byte : ℕ) (l m : Held ℕ) (r : Result (Unit {0}) Refusal) → Adds l (byte ∷ []) 0 m r →
    kept lender m ≡ keep_byte (kept lender l) byte (free l)
kept_more lender byte l m (Ok _) a =
    let h : 0 < length (free l) = omega (arith, free_length l, free_length m, a.counts, a.same_room) in
    rw (kept_one (kept lender l) byte (free l) h, a.same_slice, a.adds, a.past)
kept_more lender byte l m (Err e) a =
    let h : length (free l) ≤ 0 = omega (arith, free_length l, a.0) in
    rw (kept_none (kept lender l) byte (free l) h, a.2)

-- samples for which there are places
kept_all : (straps : Straps) (lender slice : ℕ) (bytes places : List ℕ) (xs : List Put) → length xs ≤ length places →
    let more = bytes_of straps.org straps.pe xs in
    told keep (record { view = record { lender = lender; slice = slice; bytes = bytes; places = places }; pins = blank_at straps }) xs
    ≡ record { view = record { lender = lender; slice = slice; bytes = bytes ++ more; places = drop (length more) places }; pins = blank_at straps }
unfolding told put_on
kept_all straps lender slice bytes places [] h = rw append-nil
kept_all straps lender slice bytes [] (x ∷ xs) h = absurd (omega (arith, h))
kept_all straps lender slice bytes (p ∷ places) (x ∷ xs) h =
    rw (← append_assoc bytes (byte_of straps.org straps.pe x ∷ []) (bytes_of straps.org straps.pe xs))
    (kept_all straps lender slice (bytes ++ (byte_of straps.org straps.pe x ∷ [])) places xs (omega (arith, h)))

-- samples for which the list has room
pub all_written : (w x : Writer) (xs : List Put) → w.samples.now.count + length xs ≤ room w.samples.now →
    record { view = kept x.samples.ghost_name x.samples.now; pins = blank_at x.straps }
    ≡ told keep (record { view = kept w.samples.ghost_name w.samples.now; pins = blank_at w.straps }) xs → Wrote w x xs
all_written w x xs h e =
    let l = w.samples.now in
    let m = x.samples.now in
    let more = bytes_of w.straps.org w.straps.pe xs in
    let f = e ∙ kept_all w.straps w.samples.ghost_name l.slice.ghost_name (items l) (free l) xs (omega (arith, h, free_length l)) in
    let adds : items m ≡ items l ++ more = ap (λ (s : Seen Kept). s.view.bytes) f in
    let past : free m ≡ drop (length more) (free l) = ap (λ (s : Seen Kept). s.view.places) f in
    let n : length more ≡ length xs = length-map xs (byte_of w.straps.org w.straps.pe) in
    let long : length (items m) ≡ length (items l) + length more = ap length adds ∙ length-append (items l) more in
    let counts : m.count ≡ l.count + length more = omega (arith, long, length-items l, length-items m) in
    let left : length (free m) ≡ length (free l) - length more = ap length past ∙ length-drop _ _ in
    record {
      added = record {
        adds = adds;
        past = past;
        counts = counts;
        same_room = omega (arith, h, n, counts, left, free_length l, free_length m);
        same_slice = ap (λ (s : Seen Kept). s.view.slice) f;
      };
      lender = ap (λ (s : Seen Kept). s.view.lender) f;
    }
