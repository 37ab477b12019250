-- The reader's loop: what the entries that are still to come do to the list.
use Rattle.std.proofs.Common.{◌≡◌, ℕ, ◌+◌, ◌-◌, ◌<◌, ◌≤◌, List, [], ◌∷◌, ◌++◌, length, get_or, take, drop, Ok, Err, sym, refl, ap, ◌∙◌, append_assoc, arith}
use Rattle.std.proofs.lemmas.List.{append-nil, at_drop_more, at_drop_all, drop-drop, take_at, drop_at, take_all, drop_all, length-take, length-append}
use Rattle.protocol.specs.declared.list.List.{List as Held}
use Rattle.protocol.specs.declared.refusal.Cause.TheVariants.{NoRoom}
use Rattle.protocol.specs.declared.settings.Setup.{Setup}
use Rattle.protocol.specs.Inputs.{Checked}
use Rattle.protocol.specs.Lists.{items, free, room, Added}
use Rattle.protocol.specs.Refusals.{refusal}
use Rattle.protocol.proofs.Adding.{length-items}
use Rattle.protocol.specs.Samples.{levels}
use Rattle.chips.specs.declared.state.State.{State}
use Rattle.chips.specs.Control.{turn}
use Rattle.traces.specs.declared.entry.Entry.{Entry}
use Rattle.traces.specs.declared.start_bit.StartBit.{StartBit}
use Rattle.traces.specs.Entries.{start_after, before, entry_of, entries_from, entries_of}
use Rattle.traces.specs.Reading.{answer_of, Listed}

-- the list l, to which these entries should come, ends as m, and r is the answer
pub record Enters (es : List Entry) (l m : Held Entry) (r : Checked) : Type 0 where
  pub holds : items m ≡ take (room l) (items l ++ es)
  pub past : free m ≡ drop m.count l.slice.now
  pub answer : r ≡ answer_of (drop (room l) (items l ++ es))
  pub same_room : room m ≡ room l
  pub same_slice : m.slice.ghost_name ≡ l.slice.ghost_name

-- no entry comes any more, one has no room, or one comes
pub enters_none : (l : Held Entry) → Enters [] l l (Ok tt)
enters_none l =
    let x : length (items l) ≤ room l = rw (length-items l) l.within in
    record {
      holds = rw (append-nil (items l)) (sym (take_all (room l) (items l) x));
      past = refl;
      answer = rw (append-nil (items l), drop_all (room l) (items l) x);
      same_room = refl;
      same_slice = refl;
    }

pub enters_full : (e : Entry) (es : List Entry) (l : Held Entry) → room l < l.count + 1 → Enters (e ∷ es) l l (Err (refusal NoRoom e.last))
enters_full e es l f =
    let x : length (items l) ≡ room l = rw (length-items l) (omega (arith, f, l.within)) in
    record {
      holds = sym (take_at (items l) (e ∷ es) (room l) x);
      past = refl;
      answer = rw (drop_at (items l) (e ∷ es) (room l) x);
      same_room = refl;
      same_slice = refl;
    }

same_beyond : (s t : List Entry) (k n : ℕ) → drop k s ≡ drop k t → k ≤ n → drop n s ≡ drop n t
same_beyond s t k n h le =
    let e : k + (n - k) ≡ n = omega arith in
    ap (λ j. drop j s) (sym e) ∙ sym (drop-drop (n - k) k s) ∙ ap (λ (xs : List Entry). drop (n - k) xs) h ∙ drop-drop (n - k) k t ∙ ap (λ j. drop j t) e

pub enters_more : (e : Entry) (es : List Entry) (l k m : Held Entry) (r : Checked) → Added l (e ∷ []) k → Enters es k m r → Enters (e ∷ es) l m r
enters_more e es l k m r a h =
    let all : items k ++ es ≡ items l ++ (e ∷ es) = rw (a.adds, append_assoc) in
    let n : k.count ≤ m.count =
    omega (arith, length-items m, ap length h.holds, length-take (room k) (items k ++ es), length-append (items k) es, length-items k, k.within) in
    record {
      holds = rw (← a.same_room, ← all) h.holds;
      past = h.past ∙ same_beyond k.slice.now l.slice.now k.count m.count (a.past ∙ drop-drop 1 l.count l.slice.now ∙ ap (λ j. drop j l.slice.now) (sym a.counts)) n;
      answer = rw (← a.same_room, ← all) h.answer;
      same_room = h.same_room ∙ a.same_room;
      same_slice = h.same_slice ∙ a.same_slice;
    }

pub listed : (setup : Setup) (samples : List ℕ) (l m : Held Entry) (r : Checked) → Enters (entries_of setup samples) l m r → Listed setup samples l m r
listed setup samples l m r h =
    record { holds = h.holds; past = h.past; answer = h.answer; same_room = h.same_room; same_slice = h.same_slice }

-- the entry of the sample at i, and those that come behind it
pub next_entry : (setup : Setup) (samples : List ℕ) (st : State) (start : StartBit) (i : ℕ) → i < length samples →
    let t = turn setup st (levels (get_or samples i 0)) in
    entries_from setup st start i (drop i samples)
    ≡ before (entry_of start i t.decision) (entries_from setup t.state (start_after start i t.decision) (i + 1) (drop (i + 1) samples))
unfolding entries_from
next_entry setup samples st start i h = at_drop_more (entries_from setup st start i) samples i 0 h

pub no_more : (setup : Setup) (samples : List ℕ) (st : State) (start : StartBit) (i : ℕ) → length samples ≤ i → entries_from setup st start i (drop i samples) ≡ []
unfolding entries_from
no_more setup samples st start i h = at_drop_all (entries_from setup st start i) samples i h
