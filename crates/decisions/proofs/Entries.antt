-- The reader over the samples of a chip.
use Rattle.std.proofs.lemmas.Bool.Decides.{nat_tests}
use Rattle.std.proofs.lemmas.List.{take-append-drop}
use Rattle.protocol.specs.declared.settings.Edition.TheVariants.{Fall, Clock}
use Rattle.wire.specs.Frames.{frame_of}
use Rattle.wire.proofs.Polls.{poll_rests}
use Rattle.wire.specs.Polling.{polls}
use Rattle.chips.specs.declared.state.State.{State}
use Rattle.std.proofs.Common.{◌≡◌, ℕ, suc, ◌+◌, ◌*◌, ◌≤◌, Bool, true, false, cond, ltb, List, [], ◌∷◌, ◌++◌, length, Option, Some, None, refl, sym, ap, ◌∙◌, add-one, arith, take, drop, nat_lt}
use Rattle.std.proofs.lemmas.Bool.{cond_both, lt-ltb, ltb-true}
use Rattle.protocol.specs.declared.instruction.Instruction.{Instruction as Sent}
use Rattle.protocol.specs.declared.instruction.Instruction.TheVariants as instruction
use Rattle.protocol.specs.declared.instruction.Kind.{Kind}
use Rattle.protocol.specs.declared.instruction.Kind.TheVariants.{Read, Write, Erase, Wen, Wds, Eral, Wrall}
use Rattle.protocol.specs.declared.parts.Part.{Part}
use Rattle.protocol.specs.declared.parts.Width.{Width}
use Rattle.protocol.specs.declared.sample.Sample.{Sample}
use Rattle.protocol.specs.declared.settings.Edition.{Edition}
use Rattle.protocol.specs.declared.settings.Setup.{Setup}
use Rattle.protocol.specs.Instructions.{kind_in, address_in, value_in}
use Rattle.protocol.specs.Samples.{levels, byte_of}
use Rattle.chips.specs.declared.state.Decision.{Decision}
use Rattle.chips.specs.declared.state.Decision.TheVariants.{Nothing, Start, Address, Data, Instruction, WrongCount}
use Rattle.chips.specs.Control.{is_clock_edition, turn}
use Rattle.chips.specs.Machine.{written, after, step, run_on}
use Rattle.chips.specs.Pins.{Pins, Put, sample_of, put_on}
use Rattle.wire.specs.Deciding.{Note, note, decision_on, notes_with, notes, frame_notes, deciding_place, end_after, frame_on, decided_at}
use Rattle.wire.specs.Places.{width_on, carried_out, Ready, Sendable}
use Rattle.wire.specs.Runs.{run}
use Rattle.wire.proofs.Keeping.{put_is, put_keeps_blank}
use Rattle.traces.specs.declared.entry.Entry.{Entry}
use Rattle.traces.specs.declared.start_bit.StartBit.{StartBit}
use Rattle.traces.specs.Entries.{start_after, entry_of, before, entries_from}
use Rattle.decisions.specs.Decided.{decisions_in, notes_before, written_all}
use Rattle.decisions.specs.Reader.{Reader, reader, read_one, reader_after, bytes_put, byte_notes, entries_in, start_in, reader_at, entry_sent, entries_by}
use Rattle.decisions.specs.Laws.{ReaderAppends, ReaderGoesOn, EntriesOfAny, BytesOfAny, NotesOfBytes, RunOfBytes, EntriesAreNoted, ReaderFollows, FrameEntry, NoClockNoEntry, FrameIsRead, PollIsRead, TakeEntry}
use Rattle.decisions.proofs.Still.{no_clock_decides_nothing, rest_owes_none, polling_has_no_clock}
use Rattle.decisions.proofs.Prefixes.{frame_noted, first_notes, frame_ends, take_test, decides_inside}

-- the reader as a fold
before-append : (e : Option Entry) (xs ys : List Entry) → before e xs ++ ys ≡ before e (xs ++ ys)
before-append (Some e) xs ys = refl
before-append None xs ys = refl

pub reader_appends : ReaderAppends
unfolding entries_from reader_after
reader_appends setup r [] ys = refl
reader_appends setup r (b ∷ xs) ys =
    let e = entry_of r.start r.place (turn setup r.state (levels b)).decision in
    ap (before e) (reader_appends setup (read_one setup r b) xs ys) ∙ sym (before-append e _ _)

pub reader_goes_on : ReaderGoesOn
unfolding reader_after
reader_goes_on setup r [] ys = refl
reader_goes_on setup r (b ∷ xs) ys = reader_goes_on setup (read_one setup r b) xs ys

-- a sample's byte has the sample's levels
levels-byte_of : (s : Sample) → levels (byte_of s) ≡ s
levels-byte_of s = grind arith

-- samples leave the levels of ORG and PE
pub bytes_after : (p : Pins) (x : Put) (xs : List Put) → bytes_put (put_on p x) xs ≡ bytes_put p xs
unfolding bytes_put put_on
bytes_after p x [] = refl
bytes_after p x (y ∷ ys) = ap (λ bs. byte_of (sample_of p y) ∷ bs) (bytes_after p x ys)

entries_noted : (start : StartBit) (place : ℕ) (d : Decision) (ns : List Note) →
    entries_in start (notes_with place d ns) ≡ before (entry_of start place d) (entries_in (start_after start place d) ns)
unfolding entries_in
entries_noted start place Nothing ns = refl
entries_noted start place (Start width) ns = refl
entries_noted start place (Address width cell) ns = refl
entries_noted start place (Data width cell next) ns = refl
entries_noted start place (Instruction kind width cell value verdict) ns = refl
entries_noted start place WrongCount ns = refl

start_noted : (start : StartBit) (place : ℕ) (d : Decision) (ns : List Note) →
    start_in start (notes_with place d ns) ≡ start_in (start_after start place d) ns
unfolding start_in
start_noted start place Nothing ns = refl
start_noted start place (Start width) ns = refl
start_noted start place (Address width cell) ns = refl
start_noted start place (Data width cell next) ns = refl
start_noted start place (Instruction kind width cell value verdict) ns = refl
start_noted start place WrongCount ns = refl

-- the reader takes a chip's sample as the chip does
reads : (p : Pins) (start : StartBit) (place : ℕ) (x : Put) → p.blank ≡ false →
    read_one p.machine.setup (reader_at p start place) (byte_of (sample_of p x))
    ≡ reader_at (put_on p x) (start_after start place (decision_on p x)) (suc place)
reads p start place x live =
    ap (λ (s : Sample). let t = turn p.machine.setup p.machine.state s in reader t.state (start_after start place t.decision) (place + 1)) (levels-byte_of (sample_of p x))
    ∙ rw (put_is p x live, live, add-one)

same_setup : (p : Pins) (x : Put) → p.blank ≡ false → p.machine.setup ≡ (put_on p x).machine.setup
same_setup p x live = rw (put_is p x live)

-- any samples
pub entries_of_any : EntriesOfAny
unfolding entries_from entries_in byte_notes
entries_of_any setup r [] = refl
entries_of_any setup r (b ∷ bs) =
    let t = turn setup r.state (levels b) in
    let start = start_after r.start r.place t.decision in
    let e : r.place + 1 ≡ suc r.place = add-one r.place in
    ap (before (entry_of r.start r.place t.decision))
    (ap (λ k. entries_from setup t.state start k bs) e ∙ entries_of_any setup (reader t.state start (suc r.place)) bs)
    ∙ sym (entries_noted r.start r.place t.decision (byte_notes setup t.state (suc r.place) bs))

decided_written : (part : Part) (place : ℕ) (d : Decision) (ns : List Note) (bytes : List ℕ) →
    written_all part (decisions_in (notes_with place d ns)) bytes ≡ written_all part (decisions_in ns) (written part d bytes)
unfolding decisions_in written_all
decided_written part place Nothing ns bytes = refl
decided_written part place (Start width) ns bytes = refl
decided_written part place (Address width cell) ns bytes = refl
decided_written part place (Data width cell next) ns bytes = refl
decided_written part place (Instruction kind width cell value verdict) ns bytes = refl
decided_written part place WrongCount ns bytes = refl

pub bytes_of_any : BytesOfAny
unfolding run_on byte_notes written_all decisions_in
bytes_of_any m place [] = refl
bytes_of_any m place (b ∷ bs) =
    let t = turn m.setup m.state (levels b) in
    bytes_of_any (after m t) (suc place) bs
    ∙ sym (decided_written m.setup.part place t.decision (byte_notes m.setup t.state (suc place) bs) m.bytes)

-- the samples of a chip
decision_is : (p : Pins) (x : Put) → p.blank ≡ false → (turn p.machine.setup p.machine.state (sample_of p x)).decision ≡ decision_on p x
decision_is p x live = rw live

state_is : (p : Pins) (x : Put) → p.blank ≡ false → (turn p.machine.setup p.machine.state (sample_of p x)).state ≡ (put_on p x).machine.state
state_is p x live = rw (put_is p x live)

pub notes_of_bytes : NotesOfBytes
unfolding byte_notes bytes_put notes
notes_of_bytes p place [] live = refl
notes_of_bytes p place (x ∷ xs) live =
    let q = put_on p x in
    ap (λ (s : Sample). let t = turn p.machine.setup p.machine.state s in
    notes_with place t.decision (byte_notes p.machine.setup t.state (suc place) (bytes_put p xs))) (levels-byte_of (sample_of p x))
    ∙ ap (λ (d : Decision). notes_with place d (byte_notes p.machine.setup (turn p.machine.setup p.machine.state (sample_of p x)).state (suc place) (bytes_put p xs))) (decision_is p x live)
    ∙ ap (λ (st : State). notes_with place (decision_on p x) (byte_notes p.machine.setup st (suc place) (bytes_put p xs))) (state_is p x live)
    ∙ ap (λ (s : Setup). notes_with place (decision_on p x) (byte_notes s q.machine.state (suc place) (bytes_put p xs))) (same_setup p x live)
    ∙ ap (λ (bs : List ℕ). notes_with place (decision_on p x) (byte_notes q.machine.setup q.machine.state (suc place) bs)) (sym (bytes_after p x xs))
    ∙ ap (notes_with place (decision_on p x)) (notes_of_bytes q (suc place) xs (put_keeps_blank p x ∙ live))

pub run_of_bytes : RunOfBytes
unfolding run_on run bytes_put
run_of_bytes p [] live = refl
run_of_bytes p (x ∷ xs) live =
    let q = put_on p x in
    ap (λ (s : Sample). run_on (step p.machine s) (bytes_put p xs)) (levels-byte_of (sample_of p x))
    ∙ ap (λ (o : Pins). run_on o.machine (bytes_put p xs)) (sym (put_is p x live))
    ∙ ap (run_on q.machine) (sym (bytes_after p x xs))
    ∙ run_of_bytes q xs (put_keeps_blank p x ∙ live)

pub entries_are_noted : EntriesAreNoted
entries_are_noted p start place xs live =
    entries_of_any p.machine.setup (reader_at p start place) (bytes_put p xs) ∙ ap (entries_in start) (notes_of_bytes p place xs live)

pub reader_follows : ReaderFollows
unfolding reader_after bytes_put start_in notes run
reader_follows p start place [] live = let e : place ≡ place + 0 = omega arith in ap (λ k. reader_at p start k) e
reader_follows p start place (x ∷ xs) live =
    let q = put_on p x in
    let d = decision_on p x in
    let start' = start_after start place d in
    let e : suc place + length xs ≡ place + suc (length xs) = omega arith in
    ap (λ (r : Reader). reader_after p.machine.setup r (bytes_put p xs)) (reads p start place x live)
    ∙ ap (λ (s : Setup). reader_after s (reader_at q start' (suc place)) (bytes_put p xs)) (same_setup p x live)
    ∙ ap (λ (bs : List ℕ). reader_after q.machine.setup (reader_at q start' (suc place)) bs) (sym (bytes_after p x xs))
    ∙ reader_follows q start' (suc place) xs (put_keeps_blank p x ∙ live)
    ∙ ap (λ k. reader_at (run q xs) (start_in start' (notes (suc place) q xs)) k) e
    ∙ ap (λ s. reader_at (run q xs) s (place + suc (length xs))) (sym (start_noted start place d (notes (suc place) q xs)))

-- the entry of a frame
entry_is : (p : Pins) (i : Sent) (start : StartBit) (place : ℕ) → entries_in start (frame_notes p place i) ≡ entry_sent p i place ∷ []
unfolding entries_in
entry_is p (instruction.Read address words) start place = refl
entry_is p (instruction.Write address value) start place = refl
entry_is p (instruction.Erase address) start place = refl
entry_is p instruction.Wen start place = refl
entry_is p instruction.Wds start place = refl
entry_is p instruction.Eral start place = refl
entry_is p (instruction.Wrall value) start place = refl

pub frame_entry : FrameEntry
frame_entry p i start place r f =
    entries_are_noted p start place _ r.rest.live ∙ ap (entries_in start) (frame_noted place p i r f) ∙ entry_is p i start place

-- no frame decides before its start bit
clock_late : (place n : ℕ) → suc (suc place) ≤ place + (2 * n + 2)
clock_late place n = omega arith

end_late : (edition : Edition) (k m : ℕ) → k ≤ m → k ≤ end_after edition m
end_late edition k m h = cond_both (is_clock_edition edition) m (suc (suc m)) (λ j. k ≤ j) (λ _. h) (λ _. omega arith)

deciding_late : (p : Pins) (kind : Kind) (place : ℕ) → suc (suc place) ≤ deciding_place p kind place
deciding_late p Read place = clock_late place _
deciding_late p Write place = end_late p.machine.setup.edition _ _ (clock_late place _)
deciding_late p Erase place = end_late p.machine.setup.edition _ _ (clock_late place _)
deciding_late p Wen place = end_late p.machine.setup.edition _ _ (clock_late place _)
deciding_late p Wds place = end_late p.machine.setup.edition _ _ (clock_late place _)
deciding_late p Eral place = end_late p.machine.setup.edition _ _ (clock_late place _)
deciding_late p Wrall place = end_late p.machine.setup.edition _ _ (clock_late place _)

start_alone : (start : StartBit) (place : ℕ) (width : Width) (b : Bool) → entries_in start (cond b (note place (Start width) ∷ []) []) ≡ []
unfolding entries_in
start_alone start place width true = refl
start_alone start place width false = refl

module _ (p : Pins) (i : Sent) (start : StartBit) (place end : ℕ) where
  abbrev deciding : ℕ
  deciding = deciding_place p (kind_in i) place

  both_before : ltb deciding end ≡ true → notes_before end (frame_notes p place i) ≡ frame_notes p place i
  unfolding notes_before
  both_before e =
      let h : ltb (suc (suc place)) end ≡ true = lt-ltb _ _ (omega (arith, ltb-true deciding end e, deciding_late p (kind_in i) place)) in
      simp (h, e)

  start_before : ltb deciding end ≡ false →
      notes_before end (frame_notes p place i) ≡ cond (ltb (suc (suc place)) end) (note (suc (suc place)) (Start (width_on p)) ∷ []) []
  unfolding notes_before
  start_before e = simp e

  entry_before : (c : Bool) → ltb deciding end ≡ c → entries_in start (notes_before end (frame_notes p place i)) ≡ cond c (entry_sent p i place ∷ []) []
  entry_before true e = ap (entries_in start) (both_before e) ∙ entry_is p i start place
  entry_before false e = ap (entries_in start) (start_before e) ∙ start_alone start (suc (suc place)) (width_on p) (ltb (suc (suc place)) end)

first_entry : (p : Pins) (i : Sent) (start : StartBit) (place : ℕ) (xs ys : List Put) → Ready p → Sendable p (address_in i) (value_in i) →
    xs ++ ys ≡ frame_on p i →
    entries_by p.machine.setup (reader_at p start place) (bytes_put p xs)
    ≡ cond (nat_lt (decided_at p i place) (place + length xs)) (entry_sent p i place ∷ []) []
first_entry p i start place xs ys r f h =
    entries_are_noted p start place xs r.rest.live
    ∙ ap (entries_in start) (first_notes place p i xs ys r f h)
    ∙ entry_before p i start place (place + length xs) _ refl

-- the place of the decision counts from where the frame begins
end_on : (edition : Edition) (place n : ℕ) → end_after edition (place + n) ≡ place + end_after edition (0 + n)
end_on Fall place n = omega arith
end_on Clock place n = omega arith

decides_on : (p : Pins) (kind : Kind) (place : ℕ) → deciding_place p kind place ≡ place + deciding_place p kind 0
decides_on p Read place = omega arith
decides_on p Write place = end_on p.machine.setup.edition place _
decides_on p Erase place = end_on p.machine.setup.edition place _
decides_on p Wen place = end_on p.machine.setup.edition place _
decides_on p Wds place = end_on p.machine.setup.edition place _
decides_on p Eral place = end_on p.machine.setup.edition place _
decides_on p Wrall place = end_on p.machine.setup.edition place _

pub take_entry : TakeEntry
take_entry p i start place k r f =
    let frame = frame_on p i in
    let moved : nat_lt (decided_at p i place) (place + length (take k frame)) ≡ nat_lt (decided_at p i 0) (length (take k frame)) =
    let e = decides_on p (kind_in i) place in grind (arith, nat_tests) in
    first_entry p i start place (take k frame) (drop k frame) r f (take-append-drop k frame)
    ∙ ap (λ (c : Bool). cond c (entry_sent p i place ∷ []) []) (moved ∙ take_test _ k frame (decides_inside p i r f))

pub no_clock_no_entry : NoClockNoEntry
unfolding entries_in
no_clock_no_entry p start place xs live h s =
    entries_are_noted p start place xs live ∙ ap (entries_in start) (no_clock_decides_nothing place p xs h s)

-- the reader after a frame and after polling
start_is : (p : Pins) (i : Sent) (start : StartBit) (place : ℕ) →
    start_in start (frame_notes p place i) ≡ record { width = width_on p; place = suc (suc place) }
unfolding start_in
start_is p (instruction.Read address words) start place = refl
start_is p (instruction.Write address value) start place = refl
start_is p (instruction.Erase address) start place = refl
start_is p instruction.Wen start place = refl
start_is p instruction.Wds start place = refl
start_is p instruction.Eral start place = refl
start_is p (instruction.Wrall value) start place = refl

pub frame_is_read : FrameIsRead
frame_is_read p i start place r f =
    let frame = frame_of p.machine.setup.part (width_on p) i in
    let two : suc (suc place) ≡ place + 2 = omega arith in
    reader_follows p start place frame r.rest.live
    ∙ ap (λ (q : Pins). reader_at q (start_in start (notes place p frame)) (place + length frame)) (frame_ends p i r f)
    ∙ ap (λ (ns : List Note). reader_at (carried_out p (kind_in i) (address_in i) (value_in i)) (start_in start ns) (place + length frame)) (frame_noted place p i r f)
    ∙ ap (λ (s : StartBit). reader_at (carried_out p (kind_in i) (address_in i) (value_in i)) s (place + length frame)) (start_is p i start place)
    ∙ ap (λ k. reader_at (carried_out p (kind_in i) (address_in i) (value_in i)) (record { width = width_on p; place = k }) (place + length frame)) two

pub poll_is_read : PollIsRead
unfolding start_in
poll_is_read p start place r =
    reader_follows p start place (polls p) r.live
    ∙ ap (λ (ns : List Note). reader_at (run p (polls p)) (start_in start ns) (place + length (polls p)))
    (no_clock_decides_nothing place p (polls p) (rest_owes_none p r) (polling_has_no_clock p))
    ∙ ap (λ (q : Pins). reader_at q start (place + length (polls p))) (poll_rests p r)
