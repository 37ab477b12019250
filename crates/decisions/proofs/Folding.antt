-- What samples decide, and what becomes of bytes, open flag and cycle.
use Rattle.std.proofs.lemmas.List.{take-append-drop, take_at, take_all}
use Rattle.std.proofs.Common.{◌≡◌, ℕ, suc, ◌+◌, ◌-◌, ◌≤◌, Bool, true, false, not, ◌&&◌, ltb, List, [], ◌∷◌, ◌++◌, length, refl, sym, ap, ◌∙◌, arith, take, drop, inl, inr, zero}
use Rattle.std.proofs.lemmas.Bool.{lt-ltb, and_parts, cases_lt}
use Rattle.std.proofs.lemmas.Bool.Decides.{nat_tests}
use Rattle.protocol.specs.declared.settings.Setup.{Setup}
use Rattle.protocol.specs.declared.parts.Part.{Part}
use Rattle.chips.specs.declared.state.Decision.{Decision}
use Rattle.chips.specs.declared.state.Decision.TheVariants.{Nothing, Start, Address, Data, Instruction, WrongCount}
use Rattle.chips.specs.Machine.{written}
use Rattle.chips.specs.Pins.{Pins, Put, put_on}
use Rattle.wire.specs.Deciding.{Note, note, decision_on, notes_with, notes}
use Rattle.wire.specs.Places.{left_on}
use Rattle.wire.specs.Runs.{run}
use Rattle.wire.proofs.Keeping.{put_keeps_blank}
use Rattle.decisions.specs.Decided.{decisions_with, decisions_of, decisions_in, notes_before, written_all, enabled_by, enabled_all, left_by, left_after, is_changing, no_change}
use Rattle.decisions.specs.Laws.{DecisionsAppend, NotesAppend, DecisionsAreNoted, NotesOfFirst, BytesAreDecided, EnabledIsDecided, LeftOfRun, LeftOnlyAges, BytesStay, TakeOfDecisions}
use Rattle.decisions.proofs.Acting.{put-setup, put-bytes, put-enabled, left_is_decided, unwritten, uncycled}

pub mattering-append : (d : Decision) (xs ys : List Decision) → decisions_with d xs ++ ys ≡ decisions_with d (xs ++ ys)
mattering-append Nothing xs ys = refl
mattering-append (Start width) xs ys = refl
mattering-append (Address width cell) xs ys = refl
mattering-append (Data width cell next) xs ys = refl
mattering-append (Instruction kind width cell value verdict) xs ys = refl
mattering-append WrongCount xs ys = refl

pub decisions_append : DecisionsAppend
unfolding decisions_of run
decisions_append p [] ys = refl
decisions_append p (x ∷ xs) ys =
    ap (decisions_with (decision_on p x)) (decisions_append (put_on p x) xs ys)
    ∙ sym (mattering-append (decision_on p x) (decisions_of (put_on p x) xs) (decisions_of (run (put_on p x) xs) ys))

noted-append : (place : ℕ) (d : Decision) (xs ys : List Note) → notes_with place d xs ++ ys ≡ notes_with place d (xs ++ ys)
noted-append place Nothing xs ys = refl
noted-append place (Start width) xs ys = refl
noted-append place (Address width cell) xs ys = refl
noted-append place (Data width cell next) xs ys = refl
noted-append place (Instruction kind width cell value verdict) xs ys = refl
noted-append place WrongCount xs ys = refl

pub notes_append : NotesAppend
unfolding notes run
notes_append place p [] ys = ap (λ k. notes k p ys) (omega arith)
notes_append place p (x ∷ xs) ys =
    let e : suc place + length xs ≡ place + suc (length xs) = omega arith in
    ap (notes_with place (decision_on p x))
    (notes_append (suc place) (put_on p x) xs ys
    ∙ ap (λ k. notes (suc place) (put_on p x) xs ++ notes k (run (put_on p x) xs) ys) e)
    ∙ sym (noted-append place (decision_on p x) (notes (suc place) (put_on p x) xs) _)

decisions_noted : (place : ℕ) (d : Decision) (ns : List Note) → decisions_in (notes_with place d ns) ≡ decisions_with d (decisions_in ns)
unfolding decisions_in
decisions_noted place Nothing ns = refl
decisions_noted place (Start width) ns = refl
decisions_noted place (Address width cell) ns = refl
decisions_noted place (Data width cell next) ns = refl
decisions_noted place (Instruction kind width cell value verdict) ns = refl
decisions_noted place WrongCount ns = refl

pub decisions_are_noted : DecisionsAreNoted
unfolding decisions_of decisions_in notes
decisions_are_noted place p [] = refl
decisions_are_noted place p (x ∷ xs) =
    ap (decisions_with (decision_on p x)) (decisions_are_noted (suc place) (put_on p x) xs)
    ∙ sym (decisions_noted place (decision_on p x) (notes (suc place) (put_on p x) xs))

-- bytes and open flag
written-mattering : (part : Part) (d : Decision) (ds : List Decision) (bytes : List ℕ) →
    written_all part (decisions_with d ds) bytes ≡ written_all part ds (written part d bytes)
unfolding written_all
written-mattering part Nothing ds bytes = refl
written-mattering part (Start width) ds bytes = refl
written-mattering part (Address width cell) ds bytes = refl
written-mattering part (Data width cell next) ds bytes = refl
written-mattering part (Instruction kind width cell value verdict) ds bytes = refl
written-mattering part WrongCount ds bytes = refl

pub bytes_are_decided : BytesAreDecided
unfolding run decisions_of written_all
bytes_are_decided p [] = refl
bytes_are_decided p (x ∷ xs) =
    let q = put_on p x in
    bytes_are_decided q xs
    ∙ ap (λ (s : Setup). written_all s.part (decisions_of q xs) q.machine.bytes) (put-setup p x)
    ∙ ap (written_all p.machine.setup.part (decisions_of q xs)) (put-bytes p x)
    ∙ sym (written-mattering p.machine.setup.part (decision_on p x) (decisions_of q xs) p.machine.bytes)

enabled-mattering : (d : Decision) (ds : List Decision) (b : Bool) → enabled_all (decisions_with d ds) b ≡ enabled_all ds (enabled_by d b)
unfolding enabled_all
enabled-mattering Nothing ds b = refl
enabled-mattering (Start width) ds b = refl
enabled-mattering (Address width cell) ds b = refl
enabled-mattering (Data width cell next) ds b = refl
enabled-mattering (Instruction kind width cell value verdict) ds b = refl
enabled-mattering WrongCount ds b = refl

pub enabled_is_decided : EnabledIsDecided
unfolding run decisions_of enabled_all
enabled_is_decided p [] = refl
enabled_is_decided p (x ∷ xs) =
    let q = put_on p x in
    enabled_is_decided q xs ∙ ap (enabled_all (decisions_of q xs)) (put-enabled p x)
    ∙ sym (enabled-mattering (decision_on p x) (decisions_of q xs) p.machine.state.enabled)

-- no change
no_change-mattering : (d : Decision) (ds : List Decision) → no_change (decisions_with d ds) ≡ not (is_changing d) && no_change ds
unfolding no_change
no_change-mattering Nothing ds = refl
no_change-mattering (Start width) ds = refl
no_change-mattering (Address width cell) ds = refl
no_change-mattering (Data width cell next) ds = refl
no_change-mattering (Instruction kind width cell value verdict) ds = refl
no_change-mattering WrongCount ds = refl

is_not : (b : Bool) → not b ≡ true → b ≡ false
is_not b h = grind arith

pub left_only_ages : LeftOnlyAges
unfolding run decisions_of no_change
left_only_ages p [] live h = omega arith
left_only_ages p (x ∷ xs) live h =
    let q = put_on p x in
    let both = and_parts (not (is_changing (decision_on p x))) (no_change (decisions_of q xs)) (sym (no_change-mattering (decision_on p x) _) ∙ h) in
    let one : left_on q ≡ left_on p - 1 = left_is_decided p x live ∙ uncycled p.machine.setup (decision_on p x) (left_on p - 1) (is_not _ both.0) in
    let rest : left_on (run q xs) ≡ left_on q - length xs = left_only_ages q xs (put_keeps_blank p x ∙ live) both.1 in
    omega (arith, rest, one)

unwritten_all : (part : Part) (ds : List Decision) (bytes : List ℕ) → no_change ds ≡ true → written_all part ds bytes ≡ bytes
unfolding no_change written_all
unwritten_all part [] bytes h = refl
unwritten_all part (d ∷ ds) bytes h =
    let both = and_parts (not (is_changing d)) (no_change ds) h in
    ap (written_all part ds) (unwritten part d bytes (is_not _ both.0)) ∙ unwritten_all part ds bytes both.1

pub bytes_stay : BytesStay
bytes_stay p xs h = bytes_are_decided p xs ∙ unwritten_all p.machine.setup.part (decisions_of p xs) p.machine.bytes h

-- notes before a place
module _ (end place : ℕ) where
  before-noted : (d : Decision) (ns : List Note) → ltb place end ≡ true → notes_before end (notes_with place d ns) ≡ notes_with place d (notes_before end ns)
  unfolding notes_before
  before-noted Nothing ns h = refl
  before-noted (Start width) ns h = simp h
  before-noted (Address width cell) ns h = simp h
  before-noted (Data width cell next) ns h = refl
  before-noted (Instruction kind width cell value verdict) ns h = simp h
  before-noted WrongCount ns h = simp h

  past-noted : (d : Decision) (ns : List Note) → ltb place end ≡ false → notes_before end (notes_with place d ns) ≡ notes_before end ns
  unfolding notes_before
  past-noted Nothing ns h = refl
  past-noted (Start width) ns h = simp h
  past-noted (Address width cell) ns h = simp h
  past-noted (Data width cell next) ns h = refl
  past-noted (Instruction kind width cell value verdict) ns h = simp h
  past-noted WrongCount ns h = simp h

none_before : (end place : ℕ) (p : Pins) (xs : List Put) → end ≤ place → notes_before end (notes place p xs) ≡ []
unfolding notes notes_before
none_before end place p [] h = refl
none_before end place p (x ∷ xs) h =
    past-noted end place (decision_on p x) _ (grind (arith, nat_tests)) ∙ none_before end (suc place) (put_on p x) xs (omega arith)

pub notes_of_first : NotesOfFirst
unfolding notes
notes_of_first place p [] ys = sym (none_before (place + 0) place p ys (omega arith))
notes_of_first place p (x ∷ xs) ys =
    let q = put_on p x in
    let e : suc place + length xs ≡ place + suc (length xs) = omega arith in
    ap (notes_with place (decision_on p x))
    (notes_of_first (suc place) q xs ys ∙ ap (λ k. notes_before k (notes (suc place) q (xs ++ ys))) e)
    ∙ sym (before-noted (place + suc (length xs)) place (decision_on p x) _ (lt-ltb place _ (omega arith)))

-- the samples left: the first note stands no earlier than its samples
abbrev Later : ℕ → List Note → Type 0
Later place [] = Unit {0}
Later place (n ∷ ns) = place ≤ n.place

later_on : (place : ℕ) (ns : List Note) → Later (suc place) ns → Later place ns
later_on place [] h = tt
later_on place (n ∷ ns) h = omega arith

later_noted : (place : ℕ) (d : Decision) (ns : List Note) → Later (suc place) ns → Later place (notes_with place d ns)
later_noted place Nothing ns h = later_on place ns h
later_noted place (Start width) ns h = omega arith
later_noted place (Address width cell) ns h = omega arith
later_noted place (Data width cell next) ns h = later_on place ns h
later_noted place (Instruction kind width cell value verdict) ns h = omega arith
later_noted place WrongCount ns h = omega arith

later : (place : ℕ) (p : Pins) (xs : List Put) → Later place (notes place p xs)
unfolding notes
later place p [] = tt
later place p (x ∷ xs) = later_noted place (decision_on p x) _ (later (suc place) (put_on p x) xs)

module _ (setup : Setup) (place end : ℕ) (h : suc place ≤ end) where
  left_silent : (ns : List Note) (left : ℕ) → Later (suc place) ns → left_after setup place end ns left ≡ left_after setup (suc place) end ns (left - 1)
  unfolding left_after
  left_silent [] left l = omega arith
  left_silent (n ∷ ns) left l =
      let e : left - (suc n.place - place) ≡ left - 1 - (suc n.place - suc place) = omega arith in
      ap (λ k. left_after setup (suc n.place) end ns (left_by setup n.decision k)) e

  left_here : (d : Decision) (ns : List Note) (left : ℕ) →
      left_after setup place end (note place d ∷ ns) left ≡ left_after setup (suc place) end ns (left_by setup d (left - 1))
  unfolding left_after
  left_here d ns left =
      let e : left - (suc place - place) ≡ left - 1 = omega arith in ap (λ k. left_after setup (suc place) end ns (left_by setup d k)) e

  left_noted : (d : Decision) (ns : List Note) (left : ℕ) → Later (suc place) ns →
      left_after setup place end (notes_with place d ns) left ≡ left_after setup (suc place) end ns (left_by setup d (left - 1))
  left_noted Nothing ns left l = left_silent ns left l
  left_noted (Start width) ns left l = left_here (Start width) ns left
  left_noted (Address width cell) ns left l = left_here (Address width cell) ns left
  left_noted (Data width cell next) ns left l = left_silent ns left l
  left_noted (Instruction kind width cell value verdict) ns left l = left_here (Instruction kind width cell value verdict) ns left
  left_noted WrongCount ns left l = left_here WrongCount ns left

left_none : (setup : Setup) (place left : ℕ) → left ≡ left_after setup place (place + 0) [] left
unfolding left_after
left_none setup place left = omega arith

pub left_of_run : LeftOfRun
unfolding run notes
left_of_run place p [] live = left_none p.machine.setup place (left_on p)
left_of_run place p (x ∷ xs) live =
    let q = put_on p x in
    let e : suc place + length xs ≡ place + suc (length xs) = omega arith in
    left_of_run (suc place) q xs (put_keeps_blank p x ∙ live)
    ∙ ap (λ (s : Setup). left_after s (suc place) (suc place + length xs) (notes (suc place) q xs) (left_on q)) (put-setup p x)
    ∙ ap (λ k. left_after p.machine.setup (suc place) k (notes (suc place) q xs) (left_on q)) e
    ∙ ap (left_after p.machine.setup (suc place) (place + suc (length xs)) (notes (suc place) q xs)) (left_is_decided p x live)
    ∙ sym (left_noted p.machine.setup place (place + suc (length xs)) (omega arith) (decision_on p x) (notes (suc place) q xs) (left_on p)
    (later (suc place) q xs))

pub take_of_decisions : TakeOfDecisions
take_of_decisions p xs k =
    let first = decisions_of p (take k xs) in
    let e : decisions_of p xs ≡ first ++ decisions_of (run p (take k xs)) (drop k xs) =
    ap (decisions_of p) (sym (take-append-drop k xs)) ∙ decisions_append p (take k xs) (drop k xs) in
    sym (ap (take (length first)) e ∙ take_at first _ (length first) refl)

pub take_both : (k : ℕ) (xs ys : List Put) → take k (xs ++ ys) ≡ take k xs ++ take (k - length xs) ys
take_both zero xs ys = let e : zero - length xs ≡ 0 = omega arith in rw e
take_both (suc k) [] ys = let e : suc k ≡ suc k - 0 = omega arith in ap (λ j. take j ys) e
take_both (suc k) (x ∷ xs) ys =
    let e : suc k - suc (length xs) ≡ k - length xs = omega arith in ap (λ zs. x ∷ zs) (take_both k xs ys) ∙ rw e

-- past the first list the run has gone through all of it, and before its end nothing of the second is sent
pub take_of_append : (p : Pins) (xs ys : List Put) (k : ℕ) →
    decisions_of p (take k (xs ++ ys)) ≡ decisions_of p (take k xs) ++ decisions_of (run p xs) (take (k - length xs) ys)
unfolding decisions_of
take_of_append p xs ys k =
    ap (decisions_of p) (take_both k xs ys) ∙ decisions_append p (take k xs) (take (k - length xs) ys)
    ∙ elim (cases_lt k (length xs)) [
      | inl h ↦ let e : k - length xs ≡ 0 = omega arith in rw e
      | inr h ↦ rw (take_all k xs h)
    ]
