-- Frames and their first samples.
use Rattle.wire.specs.Runs.{run}
use Rattle.std.proofs.lemmas.Bool.Decides.{nat_tests}
use Rattle.std.proofs.lemmas.Bool.{ltb-true}
use Rattle.std.proofs.lemmas.List.{take-append-drop, append-nil, length-take}
use Rattle.std.proofs.Common.{◌≡◌, ℕ, ◌+◌, Bool, true, false, cond, ltb, List, [], ◌∷◌, ◌++◌, length, refl, ap, ◌∙◌, zero-add, ◌<◌, take, drop, sym, arith, nat_lt}
use Rattle.protocol.specs.declared.instruction.Instruction.{Instruction as Sent}
use Rattle.protocol.specs.declared.instruction.Kind.{Kind}
use Rattle.protocol.specs.declared.instruction.Kind.TheVariants.{Read, Write, Erase, Wen, Wds, Eral, Wrall}
use Rattle.protocol.specs.declared.parts.Part.{Part}
use Rattle.protocol.specs.declared.parts.Width.{Width}
use Rattle.protocol.specs.Instructions.{kind_in, address_in, value_in}
use Rattle.chips.specs.declared.state.Decision.{Decision}
use Rattle.chips.specs.declared.state.Decision.TheVariants.{Start}
use Rattle.chips.specs.Machine.{written}
use Rattle.chips.specs.Pins.{Pins, Put}
use Rattle.wire.specs.Deciding.{Note, note, notes, frame_decides, frame_notes, deciding_place, frame_on, decision_by, decided_at, carried_by}
use Rattle.wire.specs.Frames.{frame_of}
use Rattle.wire.specs.Places.{width_on, Rest, Ready, Sendable, carried_out}
use Rattle.wire.proofs.Decided.{frame_goes}
use Rattle.decisions.specs.Decided.{decisions_with, decisions_in, notes_before, written_all, decisions_of}
use Rattle.decisions.specs.Laws.{FrameNotes, FrameDecides, FrameEnds, FrameRests, DecidesInside, TakeDecide, TakeChange}
use Rattle.decisions.proofs.Folding.{decisions_are_noted, notes_of_first, bytes_are_decided}

pub frame_noted : FrameNotes
frame_noted place p i r f = ap (λ (x : Pins × List Note). x.1) (frame_goes p i place r f)

pub frame_ends : FrameEnds
frame_ends p i r f = ap (λ (x : Pins × List Note). x.0) (frame_goes p i 0 r f)

pub carried_rests : (p : Pins) (kind : Kind) (address value : ℕ) → p.blank ≡ false → Rest (carried_out p kind address value)
carried_rests p kind address value live = record { live = live; low = refl; waiting = refl; dark = refl }

pub frame_rests : FrameRests
frame_rests p i r f = rw (frame_ends p i r f) (carried_rests p (kind_in i) (address_in i) (value_in i) r.rest.live)

-- what a frame decides matters
module _ (p : Pins) where
  one_decision : (kind : Kind) (address value : ℕ) → decisions_with (frame_decides p kind address value) [] ≡ frame_decides p kind address value ∷ []
  one_decision Read address value = refl
  one_decision Write address value = refl
  one_decision Erase address value = refl
  one_decision Wen address value = refl
  one_decision Wds address value = refl
  one_decision Eral address value = refl
  one_decision Wrall address value = refl

  -- the address bits of a kind without address change nothing
  pub written_is : (kind : Kind) (address value : ℕ) →
      written p.machine.setup.part (frame_decides p kind address value) p.machine.bytes ≡ (carried_out p kind address value).machine.bytes
  written_is Read address value = refl
  written_is Write address value = refl
  written_is Erase address value = refl
  written_is Wen address value = refl
  written_is Wds address value = refl
  written_is Eral address value = refl
  written_is Wrall address value = refl

-- of a start bit and a decision, those before a place
module _ (end first last : ℕ) (width : Width) (d : Decision) (h : decisions_with d [] ≡ d ∷ []) where
  by : (b c : Bool) →
      decisions_in (cond b (note first (Start width) ∷ cond c (note last d ∷ []) []) (cond c (note last d ∷ []) [])) ≡ cond c (d ∷ []) []
  unfolding decisions_in
  by true true = h
  by true false = refl
  by false true = h
  by false false = refl

  of_two : decisions_in (notes_before end (note first (Start width) ∷ note last d ∷ [])) ≡ cond (ltb last end) (d ∷ []) []
  unfolding notes_before
  of_two = by (ltb first end) (ltb last end)

all_of_two : (p : Pins) (i : Sent) → decisions_in (frame_notes p 0 i) ≡ frame_decides p (kind_in i) (address_in i) (value_in i) ∷ []
unfolding decisions_in
all_of_two p i = one_decision p (kind_in i) (address_in i) (value_in i)

pub frame_decided : FrameDecides
frame_decided p i r f = decisions_are_noted 0 p _ ∙ ap decisions_in (frame_noted 0 p i r f) ∙ all_of_two p i

pub first_notes : (place : ℕ) (p : Pins) (i : Sent) (xs ys : List Put) → Ready p → Sendable p (address_in i) (value_in i) →
    xs ++ ys ≡ frame_of p.machine.setup.part (width_on p) i → notes place p xs ≡ notes_before (place + length xs) (frame_notes p place i)
first_notes place p i xs ys r f h =
    notes_of_first place p xs ys ∙ ap (λ zs. notes_before (place + length xs) (notes place p zs)) h
    ∙ ap (notes_before (place + length xs)) (frame_noted place p i r f)

pub first_decide : (p : Pins) (i : Sent) (xs ys : List Put) → Ready p → Sendable p (address_in i) (value_in i) →
    xs ++ ys ≡ frame_on p i → decisions_of p xs ≡ cond (nat_lt (decided_at p i 0) (length xs)) (decision_by p i ∷ []) []
first_decide p i xs ys r f h =
    decisions_are_noted 0 p xs ∙ ap decisions_in (first_notes 0 p i xs ys r f h)
    ∙ of_two (0 + length xs) 2 (deciding_place p (kind_in i) 0) (width_on p) _ (one_decision p (kind_in i) (address_in i) (value_in i))
    ∙ ap (λ k. cond (ltb (deciding_place p (kind_in i) 0) k) (frame_decides p (kind_in i) (address_in i) (value_in i) ∷ []) []) (zero-add (length xs))

pub written_if : (part : Part) (c : Bool) (d : Decision) (bytes : List ℕ) →
    written_all part (cond c (d ∷ []) []) bytes ≡ cond c (written part d bytes) bytes
unfolding written_all
written_if part true d bytes = refl
written_if part false d bytes = refl

first_change : (p : Pins) (i : Sent) (xs ys : List Put) → Ready p → Sendable p (address_in i) (value_in i) →
    xs ++ ys ≡ frame_on p i →
    (run p xs).machine.bytes ≡ cond (nat_lt (decided_at p i 0) (length xs)) (carried_by p i).machine.bytes p.machine.bytes
first_change p i xs ys r f h =
    let d = frame_decides p (kind_in i) (address_in i) (value_in i) in
    let c = ltb (deciding_place p (kind_in i) 0) (length xs) in
    bytes_are_decided p xs
    ∙ ap (λ (ds : List Decision). written_all p.machine.setup.part ds p.machine.bytes) (first_decide p i xs ys r f h)
    ∙ written_if p.machine.setup.part c d p.machine.bytes
    ∙ ap (λ (b : List ℕ). cond c b p.machine.bytes) (written_is p (kind_in i) (address_in i) (value_in i))

-- the first k samples
only_true : (c : Bool) (d : Decision) → d ∷ [] ≡ cond c (d ∷ []) [] → c ≡ true
only_true true d h = refl
only_true false d h = cc

pub decides_inside : DecidesInside
decides_inside p i r f =
    let frame = frame_of p.machine.setup.part (width_on p) i in
    let c = ltb (deciding_place p (kind_in i) 0) (length frame) in
    ltb-true _ _ (only_true c _ (sym (frame_decided p i r f) ∙ first_decide p i frame [] r f (append-nil frame)))

pub take_test : (d k : ℕ) (xs : List Put) → d < length xs → ltb d (length (take k xs)) ≡ ltb d k
take_test d k xs h = let e = length-take k xs in grind (arith, nat_tests)

pub take_decide : TakeDecide
take_decide p i k r f =
    let frame = frame_of p.machine.setup.part (width_on p) i in
    let d = frame_decides p (kind_in i) (address_in i) (value_in i) in
    first_decide p i (take k frame) (drop k frame) r f (take-append-drop k frame)
    ∙ ap (λ (c : Bool). cond c (d ∷ []) []) (take_test _ k frame (decides_inside p i r f))

pub take_change : TakeChange
take_change p i k r f =
    let frame = frame_of p.machine.setup.part (width_on p) i in
    first_change p i (take k frame) (drop k frame) r f (take-append-drop k frame)
    ∙ ap (λ (c : Bool). cond c (carried_out p (kind_in i) (address_in i) (value_in i)).machine.bytes p.machine.bytes)
    (take_test _ k frame (decides_inside p i r f))
