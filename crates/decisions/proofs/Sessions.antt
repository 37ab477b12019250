-- Polling, a frame and polling, cut off anywhere.
use Rattle.std.proofs.Common.{◌≡◌, ℕ, ◌+◌, ◌-◌, Bool, true, false, cond, ltb, List, [], ◌∷◌, ◌++◌, length, take, refl, sym, ap, ◌∙◌, arith, inl, inr}
use Rattle.std.proofs.lemmas.List.{append-nil}
use Rattle.std.proofs.lemmas.Bool.Decides.{nat_tests, leb_tells}
use Rattle.protocol.specs.declared.instruction.Instruction.{Instruction as Sent}
use Rattle.protocol.specs.Instructions.{kind_in, address_in, value_in}
use Rattle.chips.specs.declared.state.Decision.{Decision}
use Rattle.chips.specs.Pins.{Pins, Put}
use Rattle.wire.specs.Deciding.{frame_decides, deciding_place}
use Rattle.wire.specs.Frames.{frame_of}
use Rattle.wire.specs.Places.{width_on, left_on, Rest, Ready, Sendable, resting}
use Rattle.wire.specs.Polling.{polls, is_ready}
use Rattle.wire.specs.Runs.{run}
use Rattle.wire.proofs.Polls.{poll_rests, poll_ready_iff}
use Rattle.decisions.specs.Decided.{decisions_of, written_all}
use Rattle.decisions.specs.Laws.{changed_chip, polled_frame, PolledDecide, PolledChange}
use Rattle.decisions.proofs.Folding.{bytes_are_decided, take_of_append}
use Rattle.decisions.proofs.Prefixes.{frame_ends, carried_rests, take_decide, written_if, written_is}
use Rattle.decisions.proofs.Still.{poll_take}

module _ (p : Pins) (i : Sent) (r : Rest p) (seen : is_ready p ≡ true) (f : Sendable p (address_in i) (value_in i)) where
  abbrev q : Pins
  q = resting p 0

  abbrev frame : List Put
  frame = frame_of p.machine.setup.part (width_on p) i

  abbrev d : Decision
  d = frame_decides p (kind_in i) (address_in i) (value_in i)

  abbrev place : ℕ
  place = deciding_place p (kind_in i) 0

  none_left : left_on p - 4097 ≡ 0
  none_left =
      elim (leb_tells (left_on p) 4096) [
        | inl t ↦ omega (arith, t.1)
        | inr t ↦ let e : true ≡ false = sym seen ∙ poll_ready_iff p r ∙ t.0 in cc e
      ]

  polled : run p (polls p) ≡ q
  polled = poll_rests p r ∙ ap (resting p) none_left

  ready : Ready q
  ready = record { rest = record { live = r.live; low = refl; waiting = refl; dark = refl }; none = refl }

  fits : Sendable q (address_in i) (value_in i)
  fits = record { in_field = f.in_field; in_width = f.in_width }

  -- the frame and what follows it
  frame_first : (k : ℕ) → decisions_of q (take k (frame ++ polls (changed_chip p i))) ≡ cond (ltb place k) (d ∷ []) []
  frame_first k =
      take_of_append q frame (polls (changed_chip p i)) k
      ∙ ap (λ (o : Pins). decisions_of q (take k frame) ++ decisions_of o (take (k - length frame) (polls (changed_chip p i)))) (frame_ends q i ready fits)
      ∙ ap (λ (ds : List Decision). decisions_of q (take k frame) ++ ds)
      (poll_take (changed_chip p i) (k - length frame) (carried_rests q (kind_in i) (address_in i) (value_in i) r.live))
      ∙ append-nil _ ∙ take_decide q i k ready fits

  abbrev all : List Put
  all = polled_frame p i

  decides : (k : ℕ) → decisions_of p (take k all) ≡ cond (ltb (length (polls p) + place) k) (d ∷ []) []
  decides k =
      let n = length (polls p) in
      let t : ltb place (k - n) ≡ ltb (n + place) k = grind (arith, nat_tests) in
      take_of_append p (polls p) (frame ++ polls (changed_chip p i)) k
      ∙ ap (λ (ds : List Decision). ds ++ decisions_of (run p (polls p)) (take (k - n) (frame ++ polls (changed_chip p i)))) (poll_take p k r)
      ∙ ap (λ (o : Pins). decisions_of o (take (k - n) (frame ++ polls (changed_chip p i)))) polled
      ∙ frame_first (k - n) ∙ ap (λ (c : Bool). cond c (d ∷ []) []) t

  changes : (k : ℕ) → (run p (take k all)).machine.bytes ≡ cond (ltb (length (polls p) + place) k) (changed_chip p i).machine.bytes p.machine.bytes
  changes k =
      let c = ltb (length (polls p) + place) k in
      bytes_are_decided p (take k all)
      ∙ ap (λ (ds : List Decision). written_all p.machine.setup.part ds p.machine.bytes) (decides k)
      ∙ written_if p.machine.setup.part c d p.machine.bytes
      ∙ ap (λ (b : List ℕ). cond c b p.machine.bytes) (written_is q (kind_in i) (address_in i) (value_in i))

pub polled_decide : PolledDecide
polled_decide p i k r seen f = decides p i r seen f k

pub polled_change : PolledChange
polled_change p i k r seen f = changes p i r seen f k
