-- A ready chip takes an instruction: CS rises, the start bit, and one bit after the other.
use Rattle.std.proofs.Common.{◌≡◌, ℕ, zero, suc, ◌+◌, ◌-◌, ◌*◌, ◌/◌, ◌^◌, ◌<◌, Bool, true, false, ◌&&◌, eqb, List, ◌∷◌, sym, ap, ◌∙◌, inl, inr, arith}
use native.Mathlib.Nat.{div-eq_of_lt}
use Rattle.std.proofs.lemmas.Bool.{ne_eqb, cases_lt, and_right}
use Rattle.std.proofs.lemmas.Bool.Decides.{nat_tests}
use Rattle.protocol.specs.declared.instruction.Kind.{Kind}
use Rattle.protocol.specs.declared.parts.Part.{Part}
use Rattle.protocol.specs.declared.parts.Width.{Width}
use Rattle.protocol.specs.declared.settings.Setup.{Setup}
use Rattle.protocol.specs.Parts.{field_of}
use Rattle.protocol.specs.Instructions.{length_of, kind_at, is_read}
use Rattle.chips.specs.declared.state.Decision.{Decision}
use Rattle.chips.specs.declared.state.Decision.TheVariants.{Nothing, Start}
use Rattle.chips.specs.declared.state.Phase.{Phase}
use Rattle.chips.specs.declared.state.Phase.TheVariants.{Waiting, Taking}
use Rattle.chips.specs.declared.state.State.{State}
use Rattle.protocol.specs.Samples.{bit_of}
use Rattle.chips.specs.Control.{Turn, is_clock_edition, taken, turn, kept}
use Rattle.chips.specs.Machine.{written, out_of}
use Rattle.chips.specs.Pins.{Pins, Put, put, sample_of, put_on}
use Rattle.chips.proofs.Lengths.{least_length}
use Rattle.chips.proofs.Midways.{short_taken}
use Rattle.wire.specs.Frames.{selected, clock, clocks, bit_at, opening}
use Rattle.wire.specs.Places.{width_on, Ready, placed}
use Rattle.wire.specs.Deciding.{Note, note}
use Rattle.protocol.proofs.Spans.{kind_first}
use Rattle.wire.proofs.Bits.{next_bit}
use Rattle.wire.proofs.Going.{act, goes, goes_by, go}

-- a READ is whole at its address
no_read : (part : Part) (width : Width) (count : ℕ) (kind : Kind) → count < length_of part width kind →
    (eqb count (2 + field_of part width) && is_read kind) ≡ false
no_read part width count kind h = grind (arith, nat_tests)

module _ (p : Pins) where
  abbrev setup : Setup
  setup = p.machine.setup

  -- CS is high, no cycle is under way, status is off
  abbrev selected_state : Bool → Phase → State
  selected_state sk phase = record { enabled = p.machine.state.enabled; left = 0; status = false; cs = true; sk = sk; phase = phase }

  abbrev high : Bool → Phase → Pins
  high sk phase = placed p (selected_state sk phase) p.machine.bytes 2

  abbrev taking : ℕ → ℕ → Phase
  taking count bits = Taking (width_on p) count bits

  -- after a clock
  abbrev clocked_to : Turn → Pins × Decision
  clocked_to t =
      let st = kept (sample_of p (put true true false)) t.state in
      (placed p st (written setup.part t.decision p.machine.bytes) (out_of t.decision st p.machine.bytes 2), t.decision)

  -- after the clock that brings the bits to these, in the phase before
  abbrev pub bits_taken : ℕ → ℕ → Phase → Pins × Decision
  bits_taken count bits phase = clocked_to (taken setup p.pe (width_on p) count bits (selected_state false phase))

  abbrev pub whole_length : ℕ → ℕ → ℕ
  whole_length count bits = length_of setup.part (width_on p) (kind_at count bits)

  module _ (r : Ready p) where
    rise : act p selected ≡ (high false Waiting, Nothing)
    unfolding put_on turn
    rise = simp (r.rest.live, r.rest.low, r.rest.waiting, r.rest.dark, r.none)

    -- SK low before the start bit, and before a bit
    start_low : act (high false Waiting) (put true false true) ≡ (high false Waiting, Nothing)
    unfolding put_on turn
    start_low = simp r.rest.live

    start_bit : act (high false Waiting) (put true true true) ≡ (high true (taking 0 0), Start (width_on p))
    unfolding put_on turn
    start_bit = simp r.rest.live

    bit_low : (di : Bool) (count bits : ℕ) → act (high true (taking count bits)) (put true false di) ≡ (high false (taking count bits), Nothing)
    unfolding put_on turn
    bit_low di count bits = simp r.rest.live

    -- one bit, whatever it completes
    bit_taken : (di : Bool) (count bits : ℕ) → count < whole_length count bits →
        act (high false (taking count bits)) (put true true di) ≡ bits_taken (count + 1) (2 * bits + bit_of di) (taking count bits)
    unfolding put_on turn
    bit_taken di count bits k =
        let t = short_taken setup (sample_of p (put true true di)) (width_on p) count bits (selected_state false (taking count bits)) k in
        simp (r.rest.live, t)

    -- a bit that completes nothing
    bit_appended : (count bits : ℕ) (phase : Phase) → count < whole_length count bits →
        bits_taken count bits phase ≡ (high true (taking count bits), Nothing)
    bit_appended count bits phase h =
        let n = no_read setup.part (width_on p) count (kind_at count bits) h in
        let f = and_right (is_clock_edition setup.edition) _ (ne_eqb count (whole_length count bits) (λ x. omega arith)) in
        simp (n, f)

    -- All bits of an instruction of any kind: the last, whose clock stands at a place, completes it, and leads on to q.
    module _ (total code : ℕ) (exact : whole_length total code ≡ total) (last : ℕ) (after : List Put) (q : Pins × List Note)
        (whole : (phase : Phase) → goes_by last (bits_taken total code phase) after ≡ q) where
      -- the first bits are too few to say the kind, or say it
      short : (k n : ℕ) → k + suc n ≡ total → k < whole_length k (code / 2 ^ suc n)
      short k n e =
          elim (cases_lt k 4) [
            | inl h ↦ omega (arith, least_length setup.part (width_on p) (kind_at k (code / 2 ^ suc n)))
            | inr h ↦ rw (kind_first k (suc n) code h, e, exact) (omega arith)
          ]

      one_bit : (k n place : ℕ) (rest : List Put) → k + suc n ≡ total →
          goes place (high true (taking k (code / 2 ^ suc n))) (clock (bit_at code n) rest)
          ≡ goes_by (suc place) (bits_taken (k + 1) (code / 2 ^ n) (taking k (code / 2 ^ suc n))) rest
      one_bit k n place rest e =
          go place _ _ _ _ (bit_low (bit_at code n) k (code / 2 ^ suc n))
          ∙ go (suc place) _ _ _ _ (bit_taken (bit_at code n) k (code / 2 ^ suc n) (short k n e))
          ∙ rw (next_bit code n)

      all_bits : (n k place : ℕ) → k + suc n ≡ total → place + (2 * n + 1) ≡ last →
          goes place (high true (taking k (code / 2 ^ suc n))) (clocks (suc n) code after) ≡ q
      unfolding clocks
      all_bits zero k place e f =
          let l : k + 1 ≡ total = omega arith in
          let s : suc place ≡ last = omega arith in
          let d : code / 1 ≡ code = omega arith in
          one_bit k 0 place after e ∙ rw (l, d, s) (whole (taking k (code / 2)))
      all_bits (suc n) k place e f =
          one_bit k (suc n) place (clocks (suc n) code after) e
          ∙ ap (λ (a : Pins × Decision). goes_by (suc place) a (clocks (suc n) code after))
          (bit_appended (k + 1) (code / 2 ^ suc n) (taking k (code / 2 ^ suc (suc n))) (short (k + 1) n (omega arith)))
          ∙ all_bits n (k + 1) (suc (suc place)) (omega arith) (omega arith)

      -- from a frame's first place on
      pub opened : (place : ℕ) → place + (2 * total + 2) ≡ last → code < 2 ^ total →
          goes place p (opening total code after) ≡ (q.0, note (suc (suc place)) (Start (width_on p)) ∷ q.1)
      opened place f lt =
          let s : suc (total - 1) ≡ total = omega (arith, exact) in
          let z : 0 + suc (total - 1) ≡ total = omega (arith, exact) in
          let bits : goes (suc (suc (suc place))) (high true (taking 0 0)) (clocks total code after) ≡ q =
          ap (λ (b : ℕ). goes (suc (suc (suc place))) (high true (taking 0 b)) (clocks total code after)) (sym (div-eq_of_lt lt))
          ∙ rw s at (all_bits (total - 1) 0 (suc (suc (suc place))) z (omega arith)) in
          go place _ _ _ _ rise ∙ go (suc place) _ _ _ _ start_low ∙ go (suc (suc place)) _ _ _ _ start_bit
          ∙ ap (λ (x : Pins × List Note). (x.0, note (suc (suc place)) (Start (width_on p)) ∷ x.1)) bits
