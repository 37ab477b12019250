-- No instruction is shorter than eight bits, so that its first four say its kind, and none is longer than 29.
use Rattle.std.proofs.Common.{◌≡◌, ℕ, ◌+◌, ◌*◌, ◌<◌, ◌≤◌, Bool, true, false, not, ◌&&◌, eqb, inl, inr, arith}
use Rattle.std.proofs.lemmas.Bool.{cases_lt}
use Rattle.std.proofs.lemmas.Bool.Decides.{nat_tests}
use Rattle.protocol.specs.declared.instruction.Kind.{Kind}
use Rattle.protocol.specs.declared.parts.Part.{Part}
use Rattle.protocol.specs.declared.parts.Width.{Width}
use Rattle.protocol.specs.declared.settings.Setup.{Setup}
use Rattle.protocol.specs.Instructions.{length_of, kind_at}
use Rattle.protocol.specs.Samples.{bit_of}
use Rattle.protocol.proofs.Spans.{kind_stays}
use Rattle.protocol.proofs.Table.{agreed}
use Rattle.chips.specs.Control.{is_clock_edition}
use Rattle.chips.specs.Fits.{Midway, bits_below}

pub least_length : (part : Part) (width : Width) (kind : Kind) → 8 ≤ length_of part width kind
least_length part width kind = omega (arith, (agreed part width).least)

most_length : (part : Part) (width : Width) (kind : Kind) → length_of part width kind ≤ 29
most_length part width kind = grind (arith, (agreed part width).most)

pub midway_short : (part : Part) (width : Width) (count bits : ℕ) → Midway part width count bits → count < 29
midway_short part width count bits (inl h) = omega (arith, h, (agreed part width).most)
midway_short part width count bits (inr h) = omega (arith, h.1, most_length part width (kind_at count bits))

pub bit_small : (di : Bool) → bit_of di < 2
bit_small true = omega arith
bit_small false = omega arith

-- one bit more does not change the length, once the bits tell it; before that there is room for one more
pub one_more : (part : Part) (width : Width) (count bits : ℕ) (di : Bool) → count < length_of part width (kind_at count bits) →
    count + 1 ≤ length_of part width (kind_at (count + 1) (2 * bits + bit_of di))
one_more part width count bits di h =
    elim (cases_lt count 4) [
      | inl l ↦ omega (arith, l, least_length part width (kind_at (count + 1) (2 * bits + bit_of di)))
      | inr l ↦ rw (kind_stays count bits (bit_of di) l (bit_small di)) (omega (arith, h))
    ]

-- so there is for two more midway
pub two_more : (part : Part) (width : Width) (count bits : ℕ) (di : Bool) → Midway part width count bits →
    count + 1 < length_of part width (kind_at (count + 1) (2 * bits + bit_of di))
two_more part width count bits di (inl h) = omega (arith, h)
two_more part width count bits di (inr h) =
    rw (kind_stays count bits (bit_of di) (omega (arith, h.0, (agreed part width).least)) (bit_small di)) (omega (arith, h.1))

module _ (setup : Setup) (width : Width) (count bits : ℕ) where
  abbrev length : ℕ
  length = length_of setup.part width (kind_at count bits)

  -- below the length is short in either edition
  pub below_short : count < length → count < bits_below setup width count bits
  unfolding bits_below
  below_short h = omega (arith, h)

  -- at the length only in the fall edition
  pub still_short : count ≤ length → (is_clock_edition setup.edition && eqb count length) ≡ false → count < bits_below setup width count bits
  unfolding bits_below
  still_short h w = grind (arith, nat_tests)

  -- what is short and not below its length is at it, in the fall edition
  pub spoils : count < bits_below setup width count bits → (count < length → ⊥) → (not (is_clock_edition setup.edition) && eqb count length) ≡ true
  unfolding bits_below
  spoils s h = grind (arith, nat_tests)

-- no bits are short
pub start_short : (setup : Setup) (width : Width) → 0 < bits_below setup width 0 0
unfolding bits_below
start_short setup width = omega (arith, least_length setup.part width (kind_at 0 0))
