-- A bit of an instruction with more than one bit to come is only appended.
use Rattle.std.proofs.Common.{◌≡◌, ℕ, ◌+◌, ◌*◌, ◌<◌, false, not, refl, ◌∙◌, inl, inr, arith}
use Rattle.std.proofs.lemmas.Bool.{and_right, ne_eqb}
use Rattle.protocol.specs.declared.parts.Width.{Width}
use Rattle.protocol.specs.declared.sample.Sample.{Sample}
use Rattle.protocol.specs.declared.settings.Setup.{Setup}
use Rattle.protocol.specs.Instructions.{length_of, kind_at}
use Rattle.protocol.specs.Parts.{field_of}
use Rattle.protocol.proofs.Spans.{kind_stays}
use Rattle.protocol.proofs.Table.{agreed}
use Rattle.chips.specs.declared.state.Decision.TheVariants.{Nothing}
use Rattle.chips.specs.declared.state.Phase.TheVariants.{Taking, Spoiled}
use Rattle.chips.specs.declared.state.State.{State}
use Rattle.chips.specs.Control.{is_clock_edition, turn_to, in_phase, taken, appended}
use Rattle.protocol.specs.Samples.{bit_of}
use Rattle.chips.specs.Fits.{Midway, bits_below}
use Rattle.chips.proofs.Lengths.{bit_small, spoils}

module _ (setup : Setup) (s : Sample) (width : Width) (count bits : ℕ) (st : State) where
  abbrev length : ℕ
  length = length_of setup.part width (kind_at count bits)

  -- below its length an instruction takes the bit
  pub short_taken : count < length → appended setup s width count bits st ≡ taken setup s.pe width (count + 1) (2 * bits + bit_of s.di) st
  unfolding appended
  short_taken h = rw (ne_eqb count length (λ e. omega (arith, h, e)), and_right (not (is_clock_edition setup.edition)) false refl) refl

  -- in taking, and not below its length, it is spoiled
  pub full_spoiled : count < bits_below setup width count bits → (count < length → ⊥) →
      appended setup s width count bits st ≡ turn_to Nothing (in_phase Spoiled st)
  unfolding appended
  full_spoiled b h = rw (spoils setup width count bits b h) refl

  -- it is short, is at no address, and is not at its length with the next bit
  only-appended :
      count < length → (count + 1 ≡ 2 + field_of setup.part width → ⊥) →
      (count + 1 ≡ length_of setup.part width (kind_at (count + 1) (2 * bits + bit_of s.di)) → ⊥) →
      appended setup s width count bits st ≡ turn_to Nothing (in_phase (Taking width (count + 1) (2 * bits + bit_of s.di)) st)
  only-appended a b d = short_taken a ∙ rw (ne_eqb _ _ b, ne_eqb _ _ d, and_right (is_clock_edition setup.edition) false refl) refl

  pub midway : Midway setup.part width count bits →
      appended setup s width count bits st ≡ turn_to Nothing (in_phase (Taking width (count + 1) (2 * bits + bit_of s.di)) st)
  midway (inl h) = only-appended (omega (arith, h)) (λ e. omega (arith, h, e)) (λ e. omega (arith, h, e))
  midway (inr h) =
      let k = kind_stays count bits (bit_of s.di) (omega (arith, h.0, (agreed setup.part width).least)) (bit_small s.di) in
      only-appended (omega (arith, h.1)) (λ e. omega (arith, h.0, e)) (rw k (λ e. omega (arith, h.1, e)))
