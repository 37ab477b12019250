-- What samples make of a chip with a twin.
use Rattle.std.proofs.Common.{◌≡◌, ℕ, zero, suc, ◌-◌, Bool, true, false, List, [], ◌∷◌, length, take, refl, sym, ap, ◌∙◌, arith}
use Rattle.std.specs.Prelude.{◌==◌, ◌||◌, nat_lt}
use Rattle.std.proofs.lemmas.Bool.Decides.{nat_tests}
use Rattle.chips.specs.Pins.{Pins, Put, put_on}
use Rattle.chips.specs.Seen.{Seen, stepped}
use Rattle.wire.specs.Sent.{told}
use Rattle.power_cuts.specs.Twin.{Twinned, twin_after}

module _ {V W : Type 0} (next : V → Pins → Put → V) (twin_next : W → Pins → Put → W) where
  abbrev twinned : V → Seen W → ℕ → Bool → Pins → Seen (Twinned V W)
  twinned view twin left cut p = record { view = record { view = view; twin = twin; left = left; cut = cut }; pins = p }

  abbrev goes_on : Seen (Twinned V W) → List Put → Seen (Twinned V W)
  goes_on x xs = told (twin_after next twin_next) x xs

  same : {left left' : ℕ} {cut cut' : Bool} (view : V) (twin : Seen W) (p : Pins) → left ≡ left' → cut ≡ cut' →
      twinned view twin left cut p ≡ twinned view twin left' cut' p
  same {left' = left'} {cut = cut} view twin p e f = ap (λ n. twinned view twin n cut p) e ∙ ap (λ b. twinned view twin left' b p) f

  -- one sample that reaches the twin
  reaches : (view : V) (twin : Seen W) (left : ℕ) (cut : Bool) (p : Pins) (x : Put) →
      stepped (twin_after next twin_next) (twinned view twin (suc left) cut p) x
      ≡ twinned (next view p x) (stepped twin_next twin x) left cut (put_on p x)
  reaches view twin left cut p x =
      let some : (suc left == 0) ≡ false = grind (arith, nat_tests) in
      let less : suc left - 1 ≡ left = omega arith in
      rw (some, less)

  -- the chip goes on by all samples, the twin by those that reach it
  pub told-twinned : (view : V) (twin : Seen W) (left : ℕ) (cut : Bool) (p : Pins) (xs : List Put) →
      let c = told next (record { view = view; pins = p }) xs in
      goes_on (twinned view twin left cut p) xs
      ≡ twinned c.view (told twin_next twin (take left xs)) (left - length xs) (cut || nat_lt left (length xs)) c.pins
  unfolding told
  told-twinned view twin zero cut p [] = same view twin p refl (grind (arith, nat_tests))
  told-twinned view twin (suc left) cut p [] = same view twin p (omega arith) (grind (arith, nat_tests))
  told-twinned view twin zero cut p (x ∷ xs) =
      let c = told next (record { view = next view p x; pins = put_on p x }) xs in
      told-twinned (next view p x) twin zero true (put_on p x) xs ∙ same c.view twin c.pins (omega arith) (grind (arith, nat_tests))
  told-twinned view twin (suc left) cut p (x ∷ xs) =
      let c = told next (record { view = next view p x; pins = put_on p x }) xs in
      let less : suc left - suc (length xs) ≡ left - length xs = omega arith in
      let cut_then : cut || nat_lt left (length xs) ≡ (cut || nat_lt (suc left) (suc (length xs))) = grind (arith, nat_tests) in
      ap (λ (y : Seen (Twinned V W)). goes_on y xs) (reaches view twin left cut p x)
      ∙ told-twinned (next view p x) (stepped twin_next twin x) left cut (put_on p x) xs
      ∙ same c.view (told twin_next (stepped twin_next twin x) (take left xs)) c.pins (sym less) cut_then
