-- Laws of telling a chip samples.
use Rattle.std.proofs.Common.{◌≡◌, ℕ, zero, suc, true, false, cond, List, [], ◌∷◌, ◌++◌, refl, ◌∙◌}
use Rattle.chips.specs.Machine.{step}
use Rattle.chips.specs.Pins.{Pins, Put, put, put_on, sample_of}
use Rattle.chips.specs.Seen.{Seen, stepped}
use Rattle.wire.specs.Frames.{bit_at, clocks, opening}
use Rattle.wire.specs.Runs.{run}
use Rattle.wire.specs.Sent.{told}

pub put-setup : (p : Pins) (s : Put) → (put_on p s).machine.setup ≡ p.machine.setup
unfolding put_on
put-setup p s = elim p.blank as (λ b. (cond b p.machine (step p.machine (sample_of p s))).setup ≡ p.machine.setup) [ true ↦ refl | false ↦ refl ]

module _ {V : Type 0} (next : V → Pins → Put → V) where
  pub told-append : (x : Seen V) (xs ys : List Put) → told next x (xs ++ ys) ≡ told next (told next x xs) ys
  unfolding told
  told-append x [] ys = refl
  told-append x (s ∷ xs) ys = told-append (stepped next x s) xs ys

  -- frames are made by what follows their parts
  pub told-clocks : (x : Seen V) (n code : ℕ) (after : List Put) → told next x (clocks n code after) ≡ told next (told next x (clocks n code [])) after
  unfolding told clocks
  told-clocks x zero code after = refl
  told-clocks x (suc n) code after = told-clocks (stepped next (stepped next x (put true false (bit_at code n))) (put true true (bit_at code n))) n code after

  pub told-opening : (x : Seen V) (n code : ℕ) (after : List Put) →
      told next x (opening n code after) ≡ told next (told next x (opening n code [])) after
  unfolding told
  told-opening x n code after = told-clocks _ n code after

  -- what it comes to is what the samples make of its meaning
  pub told-pins : (x : Seen V) (ss : List Put) → (told next x ss).pins ≡ run x.pins ss
  unfolding told run
  told-pins x [] = refl
  told-pins x (s ∷ ss) = told-pins (stepped next x s) ss

  -- samples leave the part and the levels of ORG and PE
  pub told-setup : (x : Seen V) (ss : List Put) → (told next x ss).pins.machine.setup ≡ x.pins.machine.setup
  unfolding told
  told-setup x [] = refl
  told-setup x (s ∷ ss) = told-setup (stepped next x s) ss ∙ put-setup x.pins s

  pub told-org : (x : Seen V) (ss : List Put) → (told next x ss).pins.org ≡ x.pins.org
  unfolding told put_on
  told-org x [] = refl
  told-org x (s ∷ ss) = told-org (stepped next x s) ss

pub ruleset keeps = (told-setup, told-org)
