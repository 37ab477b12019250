-- Bits that are sent one after the other, and a frame from its parts.
use Rattle.std.proofs.Common.{◌≡◌, ℕ, ◌-◌, ◌<◌, ◌≤◌, suc, [], arith, ap, ◌∙◌}
use lib.Arith.{le-zero}
use Rattle.chips.specs.Pins.{Pins, Put}
use Rattle.chips.specs.Seen.{Seen}
use Rattle.wire.specs.Frames.{bit_at, clock, clocks, ending, opening}
use Rattle.wire.specs.Sent.{told}
use Rattle.wire.proofs.Tells.{told-clocks, told-opening}

module _ {V : Type 0} (next : V → Pins → Put → V) (x : Seen V) where
  pub no_bits : (k code : ℕ) → k ≤ 0 → told next x (clocks k code []) ≡ x
  unfolding told clocks
  no_bits k code h = rw (le-zero h)

  pub one_bit : (k code : ℕ) → 0 < k →
      told next x (clocks k code []) ≡ told next (told next x (clock (bit_at code (k - 1)) [])) (clocks (k - 1) code [])
  unfolding told clocks
  one_bit k code h = let s : k ≡ suc (k - 1) = omega arith in ap (λ (j : ℕ). told next x (clocks j code [])) s

  -- opening, zero bits, ending
  pub joined : (n code zeros : ℕ) →
      told next x (opening n code (clocks zeros 0 ending)) ≡ told next (told next (told next x (opening n code [])) (clocks zeros 0 [])) ending
  joined n code zeros = told-opening next x n code (clocks zeros 0 ending) ∙ told-clocks next (told next x (opening n code [])) zeros 0 ending

pub ruleset bits = (no_bits, one_bit)
