-- The first bits of a number, and what they say.
use Rattle.std.proofs.Common.{◌≡◌, ℕ, suc, ◌+◌, ◌-◌, ◌*◌, ◌/◌, ◌%◌, ◌^◌, ◌<◌, ◌≤◌, eqb, sym, ◌∙◌, add-one, arith}
use Rattle.std.proofs.lemmas.Nat.{shr-shr, shr_high, mod_low}
use Rattle.protocol.proofs.Spans.{span_first}
use Rattle.std.proofs.lemmas.Bool.Decides.{nat_tests}
use Rattle.protocol.specs.Instructions.{span_of}
use Rattle.protocol.specs.Samples.{bit_of}
use Rattle.wire.specs.Frames.{bit_at}

odd_bit : (x : ℕ) → bit_of (eqb (x % 2) 1) ≡ x % 2
odd_bit x = grind (arith, nat_tests)

-- one bit more of the first bits
pub next_bit : (code n : ℕ) → 2 * (code / 2 ^ suc n) + bit_of (bit_at code n) ≡ code / 2 ^ n
next_bit code n =
    let h : code / 2 ^ suc n ≡ code / 2 ^ n / 2 = sym (shr-shr code n 1 ∙ rw add-one) in
    omega (arith, odd_bit (code / 2 ^ n))

-- the last bits
pub span_last : (from size above below : ℕ) → below < 2 ^ size → span_of (from + size) (above * 2 ^ size + below) from size ≡ below
span_last from size above below h =
    let z : from + size - (from + size) ≡ 0 = omega arith in
    let d : (above * 2 ^ size + below) / 1 ≡ above * 2 ^ size + below = omega arith in
    rw (z, d) (mod_low above size below h)

-- bits above the last
pub span_above : (k size above below from n : ℕ) → below < 2 ^ size → from + n ≤ k →
    span_of (k + size) (above * 2 ^ size + below) from n ≡ span_of k above from n
span_above k size above below from n h g = sym (span_first k size _ from n g) ∙ rw (shr_high above size below h)
