-- Numbers that are shifted and do not wrap.
use Rattle.std.proofs.Common.{◌≡◌, ℕ, ◌^◌, ◌<◌, ◌≤◌, false, arith, pow_mono}
use native.Mathlib.Nat.{div-eq_of_lt}
use Rattle.wire.specs.Frames.{bit_at}

-- a number of 64 bits has no bit above them
pub no_bit : (code n : ℕ) → code < 2 ^ 64 → 64 ≤ n → bit_at code n ≡ false
no_bit code n h l =
    let m : 2 ^ 64 ≤ 2 ^ n = pow_mono l in
    let k : code < 2 ^ n = omega arith in
    rw (div-eq_of_lt k)
