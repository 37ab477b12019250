-- What the first bits of an instruction say.
use Rattle.std.proofs.Common.{◌≡◌, ℕ, ◌+◌, ◌-◌, ◌*◌, ◌/◌, ◌^◌, ◌<◌, ◌≤◌, sym, ◌∙◌, arith}
use Rattle.std.proofs.lemmas.Nat.{shr-shr}
use Rattle.protocol.specs.Instructions.{span_of, kind_at}

-- what the first bits say is what all say
pub span_first : (k n code from size : ℕ) → from + size ≤ k → span_of k (code / 2 ^ n) from size ≡ span_of (k + n) code from size
span_first k n code from size h =
    let e : n + (k - (from + size)) ≡ k + n - (from + size) = omega arith in
    rw (shr-shr code n (k - (from + size)), e)

pub kind_first : (k n code : ℕ) → 4 ≤ k → kind_at k (code / 2 ^ n) ≡ kind_at (k + n) code
kind_first k n code h = rw (span_first k n code 0 2 (omega arith), span_first k n code 2 2 h)

-- one bit more does not change the kind
pub kind_stays : (count bits di : ℕ) → 4 ≤ count → di < 2 → kind_at (count + 1) (2 * bits + di) ≡ kind_at count bits
kind_stays count bits di h d =
    let e : (2 * bits + di) / 2 ^ 1 ≡ bits = omega arith in
    sym (kind_first count 1 (2 * bits + di) h) ∙ rw e
