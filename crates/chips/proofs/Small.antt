-- Bytes are below 256.
use Rattle.std.proofs.Common.{◌≡◌, ℕ, suc, ◌<◌, true, List, [], ◌∷◌, length, get_or, refl, arith}
use Rattle.std.proofs.lemmas.Bool.{lt-ltb, and_from}
use Rattle.chips.specs.Fitting.{are_bytes}

pub bytes_small : (xs : List ℕ) → ((k : ℕ) → k < length xs → get_or xs k 0 < 256) → are_bytes xs ≡ true
unfolding are_bytes
bytes_small [] h = refl
bytes_small (x ∷ xs) h = and_from _ _ (lt-ltb x 256 (h 0 (omega arith))) (bytes_small xs (λ k l. h (suc k) (omega (arith, l))))
