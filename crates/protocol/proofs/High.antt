-- The first sample above 31.
use Rattle.std.proofs.Common.{◌≡◌, ℕ, zero, suc, ◌+◌, ◌-◌, ◌≤◌, take, drop, Bool, cond, ltb, List, [], ◌∷◌, length, fold, max, Some, None, arith, ap, length-take-le, length-drop, drop-drop}
use Rattle.std.proofs.lemmas.Bool.Decides.{nat_tests}
use Rattle.std.proofs.Math.Nat.{le-max_left, le-max_right}
use Rattle.std.proofs.lemmas.Bool.{le-ltb}
use Rattle.std.specs.List.{position, position_or_len}
use Rattle.std.specs.Option.{unwrap_or}
use Rattle.protocol.specs.Samples.{is_high, high_at}

most : {X : Type 0} (p : X → Bool) (xs : List X) → position_or_len p xs ≤ length xs
most p [] = omega arith
most p (x ∷ xs) = grind (arith, nat_tests, most p xs)

chosen : (i n : ℕ) → i ≤ n → unwrap_or (cond (ltb i n) (Some i) None) n ≡ i
chosen i n h = grind (arith, nat_tests)

pub first_or_len : {X : Type 0} (p : X → Bool) (xs : List X) → unwrap_or (position p xs) (length xs) ≡ position_or_len p xs
first_or_len p xs = chosen (position_or_len p xs) (length xs) (most p xs)

-- where none of the first bytes is above 31
low-block : (a n : ℕ) (bs : List ℕ) → fold max a (take n bs) ≤ 31 → (a ≤ 31) × (high_at bs ≡ length (take n bs) + high_at (drop n bs))
low-block a zero bs h = (h, omega arith)
low-block a (suc n) [] h = (h, omega arith)
low-block a (suc n) (b ∷ bs) h =
    let k = low-block (max a b) n bs h in
    let low : b ≤ 31 = omega (arith, le-max_right a b, k.0) in
    (omega (arith, le-max_left a b, k.0), rw (le-ltb 31 b low) (omega (arith, k.1)))

pub low_block : (n : ℕ) (bs : List ℕ) → fold max 0 (take n bs) ≤ 31 → high_at bs ≡ length (take n bs) + high_at (drop n bs)
low_block n bs h = (low-block 0 n bs h).1

-- none in a block more
pub one_more : (place end : ℕ) (bs : List ℕ) → place ≤ end → end ≤ length bs → high_at bs ≡ place + high_at (drop place bs) →
    fold max 0 (take (end - place) (drop place bs)) ≤ 31 → high_at bs ≡ end + high_at (drop end bs)
one_more place end bs later fits before low =
    let n = end - place in
    let block = low_block n (drop place bs) low in
    let size : length (take n (drop place bs)) ≡ n = length-take-le n (drop place bs) (omega (arith, length-drop place bs)) in
    let rest : drop n (drop place bs) ≡ drop (place + n) bs = drop-drop n place bs in
    let last : place + n ≡ end = omega arith in
    omega (arith, before, block, size, ap (λ xs. high_at xs) rest, ap (λ m. high_at (drop m bs)) last)

-- the place of the first high byte, where those before n are low
later-some : (n i size k : ℕ) → cond (ltb i size) (Some i) None ≡ Some k → cond (ltb (n + i) (n + size)) (Some (n + i)) None ≡ Some (n + k)
later-some n i size k h = grind (arith, nat_tests)

later-none : (n i size : ℕ) → cond (ltb i size) (Some i) None ≡ None → cond (ltb (n + i) (n + size)) (Some (n + i)) None ≡ None
later-none n i size h = grind (arith, nat_tests)

pub later_found : (n k : ℕ) (bs : List ℕ) → n ≤ length bs → high_at bs ≡ n + high_at (drop n bs) →
    position is_high (drop n bs) ≡ Some k → position is_high bs ≡ Some (n + k)
later_found n k bs fits low is =
    let size : length bs ≡ n + length (drop n bs) = omega (arith, length-drop n bs) in
    let found : cond (ltb (high_at bs) (length bs)) (Some (high_at bs)) None ≡ Some (n + k) =
    rw low (rw size (later-some n (high_at (drop n bs)) (length (drop n bs)) k is)) in
    found

pub none_found : (n : ℕ) (bs : List ℕ) → n ≤ length bs → high_at bs ≡ n + high_at (drop n bs) →
    position is_high (drop n bs) ≡ None → position is_high bs ≡ None
none_found n bs fits low is =
    let size : length bs ≡ n + length (drop n bs) = omega (arith, length-drop n bs) in
    let found : cond (ltb (high_at bs) (length bs)) (Some (high_at bs)) None ≡ None =
    rw low (rw size (later-none n (high_at (drop n bs)) (length (drop n bs)) is)) in
    found
