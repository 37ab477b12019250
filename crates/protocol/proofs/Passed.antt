-- What an answer tells of the checks that led to it.
use Rattle.std.proofs.Common.{◌≡◌, ℕ, Bool, true, false, cond, Ok, Err, Result, sym, refl, arith}

module _ {A E : Type 0} where
  -- what is answered is not refused
  pub ok_not_err : (x : A) (e : E) → ◌≡◌ {A = Result A E} (Ok x) (Err e) → ⊥
  ok_not_err x e h = let z : ◌≡◌ {A = ℕ} 0 1 = cc in omega arith

  -- a test that refuses where it holds did not hold
  pub passed_over : (b : Bool) (e : E) (r : Result A E) (x : A) → Ok x ≡ cond b (Err e) r → (b ≡ false) × (r ≡ Ok x)
  passed_over true e r x h = absurd (ok_not_err x e h)
  passed_over false e r x h = (refl, sym h)

  -- a test that refuses where it does not hold held
  pub passed : (b : Bool) (r : Result A E) (e : E) (x : A) → Ok x ≡ cond b r (Err e) → (b ≡ true) × (r ≡ Ok x)
  passed true r e x h = (refl, sym h)
  passed false r e x h = absurd (ok_not_err x e h)
