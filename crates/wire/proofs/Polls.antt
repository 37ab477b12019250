-- What polling finds, and how it leaves a chip.
use Rattle.std.proofs.Common.{◌≡◌, ℕ, zero, suc, ◌-◌, ◌≤◌, Bool, true, false, cond, eqb, leb, [], ◌++◌, refl, ap, inl, inr, arith}
use Rattle.std.proofs.lemmas.Bool.Decides.{nat_tests, leb_tells, eqb_tells}
use Rattle.chips.specs.Pins.{Pins, put_on, do_of}
use Rattle.wire.specs.Frames.{idle, selected, rest}
use Rattle.wire.specs.Runs.{run}
use Rattle.wire.specs.Polling.{shows_busy, tries, ready_in}
use Rattle.wire.specs.Places.{Rest, left_on, resting}
use Rattle.wire.specs.Laws.{PollReadyIff, PollRests}
use Rattle.wire.proofs.Resting.{chosen, watched, watch_on, watch_idle, chosen-idle, choose_ready, choose_busy}

-- a polling of at most n tries: the chip that it leaves, and whether it was seen ready
abbrev pub polled : ℕ → Pins → Pins × Bool
polled n p = (run p (tries n p ++ rest), ready_in n p)

-- one try more
pub try_more : (n : ℕ) (p : Pins) → let q = put_on p selected in polled (suc n) p ≡ cond (shows_busy p) (polled n q) (put_on q idle, true)
unfolding run tries ready_in
try_more n p = by (put_on p selected) (shows_busy p)
  where
    by : (q : Pins) (busy : Bool) →
        (run q (cond busy (tries n q) [] ++ rest), cond busy (ready_in n q) true) ≡ cond busy (polled n q) (put_on q idle, true)
    by q true = refl
    by q false = refl

pub try_none : (p : Pins) → polled 0 p ≡ (put_on p idle, false)
unfolding run tries ready_in
try_none p = refl

-- the chip at rest, and what was seen
abbrev rests : Pins → ℕ → Bool → Pins × Bool
rests p left ready = (resting p left, ready)

-- one try, by the chip that it leads to
found : {k l : ℕ} {b : Bool} (n : ℕ) (o p q : Pins) → put_on p selected ≡ q → eqb (do_of q) 0 ≡ false →
    put_on q idle ≡ resting o k → k ≡ l → true ≡ b → polled (suc n) p ≡ rests o l b
found n o p q e d f g h = rw (try_more, e, d, f, g, h)

through : {k l : ℕ} {b c : Bool} (n : ℕ) (o p q : Pins) → put_on p selected ≡ q → eqb (do_of q) 0 ≡ true →
    polled n q ≡ rests o k b → k ≡ l → b ≡ c → polled (suc n) p ≡ rests o l c
through n o p q e d f g h = rw (try_more, e, d, f, g, h)

module _ (p : Pins) (live : p.blank ≡ false) where
  watch_all : (n l : ℕ) → 1 ≤ l → polled n (watched p l) ≡ rests p (l - suc n) (leb l n)
  watch_all zero l h = let d : false ≡ leb l 0 = grind (arith, nat_tests) in rw (try_none, watch_idle p live l, d)
  watch_all (suc n) l h =
      elim (eqb_tells (l - 1) 0) [
        | inl (t, z) ↦
            found n p (watched p l) (watched p (l - 1)) (watch_on p live l) (simp (live, t))
            (watch_idle p live (l - 1)) (omega arith) (grind (arith, nat_tests))
        | inr (t, z) ↦
            through n p (watched p l) (watched p (l - 1)) (watch_on p live l) (simp (live, t))
            (watch_all n (l - 1) (omega (arith, z))) (omega arith) (grind (arith, nat_tests))
      ]

-- from rest: ready exactly where no more is left than tries, and left is less by the samples sent
pub poll_all : (p : Pins) → Rest p → (n : ℕ) → polled (suc n) p ≡ (resting p (left_on p - suc (suc n)), leb (left_on p) (suc n))
poll_all p r n =
    let l = left_on p in
    elim (leb_tells l 1) [
      | inl (t, h) ↦ found n p p (chosen p) (choose_ready p r h) (simp r.live) (chosen-idle p r.live) (omega arith) (grind (arith, nat_tests))
      | inr (t, h) ↦
          let z : eqb (l - 1) 0 ≡ false = grind (arith, nat_tests) in
          through n p p (watched p (l - 1)) (choose_busy p r h) (simp (r.live, z))
          (watch_all p r.live n (l - 1) (omega arith)) (omega arith) (grind (arith, nat_tests))
    ]

pub poll_rests : PollRests
poll_rests p r = ap (λ (w : Pins × Bool). w.0) (poll_all p r 4095)

pub poll_ready_iff : PollReadyIff
poll_ready_iff p r = ap (λ (w : Pins × Bool). w.1) (poll_all p r 4095)
