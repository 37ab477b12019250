-- The calls that are counted are those that are whole.
use Rattle.std.proofs.Common.{◌≡◌, ℕ, suc, ◌+◌, ◌-◌, Bool, true, false, List, [], ◌∷◌, length, refl, ap, ◌∙◌, arith}
use Rattle.std.specs.Prelude.{◌||◌, nat_lt, if◌then◌else◌}
use Rattle.chips.specs.Pins.{Pins, Put}
use Rattle.chips.specs.Seen.{Seen}
use Rattle.driver.specs.Cases.{samples_of}
use Rattle.driver.specs.Outcome.{State}
use Rattle.histories.specs.declared.call.Call.{Call}
use Rattle.histories.specs.Events.{performed, unseen}
use Rattle.histories.specs.Requests.{request_of}
use Rattle.histories.proofs.Samples.{bare, call_told, call-bare}
use Rattle.power_cuts.specs.Counting.{uncut_count}
use Rattle.power_cuts.specs.Twin.{Twinned, twin_after}
use Rattle.power_cuts.proofs.Twins.{told-twinned}
use Rattle.power_cuts.proofs.Whole.{whole_of}

module _ {V W : Type 0} (next : V → Pins → Put → V) (twin_next : W → Pins → Put → W) where
  abbrev both : Twinned V W → Pins → Put → Twinned V W
  both = twin_after next twin_next

  module _ (x : Call) (s : State (Twinned V W)) where
    abbrev after : State (Twinned V W)
    after = (performed both x s).after

    abbrev count : ℕ
    count = length (samples_of (request_of x) (bare s))

    goes : after.chip.view.cut ≡ (s.chip.view.cut || nat_lt s.chip.view.left count)
    goes =
        ap (λ (c : Seen (Twinned V W)). c.view.cut)
        (call_told both x s
        ∙ told-twinned next twin_next s.chip.view.view s.chip.view.twin s.chip.view.left s.chip.view.cut s.chip.pins (samples_of (request_of x) (bare s)))

    left_after : after.chip.view.left ≡ s.chip.view.left - count
    left_after =
        ap (λ (c : Seen (Twinned V W)). c.view.left)
        (call_told both x s
        ∙ told-twinned next twin_next s.chip.view.view s.chip.view.twin s.chip.view.left s.chip.view.cut s.chip.pins (samples_of (request_of x) (bare s)))

  -- once cut, no call counts
  cut_stays : (calls : List Call) (s : State (Twinned V W)) → s.chip.view.cut ≡ true → uncut_count both calls s ≡ 0
  unfolding uncut_count
  cut_stays [] s h = refl
  cut_stays (x ∷ xs) s h =
      let c : (after x s).chip.view.cut ≡ true = goes x s ∙ ap (λ b. b || nat_lt s.chip.view.left (count x s)) h in
      ap (λ b. (if b then 0 else 1) + uncut_count both xs (after x s)) c ∙ ap (λ n. 0 + n) (cut_stays xs (after x s) c)

  pub uncut-whole : (calls : List Call) (s : State (Twinned V W)) → s.chip.view.cut ≡ false →
      uncut_count both calls s ≡ whole_of calls (bare s) s.chip.view.left
  unfolding uncut_count whole_of
  uncut-whole [] s h = refl
  uncut-whole (x ∷ xs) s h =
      by (nat_lt s.chip.view.left (count x s)) (goes x s ∙ ap (λ b. b || nat_lt s.chip.view.left (count x s)) h) (uncut-whole xs (after x s))
    where
      t : State (Twinned V W)
      t = after x s

      more : ℕ
      more = whole_of xs (performed unseen x (bare s)).after (s.chip.view.left - count x s)

      by : (b : Bool) → t.chip.view.cut ≡ b → (t.chip.view.cut ≡ false → uncut_count both xs t ≡ whole_of xs (bare t) t.chip.view.left) →
          (if t.chip.view.cut then 0 else 1) + uncut_count both xs t ≡ (if b then 0 else suc more)
      by true c counts = ap (λ d. (if d then 0 else 1) + uncut_count both xs t) c ∙ ap (λ n. 0 + n) (cut_stays xs t c)
      by false c counts =
          let counted : uncut_count both xs t ≡ more =
          counts c ∙ ap (λ n. whole_of xs (bare t) n) (left_after x s)
          ∙ ap (λ u. whole_of xs u (s.chip.view.left - count x s)) (call-bare both x s) in
          ap (λ d. (if d then 0 else 1) + uncut_count both xs t) c ∙ omega (arith, counted)
