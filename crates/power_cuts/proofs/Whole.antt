-- A history, cut off after any sample.
use Rattle.std.proofs.Common.{◌≡◌, ℕ, zero, suc, ◌-◌, ◌<◌, ◌≤◌, ◌⊎◌, Bool, true, false, List, [], ◌∷◌, ◌++◌, length, take, refl, sym, ap, ◌∙◌, inl, inr, arith}
use Rattle.std.specs.Prelude.{if◌then◌else◌, nat_lt}
use Rattle.std.proofs.lemmas.Bool.{ltb-true}
use Rattle.std.proofs.lemmas.Bool.Decides.{nat_tests}
use Rattle.std.proofs.lemmas.List.{take-append-le, take_all, length-append}
use Rattle.chips.specs.Pins.{Pins, Put}
use Rattle.wire.specs.Runs.{run}
use Rattle.wire.proofs.Keeping.{run_appends}
use Rattle.wire.proofs.Tells.{told-pins}
use Rattle.driver.specs.Cases.{samples_of}
use Rattle.driver.specs.Outcome.{State, Outcome}
use Rattle.histories.proofs.Requests.{performed-by_stage}
use Rattle.decisions.proofs.Folding.{take_both}
use Rattle.histories.specs.declared.call.Call.{Call}
use Rattle.histories.specs.Events.{performed, end_from, unseen}
use Rattle.histories.proofs.Effects.{Sound, sound_after}
use Rattle.histories.specs.Requests.{request_of}
use Rattle.histories.specs.Samples.{samples_of_calls}
use Rattle.power_cuts.proofs.Calls.{call_is_whole}

abbrev Driver : Type 0
Driver = State (Unit {0})

call_runs : (x : Call) (s : Driver) → (performed unseen x s).after.chip.pins ≡ run s.chip.pins (samples_of (request_of x) s)
call_runs x s = ap (λ (o : Outcome (Unit {0}) (Unit {0})). o.after.chip.pins) (performed-by_stage unseen x s) ∙ told-pins unseen s.chip (samples_of (request_of x) s)

-- How many calls are whole after k samples, from a driver on.
unfoldable pub whole_of : List Call → Driver → ℕ → ℕ
whole_of [] s k = 0
whole_of (x ∷ xs) s k =
    let n = length (samples_of (request_of x) s) in
    if nat_lt k n then 0 else suc (whole_of xs (performed unseen x s).after (k - n))

abbrev bytes_from : List Call → Driver → List ℕ
bytes_from calls s = (end_from unseen calls s).chip.pins.machine.bytes

pub record CutAt (calls : List Call) (s : Driver) (k n : ℕ) : Type 0 where
  pub within : n ≤ length calls
  pub come : length (samples_of_calls (take n calls) s) ≤ k
  pub cut : n < length calls → k < length (samples_of_calls (take (suc n) calls) s)
  pub bytes :
      ((run s.chip.pins (take k (samples_of_calls calls s))).machine.bytes ≡ bytes_from (take n calls) s)
      ⊎ ((n < length calls) × ((run s.chip.pins (take k (samples_of_calls calls s))).machine.bytes ≡ bytes_from (take (suc n) calls) s))

take_none : (k : ℕ) → take {A = Put} k [] ≡ []
take_none zero = refl
take_none (suc k) = refl

no_calls : (s : Driver) (k : ℕ) → CutAt [] s k 0
unfolding samples_of_calls end_from run
no_calls s k = record {
  within = omega arith;
  come = omega arith;
  cut = λ h. absurd (omega arith);
  bytes = inl (ap (λ (zs : List Put). (run s.chip.pins zs).machine.bytes) (take_none k));
}

module _ (x : Call) (xs : List Call) (s : Driver) (sound : Sound s) (k : ℕ) where
  abbrev first : List Put
  first = samples_of (request_of x) s

  abbrev t : Driver
  t = (performed unseen x s).after

  abbrev more : List Put
  more = samples_of_calls xs t

  -- within the first call
  module _ (h : k < length first) where
    one_call : length (samples_of_calls (take 1 (x ∷ xs)) s) ≡ length first
    unfolding samples_of_calls
    one_call = length-append first [] ∙ omega arith

    same_first : (run s.chip.pins (take k (first ++ more))).machine.bytes ≡ (run s.chip.pins (take k first)).machine.bytes
    same_first = ap (λ (zs : List Put). (run s.chip.pins zs).machine.bytes) (take-append-le k first more (omega arith))

    none_whole : CutAt (x ∷ xs) s k 0
    unfolding samples_of_calls end_from
    none_whole = record {
      within = omega arith;
      come = omega arith;
      cut = λ _. omega (arith, one_call);
      bytes =
          elim (call_is_whole (request_of x) s k (λ g. (sound.held g).rest)) [
            | inl old ↦ inl (same_first ∙ old)
            | inr new ↦ inr (omega arith, same_first ∙ new ∙ ap (λ (o : Pins). o.machine.bytes) (sym (call_runs x s)))
          ];
    }

  -- past it
  module _ (h : length first ≤ k) (n : ℕ) (c : CutAt xs t (k - length first) n) where
    past : (run s.chip.pins (take k (first ++ more))).machine.bytes ≡ (run t.chip.pins (take (k - length first) more)).machine.bytes
    past =
        ap (λ (zs : List Put). (run s.chip.pins zs).machine.bytes)
        (take_both k first more ∙ ap (λ (zs : List Put). zs ++ take (k - length first) more) (take_all k first h))
        ∙ ap (λ (o : Pins). o.machine.bytes) (run_appends s.chip.pins first (take (k - length first) more))
        ∙ ap (λ (o : Pins). (run o (take (k - length first) more)).machine.bytes) (sym (call_runs x s))

    first_whole : CutAt (x ∷ xs) s k (suc n)
    unfolding samples_of_calls end_from
    first_whole = record {
      within = omega (arith, c.within);
      come = omega (arith, c.come, length-append first (samples_of_calls (take n xs) t));
      cut = λ g. omega (arith, c.cut (omega arith), length-append first (samples_of_calls (take (suc n) xs) t));
      bytes =
          elim c.bytes [
            | inl old ↦ inl (past ∙ old)
            | inr new ↦ inr (omega (arith, new.0), past ∙ new.1)
          ];
    }

pub cuts : (calls : List Call) (s : Driver) (k : ℕ) → Sound s → CutAt calls s k (whole_of calls s k)
unfolding whole_of
cuts [] s k sound = no_calls s k
cuts (x ∷ xs) s k sound = by (nat_lt k n) refl (cuts xs (performed unseen x s).after (k - n) (sound_after s sound x))
  where
    n : ℕ
    n = length (samples_of (request_of x) s)

    rest : ℕ
    rest = whole_of xs (performed unseen x s).after (k - n)

    by : (b : Bool) → nat_lt k n ≡ b → CutAt xs (performed unseen x s).after (k - n) rest → CutAt (x ∷ xs) s k (if b then 0 else suc rest)
    by true e c = none_whole x xs s sound k (ltb-true k n e)
    by false e c = first_whole x xs s sound k (grind (arith, nat_tests)) rest c
