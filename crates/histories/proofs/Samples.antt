-- A history goes on by the samples of its calls.
use Rattle.std.proofs.Common.{◌≡◌, Bool, true, false, List, [], ◌∷◌, Ok, Result, sym, refl, ap, ◌∙◌}
use Rattle.protocol.specs.declared.refusal.Refusal.{Refusal}
use Rattle.protocol.proofs.Passed.{ok_not_err}
use Rattle.chips.specs.Pins.{Pins, Put}
use Rattle.chips.specs.Seen.{Seen}
use Rattle.wire.specs.Sent.{told}
use Rattle.wire.proofs.Tells.{told-append}
use Rattle.driver.specs.Cases.{stage_of, samples_of}
use Rattle.driver.specs.Outcome.{State, state}
use Rattle.histories.specs.declared.call.Call.{Call}
use Rattle.histories.specs.declared.told.Told.{Told}
use Rattle.histories.specs.Events.{performed, end_from, end_of, unseen}
use Rattle.histories.specs.Performing.{Performs}
use Rattle.histories.specs.Requests.{request_of}
use Rattle.histories.specs.Samples.{samples_of_calls, samples_from}
use Rattle.histories.proofs.Requests.{performed-by_stage}
use Rattle.histories.proofs.Views.{state_by, performed-by}

-- a driver of which no sample is kept
abbrev pub bare : {V : Type 0} → State V → State (Unit {0})
bare {V = V} s = state_by {V = V} (λ _. tt) s

module _ {V : Type 0} (next : V → Pins → Put → V) where
  -- one call
  pub call_told : (x : Call) (s : State V) → (performed next x s).after.chip ≡ told next s.chip (samples_of (request_of x) (bare s))
  unfolding samples_of stage_of
  call_told x s = ap (λ o. o.after.chip) (performed-by_stage next x s)

  pub call-bare : (x : Call) (s : State V) → bare (performed next x s).after ≡ (performed unseen x (bare s)).after
  call-bare x s = ap (λ y. y.after) (performed-by (λ _. tt) next unseen (λ _ _ _. refl) x s)

  pub from_told : (xs : List Call) (s : State V) → (end_from next xs s).chip ≡ told next s.chip (samples_of_calls xs (bare s))
  unfolding end_from samples_of_calls told
  from_told [] s = refl
  from_told (x ∷ xs) s =
      let t = (performed next x s).after in
      from_told xs t
      ∙ ap (λ c. told next c (samples_of_calls xs (bare t))) (call_told x s)
      ∙ ap (λ u. told next (told next s.chip (samples_of (request_of x) (bare s))) (samples_of_calls xs u)) (call-bare x s)
      ∙ sym (told-append next s.chip (samples_of (request_of x) (bare s)) (samples_of_calls xs (performed unseen x (bare s)).after))

pub end_is_told : {V : Type 0} (next : V → Pins → Put → V) (calls : List Call) (chip : Seen V) →
    end_of next calls chip ≡ told next chip (samples_from calls chip.pins)
end_is_told next calls chip = from_told next calls (state false false chip)

-- where all calls are performed, exactly these samples were sent
pub sends : {V : Type 0} (next : V → Pins → Put → V) (fit : Bool) (calls : List Call) (chip chip' : Seen V) (old new : Told)
    (r : Result (Unit {0}) Refusal) → Performs next fit calls chip chip' old new r → r ≡ Ok tt → chip' ≡ told next chip (samples_from calls chip.pins)
sends next true calls chip chip' old new r h ok = h.1 ∙ end_is_told next calls chip
sends next false calls chip chip' old new r h ok = absurd (ok_not_err tt _ (sym ok ∙ h.0))
