-- Whatever every sample keeps, every call keeps: the facts among it, and whose a chip is that was lent.
use Rattle.std.proofs.Common.{◌≡◌, ℕ, Bool, true, false, List, [], ◌∷◌, Ok, Err, Result, sym, refl, ap, ◌∙◌}
use Rattle.protocol.specs.declared.instruction.Instruction.{Instruction}
use Rattle.protocol.specs.declared.instruction.Instruction.TheVariants as instruction
use Rattle.protocol.specs.declared.refusal.Cause.{Cause}
use Rattle.protocol.specs.declared.refusal.Cause.TheVariants.{Busy, Unfinished}
use Rattle.protocol.specs.declared.refusal.Refusal.{Refusal}
use Rattle.protocol.specs.declared.settings.Setup.{Setup}
use Rattle.chips.specs.Fitting.{Fitting}
use Rattle.chips.specs.Pins.{Pins, Put, put_on, org_at, org_on, pe_at, pe_on}
use Rattle.chips.specs.Seen.{Seen, stepped}
use Rattle.wire.specs.Frames.{idle}
use Rattle.wire.specs.Polling.{polls}
use Rattle.wire.proofs.Keeping.{put_keeps_fits}
use Rattle.wire.proofs.Tells.{put-setup}
use Rattle.driver.specs.Checks.{Checked, greetable, admitted, changeable}
use Rattle.driver.specs.Outcome.{State, Outcome, outcome, then, bind, sent}
use Rattle.wire.specs.Sent.{told}
use Rattle.driver.specs.Calls as calls
use Rattle.histories.specs.declared.call.Call.{Call}
use Rattle.histories.specs.declared.call.Call.TheVariants.{Greet, Settle, Open, Shut, Read, Run, Write, Erase, Fill, Clear}
use Rattle.histories.specs.Events.{performed, end_from}
use Rattle.histories.proofs.Checks.{SameFacts}

module _ {V : Type 0} (next : V → Pins → Put → V) (P : Seen V → Type 0)
    (keeps : (x : Seen V) (y : Put) → P x → P (stepped next x y)) where
  abbrev Holds : {T : Type 0} → Outcome V T → Type 0
  Holds o = P o.after.chip

  told_keeps : (xs : List Put) (x : Seen V) → P x → P (told next x xs)
  unfolding told
  told_keeps [] x h = h
  told_keeps (y ∷ ys) x h = told_keeps ys (stepped next x y) (keeps x y h)

  bind_keeps : {T U : Type 0} (k : T → State V → Outcome V U) → ((x : T) (s : State V) → P s.chip → Holds (k x s)) →
      (o : Outcome V T) → Holds o → Holds (bind o k)
  bind_keeps {T = T} k more o h = at o.answer o.after h
    where
      at : (r : Result T Refusal) (s : State V) → P s.chip → Holds (then r s k)
      at (Ok x) s h = more x s h
      at (Err e) s h = h

  polled_keeps : (cause : Cause) (s : State V) → P s.chip → Holds (calls.polled next cause s)
  polled_keeps cause s h = told_keeps (polls s.chip.pins) s.chip h

  begun_keeps : (check : Checked) (s : State V) → P s.chip → Holds (calls.begun next check s)
  begun_keeps check s h = bind_keeps _ (λ _ s₁ h₁. polled_keeps Busy s₁ h₁) (outcome check s) h

  frame_keeps : (i : Instruction) (s : State V) → P s.chip → P (calls.sent_frame next i s).chip
  frame_keeps i s h = told_keeps (calls.frame_on s.chip.pins i) s.chip h

  greet_keeps : (s : State V) → P s.chip → Holds (calls.greet next s)
  greet_keeps s h =
      bind_keeps _ (λ _ s₁ h₁.
      bind_keeps _ (λ _ s₂ h₂. frame_keeps instruction.Wds s₂ h₂) _
      (polled_keeps Busy (sent next (idle ∷ []) s₁) (told_keeps (idle ∷ []) s₁.chip h₁))) (outcome (greetable s.chip.pins) s) h

  turned_keeps : (opened : Bool) (i : Instruction) (s : State V) → P s.chip → Holds (calls.turned next opened i s)
  turned_keeps opened i s h =
      bind_keeps _ (λ _ s₁ h₁. frame_keeps i s₁ h₁) _ (begun_keeps (admitted s.chip.pins s.greeted i) s h)

  fetched_keeps : (address count : ℕ) (s : State V) → P s.chip → Holds (calls.fetched next address count s)
  fetched_keeps address count s h =
      bind_keeps _ (λ _ s₁ h₁. frame_keeps (instruction.Read address count) s₁ h₁) _
      (begun_keeps (admitted s.chip.pins s.greeted (instruction.Read address count)) s h)

  changed_keeps : (i : Instruction) (s : State V) → P s.chip → Holds (calls.changed next i s)
  changed_keeps i s h =
      bind_keeps _ (λ _ s₁ h₁. polled_keeps Unfinished (calls.sent_frame next i s₁) (frame_keeps i s₁ h₁)) _
      (begun_keeps (changeable s.chip.pins s.greeted s.opened i) s h)

  pub call_keeps : (x : Call) (s : State V) → P s.chip → P (performed next x s).after.chip
  call_keeps Greet s h = greet_keeps s h
  call_keeps Settle s h = begun_keeps (admitted s.chip.pins s.greeted instruction.Wds) s h
  call_keeps Open s h = turned_keeps true instruction.Wen s h
  call_keeps Shut s h = turned_keeps false instruction.Wds s h
  call_keeps (Read address) s h = fetched_keeps address 1 s h
  call_keeps (Run address count) s h = fetched_keeps address count s h
  call_keeps (Write address value) s h = changed_keeps (instruction.Write address value) s h
  call_keeps (Erase address) s h = changed_keeps (instruction.Erase address) s h
  call_keeps (Fill value) s h = changed_keeps (instruction.Wrall value) s h
  call_keeps Clear s h = changed_keeps instruction.Eral s h

  pub end_keeps : (xs : List Call) (s : State V) → P s.chip → P (end_from next xs s).chip
  unfolding end_from
  end_keeps [] s h = h
  end_keeps (x ∷ xs) s h = end_keeps xs (performed next x s).after (call_keeps x s h)

-- the same chip, later
pub record Later (p q : Pins) : Type 0 where
  pub blank : q.blank ≡ p.blank
  pub facts : SameFacts p q
  pub fitting : Fitting q

put_later : (p q : Pins) (x : Put) → Later p q → Later p (put_on q x)
unfolding put_on org_on pe_on
put_later p q x l =
    let same : q.machine.setup ≡ (put_on q x).machine.setup = sym (put-setup q x) in
    record {
      blank = l.blank;
      facts =
          record {
            part = l.facts.part ∙ ap (λ (u : Setup). u.part) same;
            org = l.facts.org ∙ ap (λ (u : Setup). org_at u.part q.org) same;
            pe = l.facts.pe ∙ ap (λ (u : Setup). pe_at u.edition q.pe) same;
          };
      fitting = λ live. put_keeps_fits q x live (l.fitting live);
    }

pub call_later : {V : Type 0} (next : V → Pins → Put → V) (x : Call) (s : State V) → Fitting s.chip.pins →
    Later s.chip.pins (performed next x s).after.chip.pins
call_later next x s fitting =
    call_keeps next (λ x. Later s.chip.pins x.pins) (λ x y. put_later s.chip.pins x.pins y) x s
    (record { blank = refl; facts = record { part = refl; org = refl; pe = refl }; fitting = fitting })
