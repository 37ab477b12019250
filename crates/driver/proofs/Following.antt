-- Each of the five shapes of a call is what its stage says, and its chip went on by exactly its samples.
use Rattle.std.proofs.Common.{◌≡◌, ℕ, Bool, true, false, List, [], ◌∷◌, ◌++◌, Ok, Err, Result, sym, refl, ap, ◌∙◌}
use Rattle.std.specs.Prelude.{if◌then◌else◌}
use Rattle.std.proofs.lemmas.List.{append-nil}
use Rattle.protocol.specs.declared.instruction.Instruction.{Instruction}
use Rattle.protocol.specs.declared.instruction.Instruction.TheVariants.{Read, Wds}
use Rattle.protocol.specs.declared.refusal.Cause.TheVariants.{Busy, Unfinished}
use Rattle.protocol.specs.declared.refusal.Refusal.{Refusal}
use Rattle.chips.specs.Pins.{Pins, Put, put_on}
use Rattle.wire.specs.Frames.{idle}
use Rattle.wire.specs.Polling.{polls, is_ready}
use Rattle.wire.specs.Runs.{run}
use Rattle.wire.specs.Sent.{told}
use Rattle.wire.proofs.Tells.{told-append, told-pins}
use Rattle.driver.specs.Calls as calls
use Rattle.driver.specs.Calls.{frame_on, words_on, found, as_done, filled_by}
use Rattle.driver.specs.Cases.{Request, Greet, Settle, Latch, Fetch, Change, Stage, Started, Finished, stage_by, stage_of, answer_at, answer_to, is_finished, record_by, record_after, samples_at, samples_of, words_of}
use Rattle.driver.specs.Checks.{Checked, greetable, admitted, changeable}
use Rattle.driver.specs.Outcome.{State, Outcome, state, outcome, bind, sent, noted}
use Rattle.driver.specs.Reads.{run_words}

module _ {V : Type 0} (next : V → Pins → Put → V) where
  -- what a call comes to, by its stage, from the samples up to the end of the first polling and those after it
  abbrev at_stage : Request → State V → List Put → List Put → Stage → Outcome V (Unit {0})
  at_stage r s first more stage =
      let record_after = if is_finished stage then record_by r s.greeted s.opened else (s.greeted, s.opened) in
      outcome (answer_at stage) (state record_after.0 record_after.1 (told next s.chip (samples_at stage first more)))

  abbrev pub by_stage : Request → State V → Outcome V (Unit {0})
  by_stage r s = outcome (answer_to r s) (state (record_after r s).0 (record_after r s).1 (told next s.chip (samples_of r s)))

  -- samples after samples
  sent-append : (xs ys : List Put) (s : State V) → sent next ys (sent next xs s) ≡ sent next (xs ++ ys) s
  sent-append xs ys s = ap (state s.greeted s.opened) (sym (told-append next s.chip xs ys))

  -- a frame after samples
  frame_after : (i : Instruction) (xs : List Put) (s : State V) →
      calls.sent_frame next i (sent next xs s) ≡ sent next (frame_on (run s.chip.pins xs) i) (sent next xs s)
  frame_after i xs s = ap (λ x. sent next (frame_on x i) (sent next xs s)) (told-pins next s.chip xs)

  frame_last : (i : Instruction) (xs : List Put) (s : State V) →
      calls.sent_frame next i (sent next xs s) ≡ sent next (xs ++ (frame_on (run s.chip.pins xs) i ++ [])) s
  frame_last i xs s =
      let frame = frame_on (run s.chip.pins xs) i in
      frame_after i xs s ∙ ap (λ ys. sent next ys (sent next xs s)) (sym (append-nil frame)) ∙ sent-append xs (frame ++ []) s

  -- a call that begins with its check and its polling, whatever f makes of its answer
  begun_then : {T : Type 0} (f : Result T Refusal → Checked) → ((e : Refusal) → f (Err e) ≡ Err e) →
      (k : Unit {0} → State V → Outcome V T) (r : Request) (check : Checked) (s : State V) (more : List Put) (again : Bool) →
      let first = polls s.chip.pins in
      let o = k tt (sent next first s) in
      let whole = bind (calls.begun next check s) k in
      outcome (f o.answer) o.after ≡ at_stage r s first more (if again then Finished else Started) →
      outcome (f whole.answer) whole.after ≡ at_stage r s first more (stage_by check (is_ready s.chip.pins) again)
  unfolding told
  begun_then f stops k r (Err e) s more again h = ap (λ a. outcome a s) (stops e)
  begun_then {T = T} f stops k r (Ok u) s more again h = by (is_ready s.chip.pins)
    where
      by : (ready : Bool) →
          let first = polls s.chip.pins in
          let whole = bind (outcome (found Busy ready) (sent next first s)) k in
          outcome (f whole.answer) whole.after ≡ at_stage r s first more (stage_by (Ok u) ready again)
      by true = h
      by false = ap (λ a. outcome a (sent next (polls s.chip.pins) s)) (stops _)

  pub greet-by_stage : (s : State V) → calls.greet next s ≡ by_stage Greet s
  unfolding stage_of samples_of run told
  greet-by_stage s = by_check (greetable s.chip.pins)
    where
      first : List Put
      first = idle ∷ polls (put_on s.chip.pins idle)

      more : List Put
      more = frame_on (run s.chip.pins first) Wds ++ []

      after_polling : Unit {0} → State V → Outcome V (Unit {0})
      after_polling _ t = outcome (Ok tt) (noted true false (calls.sent_frame next Wds t))

      by_ready : (u : Unit {0}) (ready : Bool) →
          bind (outcome (found Busy ready) (sent next first s)) after_polling ≡ at_stage Greet s first more (stage_by (Ok u) ready true)
      by_ready u true = ap (λ t. outcome (Ok tt) (noted true false t)) (frame_last Wds first s)
      by_ready u false = refl

      by_check : (check : Checked) →
          bind (outcome check s) (λ _ t. bind (calls.polled next Busy (sent next (idle ∷ []) t)) after_polling)
          ≡ at_stage Greet s first more (stage_by check (is_ready (put_on s.chip.pins idle)) true)
      by_check (Err e) = refl
      by_check (Ok u) = by_ready u (is_ready (put_on s.chip.pins idle))

  pub settle-by_stage : (s : State V) → calls.settle next s ≡ by_stage Settle s
  unfolding stage_of samples_of run told
  settle-by_stage s = by_check (admitted s.chip.pins s.greeted Wds)
    where
      first : List Put
      first = polls s.chip.pins

      by_ready : (u : Unit {0}) (ready : Bool) → outcome (found Busy ready) (sent next first s) ≡ at_stage Settle s first [] (stage_by (Ok u) ready true)
      by_ready u true = ap (λ xs. outcome (Ok tt) (sent next xs s)) (sym (append-nil first))
      by_ready u false = refl

      by_check : (check : Checked) → calls.begun next check s ≡ at_stage Settle s first [] (stage_by check (is_ready s.chip.pins) true)
      by_check (Err e) = refl
      by_check (Ok u) = by_ready u (is_ready s.chip.pins)

  pub turned-by_stage : (opened : Bool) (i : Instruction) (s : State V) → calls.turned next opened i s ≡ by_stage (Latch opened i) s
  unfolding stage_of samples_of run
  turned-by_stage opened i s =
      begun_then (λ r. r) (λ _. refl) _ (Latch opened i) (admitted s.chip.pins s.greeted i) s _ true
      (ap (λ t. outcome (Ok tt) (noted s.greeted opened t)) (frame_last i (polls s.chip.pins) s))

  pub run_words-by_stage : (address count : ℕ) (s : State V) → run_words next address count s ≡ by_stage (Fetch address count) s
  unfolding stage_of samples_of run
  run_words-by_stage address count s =
      begun_then as_done (λ _. refl) _ (Fetch address count) (admitted s.chip.pins s.greeted (Read address count)) s _ true
      (ap (outcome (Ok tt)) (frame_last (Read address count) (polls s.chip.pins) s))

  pub changed-by_stage : (i : Instruction) (s : State V) → calls.changed next i s ≡ by_stage (Change i) s
  unfolding stage_of samples_of run
  changed-by_stage i s =
      begun_then (λ r. r) (λ _. refl) (λ _ t. calls.polled next Unfinished (calls.sent_frame next i t)) (Change i)
      (changeable s.chip.pins s.greeted s.opened i) s (frame ++ polls q) (is_ready q)
      (ap (calls.polled next Unfinished) (frame_after i first s)
      ∙ ap (λ x. outcome (found Unfinished (is_ready x)) (sent next (polls x) (sent next frame t))) at_second
      ∙ ap (outcome (found Unfinished (is_ready q))) (sent-append frame (polls q) t ∙ sent-append first (frame ++ polls q) s)
      ∙ by (is_ready q))
    where
      first : List Put
      first = polls s.chip.pins

      t : State V
      t = sent next first s

      frame : List Put
      frame = frame_on (run s.chip.pins first) i

      q : Pins
      q = run (run s.chip.pins first) frame

      at_second : (sent next frame t).chip.pins ≡ q
      at_second = told-pins next t.chip frame ∙ ap (λ x. run x frame) (told-pins next s.chip first)

      by : (ready : Bool) → outcome (found Unfinished ready) (sent next (first ++ (frame ++ polls q)) s)
          ≡ at_stage (Change i) s first (frame ++ polls q) (if ready then Finished else Started)
      by true = refl
      by false = refl

  -- the words that a fetch hands out
  pub words_of-fetched : (address count : ℕ) (s : State V) → words_of address count s ≡ filled_by (calls.fetched next address count s).answer []
  unfolding stage_of words_of run
  words_of-fetched address count s = by_check (admitted s.chip.pins s.greeted (Read address count))
    where
      p : Pins
      p = s.chip.pins

      words : List ℕ
      words = words_on (run p (polls p)) address count

      fetching : Unit {0} → State V → Outcome V (List ℕ)
      fetching _ t = outcome (Ok (words_on t.chip.pins address count)) (calls.sent_frame next (Read address count) t)

      by_ready : (u : Unit {0}) (ready : Bool) →
          (if is_finished (stage_by (Ok u) ready true) then words else [])
          ≡ filled_by (bind (outcome (found Busy ready) (sent next (polls p) s)) fetching).answer []
      by_ready u true = ap (λ x. words_on x address count) (sym (told-pins next s.chip (polls p)))
      by_ready u false = refl

      by_check : (check : Checked) →
          (if is_finished (stage_by check (is_ready p) true) then words else [])
          ≡ filled_by (bind (calls.begun next check s) fetching).answer []
      by_check (Err e) = refl
      by_check (Ok u) = by_ready u (is_ready p)
