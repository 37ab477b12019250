-- What a call of a driver comes to, part by part: the answer, the record, the chip, the words.
use Rattle.std.proofs.Common.{◌≡◌, ℕ, Bool, [], sym, ap}
use Rattle.std.proofs.lemmas.Bool.Decides.{nat_tests}
use Rattle.protocol.specs.declared.instruction.Instruction.{Instruction}
use Rattle.chips.specs.declared.chip.Chip.{Ghosts}
use Rattle.wire.specs.Sent.{told}
use Rattle.wire.proofs.Polls.{poll_ready_iff}
use Rattle.driver.specs.declared.driver.Driver.{Driver}
use Rattle.driver.specs.Calls as calls
use Rattle.driver.specs.Cases.{Request, Greet, Settle, Latch, Fetch, Change, answer_to, record_after, samples_of, words_of}
use Rattle.driver.specs.Held.{held}
use Rattle.driver.specs.Outcome.{State, Outcome}
use Rattle.driver.specs.Reads.{run_words}
use Rattle.driver.proofs.Following.{by_stage, greet-by_stage, settle-by_stage, turned-by_stage, run_words-by_stage, changed-by_stage, words_of-fetched}

module _ {C : Type 0} (g : Ghosts C) (d : Driver C) where
  abbrev s : State g.View
  s = held g d

  same_answer : (r : Request) (o : Outcome g.View (Unit {0})) → o ≡ by_stage g.next r s → answer_to r s ≡ o.answer
  same_answer r o e = ap (λ o. o.answer) (sym e)

  same_record : (r : Request) (o : Outcome g.View (Unit {0})) → o ≡ by_stage g.next r s →
      record_after r s ≡ (o.after.greeted, o.after.opened)
  same_record r o e = ap (λ o. (o.after.greeted, o.after.opened)) (sym e)

  same_chip : (r : Request) (o : Outcome g.View (Unit {0})) → o ≡ by_stage g.next r s →
      told g.next s.chip (samples_of r s) ≡ o.after.chip
  same_chip r o e = ap (λ o. o.after.chip) (sym e)

  pub answer_to-greet : answer_to Greet s ≡ (calls.greet g.next s).answer
  answer_to-greet = same_answer Greet _ (greet-by_stage g.next s)

  pub record_after-greet : let t = (calls.greet g.next s).after in record_after Greet s ≡ (t.greeted, t.opened)
  record_after-greet = same_record Greet _ (greet-by_stage g.next s)

  pub told-greet : told g.next s.chip (samples_of Greet s) ≡ (calls.greet g.next s).after.chip
  told-greet = same_chip Greet _ (greet-by_stage g.next s)

  pub answer_to-settle : answer_to Settle s ≡ (calls.settle g.next s).answer
  answer_to-settle = same_answer Settle _ (settle-by_stage g.next s)

  pub record_after-settle : let t = (calls.settle g.next s).after in record_after Settle s ≡ (t.greeted, t.opened)
  record_after-settle = same_record Settle _ (settle-by_stage g.next s)

  pub told-settle : told g.next s.chip (samples_of Settle s) ≡ (calls.settle g.next s).after.chip
  told-settle = same_chip Settle _ (settle-by_stage g.next s)

  pub answer_to-turn : (opened : Bool) (i : Instruction) →
      answer_to (Latch opened i) s ≡ (calls.turned g.next opened i s).answer
  answer_to-turn opened i = same_answer (Latch opened i) _ (turned-by_stage g.next opened i s)

  pub record_after-turn : (opened : Bool) (i : Instruction) →
      let t = (calls.turned g.next opened i s).after in record_after (Latch opened i) s ≡ (t.greeted, t.opened)
  record_after-turn opened i = same_record (Latch opened i) _ (turned-by_stage g.next opened i s)

  pub told-turn : (opened : Bool) (i : Instruction) →
      told g.next s.chip (samples_of (Latch opened i) s) ≡ (calls.turned g.next opened i s).after.chip
  told-turn opened i = same_chip (Latch opened i) _ (turned-by_stage g.next opened i s)

  pub answer_to-fetch : (address count : ℕ) →
      answer_to (Fetch address count) s ≡ (run_words g.next address count s).answer
  answer_to-fetch address count = same_answer (Fetch address count) _ (run_words-by_stage g.next address count s)

  pub record_after-fetch : (address count : ℕ) →
      let t = (run_words g.next address count s).after in record_after (Fetch address count) s ≡ (t.greeted, t.opened)
  record_after-fetch address count = same_record (Fetch address count) _ (run_words-by_stage g.next address count s)

  pub told-fetch : (address count : ℕ) →
      told g.next s.chip (samples_of (Fetch address count) s) ≡ (run_words g.next address count s).after.chip
  told-fetch address count = same_chip (Fetch address count) _ (run_words-by_stage g.next address count s)

  pub answer_to-change : (i : Instruction) →
      answer_to (Change i) s ≡ (calls.changed g.next i s).answer
  answer_to-change i = same_answer (Change i) _ (changed-by_stage g.next i s)

  pub record_after-change : (i : Instruction) →
      let t = (calls.changed g.next i s).after in record_after (Change i) s ≡ (t.greeted, t.opened)
  record_after-change i = same_record (Change i) _ (changed-by_stage g.next i s)

  pub told-change : (i : Instruction) →
      told g.next s.chip (samples_of (Change i) s) ≡ (calls.changed g.next i s).after.chip
  told-change i = same_chip (Change i) _ (changed-by_stage g.next i s)

  pub words_of-fetch : (address count : ℕ) → words_of address count s ≡ calls.filled_by (calls.fetched g.next address count s).answer []
  words_of-fetch address count = words_of-fetched g.next address count s

pub ruleset greeting = (answer_to-greet, record_after-greet, told-greet)

pub ruleset settling = (answer_to-settle, record_after-settle, told-settle)

pub ruleset turning = (answer_to-turn, record_after-turn, told-turn)

pub ruleset fetching = (answer_to-fetch, record_after-fetch, told-fetch, words_of-fetch)

pub ruleset changing = (answer_to-change, record_after-change, told-change)

pub ruleset readiness = (poll_ready_iff, nat_tests)
