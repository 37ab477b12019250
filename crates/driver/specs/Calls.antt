-- The ten calls.
use Rattle.std.specs.Prelude.{ℕ, Bool, true, false, cond, List, [], ◌∷◌, Ok, Err, Result}
use Rattle.protocol.specs.declared.instruction.Instruction.{Instruction}
use Rattle.protocol.specs.declared.instruction.Instruction.TheVariants.{Read, Wen, Wds}
use Rattle.protocol.specs.declared.refusal.Cause.{Cause}
use Rattle.protocol.specs.declared.refusal.Cause.TheVariants.{Busy, Unfinished}
use Rattle.protocol.specs.declared.refusal.Refusal.{Refusal}
use Rattle.protocol.specs.Parts.{bits_of}
use Rattle.protocol.specs.Refusals.{refusal}
use Rattle.chips.specs.Pins.{Pins, Put}
pub use Rattle.wire.specs.Deciding.{frame_on}
use Rattle.wire.specs.Frames.{idle, read_opening}
use Rattle.wire.specs.Hearing.{words_heard}
use Rattle.wire.specs.Places.{width_on}
use Rattle.wire.specs.Polling.{polls, is_ready}
use Rattle.wire.specs.Runs.{run}
use Rattle.driver.specs.Outcome.{State, Outcome, outcome, bind, sent, noted}
use Rattle.driver.specs.Checks.{Checked, greetable, admitted, changeable}

-- the words that a READ gives out
abbrev pub words_on : Pins → ℕ → ℕ → List ℕ
words_on p address count =
    words_heard (bits_of (width_on p)) count (run p (read_opening p.machine.setup.part (width_on p) address []))

-- what polling answers: a chip that is still programming is refused for the cause given
abbrev pub found : Cause → Bool → Checked
found cause ready = cond ready (Ok tt) (Err (refusal cause 0))

module _ {V : Type 0} (next : V → Pins → Put → V) where
  -- polling
  abbrev pub polled : Cause → State V → Outcome V (Unit {0})
  polled cause s =
      outcome (found cause (is_ready s.chip.pins)) (sent next (polls s.chip.pins) s)

  -- a check, and the polling with which every call begins that it lets through
  abbrev pub begun : Checked → State V → Outcome V (Unit {0})
  begun check s = bind (outcome check s) (λ _ s₁. polled Busy s₁)

  abbrev pub sent_frame : Instruction → State V → State V
  sent_frame i s = sent next (frame_on s.chip.pins i) s

  -- one idle sample, polling, WDS; the driver then counts as greeted and shut
  abbrev pub greet : State V → Outcome V (Unit {0})
  greet s =
      bind (outcome (greetable s.chip.pins) s) (λ _ s₁.
      bind (polled Busy (sent next (idle ∷ []) s₁)) (λ _ s₂.
      outcome (Ok tt) (noted true false (sent_frame Wds s₂))))

  -- polling alone
  abbrev pub settle : State V → Outcome V (Unit {0})
  settle s = begun (admitted s.chip.pins s.greeted Wds) s

  -- open sends WEN and shut WDS
  abbrev pub turned : Bool → Instruction → State V → Outcome V (Unit {0})
  turned opened i s =
      bind (begun (admitted s.chip.pins s.greeted i) s) (λ _ s₁.
      outcome (Ok tt) (noted s₁.greeted opened (sent_frame i s₁)))

  abbrev pub open_chip : State V → Outcome V (Unit {0})
  open_chip s = turned true Wen s

  abbrev pub shut_chip : State V → Outcome V (Unit {0})
  shut_chip s = turned false Wds s

  -- the words of so many cells from an address on, with one READ
  abbrev pub fetched : ℕ → ℕ → State V → Outcome V (List ℕ)
  fetched address count s =
      bind (begun (admitted s.chip.pins s.greeted (Read address count)) s) (λ _ s₁.
      outcome (Ok (words_on s₁.chip.pins address count)) (sent_frame (Read address count) s₁))

  -- a change sends its frame and polls again
  abbrev pub changed : Instruction → State V → Outcome V (Unit {0})
  changed i s =
      bind (begun (changeable s.chip.pins s.greeted s.opened i) s) (λ _ s₁.
      polled Unfinished (sent_frame i s₁))

-- The word of a read, and the caller's words after a run: filled, or as they were.
abbrev pub head_of : List ℕ → ℕ
head_of [] = 0
head_of (w ∷ ws) = w

abbrev pub as_word : Result (List ℕ) Refusal → Result ℕ Refusal
as_word (Ok ws) = Ok (head_of ws)
as_word (Err e) = Err e

abbrev pub as_done : Result (List ℕ) Refusal → Result (Unit {0}) Refusal
as_done (Ok ws) = Ok tt
as_done (Err e) = Err e

abbrev pub filled_by : Result (List ℕ) Refusal → List ℕ → List ℕ
filled_by (Ok ws) old = ws
filled_by (Err e) old = old
