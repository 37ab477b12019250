-- What a call yields: its answer, the driver's record, and what is then seen of the chip.
use Rattle.std.specs.Prelude.{Bool, List, Ok, Err, Result}
use Rattle.protocol.specs.declared.refusal.Refusal.{Refusal}
use Rattle.chips.specs.Pins.{Pins, Put}
use Rattle.chips.specs.Seen.{Seen}
use Rattle.wire.specs.Sent.{told}

-- a driver between calls: has it greeted its chip, does it count as open, and the chip
pub record State (V : Type 0) : Type 0 where
  pub greeted : Bool
  pub opened : Bool
  pub chip : Seen V

pub record Outcome (V T : Type 0) : Type 0 where
  pub answer : Result T Refusal
  pub after : State V

abbrev pub state : {V : Type 0} → Bool → Bool → Seen V → State V
state greeted opened chip = record { greeted = greeted; opened = opened; chip = chip }

abbrev pub outcome : {V T : Type 0} → Result T Refusal → State V → Outcome V T
outcome answer after = record { answer = answer; after = after }

-- the next part of a call, unless the part before was refused
abbrev pub then : {V T U : Type 0} → Result T Refusal → State V → (T → State V → Outcome V U) → Outcome V U
then (Ok x) s k = k x s
then (Err e) s k = outcome (Err e) s

abbrev pub bind : {V T U : Type 0} → Outcome V T → (T → State V → Outcome V U) → Outcome V U
bind o k = then o.answer o.after k

-- the chip after samples; the record stays
abbrev pub sent : {V : Type 0} → (V → Pins → Put → V) → List Put → State V → State V
sent next samples s = state s.greeted s.opened (told next s.chip samples)

-- another record; the chip stays
abbrev pub noted : {V : Type 0} → Bool → Bool → State V → State V
noted greeted opened s = state greeted opened s.chip
