-- A history: the calls of a list, one after the other, each with what came of it.
use Rattle.std.specs.Prelude.{ℕ, false, List, [], ◌∷◌, Result}
use Rattle.protocol.specs.declared.instruction.Instruction.TheVariants as instruction
use Rattle.protocol.specs.declared.refusal.Refusal.{Refusal}
use Rattle.chips.specs.Pins.{Pins, Put}
use Rattle.chips.specs.Seen.{Seen}
use Rattle.wire.specs.Hearing.{cells_from}
use Rattle.wire.specs.Places.{width_on}
use Rattle.driver.specs.Checks.{cells_on}
use Rattle.driver.specs.Outcome.{State, Outcome, state}
use Rattle.driver.specs.Calls as calls
use Rattle.histories.specs.declared.call.Call.{Call}
use Rattle.histories.specs.declared.call.Call.TheVariants.{Greet, Settle, Open, Shut, Read, Run, Write, Erase, Fill, Clear}

-- the answer of a call: done, or a refusal with its place
abbrev pub Answer : Type 0
Answer = Result (Unit {0}) Refusal

-- all cells of a chip, as they stand
abbrev pub cells_in : Pins → List ℕ
cells_in p = cells_from p.machine.setup.part (width_on p) p.machine.bytes (cells_on p) 0

-- what a call yields: its answer, the words that it hands out, and the driver afterwards
pub record Yield (V : Type 0) : Type 0 where
  pub answer : Answer
  pub words : List ℕ
  pub after : State V

abbrev pub plain : {V : Type 0} → Outcome V (Unit {0}) → Yield V
plain o = record { answer = o.answer; words = []; after = o.after }

abbrev pub handed : {V : Type 0} → Outcome V (List ℕ) → Yield V
handed o = record { answer = calls.as_done o.answer; words = calls.filled_by o.answer []; after = o.after }

module _ {V : Type 0} (next : V → Pins → Put → V) where
  abbrev pub performed : Call → State V → Yield V
  performed Greet s = plain (calls.greet next s)
  performed Settle s = plain (calls.settle next s)
  performed Open s = plain (calls.open_chip next s)
  performed Shut s = plain (calls.shut_chip next s)
  performed (Read address) s = handed (calls.fetched next address 1 s)
  performed (Run address count) s = handed (calls.fetched next address count s)
  performed (Write address value) s = plain (calls.changed next (instruction.Write address value) s)
  performed (Erase address) s = plain (calls.changed next (instruction.Erase address) s)
  performed (Fill value) s = plain (calls.changed next (instruction.Wrall value) s)
  performed Clear s = plain (calls.changed next instruction.Eral s)

-- one call of a history, with its answer, the words that it handed out, and the cells of the chip as they stand afterwards
pub record Event : Type 0 where
  pub call : Call
  pub answer : Answer
  pub words : List ℕ
  pub cells : List ℕ

abbrev pub event : {V : Type 0} → Call → Yield V → Event
event call y = record { call = call; answer = y.answer; words = y.words; cells = cells_in y.after.chip.pins }

module _ {V : Type 0} (next : V → Pins → Put → V) where
  unfoldable pub events_from : List Call → State V → List Event
  events_from [] s = []
  events_from (x ∷ xs) s = event x (performed next x s) ∷ events_from xs (performed next x s).after

  unfoldable pub end_from : List Call → State V → State V
  end_from [] s = s
  end_from (x ∷ xs) s = end_from xs (performed next x s).after

  -- from a new driver on a chip
  abbrev pub events_of : List Call → Seen V → List Event
  events_of xs chip = events_from xs (state false false chip)

  abbrev pub end_of : List Call → Seen V → Seen V
  end_of xs chip = (end_from xs (state false false chip)).chip

-- nothing is kept of the samples
abbrev pub unseen : Unit {0} → Pins → Put → Unit {0}
unseen v p x = tt

abbrev pub bare_chip : Pins → Seen (Unit {0})
bare_chip p = record { view = tt; pins = p }

-- The events of a new driver on a chip of this meaning, whatever else the chip keeps of the samples, and what the chip means in the end.
abbrev pub events_on : List Call → Pins → List Event
events_on xs p = events_of unseen xs (bare_chip p)

abbrev pub end_on : List Call → Pins → Pins
end_on xs p = (end_of unseen xs (bare_chip p)).pins
