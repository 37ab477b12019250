-- What a call comes to, by how far it comes.
use Rattle.std.proofs.Common.{◌≡◌, true, false}
use Rattle.protocol.specs.declared.instruction.Instruction.TheVariants as instruction
use Rattle.chips.specs.Pins.{Pins, Put}
use Rattle.driver.specs.Outcome.{State, Outcome, outcome}
use Rattle.driver.proofs.Following.{by_stage, greet-by_stage, settle-by_stage, turned-by_stage, run_words-by_stage, changed-by_stage}
use Rattle.histories.specs.declared.call.Call.{Call}
use Rattle.histories.specs.declared.call.Call.TheVariants.{Greet, Settle, Open, Shut, Read, Run, Write, Erase, Fill, Clear}
use Rattle.histories.specs.Events.{Yield, performed}
use Rattle.histories.specs.Requests.{request_of}

abbrev pub without_words : {V : Type 0} → Yield V → Outcome V (Unit {0})
without_words y = outcome y.answer y.after

pub performed-by_stage : {V : Type 0} (next : V → Pins → Put → V) (x : Call) (s : State V) →
    without_words (performed next x s) ≡ by_stage next (request_of x) s
performed-by_stage next Greet s = greet-by_stage next s
performed-by_stage next Settle s = settle-by_stage next s
performed-by_stage next Open s = turned-by_stage next true instruction.Wen s
performed-by_stage next Shut s = turned-by_stage next false instruction.Wds s
performed-by_stage next (Read address) s = run_words-by_stage next address 1 s
performed-by_stage next (Run address count) s = run_words-by_stage next address count s
performed-by_stage next (Write address value) s = changed-by_stage next (instruction.Write address value) s
performed-by_stage next (Erase address) s = changed-by_stage next (instruction.Erase address) s
performed-by_stage next (Fill value) s = changed-by_stage next (instruction.Wrall value) s
performed-by_stage next Clear s = changed-by_stage next instruction.Eral s
