-- What a call asks of the driver.
use Rattle.std.specs.Prelude.{true, false}
use Rattle.protocol.specs.declared.instruction.Instruction.TheVariants as instruction
use Rattle.driver.specs.Cases as cases
use Rattle.driver.specs.Cases.{Request}
use Rattle.histories.specs.declared.call.Call.{Call}
use Rattle.histories.specs.declared.call.Call.TheVariants.{Greet, Settle, Open, Shut, Read, Run, Write, Erase, Fill, Clear}

abbrev pub request_of : Call → Request
request_of Greet = cases.Greet
request_of Settle = cases.Settle
request_of Open = cases.Latch true instruction.Wen
request_of Shut = cases.Latch false instruction.Wds
request_of (Read address) = cases.Fetch address 1
request_of (Run address count) = cases.Fetch address count
request_of (Write address value) = cases.Change (instruction.Write address value)
request_of (Erase address) = cases.Change (instruction.Erase address)
request_of (Fill value) = cases.Change (instruction.Wrall value)
request_of Clear = cases.Change instruction.Eral
