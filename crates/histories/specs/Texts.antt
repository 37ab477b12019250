-- A call as text: its name and what it is given.
use Rattle.std.specs.Prelude.{ℕ, List, ◌++◌, codes, decimal}
use Rattle.histories.specs.declared.call.Call.{Call}
use Rattle.histories.specs.declared.call.Call.TheVariants.{Greet, Settle, Open, Shut, Read, Run, Write, Erase, Fill, Clear}

abbrev pub call_text : Call → List ℕ
call_text Greet = codes "greet"
call_text Settle = codes "settle"
call_text Open = codes "open"
call_text Shut = codes "shut"
call_text (Read address) = codes "read " ++ decimal address
call_text (Run address count) = codes "run " ++ (decimal address ++ (codes " " ++ decimal count))
call_text (Write address value) = codes "write " ++ (decimal address ++ (codes " " ++ decimal value))
call_text (Erase address) = codes "erase " ++ decimal address
call_text (Fill value) = codes "fill " ++ decimal value
call_text Clear = codes "clear"
