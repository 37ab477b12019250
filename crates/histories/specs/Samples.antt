-- The samples of a history: those that its calls send, one after the other.
use Rattle.std.specs.Prelude.{false, List, [], ◌∷◌, ◌++◌}
use Rattle.chips.specs.Pins.{Pins, Put}
use Rattle.driver.specs.Cases.{samples_of}
use Rattle.driver.specs.Outcome.{State, state}
use Rattle.histories.specs.declared.call.Call.{Call}
use Rattle.histories.specs.Events.{performed, unseen, bare_chip}
use Rattle.histories.specs.Requests.{request_of}

-- each call by a driver as the calls before leave it
unfoldable pub samples_of_calls : List Call → State (Unit {0}) → List Put
samples_of_calls [] s = []
samples_of_calls (x ∷ xs) s = samples_of (request_of x) s ++ samples_of_calls xs (performed unseen x s).after

-- from a new driver on a chip of this meaning
abbrev pub samples_from : List Call → Pins → List Put
samples_from calls p = samples_of_calls calls (state false false (bare_chip p))
