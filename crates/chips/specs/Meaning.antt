-- What a model means.
use Rattle.std.specs.Prelude.{ℕ, List, false, Some, None, Option}
use Rattle.chips.specs.declared.control.Control.{Control}
use Rattle.chips.specs.Machine.{Machine}
use Rattle.chips.specs.Pins.{Pins}
use Rattle.chips.specs.declared.live.Live.{Live}
use Rattle.chips.specs.declared.model.Model.{Model}
use Rattle.chips.specs.Powered.{blank_pins}

abbrev pub machine_with : Control → List ℕ → ℕ → Machine
machine_with control bytes out = record { setup = control.setup; state = control.state; bytes = bytes; out = out }

abbrev pub pins_with : Option Live → List ℕ → Pins
pins_with (Some live) bytes =
    record { blank = false; machine = machine_with live.control bytes live.out; org = live.straps.org; pe = live.straps.pe }
pins_with None bytes = blank_pins bytes

abbrev pub pins_of : Model → Pins
pins_of m = pins_with m.live m.memory.now
