-- How many calls end before a sample fails to reach the twin.
use Rattle.std.specs.Prelude.{ℕ, ◌+◌, if◌then◌else◌, List, [], ◌∷◌}
use Rattle.chips.specs.Pins.{Pins, Put}
use Rattle.driver.specs.Outcome.{State}
use Rattle.histories.specs.declared.call.Call.{Call}
use Rattle.histories.specs.Events.{performed}
use Rattle.power_cuts.specs.Twin.{Twinned}

module _ {V W : Type 0} (next : Twinned V W → Pins → Put → Twinned V W) where
  unfoldable pub uncut_count : List Call → State (Twinned V W) → ℕ
  uncut_count [] s = 0
  uncut_count (x ∷ xs) s =
      let t = (performed next x s).after in
      (if t.chip.view.cut then 0 else 1) + uncut_count xs t
