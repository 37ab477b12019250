-- A driver as it stands.
use Rattle.chips.specs.declared.chip.Chip.{Ghosts}
use Rattle.chips.specs.Seen.{seen}
use Rattle.driver.specs.declared.driver.Driver.{Driver}
use Rattle.driver.specs.Outcome.{State, state}

abbrev pub held : {C : Type 0} (g : Ghosts C) → Driver C → State g.View
held g d = state d.greeted d.opened (seen g.view g.meaning d.chip)
