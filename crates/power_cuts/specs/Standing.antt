-- A driver of a chip with a twin, as it stands.
use Rattle.chips.specs.declared.chip.Chip.{Ghosts}
use Rattle.chips.specs.Seen.{Seen, seen}
use Rattle.driver.specs.declared.driver.Driver.{Driver}
use Rattle.driver.specs.Outcome.{State, state}
use Rattle.power_cuts.specs.declared.twin.WithTwin.{WithTwin}
use Rattle.power_cuts.specs.Twin.{Twinned}

module _ {C D : Type 0} (g : Ghosts C) (h : Ghosts D) where
  abbrev pub seen_with : WithTwin C D → Seen (Twinned g.View h.View)
  seen_with c =
      record {
        view = record { view = g.view c.chip; twin = seen h.view h.meaning c.twin; left = c.left; cut = c.cut };
        pins = g.meaning c.chip;
      }

  abbrev pub held_with : Driver (WithTwin C D) → State (Twinned g.View h.View)
  held_with d = state d.greeted d.opened (seen_with d.chip)
