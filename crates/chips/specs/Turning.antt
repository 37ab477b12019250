-- What is decided, and what one step of a control does to it.
use Rattle.std.specs.Prelude.{◌≡◌}
use Rattle.protocol.specs.declared.parts.Part.{Part}
use Rattle.chips.specs.declared.control.Control.{Control}
use Rattle.chips.specs.declared.state.Decision.{Decision}
use Rattle.chips.specs.Control.{Turn}
use Rattle.chips.specs.Fits.{DecisionFits}

-- The decision that was to be made is made, and it fits the part.
pub record Decides (part : Part) (decided d : Decision) : Type 0 where
  pub is : decided ≡ d
  pub fits : DecisionFits part decided

-- The control c becomes d: it has the turn's state in the same setup, and the turn's decision fits.
pub record Turns (c d : Control) (decided : Decision) (t : Turn) : Type 0 where
  pub state : d.state ≡ t.state
  pub decision : decided ≡ t.decision
  pub fits : DecisionFits c.setup.part decided
  pub setup : d.setup ≡ c.setup
