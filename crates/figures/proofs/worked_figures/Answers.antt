use Rattle.figures.proofs.Computed.{figures}
use Rattle.figures.proofs.worked_figures.Goals as goal

pub returns-clause-figures : goal.returns-clause-figures
returns-clause-figures g c = figures g.C.Chip.next
