use Rattle.chips.specs.Machine.{fill_cells}
use Rattle.chips.specs.Rewriting.{Rewritten}
use Rattle.chips.proofs.cells.Cells.fill.Given as goal

abbrev pub invariant-loop-cell : goal.invariant-loop-cell
invariant-loop-cell l = Rewritten l.initial.self l.self (fill_cells l.word.width l.cell l.word.value l.initial.self.memory.now)
