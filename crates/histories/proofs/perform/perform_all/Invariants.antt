use Rattle.driver.specs.Held.{held}
use Rattle.histories.proofs.Going.{Going}
use Rattle.histories.proofs.perform.perform_all.Given as goal

abbrev pub invariant-loop-call : goal.invariant-loop-call
invariant-loop-call g l =
    Going g.C.Chip.next l.calls (held g.C.Chip l.initial.driver) (held g.C.Chip l.driver) l.initial.told l.told l.call-index
