use Rattle.power_cuts.specs.Standing.{held_with}
use Rattle.power_cuts.specs.Twin.{twin_after}
use Rattle.power_cuts.proofs.Counts.{Counts}
use Rattle.power_cuts.proofs.cut.count_whole.Given as goal

abbrev pub invariant-loop-call : goal.invariant-loop-call
invariant-loop-call g l =
    Counts (twin_after g.C.Chip.next g.D.Chip.next) l.calls (held_with g.C.Chip g.D.Chip l.initial.driver) (held_with g.C.Chip g.D.Chip l.driver)
    l.initial.told l.told l.call-index l.whole
