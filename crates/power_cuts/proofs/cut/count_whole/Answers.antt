use Rattle.std.proofs.Common.{rules}
use Rattle.histories.proofs.Going.{not_refused}
use Rattle.power_cuts.proofs.Counts.{none_counted, one_counted, all_counted}
use Rattle.power_cuts.specs.Twin.{twin_after}
use Rattle.power_cuts.proofs.cut.count_whole.Goals as goal
use Rattle.power_cuts.proofs.cut.count_whole.Goals.{then-not-get_ref, else-not-get_ref}

pub loop-call-init : goal.loop-call-init
loop-call-init g c = none_counted (twin_after g.C.Chip.next g.D.Chip.next) _ _ _ c.requires

pub loop-call-preserved : goal.loop-call-preserved
loop-call-preserved g c =
    one_counted (twin_after g.C.Chip.next g.D.Chip.next) _ _ _ _ _ _ _ c.loop-call.invariant _ _ _ _ _ c.loop-call-test.true c.perform_next.ensures (search rules)

pub returns-in_err-perform_next-clause-count : goal.returns-in_err-perform_next-clause-count
returns-in_err-perform_next-clause-count g c =
    absurd (not_refused (twin_after g.C.Chip.next g.D.Chip.next) _ _ _ _ _ _ c.loop-call.invariant.going _ _ _ _ _ c.loop-call-test.true c.perform_next.ensures c.in_err-perform_next.was)

pub returns-in_err-perform_next-clause-performed : goal.returns-in_err-perform_next-clause-performed
returns-in_err-perform_next-clause-performed g c =
    absurd (not_refused (twin_after g.C.Chip.next g.D.Chip.next) _ _ _ _ _ _ c.loop-call.invariant.going _ _ _ _ _ c.loop-call-test.true c.perform_next.ensures c.in_err-perform_next.was)

pub returns-clause-count : goal.returns-clause-count
returns-clause-count g c = search (rules, all_counted (twin_after g.C.Chip.next g.D.Chip.next) _ _ _ _ _ _ _ c.loop-call.invariant)
