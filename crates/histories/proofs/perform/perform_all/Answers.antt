use Rattle.histories.proofs.Going.{begun, not_refused, more}
use Rattle.histories.proofs.perform.perform_all.Goals as goal

pub loop-call-init : goal.loop-call-init
loop-call-init g c = begun g.C.Chip.next _ _ _ c.requires

pub loop-call-preserved : goal.loop-call-preserved
loop-call-preserved g c = more g.C.Chip.next _ _ _ _ _ _ c.loop-call.invariant _ _ _ _ c.loop-call-test.true c.perform_next.ensures

pub returns-in_err-perform_next-clause-done : goal.returns-in_err-perform_next-clause-done
returns-in_err-perform_next-clause-done g c =
    absurd (not_refused g.C.Chip.next _ _ _ _ _ _ c.loop-call.invariant _ _ _ _ _ c.loop-call-test.true c.perform_next.ensures c.in_err-perform_next.was)

pub returns-in_err-perform_next-clause-performed : goal.returns-in_err-perform_next-clause-performed
returns-in_err-perform_next-clause-performed g c =
    absurd (not_refused g.C.Chip.next _ _ _ _ _ _ c.loop-call.invariant _ _ _ _ _ c.loop-call-test.true c.perform_next.ensures c.in_err-perform_next.was)
