use Rattle.trace_file.proofs.Passing.{left_joined, left_bad, adds_more, adds_full}
use Rattle.trace_file.proofs.records.Records.add_samples.Goals as goal

pub returns-in_err-samples : goal.returns-in_err-samples
returns-in_err-samples c =
    c.loop-samples.invariant.2 _ _ (rw (left_bad _ _ (rw c.in_err-samples.was at c.in-Some.ensures.steps)) tt)

pub returns-in_err-add_record : goal.returns-in_err-add_record
returns-in_err-add_record c =
    c.loop-samples.invariant.2 _ _
    (rw (left_joined _ _ c.in_ok-samples.field-0.now (rw c.in_ok-samples.was at c.in-Some.ensures.steps)) (adds_full _ _ _ _ _ c.in_err-add_record.ensures.0))

pub loop-samples-preserved : goal.loop-samples-preserved
loop-samples-preserved c = (
  tt,
  tt,
  λ m r h.
      c.loop-samples.invariant.2 m r
      (rw (left_joined _ _ c.in_ok-samples.field-0.now (rw c.in_ok-samples.was at c.in-Some.ensures.steps))
      (adds_more _ _ _ m r c.add_record.new.list c.in_ok-add_record.ensures h)),
)
