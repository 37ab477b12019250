use Rattle.std.proofs.Common.{sym, ap, ◌∙◌, arith}
use Rattle.trace_file.specs.Steps.{rest_of}
use Rattle.trace_file.proofs.Reading.{record_stands}
use Rattle.trace_file.proofs.Passing.{counted, left_joined, counted_more}
use Rattle.trace_file.proofs.records.Records.count_samples.Goals as goal

pub loop-samples-preserved : goal.loop-samples-preserved
loop-samples-preserved c =
    let i = c.loop-samples.invariant in
    let s = c.in_ok-count.field-0.now in
    let n = rw c.in_ok-count.was at c.in-Some.ensures.steps in
    let k = record_stands (rest_of c.loop-samples.samples-iterator) s (rest_of c.next.new.self) n.1 in (
      tt,
      tt,
      counted_more c.loop-samples.count s _ ∙ ap (counted c.loop-samples.count) (sym (left_joined _ _ s n)) ∙ i.2,
      omega (arith, k.places, i.3),
    )
