use Rattle.std.proofs.Common.{◌≡◌, ◌≤◌}
use Rattle.trace_file.specs.Steps.{rest_of, samples_left}
use Rattle.trace_file.proofs.Passing.{counted}
use Rattle.trace_file.proofs.records.Records.count_samples.Given as goal

abbrev pub invariant-loop-samples : goal.invariant-loop-samples
invariant-loop-samples l =
    (goal.iterator-loop-samples).can_next l.samples-iterator
    × (goal.iterator-loop-samples).is_finite l.samples-iterator
    × (counted l.count (samples_left (rest_of l.samples-iterator)) ≡ counted 0 (samples_left (rest_of l.fn.self)))
    × (l.count ≤ l.samples-iterator.place)
