use Rattle.protocol.specs.declared.list.List.{List as Held}
use Rattle.std.proofs.Common.{ℕ}
use Rattle.protocol.specs.Inputs.{Checked}
use Rattle.trace_file.specs.Steps.{rest_of, samples_left, AddsAll}
use Rattle.trace_file.proofs.records.Records.add_samples.Given as goal

-- What the records that are left add to the list, all of them add to the first one.
abbrev pub invariant-loop-samples : goal.invariant-loop-samples
invariant-loop-samples l =
    (goal.iterator-loop-samples).can_next l.samples-iterator
    × (goal.iterator-loop-samples).is_finite l.samples-iterator
    × ((m : Held ℕ) (r : Checked) → AddsAll (samples_left (rest_of l.samples-iterator)) l.list m r → AddsAll (samples_left (rest_of l.fn.self)) l.initial.list m r)
