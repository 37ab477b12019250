use Rattle.std.proofs.Common.{◌≡◌, ◌+◌, ◌-◌, ◌≤◌, length, drop}
use Rattle.protocol.specs.Samples.{high_at}
use Rattle.protocol.proofs.sample.calls.low_blocks.Given as goal

abbrev pub invariant-loop-place : goal.invariant-loop-place
invariant-loop-place l = (l.place ≤ length l.samples) × (high_at l.samples ≡ l.place + high_at (drop l.place l.samples))

abbrev pub decreases-loop-place : goal.decreases-loop-place
decreases-loop-place l = length l.samples - l.place
