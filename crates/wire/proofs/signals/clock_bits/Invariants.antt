use Rattle.std.proofs.Common.{◌≡◌, []}
use Rattle.chips.specs.Seen.{seen}
use Rattle.wire.specs.Frames.{clocks}
use Rattle.wire.specs.Sent.{told}
use Rattle.wire.proofs.signals.clock_bits.Given as goal

abbrev pub invariant-loop-place : goal.invariant-loop-place
invariant-loop-place g l =
    let x = seen g.C.Chip.view g.C.Chip.meaning in
    told g.C.Chip.next (x l.initial.chip) (clocks l.count l.code []) ≡ told g.C.Chip.next (x l.chip) (clocks l.place l.code [])
