use Rattle.std.proofs.Common.{◌≡◌, ◌-◌, ◌^◌, ◌<◌, []}
use Rattle.chips.specs.Seen.{seen}
use Rattle.wire.specs.Frames.{clocks}
use Rattle.wire.specs.Hearing.{heard}
use Rattle.wire.specs.Sent.{told}
use Rattle.driver.proofs.signals.hear_bits.Given as goal

abbrev pub invariant-loop : goal.invariant-loop
invariant-loop g l =
    let m = g.C.Chip.meaning in
    let x = seen g.C.Chip.view m in
    (l.word < 2 ^ l.counter)
    × (heard l.count 0 (m l.initial.chip) ≡ heard (l.count - l.counter) l.word (m l.chip))
    × (told g.C.Chip.next (x l.initial.chip) (clocks l.count 0 []) ≡ told g.C.Chip.next (x l.chip) (clocks (l.count - l.counter) 0 []))
