use Rattle.std.proofs.Common.{◌≡◌, ◌-◌}
use Rattle.chips.specs.Seen.{seen}
use Rattle.wire.specs.Polling.{tries, ready_in}
use Rattle.wire.specs.Sent.{told}
use Rattle.driver.proofs.signals.wait.Given as goal

abbrev pub invariant-loop : goal.invariant-loop
invariant-loop g l =
    let m = g.C.Chip.meaning in
    let x = seen g.C.Chip.view m in
    (told g.C.Chip.next (x l.initial.chip) (tries l.most (m l.initial.chip)) ≡ told g.C.Chip.next (x l.chip) (tries (l.most - l.counter) (m l.chip)))
    × (ready_in l.most (m l.initial.chip) ≡ ready_in (l.most - l.counter) (m l.chip))
