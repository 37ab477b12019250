use Rattle.std.proofs.Common.{◌≡◌, rules}
use Rattle.power_cuts.proofs.Ends.{name_kept, twin_name_kept, performs, sent, whole, bytes, nothing_sent}
use Rattle.power_cuts.proofs.cut.perform_with_cut.Goals as goal

pub returns-then-not-has_room-clause-sent : goal.returns-then-not-has_room-clause-sent
returns-then-not-has_room-clause-sent g c = nothing_sent g.D.Chip.next _ _ _ c.if-not-has_room.ensures

pub returns-clause-performs : goal.returns-clause-performs
returns-clause-performs g c =
    let p = c.count_whole.ensures.performed in
    let own : c.count_whole.new.driver.chip.chip.ghost_name ≡ c.new-driver.result.chip.chip.ghost_name =
    name_kept g.C.Chip.next g.D.Chip.next c.args.calls.now c.args.samples _ _ _ _ _ _ c.new-driver.ensures.held p.ends in
    performs g.C.Chip.next g.D.Chip.next c.args.calls.now c.args.samples _ _ _ _ _ _ _ _ c.new-driver.ensures.held p _ _ c.if-not-has_room.ensures (search rules)

pub returns-clause-sent : goal.returns-clause-sent
returns-clause-sent g c =
    let p = c.count_whole.ensures.performed in
    let own : c.count_whole.new.driver.chip.twin.ghost_name ≡ c.new-driver.result.chip.twin.ghost_name =
    twin_name_kept g.C.Chip.next g.D.Chip.next c.args.calls.now c.args.samples _ _ _ _ _ _ c.new-driver.ensures.held p.ends in
    sent g.C.Chip.next g.D.Chip.next c.args.calls.now c.args.samples _ _ _ _ _ _ _ _ c.new-driver.ensures.held p _ _ c.if-not-has_room.ensures (search rules)

pub returns-clause-whole : goal.returns-clause-whole
returns-clause-whole g c =
    whole g.C.Chip.next g.D.Chip.next c.args.calls.now c.args.samples _ _ _ _ _ _ _ _ c.new-driver.ensures.held c.count_whole.ensures.performed
    c.facts.ensures.fits _ c.count_whole.ensures.count _ c.if-not-has_room.ensures

pub returns-clause-bytes : goal.returns-clause-bytes
returns-clause-bytes g c =
    let p = c.count_whole.ensures.performed in
    let own : c.count_whole.new.driver.chip.twin.ghost_name ≡ c.new-driver.result.chip.twin.ghost_name =
    twin_name_kept g.C.Chip.next g.D.Chip.next c.args.calls.now c.args.samples _ _ _ _ _ _ c.new-driver.ensures.held p.ends in
    bytes g.C.Chip.next g.D.Chip.next c.args.calls.now c.args.samples _ _ _ _ _ _ _ _ c.new-driver.ensures.held p
    c.facts.ensures.fits _ c.count_whole.ensures.count _ (search rules)
