use Rattle.std.proofs.Common.{◌≡◌, rules}
use Rattle.histories.proofs.Going.{lender_kept, performs}
use Rattle.histories.proofs.perform.perform_in_room.Goals as goal

pub returns : goal.returns
returns g c =
    let p = c.perform_all.ensures.performed in
    let e : c.perform_all.new.driver.chip.ghost_name ≡ c.new-driver.result.chip.ghost_name = lender_kept g.C.Chip.next c.args.calls.now _ _ p.ends in
    performs g.C.Chip.next _ _ _ _ _ _ _ _ _ _ c.if-not-has_room.ensures c.new-driver.ensures.held c.perform_all.ensures.done p (search rules)
