use Rattle.histories.proofs.Carried.{truthful, believed, busy}
use Rattle.histories.proofs.Handed.{tells, counts}
use Rattle.histories.proofs.Recorded.{recorded}
use Rattle.histories.proofs.Samples.{sends}
use Rattle.histories.proofs.perform.perform.Goals as goal

pub returns-clause-truthful : goal.returns-clause-truthful
returns-clause-truthful g c =
    truthful c.args.calls.now _ _ _ (tells g.C.Chip.next c.args.calls.now _ _ _ _ _ _ c.perform_in_room.ensures) c.facts.ensures.fits

pub returns-clause-believed : goal.returns-clause-believed
returns-clause-believed g c =
    believed c.args.calls.now _ _ _ (tells g.C.Chip.next c.args.calls.now _ _ _ _ _ _ c.perform_in_room.ensures) c.facts.ensures.fits

pub returns-clause-busy : goal.returns-clause-busy
returns-clause-busy g c =
    busy c.args.calls.now _ _ _ (tells g.C.Chip.next c.args.calls.now _ _ _ _ _ _ c.perform_in_room.ensures) c.facts.ensures.fits

pub returns-clause-counted : goal.returns-clause-counted
returns-clause-counted g c = counts g.C.Chip.next c.args.calls.now _ _ _ _ _ _ c.perform_in_room.ensures

pub returns-clause-recorded : goal.returns-clause-recorded
returns-clause-recorded g c = recorded g.C.Chip.next _ c.args.calls.now _ _ _ _ _ c.perform_in_room.ensures

pub returns-clause-sent : goal.returns-clause-sent
returns-clause-sent g c = sends g.C.Chip.next _ c.args.calls.now _ _ _ _ _ c.perform_in_room.ensures
