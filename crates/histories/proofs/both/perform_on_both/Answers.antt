use Rattle.histories.proofs.Carried.{truthful, believed, busy, alike}
use Rattle.histories.proofs.Handed.{tells, untold}
use Rattle.histories.proofs.both.perform_on_both.Goals as goal

pub returns-in_err-perform-clause-other_truthful : goal.returns-in_err-perform-clause-other_truthful
returns-in_err-perform-clause-other_truthful g c =
    truthful c.args.calls.now _ _ _ (untold c.args.calls.now _ (g.D.Chip.meaning c.args.other.now) c.args.other_told.now) c.facts-2.ensures.fits

pub returns-in_err-perform-clause-other_believed : goal.returns-in_err-perform-clause-other_believed
returns-in_err-perform-clause-other_believed g c =
    believed c.args.calls.now _ _ _ (untold c.args.calls.now _ (g.D.Chip.meaning c.args.other.now) c.args.other_told.now) c.facts-2.ensures.fits

pub returns-in_err-perform-clause-other_busy : goal.returns-in_err-perform-clause-other_busy
returns-in_err-perform-clause-other_busy g c =
    busy c.args.calls.now _ _ _ (untold c.args.calls.now _ (g.D.Chip.meaning c.args.other.now) c.args.other_told.now) c.facts-2.ensures.fits

pub returns-in_err-perform-clause-alike : goal.returns-in_err-perform-clause-alike
returns-in_err-perform-clause-alike g c =
    alike c.args.calls.now _ _ _ (tells g.C.Chip.next c.args.calls.now _ _ _ _ _ _ c.perform.ensures.performs) c.facts.ensures.fits _ _ _
    (untold c.args.calls.now _ (g.D.Chip.meaning c.args.other.now) c.args.other_told.now) c.facts-2.ensures.fits

pub returns-in_err-perform-2-clause-alike : goal.returns-in_err-perform-2-clause-alike
returns-in_err-perform-2-clause-alike g c =
    alike c.args.calls.now _ _ _ (tells g.C.Chip.next c.args.calls.now _ _ _ _ _ _ c.perform.ensures.performs) c.facts.ensures.fits _ _ _
    (tells g.D.Chip.next c.args.calls.now _ _ _ _ _ _ c.perform-2.ensures.performs) c.facts-2.ensures.fits

pub returns-clause-alike : goal.returns-clause-alike
returns-clause-alike g c =
    alike c.args.calls.now _ _ _ (tells g.C.Chip.next c.args.calls.now _ _ _ _ _ _ c.perform.ensures.performs) c.facts.ensures.fits _ _ _
    (tells g.D.Chip.next c.args.calls.now _ _ _ _ _ _ c.perform-2.ensures.performs) c.facts-2.ensures.fits
