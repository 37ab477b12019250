use Rattle.histories.proofs.Filling.{ran}
use Rattle.histories.proofs.perform.run_into.Goals as goal

pub returns : goal.returns
returns g c = ran g.C.Chip c.args.address c.args.count c.args.driver.now c.extend_from.new.source c.args.words.now _ _ c.requires c.extend_from.ensures
