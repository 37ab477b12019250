use Rattle.histories.proofs.Filling.{was_read}
use Rattle.histories.proofs.perform.read_into.Goals as goal

pub returns : goal.returns
returns g c = was_read g.C.Chip.next c.args.address _ _ _ _ c.in_ok-word.word _ c.requires c.in_ok-word.ensures.outcome c.push.ensures
