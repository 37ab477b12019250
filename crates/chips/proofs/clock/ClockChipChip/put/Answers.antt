use Rattle.protocol.specs.declared.settings.Edition.TheVariants.{Clock}
use Rattle.chips.proofs.Editions.{put_keeps}
use Rattle.chips.proofs.clock.ClockChipChip.put.Goals as goal

pub invariant_of-self : goal.invariant_of-self
invariant_of-self c = record { edition = put_keeps Clock _ _ _ c.put.ensures.pins c.args.self.now.edition }
