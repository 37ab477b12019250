use Rattle.protocol.specs.declared.settings.Edition.TheVariants.{Fall}
use Rattle.chips.proofs.Editions.{put_keeps}
use Rattle.chips.proofs.fall.FallChipChip.put.Goals as goal

pub invariant_of-self : goal.invariant_of-self
invariant_of-self c = record { edition = put_keeps Fall _ _ _ c.put.ensures.pins c.args.self.now.edition }
