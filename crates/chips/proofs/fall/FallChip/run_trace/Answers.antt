use Rattle.protocol.specs.declared.settings.Edition.TheVariants.{Fall}
use Rattle.chips.proofs.Editions.{trace_keeps}
use Rattle.chips.proofs.fall.FallChip.run_trace.Goals as goal

pub invariant_of-self : goal.invariant_of-self
invariant_of-self c = record { edition = trace_keeps Fall _ _ _ _ c.run_trace.ensures.chip c.args.self.now.edition }
