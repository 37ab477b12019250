use Rattle.protocol.specs.declared.settings.Edition.TheVariants.{Clock}
use Rattle.chips.proofs.Editions.{trace_keeps}
use Rattle.chips.proofs.clock.ClockChip.run_trace.Goals as goal

pub invariant_of-self : goal.invariant_of-self
invariant_of-self c = record { edition = trace_keeps Clock _ _ _ _ c.run_trace.ensures.chip c.args.self.now.edition }
