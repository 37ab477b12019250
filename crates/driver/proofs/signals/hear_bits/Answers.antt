use Rattle.std.proofs.Common.{◌∙◌, arith}
use Rattle.std.proofs.lemmas.Grind.{pow_more}
use Rattle.driver.proofs.Steps.{one_zero, one_heard}
use Rattle.driver.proofs.signals.hear_bits.Goals as goal

pub loop-preserved : goal.loop-preserved
loop-preserved g c = (
  grind (arith, pow_more),
  c.loop.invariant.1
      ∙ one_heard g.C.Chip.next _ c.args.count _ c.loop.word _ c.loop-test.true c.hear_bit.ensures.bit c.hear_bit.ensures.sent,
  grind (arith, one_zero),
)
