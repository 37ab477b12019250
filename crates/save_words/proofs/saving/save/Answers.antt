use Rattle.std.proofs.Common.{◌≡◌, Err, ◌∙◌, rules}
use Rattle.save_words.proofs.Saves.{writes_on, writes_end}
use Rattle.save_words.proofs.saving.save.Goals as goal

pub returns-in_err-write : goal.returns-in_err-write
returns-in_err-write g c =
    let r : c.from_residual-in_err-write.result ≡ Err c.in_err-write.field-0.0 = search rules in
    let e =
    writes_end g.C.Chip.next c.args.pairs.now c.loop-pair.pair-index _ _ _ c.loop-pair-test.true c.in_err-write.field-0.0 c.in_err-write.ensures.outcome
    ∙ c.loop-pair.invariant in
    record { saved = rw r e }

pub loop-pair-preserved : goal.loop-pair-preserved
loop-pair-preserved g c =
    writes_on g.C.Chip.next c.args.pairs.now c.loop-pair.pair-index _ _ _ c.loop-pair-test.true c.in_ok-write.ensures.outcome ∙ c.loop-pair.invariant
