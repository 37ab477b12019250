use Rattle.std.proofs.Common.{◌≡◌, drop}
use Rattle.driver.specs.Held.{held}
use Rattle.save_words.specs.Saving.{writes_outcome, save_outcome}
use Rattle.save_words.proofs.saving.save.Given as goal

abbrev pub invariant-loop-pair : goal.invariant-loop-pair
invariant-loop-pair g l =
    writes_outcome g.C.Chip.next (drop l.pair-index l.pairs) (held g.C.Chip l.driver) ≡ save_outcome g.C.Chip.next l.pairs (held g.C.Chip l.fn.driver)
