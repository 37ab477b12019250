use Rattle.std.proofs.Common.{◌≡◌, leb, drop}
use Rattle.histories.specs.Performing.{words_wanted}
use Rattle.histories.proofs.perform.words_fit.Given as goal

abbrev pub invariant-loop-call : goal.invariant-loop-call
invariant-loop-call l = leb (words_wanted (drop l.call-index l.calls)) l.left ≡ leb (words_wanted l.calls) l.initial.left
