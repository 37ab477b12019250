-- The numbers of the verdicts.
use Rattle.std.specs.Prelude.{ℕ}
use Rattle.chips.specs.declared.state.Verdict.{Verdict}
use Rattle.chips.specs.declared.state.Verdict.TheVariants.{CarriedOut, Shut, Protected, WrongCount}

abbrev pub verdict_number : Verdict → ℕ
verdict_number CarriedOut = 0
verdict_number Shut = 1
verdict_number Protected = 2
verdict_number WrongCount = 3
