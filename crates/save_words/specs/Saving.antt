-- What saving pairs of addresses and values comes to.
use Rattle.std.specs.Prelude.{List, [], ◌∷◌}
use Rattle.protocol.specs.declared.instruction.Instruction.TheVariants.{Write}
use Rattle.chips.specs.Pins.{Pins, Put}
use Rattle.driver.specs.Calls.{greet, open_chip, shut_chip, changed}
use Rattle.driver.specs.Outcome.{State, Outcome, bind}
use Rattle.save_words.specs.declared.pair.Pair.{Pair}

module _ {V : Type 0} (next : V → Pins → Put → V) where
  -- a write of each pair, and then the chip is shut; a refusal ends it
  unfoldable pub writes_outcome : List Pair → State V → Outcome V (Unit {0})
  writes_outcome [] s = shut_chip next s
  writes_outcome (pair ∷ pairs) s =
      bind (changed next (Write pair.address pair.value) s) (λ _ s₁. writes_outcome pairs s₁)

  -- the chip is greeted and opened first
  abbrev pub save_outcome : List Pair → State V → Outcome V (Unit {0})
  save_outcome pairs s =
      bind (greet next s) (λ _ s₁.
      bind (open_chip next s₁) (λ _ s₂.
      writes_outcome pairs s₂))
