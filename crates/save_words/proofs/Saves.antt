-- One pair more.
use Rattle.std.proofs.Common.{◌≡◌, ℕ, ◌+◌, ◌<◌, ◌≤◌, List, length, get_or, drop, Ok, Err, sym, ap, ◌∙◌}
use Rattle.std.proofs.lemmas.List.{at_drop_more, at_drop_all}
use Rattle.protocol.specs.declared.instruction.Instruction.TheVariants.{Write}
use Rattle.protocol.specs.declared.refusal.Refusal.{Refusal}
use Rattle.chips.specs.Pins.{Pins, Put}
use Rattle.driver.specs.Calls.{shut_chip, changed}
use Rattle.driver.specs.Outcome.{State, Outcome, outcome, bind}
use Rattle.save_words.specs.declared.pair.Pair.{Pair}
use Rattle.save_words.specs.Saving.{writes_outcome}

module _ {V : Type 0} (next : V → Pins → Put → V) (pairs : List Pair) (i : ℕ) where
  pub writes_none : (s : State V) → length pairs ≤ i → writes_outcome next (drop i pairs) s ≡ shut_chip next s
  unfolding writes_outcome
  writes_none s h = at_drop_all (λ ps. writes_outcome next ps s) pairs i h

  module _ (d : Pair) (s t : State V) (h : i < length pairs) where
    abbrev later : Unit {0} → State V → Outcome V (Unit {0})
    later _ s₁ = writes_outcome next (drop (i + 1) pairs) s₁

    abbrev one_write : Outcome V (Unit {0})
    one_write = changed next (Write (get_or pairs i d).address (get_or pairs i d).value) s

    more : writes_outcome next (drop i pairs) s ≡ bind one_write later
    unfolding writes_outcome
    more = at_drop_more (λ ps. writes_outcome next ps s) pairs i d h

    -- a write that is done, and one that is refused
    pub writes_on : outcome (Ok tt) t ≡ one_write → writes_outcome next (drop (i + 1) pairs) t ≡ writes_outcome next (drop i pairs) s
    writes_on e = ap (λ (o : Outcome V (Unit {0})). bind o later) e ∙ sym more

    pub writes_end : (r : Refusal) → outcome (Err r) t ≡ one_write → outcome (Err r) t ≡ writes_outcome next (drop i pairs) s
    writes_end r e = ap (λ (o : Outcome V (Unit {0})). bind o later) e ∙ sym more
