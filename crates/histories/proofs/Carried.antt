-- The laws over whole histories, of what the caller's lists tell.
use Rattle.std.proofs.Common.{◌≡◌, List, length, ap, arith, subst, sym, inl, inr}
use Rattle.std.proofs.lemmas.Option.{slice_get_within}
use Rattle.protocol.specs.Parts.{ones_of}
use Rattle.chips.specs.Fitting.{Fitting}
use Rattle.chips.specs.Pins.{Pins, facts_of}
use Rattle.wire.specs.Places.{width_on}
use Rattle.histories.specs.declared.call.Call.{Call}
use Rattle.histories.specs.Book.{book_after, book_of}
use Rattle.histories.specs.Events.{Event, events_on, cells_in}
use Rattle.histories.specs.Busy.{WhenBusy}
use Rattle.histories.specs.Laws.{Truthful, Believed, Alike}
use Rattle.histories.proofs.Handed.{Tells}
use Rattle.histories.proofs.Busy.{when_busy}
use Rattle.histories.proofs.Truth.{words_are_last_accepted, book_is_believed}
use Rattle.histories.proofs.Agreement.{chips_alike_answer_alike}

module _ (calls : List Call) (p p' : Pins) (es : List Event) (told : Tells calls p p' es) (fits : Fitting p) where
  pub truthful : Truthful (ones_of (width_on p)) es
  truthful =
      elim told [
        | inl e ↦ subst (λ es. Truthful (ones_of (width_on p)) es) (sym e.0) (words_are_last_accepted calls p fits)
        | inr e ↦ λ i k x word at in_words. absurd (omega (arith, slice_get_within es i x at, ap length e))
      ]

  pub believed : Believed (book_of (ones_of (width_on p)) es) (cells_in p')
  unfolding book_after
  believed =
      elim told [
        | inl e ↦ rw (e.0, e.1) (book_is_believed calls p fits)
        | inr e ↦ rw e tt
      ]

  pub busy : WhenBusy calls p es
  busy =
      elim told [
        | inl e ↦ subst (λ es. WhenBusy calls p es) (sym e.0) (when_busy calls p fits)
        | inr e ↦ λ i x at. absurd (omega (arith, slice_get_within es i x at, ap length e))
      ]

  pub alike : (q q' : Pins) (fs : List Event) → Tells calls q q' fs → Fitting q → facts_of p ≡ facts_of q → Alike es fs
  alike q q' fs other other_fits same =
      elim told [
        | inl e ↦
            elim other [
              | inl f ↦
                  subst (λ es. Alike es fs) (sym e.0)
                  (subst (λ fs. Alike (events_on calls p) fs) (sym f.0) (chips_alike_answer_alike calls p q fits other_fits same))
              | inr f ↦ λ _ i x y at at_other _. absurd (omega (arith, slice_get_within fs i y at_other, ap length f))
            ]
        | inr e ↦ λ _ i x y at at_other _. absurd (omega (arith, slice_get_within es i x at, ap length e))
      ]
