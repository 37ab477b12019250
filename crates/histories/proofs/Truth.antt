-- Every word that a history hands out is what the book then holds for its cell.
use Rattle.std.proofs.Common.{◌≡◌, ℕ, zero, suc, ◌+◌, ◌%◌, ◌<◌, Bool, true, false, cond, List, [], ◌∷◌, length, get_or, slice_get, take, Some, None, Ok, Err, Option, sym, refl, ap, ◌∙◌, inl, inr, arith}
use Rattle.std.proofs.lemmas.Bool.{both_ways, cond_both}
use Rattle.std.proofs.lemmas.Option.{get_or_from_slice_get, slice_get_within}
use Rattle.protocol.specs.declared.instruction.Instruction.TheVariants as instruction
use Rattle.protocol.specs.Parts.{ones_of}
use Rattle.chips.specs.Pins.{Pins}
use Rattle.wire.specs.Places.{width_on}
use Rattle.wire.proofs.Cells.{cells_from-length}
use Rattle.driver.specs.Checks.{Checked, admitted}
use Rattle.driver.specs.Outcome.{state}
use Rattle.histories.specs.declared.call.Call.{Call}
use Rattle.histories.specs.declared.call.Call.TheVariants.{Greet, Settle, Open, Shut, Read, Run, Write, Erase, Fill, Clear}
use Rattle.chips.specs.Fitting.{Fitting}
use Rattle.histories.specs.Events.{Event, Yield, performed, event, events_from, end_from, events_on, end_on, cells_in, unseen, bare_chip}
use Rattle.histories.specs.Book.{is_done, fed, book_after, book_of}
use Rattle.histories.specs.Laws.{reads_from, InBook, Believed, Truthful}
use Rattle.histories.proofs.Cells.{in_cells}
use Rattle.histories.proofs.Checks.{admitted_finds, same_at}
use Rattle.histories.proofs.Effects.{handed_by, KeptBy, Sound, kept, sound_after, sound_new}
use Rattle.histories.proofs.Sending.{Driver, words_in}
use Rattle.histories.proofs.Keeping.{call_later}

abbrev Found : Call → Pins → Bool → ℕ → List ℕ → Type 0
Found x p greeted k words = k < length words → (greeted ≡ true) × InBook (Some (cells_in p)) (reads_from x) k (get_or words k 0)

read_found : (p : Pins) (greeted : Bool) (address count k : ℕ) →
    let words = cond (is_done (admitted p greeted (instruction.Read address count))) (words_in p address count) [] in
    k < length words → (greeted ≡ true) × (slice_get (cells_in p) ((address + k) % length (cells_in p)) ≡ Some (get_or words k 0))
read_found p greeted address count k = by (admitted p greeted (instruction.Read address count)) refl
  where
    by : (c : Checked) → admitted p greeted (instruction.Read address count) ≡ c →
        let words = cond (is_done c) (words_in p address count) [] in
        k < length words → (greeted ≡ true) × (slice_get (cells_in p) ((address + k) % length (cells_in p)) ≡ Some (get_or words k 0))
    by (Err e) h i = absurd (omega arith)
    by (Ok u) h i =
        let f = admitted_finds p greeted (instruction.Read address count) h in (
          f.met,
          in_cells p.machine.setup.part (width_on p) p.machine.bytes count address k f.address
              (omega (arith, cells_from-length p.machine.setup.part (width_on p) p.machine.bytes count address)),
        )

none_found : (x : Call) (p : Pins) (greeted b : Bool) (k : ℕ) → Found x p greeted k (cond b [] [])
none_found x p greeted true k h = absurd (omega arith)
none_found x p greeted false k h = absurd (omega arith)

found : (x : Call) (p : Pins) (greeted opened : Bool) (k : ℕ) → Found x p greeted k (handed_by x p greeted opened)
found Greet p greeted opened k = none_found Greet p greeted _ k
found Settle p greeted opened k = none_found Settle p greeted _ k
found Open p greeted opened k = none_found Open p greeted _ k
found Shut p greeted opened k = none_found Shut p greeted _ k
found (Read address) p greeted opened k = read_found p greeted address 1 k
found (Run address count) p greeted opened k = read_found p greeted address count k
found (Write address value) p greeted opened k = none_found (Write address value) p greeted _ k
found (Erase address) p greeted opened k = none_found (Erase address) p greeted _ k
found (Fill value) p greeted opened k = none_found (Fill value) p greeted _ k
found Clear p greeted opened k = none_found Clear p greeted _ k

-- the book of a driver: none before the first greet that is done, then the cells as they stand
abbrev Suits : Option (List ℕ) → Driver → Type 0
Suits None s = s.greeted ≡ false
Suits (Some book) s = (s.greeted ≡ true) × (book ≡ cells_in s.chip.pins)

suits_first : (s : Driver) → Suits (cond s.greeted (Some (cells_in s.chip.pins)) None) s
suits_first s = cond_both s.greeted (Some (cells_in s.chip.pins)) None (λ b. Suits b s) (λ h. (h, refl)) (λ h. h)

-- one call
module _ (x : Call) (s : Driver) (y : Yield (Unit {0})) (k : KeptBy x s y) where
  words_found : (b : Option (List ℕ)) → Suits b s → (i : ℕ) → i < length y.words → InBook b (reads_from x) i (get_or y.words i 0)
  words_found b suits i h =
      elim k.answer [
        | inl none ↦ absurd (omega (arith, ap length none.1))
        | inr e ↦
            let f = found x s.chip.pins s.greeted s.opened i (rw e.1 at h) in
            rw e.1 (at b suits f.0 _ f.1)
      ]
    where
      at : (b : Option (List ℕ)) → Suits b s → s.greeted ≡ true → (word : ℕ) → InBook (Some (cells_in s.chip.pins)) (reads_from x) i word →
          InBook b (reads_from x) i word
      at None suits g word f = absurd (both_ways s.greeted suits g)
      at (Some book) suits g word f = rw suits.1 f

  book_fed : (b : Option (List ℕ)) → Suits b s → Suits (fed (ones_of (width_on s.chip.pins)) b (event x y)) y.after
  book_fed None suits = rw (k.first suits) (suits_first y.after)
  book_fed (Some book) suits = (rw (k.greeted, suits.0) (grind arith), rw suits.1 (sym (k.cells suits.0)))

truthful : (xs : List Call) (b : Option (List ℕ)) (s : Driver) (ones : ℕ) → ones ≡ ones_of (width_on s.chip.pins) → Sound s → Suits b s →
    (d : Event) (i k : ℕ) → let es = events_from unseen xs s in
    i < length es → k < length (get_or es i d).words →
    InBook (book_after ones b (take i es)) (reads_from (get_or es i d).call) k (get_or (get_or es i d).words k 0)
unfolding events_from book_after
truthful [] b s ones o sound suits d i k h l = absurd (omega arith)
truthful (x ∷ xs) b s ones o sound suits d zero k h l = words_found x s (performed unseen x s) (kept s sound x) b suits k l
truthful (x ∷ xs) b s ones o sound suits d (suc i) k h l =
    let y = performed unseen x s in
    let same = same_at (λ _ width. ones_of width) _ _ (call_later unseen x s sound.fitting).facts in
    truthful xs (fed ones b (event x y)) y.after ones (o ∙ same) (sound_after s sound x) (rw o (book_fed x s y (kept s sound x) b suits)) d i k
    (omega arith) l

suits_end : (xs : List Call) (b : Option (List ℕ)) (s : Driver) (ones : ℕ) → ones ≡ ones_of (width_on s.chip.pins) → Sound s → Suits b s →
    Suits (book_after ones b (events_from unseen xs s)) (end_from unseen xs s)
unfolding events_from end_from book_after
suits_end [] b s ones o sound suits = suits
suits_end (x ∷ xs) b s ones o sound suits =
    let y = performed unseen x s in
    let same = same_at (λ _ width. ones_of width) _ _ (call_later unseen x s sound.fitting).facts in
    suits_end xs (fed ones b (event x y)) y.after ones (o ∙ same) (sound_after s sound x) (rw o (book_fed x s y (kept s sound x) b suits))

believed_by : (b : Option (List ℕ)) (s : Driver) → Suits b s → Believed b (cells_in s.chip.pins)
believed_by None s suits = tt
believed_by (Some book) s suits = suits.1

-- in the end the book is what the cells of the chip hold
pub book_is_believed : (xs : List Call) (p : Pins) → Fitting p → Believed (book_of (ones_of (width_on p)) (events_on xs p)) (cells_in (end_on xs p))
book_is_believed xs p fitting =
    let s = state false false (bare_chip p) in
    believed_by _ (end_from unseen xs s) (suits_end xs None s (ones_of (width_on p)) refl (sound_new p fitting) refl)

pub words_are_last_accepted : (xs : List Call) (p : Pins) → Fitting p → Truthful (ones_of (width_on p)) (events_on xs p)
words_are_last_accepted xs p fitting i k e word at in_words =
    let es = events_from unseen xs (state false false (bare_chip p)) in
    let found : get_or es i e ≡ e = get_or_from_slice_get es i e e at in
    let is : get_or e.words k 0 ≡ word = get_or_from_slice_get e.words k word 0 in_words in
    rw (← is)
    (rw found at
    (truthful xs None (state false false (bare_chip p)) (ones_of (width_on p)) refl (sound_new p fitting) refl e i k (slice_get_within es i e at)
    (rw found (slice_get_within e.words k word in_words))))
