-- The figures, by computation and by the laws of the wire.
use Rattle.std.proofs.Common.{◌≡◌, ℕ, zero, suc, ◌<◌, Bool, true, false, cond, List, [], ◌∷◌, length, Ok, refl, ap, ◌∙◌, arith, lit<}
use Rattle.std.proofs.lemmas.Grind.{common_steps}
use Rattle.protocol.specs.declared.instruction.Instruction.TheVariants as instruction
use Rattle.protocol.specs.declared.parts.Part.TheVariants.{C86}
use Rattle.protocol.specs.declared.parts.Width.TheVariants.{Eight, Sixteen}
use Rattle.protocol.specs.Parts.{bits_of, cells_of, field_of}
use Rattle.chips.specs.Control.{turn, appended}
use Rattle.chips.specs.Fitting.{Fits}
use Rattle.chips.specs.Machine.{cell_value, set_cell}
use Rattle.chips.specs.Pins.{Pins, Put, put_on}
use Rattle.wire.specs.Frames.{selected, clocks, frame_of}
use Rattle.wire.specs.Hearing.{words_heard, cells_from}
use Rattle.wire.specs.Places.{width_on, resting, Ready, Sendable}
use Rattle.wire.specs.Polling.{shows_busy, tries, ready_in, polls, is_ready}
use Rattle.wire.specs.Runs.{run}
use Rattle.wire.proofs.Carrying.{read_opens_cell}
use Rattle.wire.proofs.Hears.{read_answers_cells}
use Rattle.wire.proofs.Polls.{poll_all, poll_ready_iff, poll_rests}
use Rattle.wire.proofs.Tells.{told-pins}
use Rattle.driver.specs.Calls.{words_on, begun, sent_frame, fetched, as_done, filled_by}
use Rattle.driver.specs.Checks.{Checked, admitted}
use Rattle.driver.specs.Outcome.{State, Outcome, outcome, bind, sent}
use Rattle.traces.specs.Entries.{entries_from}
use Rattle.figures.specs.Figures.{IsReady86, word_in, Figures}

last_cells : (bytes : List ℕ) → cells_from C86 Sixteen bytes 2 1023 ≡ cell_value Sixteen bytes 1023 ∷ cell_value Sixteen bytes 0 ∷ []
unfolding cells_from cells_of
last_cells bytes = refl

-- the words of a ready chip from cell 1023 on
words_on_last : (p : Pins) → Ready p → Fits p → p.machine.setup.part ≡ C86 → width_on p ≡ Sixteen →
    words_on p 1023 2 ≡ cell_value Sixteen p.machine.bytes 1023 ∷ cell_value Sixteen p.machine.bytes 0 ∷ []
unfolding run field_of cells_of cells_from
words_on_last p r f part width =
    let s : Sendable p 1023 0 = record { in_field = rw (width, part) (lit< tt); in_width = rw width (lit< tt) } in
    ap (words_heard (bits_of (width_on p)) 2) (read_opens_cell p 1023 [] r s) ∙ read_answers_cells p 1023 2 r f ∙ rw (width, part)

module _ {V : Type 0} (next : V → Pins → Put → V) (s : State V) (h : IsReady86 s) where
  abbrev p : Pins
  p = s.chip.pins

  -- polling leaves a ready chip as it was
  polled_chip : (sent next (polls p) s).chip.pins ≡ resting p 0
  polled_chip = told-pins next s.chip (polls p) ∙ poll_rests p h.ready.rest ∙ rw h.ready.none

  seen_ready : is_ready p ≡ true
  seen_ready = poll_ready_iff p h.ready.rest ∙ rw h.ready.none

  let_through : admitted p s.greeted (instruction.Read 1023 2) ≡ Ok tt
  unfolding cells_of
  let_through = rw (h.ready.rest.live, h.width, h.part, h.greeted)

  begun_done : (check : Checked) → check ≡ Ok tt → begun next check s ≡ outcome (Ok tt) (sent next (polls p) s)
  begun_done check e = rw (e, seen_ready)

  last_fetched : (fetched next 1023 2 s).answer ≡ Ok (word_in s 1023 ∷ word_in s 0 ∷ [])
  last_fetched =
      let q : Ready (resting p 0) = record { rest = record { live = h.ready.rest.live; low = refl; waiting = refl; dark = refl }; none = refl } in
      let f : Fits (resting p 0) = record { offered = h.fits.offered; size = h.fits.size; bytes = h.fits.bytes } in
      let finish = λ (_ : Unit {0}) (s₁ : State V). outcome (Ok (words_on s₁.chip.pins 1023 2)) (sent_frame next (instruction.Read 1023 2) s₁) in
      ap (λ (o : Outcome V (Unit {0})). (bind o finish).answer) (begun_done _ let_through)
      ∙ ap (λ (x : Pins). Ok (words_on x 1023 2)) polled_chip ∙ ap Ok (words_on_last (resting p 0) q f h.part h.width)

-- a chip that one try fewer does not find ready takes every try
every_try : (n : ℕ) (p : Pins) → ready_in n p ≡ false → length (tries (suc n) p) ≡ suc n
unfolding tries ready_in
every_try zero p h = first (shows_busy p)
  where
    first : (busy : Bool) → suc (length {A = Put} (cond busy [] [])) ≡ 1
    first true = refl
    first false = refl
every_try (suc n) p h = next (shows_busy p) h (every_try n (put_on p selected))
  where
    q : Pins
    q = put_on p selected

    next : (busy : Bool) → cond busy (ready_in n q) true ≡ false → (ready_in n q ≡ false → length (tries (suc n) q) ≡ suc n) →
        suc (length (cond busy (tries (suc n) q) [])) ≡ suc (suc n)
    next true f more = ap suc (more f)
    next false f more = absurd (let z : ◌≡◌ {A = ℕ} 0 1 = cc in omega arith)

low_byte : (bytes : List ℕ) → 1 < length bytes → cell_value Eight (set_cell Sixteen 0 0x1234 bytes) 1 ≡ 0x34
low_byte bytes h = grind (arith, common_steps)

module _ {V : Type 0} (next : V → Pins → Put → V) where
  pub figures : Figures next
  unfolding frame_of clocks field_of cells_of entries_from run put_on turn appended
  figures =
      record {
        wen_frame = refl;
        write_46_clocks = λ address value. refl;
        write_46_samples = λ address value. refl;
        write_86_clocks = λ address value. refl;
        write_86_samples = λ address value. refl;
        field_130 = refl;
        data_17_fall = refl;
        data_17_clock = refl;
        last_cells = last_cells;
        last_run = λ s h. ap as_done (last_fetched next s h);
        last_words = λ s first second h. ap (λ r. filled_by r (first ∷ second ∷ [])) (last_fetched next s h);
        write_begins_fall = λ bytes. record { rest = record { live = refl; low = refl; waiting = refl; dark = refl }; left = refl };
        write_begins_clock = λ bytes. record { live = refl; high = refl; over = refl; lit = refl; left = refl };
        cycle_fall = λ p b. simp (b.rest.live, b.rest.low, b.rest.waiting, b.rest.dark, b.left);
        cycle_clock = λ p b. simp (b.live, b.high, b.over, b.lit, b.left);
        cycle_fall_late = λ p b. simp (b.rest.live, b.rest.low, b.rest.waiting, b.rest.dark, b.left);
        cycle_clock_late = λ p b. simp (b.live, b.high, b.over, b.lit, b.left);
        left_4096_done = λ s h. simp (h.rest.live, h.greeted, poll_ready_iff s.chip.pins h.rest, h.left);
        left_4096_ready = λ p r e. poll_ready_iff p r ∙ rw e;
        left_4096_before = λ p r e. ap (λ (w : Pins × Bool). w.1) (poll_all p r 4094) ∙ rw e;
        left_4096_tries = λ p r e. every_try 4095 p (ap (λ (w : Pins × Bool). w.1) (poll_all p r 4094) ∙ rw e);
        left_4097_busy = λ s h. simp (h.rest.live, h.greeted, poll_ready_iff s.chip.pins h.rest, h.left);
        low_byte = low_byte;
      }
