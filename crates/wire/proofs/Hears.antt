-- What the zero bits of a READ bring out: its cells, one after another.
use Rattle.std.proofs.Common.{◌≡◌, ℕ, zero, suc, ◌+◌, ◌-◌, ◌*◌, ◌/◌, ◌%◌, ◌^◌, ◌<◌, ◌≤◌, Bool, true, false, cond, ltb, List, [], ◌∷◌, sym, refl, ap, ◌∙◌, suc-add, pow-suc, zero-add, zero-mul, div-one, add-one, arith, lit<}
use native.Mathlib.Nat.{div-eq_of_lt, zero-div}
use Rattle.std.proofs.lemmas.Nat.{shr-shr}
use Rattle.std.proofs.lemmas.Bool.Decides.{nat_tests}
use Rattle.protocol.specs.declared.parts.Width.{Width}
use Rattle.protocol.specs.Parts.{bits_of, cells_of}
use Rattle.chips.specs.declared.state.Decision.TheVariants.{Nothing, Data}
use Rattle.chips.specs.declared.state.Phase.{Phase}
use Rattle.chips.specs.declared.state.Phase.TheVariants.{Reading}
use Rattle.chips.specs.Control.{turn}
use Rattle.chips.specs.Fitting.{are_bytes}
use Rattle.chips.specs.Machine.{cell_value, data_bit}
use Rattle.chips.specs.Pins.{Pins, put, put_on, do_of}
use Rattle.wire.specs.Frames.{selected, bit_at, ending, clocks}
use Rattle.wire.specs.Runs.{run}
use Rattle.wire.specs.Hearing.{zero_bit, level_of, heard, after_bits, words_heard, cells_from}
use Rattle.wire.specs.Places.{width_on, placed, resting, reading}
use Rattle.wire.specs.Deciding.{Note, notes}
use Rattle.wire.specs.Laws.{HeardIsRun, WordsHeardMore, ReadAnswersCells, ReadRests}
use Rattle.wire.proofs.Cells.{some_bits, cell_below}
use Rattle.wire.proofs.Going.{act, goes, go}

-- a bit of 0 is 0
pub bit_at_zero : (n : ℕ) → bit_at 0 n ≡ false
bit_at_zero n = rw zero-div

pub heard_is_run : HeardIsRun
unfolding run clocks after_bits
heard_is_run p zero after = refl
heard_is_run p (suc n) after = rw (bit_at_zero n) (heard_is_run (zero_bit p) n after)

-- bits in a row
pub after_add : (p : Pins) (m n : ℕ) → after_bits (m + n) p ≡ after_bits n (after_bits m p)
unfolding after_bits
after_add p zero n = ap (λ k. after_bits k p) (zero-add n)
after_add p (suc m) n = ap (λ k. after_bits k p) (suc-add m n) ∙ after_add (zero_bit p) m n

pub words_heard-more : WordsHeardMore
unfolding words_heard after_bits
words_heard-more p bits zero = rw zero-mul
words_heard-more p bits (suc n) =
    let e : suc n * bits ≡ bits + n * bits = omega arith in
    rw (suc-add, e, after_add p bits (n * bits)) (ap (λ ws. heard bits 0 p ∷ ws) (words_heard-more (after_bits bits p) bits n))

-- one bit more
pub heard-more : (p : Pins) (n bits : ℕ) → heard (n + 1) bits p ≡ 2 * heard n bits p + level_of (do_of (after_bits (n + 1) p))
unfolding heard after_bits
heard-more p zero bits = refl
heard-more p (suc n) bits = rw suc-add (heard-more (zero_bit p) n (2 * bits + level_of (do_of (zero_bit p))))

-- n bits are a number below 2 ^ n
pub heard_below : (p : Pins) (n : ℕ) → heard n 0 p < 2 ^ n
unfolding heard
heard_below p zero = lit< tt
heard_below p (suc n) =
    let e : heard (suc n) 0 p ≡ 2 * heard n 0 p + level_of (do_of (after_bits (n + 1) p)) = ap (λ k. heard k 0 p) (sym (add-one n)) ∙ heard-more p n 0 in
    let l : level_of (do_of (after_bits (n + 1) p)) ≤ 1 = grind (arith, nat_tests) in
    omega (arith, heard_below p n, pow-suc 2 n)

-- a number by its last bit and those before
last_bit : (y : ℕ) → 2 * (y / 2) + level_of (y % 2) ≡ y
last_bit y = grind (arith, nat_tests)

pub join : (x j : ℕ) → 2 * (x / 2 ^ suc j) + level_of (x / 2 ^ j % 2) ≡ x / 2 ^ j
join x j =
    let e : x / 2 ^ suc j ≡ x / 2 ^ j / 2 = ap (λ k. x / 2 ^ k) (sym (add-one j)) ∙ sym (shr-shr x j 1) in
    ap (λ y. 2 * y + level_of (x / 2 ^ j % 2)) e ∙ last_bit (x / 2 ^ j)

-- n zero bits: what is heard, and the chip after them
abbrev hears : ℕ → ℕ → Pins → ℕ × Pins
hears n bits p = (heard n bits p, after_bits n p)

hears-more : (n bits d : ℕ) (p q : Pins) → zero_bit p ≡ q → do_of q ≡ d → hears (suc n) bits p ≡ hears n (2 * bits + level_of d) q
unfolding heard after_bits
hears-more n bits d p q e o = ap (λ x. hears n (2 * bits + level_of (do_of x)) x) e ∙ ap (λ x. hears n (2 * bits + level_of x) q) o

module _ (p : Pins) (live : p.blank ≡ false) where
  -- in the middle of a READ
  abbrev at : Phase → ℕ → Pins
  at phase out =
      placed p (record { enabled = p.machine.state.enabled; left = 0; status = false; cs = true; sk = true; phase = phase }) p.machine.bytes out

  -- the same, with SK low
  abbrev low : Phase → ℕ → Pins
  low phase out =
      placed p (record { enabled = p.machine.state.enabled; left = 0; status = false; cs = true; sk = false; phase = phase }) p.machine.bytes out

  module _ (width : Width) where
    abbrev cell_next : ℕ → ℕ → ℕ
    cell_next cell next = cond (ltb (next + 1) (bits_of width)) cell ((cell + 1) % cells_of p.machine.setup.part width)

    abbrev bit_next : ℕ → ℕ
    bit_next next = cond (ltb (next + 1) (bits_of width)) (next + 1) 0

    abbrev word : ℕ → ℕ
    word cell = cell_value width p.machine.bytes cell

    one_of : (b : Bool) (i j k l : ℕ) → cond b (Reading width i j) (Reading width k l) ≡ Reading width (cond b i k) (cond b j l)
    one_of true i j k l = refl
    one_of false i j k l = refl

    -- one zero bit
    bit_on : (cell next out : ℕ) →
        zero_bit (at (Reading width cell next) out) ≡ at (Reading width (cell_next cell next) (bit_next next)) (data_bit width (word cell) next)
    unfolding put_on turn
    bit_on cell next out = simp (live, one_of)

    -- its two samples: only the second decides, and no more than that a bit goes out
    bit_low : (cell next out : ℕ) → act (at (Reading width cell next) out) selected ≡ (low (Reading width cell next) out, Nothing)
    unfolding put_on turn
    bit_low cell next out = simp live

    bit_high : (cell next out : ℕ) →
        act (low (Reading width cell next) out) (put true true false)
        ≡ (at (Reading width (cell_next cell next) (bit_next next)) (data_bit width (word cell) next), Data width cell next)
    unfolding put_on turn
    bit_high cell next out = simp (live, one_of)

    -- the frame ends after any number of bits, and nothing is noted
    reading_ends : (cell next out place : ℕ) → goes place (at (Reading width cell next) out) ending ≡ (resting p 0, [])
    unfolding run notes put_on turn
    reading_ends cell next out place = simp live

    pub zeros_end : (n cell next out place : ℕ) → goes place (at (Reading width cell next) out) (clocks n 0 ending) ≡ (resting p 0, [])
    unfolding clocks
    zeros_end zero cell next out place = reading_ends cell next out place
    zeros_end (suc n) cell next out place =
        rw (bit_at_zero n)
        (go place _ _ _ _ (bit_low cell next out) ∙ go (suc place) _ _ _ _ (bit_high cell next out) ∙ zeros_end n _ _ _ (suc (suc place)))

    -- one bit of a cell, with j to follow
    cell_bit : (j cell out : ℕ) → j < bits_of width →
        let next = bits_of width - suc j in
        hears (suc j) (word cell / 2 ^ suc j) (at (Reading width cell next) out)
        ≡ hears j (word cell / 2 ^ j) (at (Reading width (cell_next cell next) (bit_next next)) (word cell / 2 ^ j % 2))
    cell_bit j cell out h =
        let next = bits_of width - suc j in
        let k : bits_of width - 1 - next ≡ j = omega arith in
        let d : data_bit width (word cell) next ≡ word cell / 2 ^ j % 2 = rw k in
        let q = at (Reading width (cell_next cell next) (bit_next next)) (word cell / 2 ^ j % 2) in
        hears-more j (word cell / 2 ^ suc j) (word cell / 2 ^ j % 2) (at (Reading width cell next) out) q
        (bit_on cell next out ∙ ap (at (Reading width (cell_next cell next) (bit_next next))) d) (simp live)
        ∙ ap (λ v. hears j v q) (join (word cell) j)

    abbrev cell_end : ℕ → ℕ × Pins
    cell_end cell = (word cell, at (Reading width ((cell + 1) % cells_of p.machine.setup.part width) 0) (word cell % 2))

    -- the last j + 1 bits of a cell
    cell_rest : (j cell out : ℕ) → j < bits_of width →
        hears (suc j) (word cell / 2 ^ suc j) (at (Reading width cell (bits_of width - suc j)) out) ≡ cell_end cell
    unfolding heard after_bits
    cell_rest zero cell out h =
        let t : ltb (bits_of width - 1 + 1) (bits_of width) ≡ false = grind (arith, nat_tests) in cell_bit 0 cell out h ∙ simp (t, div-one)
    cell_rest (suc j) cell out h =
        let t : ltb (bits_of width - suc (suc j) + 1) (bits_of width) ≡ true = grind (arith, nat_tests) in
        let n : bits_of width - suc (suc j) + 1 ≡ bits_of width - suc j = omega arith in
        cell_bit (suc j) cell out h ∙ rw (t, n) (cell_rest j cell (word cell / 2 ^ suc j % 2) (omega arith))

    -- a whole cell
    cell_heard : (cell out : ℕ) → word cell < 2 ^ bits_of width → hears (bits_of width) 0 (at (Reading width cell 0) out) ≡ cell_end cell
    cell_heard cell out h =
        let e : bits_of width - bits_of width ≡ 0 = omega arith in
        let s : suc (bits_of width - 1) ≡ bits_of width = omega (arith, some_bits width) in
        simp (e, s, div-eq_of_lt h) at (cell_rest (bits_of width - 1) cell out (omega (arith, some_bits width)))

    -- words from a cell on are the cells, wrapping
    pub words_are_cells : are_bytes p.machine.bytes ≡ true → (n cell out : ℕ) →
        words_heard (bits_of width) n (at (Reading width cell 0) out) ≡ cells_from p.machine.setup.part width p.machine.bytes n cell
    unfolding words_heard cells_from
    words_are_cells b zero cell out = refl
    words_are_cells b (suc n) cell out =
        ap (λ (w : ℕ × Pins). w.0 ∷ words_heard (bits_of width) n w.1) (cell_heard cell out (cell_below width p.machine.bytes cell b))
        ∙ ap (λ ws. word cell ∷ ws) (words_are_cells b n _ _)

pub read_answers_cells : ReadAnswersCells
read_answers_cells p address n ready fits = words_are_cells p ready.rest.live (width_on p) fits.bytes n _ 0

pub read_rests : ReadRests
read_rests p address n ready =
    sym (heard_is_run (reading p address) n ending) ∙ ap (λ (x : Pins × List Note). x.0) (zeros_end p ready.rest.live (width_on p) n _ 0 0 0)
