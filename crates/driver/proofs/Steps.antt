-- One turn of a loop more.
use Rattle.std.proofs.Common.{◌≡◌, ℕ, zero, suc, ◌+◌, ◌-◌, ◌*◌, ◌^◌, ◌<◌, ◌≤◌, true, false, cond, [], ◌∷◌, zero-add, suc-add, arith, pow_mono, refl, ap, ◌∙◌}
use lib.Arith.{le-zero}
use native.Mathlib.Nat.{zero-div}
use Rattle.std.proofs.lemmas.Grind.{pow_more, common_steps}
use Rattle.chips.specs.Pins.{Pins, Put, put_on, do_of}
use Rattle.chips.specs.Seen.{Seen}
use Rattle.wire.specs.Frames.{selected, clock, clocks}
use Rattle.wire.specs.Hearing.{zero_bit, level_of, heard, after_bits, words_heard}
use Rattle.wire.specs.Polling.{shows_busy, tries, ready_in}
use Rattle.wire.specs.Runs.{run}
use Rattle.wire.proofs.Clocking.{no_bits}
use Rattle.wire.proofs.Hears.{bit_at_zero, heard_is_run, words_heard-more}
use Rattle.wire.specs.Sent.{told}
use Rattle.wire.proofs.Tells.{told-clocks, told-pins}

clocks_add : (m n : ℕ) → clocks (m + n) 0 [] ≡ clocks m 0 (clocks n 0 [])
unfolding clocks
clocks_add zero n = rw zero-add
clocks_add (suc m) n = rw (suc-add, bit_at_zero (m + n), bit_at_zero m, clocks_add m n)

one_less : (n i : ℕ) → i < n → n - i ≡ suc (n - (i + 1))
one_less n i h = omega arith

module _ {V : Type 0} (next : V → Pins → Put → V) (x : Seen V) where
  -- after i of n zero bits
  pub one_zero : (n i : ℕ) → i < n → told next x (clocks (n - i) 0 []) ≡ told next (told next x (clock false [])) (clocks (n - (i + 1)) 0 [])
  unfolding told clocks
  one_zero n i h = ap (λ (j : ℕ). told next x (clocks j 0 [])) (one_less n i h) ∙ rw zero-div

  -- after i of n bits of a word, which are v
  pub one_heard : (n i v l : ℕ) {y : Seen V} → i < n → l ≡ level_of (do_of (zero_bit x.pins)) →
      y ≡ told next x (clock false []) → heard (n - i) v x.pins ≡ heard (n - (i + 1)) (2 * v + l) y.pins
  unfolding heard told
  one_heard n i v l h b e = rw (one_less n i h, b, e)

  pub none_heard : (k v : ℕ) → k ≤ 0 → heard k v x.pins ≡ v
  unfolding heard
  none_heard k v h = rw (le-zero h)

  -- after i words
  zeros_add : (m n : ℕ) → told next x (clocks (m + n) 0 []) ≡ told next (told next x (clocks m 0 [])) (clocks n 0 [])
  zeros_add m n = ap (told next x) (clocks_add m n) ∙ told-clocks next x m 0 (clocks n 0 [])

  pub more_zeros : (i bits : ℕ) → told next x (clocks ((i + 1) * bits) 0 []) ≡ told next (told next x (clocks (i * bits) 0 [])) (clocks bits 0 [])
  more_zeros i bits = let e : (i + 1) * bits ≡ i * bits + bits = omega arith in ap (λ n. told next x (clocks n 0 [])) e ∙ zeros_add (i * bits) bits

  pub zeros_pins : (n : ℕ) → (told next x (clocks n 0 [])).pins ≡ after_bits n x.pins
  unfolding run
  zeros_pins n = told-pins next x (clocks n 0 []) ∙ heard_is_run x.pins n []

  -- after i of n tries
  module _ (n i : ℕ) where
    pub one_look : i < n → shows_busy x.pins ≡ true →
        told next x (tries (n - i) x.pins) ≡ told next (told next x (selected ∷ [])) (tries (n - (i + 1)) (put_on x.pins selected))
    unfolding told tries
    one_look h b = rw (one_less n i h, b)

    pub last_look : i < n → shows_busy x.pins ≡ false → told next x (tries (n - i) x.pins) ≡ told next x (selected ∷ [])
    unfolding told tries
    last_look h b = rw (one_less n i h, b)

  pub look_pins : (told next x (selected ∷ [])).pins ≡ put_on x.pins selected
  unfolding told
  look_pins = refl

  pub no_look : (k : ℕ) → k ≤ 0 → told next x (tries k x.pins) ≡ x
  unfolding told tries
  no_look k h = rw (le-zero h)

module _ (p : Pins) where
  pub no_words : (bits : ℕ) → words_heard bits 0 p ≡ []
  unfolding words_heard
  no_words bits = refl

  pub more_ready : (n i : ℕ) → i < n → ready_in (n - i) p ≡ cond (shows_busy p) (ready_in (n - (i + 1)) (put_on p selected)) true
  unfolding ready_in
  more_ready n i h = rw (one_less n i h)

  pub none_ready : (k : ℕ) → k ≤ 0 → ready_in k p ≡ false
  unfolding ready_in
  none_ready k h = rw (le-zero h)

-- i bits of a word, with more to come
pub word_below : (v i : ℕ) → v < 2 ^ i → i < 16 → v < 32768
word_below v i h l = let m : 2 ^ i ≤ 2 ^ 15 = pow_mono {j = 15} (omega arith) in omega arith

pub ruleset looks = (one_look, last_look, look_pins, no_look, more_ready, none_ready)

pub ruleset hears = (no_bits, one_zero, none_heard, word_below, pow_more)

pub ruleset words = (no_bits, no_words, more_zeros, zeros_pins, words_heard-more, common_steps)
