-- What the checks of replay say to the reader and to the model.
use Rattle.std.proofs.Common.{◌≡◌, ℕ, true, false, cond, eqb, ltb, List, length, Ok, Err, Result, sym, ap, ◌∙◌}
use Rattle.protocol.specs.declared.refusal.Cause.TheVariants.{BufferLength}
use Rattle.protocol.specs.declared.refusal.Refusal.{Refusal}
use Rattle.protocol.specs.declared.settings.Settings.{Settings}
use Rattle.protocol.specs.declared.settings.Setup.{Setup}
use Rattle.protocol.specs.Chosen.{setup_of}
use Rattle.protocol.specs.Parts.{bytes_of}
use Rattle.protocol.specs.Refusals.{refusal}
use Rattle.protocol.specs.Samples.{high_at}
use Rattle.protocol.proofs.Passed.{passed_over, passed}
use Rattle.chips.specs.Machine.{fresh_machine, run_on, outs}
use Rattle.chips.specs.Pins.{Pins}
use Rattle.protocol.specs.declared.sample.Straps.{Straps}
use Rattle.chips.specs.Powered.{sized, fitted, live_pins, powered_by, powered}
use Rattle.chips.specs.Traced.{trace_answer, trace_pins, trace_outs}
use Rattle.protocol.specs.declared.list.List.{List as Held}
use Rattle.traces.specs.declared.entry.Entry.{Entry}
use Rattle.traces.specs.Reading.{readable, Listed, WasRead}
use Rattle.traces.specs.Replaying.{replayable, Accounts}
use Rattle.traces.proofs.Accounts.{account}

exists : (r : Result Setup Refusal) (size : ℕ) (setup : Setup) → sized r size ≡ Ok setup → r ≡ Ok setup
exists (Ok s) size setup h = (passed (eqb size (bytes_of s.part)) (Ok s) _ setup (sym h)).1
exists (Err e) size setup h = h

module _ (settings : Settings) (setup : Setup) (memory samples buffer : List ℕ)
    (e : Ok setup ≡ replayable settings (length memory) samples (length buffer)) where
  no_high : (ltb (high_at samples) (length samples) ≡ false)
      × (cond (eqb (length buffer) (length samples)) (fitted settings (length memory)) (Err (refusal BufferLength 0)) ≡ Ok setup)
  no_high = passed_over _ _ _ setup e

  same_length : (eqb (length buffer) (length samples) ≡ true) × (fitted settings (length memory) ≡ Ok setup)
  same_length = passed _ _ _ setup (sym no_high.1)

  pub reads : readable settings samples ≡ Ok setup
  reads = rw no_high.0 (exists (setup_of settings) (length memory) setup same_length.1)

  -- the model p, made for the memory, is q after the trace
  module _ (straps : Straps) (p q : Pins) (r : Result (Unit {0}) Refusal)
      (made : p ≡ powered settings straps memory) (answer : r ≡ trace_answer p samples (length buffer)) where
    lives : p ≡ live_pins setup straps memory
    lives = made ∙ ap (λ (x : Result Setup Refusal). powered_by x straps memory) same_length.1

    answers : trace_answer (live_pins setup straps memory) samples (length buffer) ≡ Ok tt
    answers = rw (no_high.0, same_length.0)

    pub done : r ≡ Ok tt
    done = answer ∙ ap (λ (x : Pins). trace_answer x samples (length buffer)) lives ∙ answers

    pub bytes_are : q ≡ trace_pins r p samples → q.machine.bytes ≡ (run_on (fresh_machine setup memory) samples).bytes
    bytes_are h = rw (h, done, lives)

    pub levels_are : (out : List ℕ) → out ≡ trace_outs r p samples buffer → out ≡ outs (fresh_machine setup memory) samples
    levels_are out h = h ∙ rw (done, lives)

    pub accounts_are : (l m : Held Entry) (bytes : List ℕ) → WasRead settings samples l m (Ok tt) → bytes ≡ q.machine.bytes → q ≡ trace_pins r p samples →
        Accounts (replayable settings (length memory) samples (length buffer)) r l m memory bytes
    accounts_are l m bytes h b t =
        let read : Listed setup samples l m (Ok tt) = rw reads at h in
        rw (← e, done) (b ∙ bytes_are t ∙ account setup samples memory l m tt read)
