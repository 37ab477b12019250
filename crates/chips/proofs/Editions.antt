-- A chip stays of its edition.
use Rattle.std.proofs.Common.{◌≡◌, ℕ, true, false, List, [], ◌∷◌, Ok, Err, Result, cond, arith, refl, ap, subst, sym, ◌∙◌}
use Rattle.protocol.specs.declared.refusal.Refusal.{Refusal}
use Rattle.protocol.specs.declared.sample.Straps.{Straps}
use Rattle.protocol.specs.declared.settings.Cycles.{Cycles}
use Rattle.protocol.specs.declared.settings.Edition.{Edition}
use Rattle.protocol.specs.declared.settings.Setup.{Setup}
use Rattle.protocol.specs.Samples.{levels}
use Rattle.chips.specs.Machine.{Machine, step, run_on}
use Rattle.chips.specs.Pins.{Pins, Put, put_on, sample_of}
use Rattle.chips.specs.Powered.{OfEdition, powered, settings_in}
use Rattle.chips.specs.Traced.{trace_pins}

put_setup : (p : Pins) (x : Put) → (put_on p x).machine.setup ≡ p.machine.setup
unfolding put_on
put_setup p x = elim p.blank as (λ b. (cond b p.machine (step p.machine (sample_of p x))).setup ≡ p.machine.setup) [ true ↦ refl | false ↦ refl ]

run_on-setup : (m : Machine) (samples : List ℕ) → (run_on m samples).setup ≡ m.setup
unfolding run_on
run_on-setup m [] = refl
run_on-setup m (b ∷ bs) = run_on-setup (step m (levels b)) bs

put_on-edition : (edition : Edition) (p : Pins) (x : Put) → OfEdition edition p → OfEdition edition (put_on p x)
unfolding put_on
put_on-edition edition p x h live = ap (λ (s : Setup). s.edition) (put_setup p x) ∙ h live

pub put_keeps : (edition : Edition) (p q : Pins) (x : Put) → q ≡ put_on p x → OfEdition edition p → OfEdition edition q
put_keeps edition p q x e h = subst (OfEdition edition) (sym e) (put_on-edition edition p x h)

trace_pins-edition : (edition : Edition) (p : Pins) (samples : List ℕ) (r : Result (Unit {0}) Refusal) → OfEdition edition p →
    OfEdition edition (trace_pins r p samples)
trace_pins-edition edition p samples (Ok u) h live = ap (λ (s : Setup). s.edition) (run_on-setup p.machine samples) ∙ h live
trace_pins-edition edition p samples (Err e) h live = h live

pub trace_keeps : (edition : Edition) (p q : Pins) (samples : List ℕ) (r : Result (Unit {0}) Refusal) → q ≡ trace_pins r p samples →
    OfEdition edition p → OfEdition edition q
trace_keeps edition p q samples r e h = subst (OfEdition edition) (sym e) (trace_pins-edition edition p samples r h)

pub powered_is : (edition : Edition) (part : ℕ) (cycles : Cycles) (straps : Straps) (bytes : List ℕ) →
    OfEdition edition (powered (settings_in edition part cycles) straps bytes)
powered_is edition part cycles straps bytes live = grind arith
