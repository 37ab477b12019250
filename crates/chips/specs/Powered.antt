-- A chip at power-up, over a memory.
use Rattle.std.specs.Prelude.{◌≡◌, ℕ, true, false, cond, List, length, Ok, Err, Result, ◌==◌}
use Rattle.protocol.specs.declared.refusal.Cause.TheVariants.{MemorySize}
use Rattle.protocol.specs.declared.refusal.Refusal.{Refusal}
use Rattle.protocol.specs.declared.sample.Straps.{Straps}
use Rattle.protocol.specs.declared.settings.Cycles.{Cycles}
use Rattle.protocol.specs.declared.settings.Edition.{Edition}
use Rattle.protocol.specs.declared.settings.Edition.TheVariants.{Fall, Clock}
use Rattle.protocol.specs.declared.settings.Settings.{Settings}
use Rattle.protocol.specs.declared.settings.Setup.{Setup}
use Rattle.protocol.specs.Chosen.{setup_of}
use Rattle.protocol.specs.Parts.{bytes_of}
use Rattle.protocol.specs.Refusals.{refusal}
use Rattle.chips.specs.Machine.{fresh_machine}
use Rattle.chips.specs.Pins.{Pins, blank_setup, org_at, pe_at}

-- The check: the chip must exist, then the memory must have its size.
abbrev pub sized : Result Setup Refusal → ℕ → Result Setup Refusal
sized (Ok setup) size = cond (size == bytes_of setup.part) (Ok setup) (Err (refusal MemorySize 0))
sized (Err e) size = Err e

abbrev pub fitted : Settings → ℕ → Result Setup Refusal
fitted settings size = sized (setup_of settings) size

abbrev pub live_pins : Setup → Straps → List ℕ → Pins
live_pins setup straps bytes =
    record {
      blank = false;
      machine = fresh_machine setup bytes;
      org = org_at setup.part straps.org;
      pe = pe_at setup.edition straps.pe;
    }

-- A blank tells ORG and PE low.
abbrev pub blank_pins : List ℕ → Pins
blank_pins bytes = record { blank = true; machine = fresh_machine blank_setup bytes; org = false; pe = false }

abbrev pub powered_by : Result Setup Refusal → Straps → List ℕ → Pins
powered_by (Ok setup) straps bytes = live_pins setup straps bytes
powered_by (Err e) straps bytes = blank_pins bytes

-- At power-up; a blank where the check refuses.
abbrev pub powered : Settings → Straps → List ℕ → Pins
powered settings straps bytes = powered_by (fitted settings (length bytes)) straps bytes

abbrev pub edition_number : Edition → ℕ
edition_number Fall = 0
edition_number Clock = 1

-- The model of an edition: it is of no other.
abbrev pub OfEdition : Edition → Pins → Type 0
OfEdition edition p = p.blank ≡ false → p.machine.setup.edition ≡ edition

abbrev pub settings_in : Edition → ℕ → Cycles → Settings
settings_in edition part cycles = record { part = part; edition = edition_number edition; cycles = cycles }
