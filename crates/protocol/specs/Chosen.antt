-- The chip that settings name, if there is one.
use Rattle.std.specs.Prelude.{ℕ, Bool, true, false, cond, Some, None, Ok, Err, Option, Result, ◌==◌}
use Rattle.protocol.specs.declared.parts.Part.{Part}
use Rattle.protocol.specs.declared.parts.Part.TheVariants.{C46, C56, C66, C76, C86}
use Rattle.protocol.specs.declared.refusal.Cause.TheVariants.{BadSettings}
use Rattle.protocol.specs.declared.refusal.Refusal.{Refusal}
use Rattle.protocol.specs.declared.settings.Edition.{Edition}
use Rattle.protocol.specs.declared.settings.Edition.TheVariants.{Fall, Clock}
use Rattle.protocol.specs.declared.settings.Cycles.{Cycles}
use Rattle.protocol.specs.declared.settings.Settings.{Settings}
use Rattle.protocol.specs.declared.settings.Setup.{Setup}
use Rattle.protocol.specs.Parts.{part_numbered}
use Rattle.protocol.specs.Refusals.{refusal}

-- The fall edition, 0, is made of every part, the clock edition, 1, of the 76 and the 86.
abbrev pub has_clock : Part → Bool
has_clock C46 = false
has_clock C56 = false
has_clock C66 = false
has_clock C76 = true
has_clock C86 = true

abbrev pub is_offered : Part → Edition → Bool
is_offered part Fall = true
is_offered part Clock = has_clock part

abbrev pub edition_of : Part → ℕ → Option Edition
edition_of part number = cond (number == 0) (Some Fall) (cond (number == 1) (cond (has_clock part) (Some Clock) None) None)

abbrev pub unknown : Result Setup Refusal
unknown = Err (refusal BadSettings 0)

abbrev pub in_edition : Part → Option Edition → Cycles → Result Setup Refusal
in_edition part (Some edition) cycles = Ok (record { part = part; edition = edition; cycles = cycles })
in_edition part None cycles = unknown

abbrev pub of_part : Option Part → ℕ → Cycles → Result Setup Refusal
of_part (Some part) edition cycles = in_edition part (edition_of part edition) cycles
of_part None edition cycles = unknown

abbrev pub setup_of : Settings → Result Setup Refusal
setup_of settings = of_part (part_numbered settings.part) settings.edition settings.cycles
