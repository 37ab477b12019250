-- The pin meaning of a chip: a machine whose ORG and PE are tied to a level, or a blank, which does nothing.
use Rattle.std.specs.Prelude.{ℕ, Bool, true, cond, if◌then◌else◌}
use Rattle.protocol.specs.declared.parts.Part.{Part}
use Rattle.protocol.specs.declared.parts.Part.TheVariants.{C46, C56, C66, C76, C86}
use Rattle.protocol.specs.declared.sample.Sample.{Sample}
use Rattle.protocol.specs.declared.settings.Edition.{Edition}
use Rattle.protocol.specs.declared.settings.Edition.TheVariants.{Fall, Clock}
use Rattle.protocol.specs.declared.settings.Setup.{Setup}
use Rattle.protocol.specs.Parts.{row_of}
use Rattle.protocol.specs.Samples.{bit_of}
use Rattle.chips.specs.Levels.{high_impedance}
use Rattle.chips.specs.Machine.{Machine, step}

pub record Pins : Type 0 where
  pub blank : Bool
  pub machine : Machine
  pub org : Bool
  pub pe : Bool

-- the levels that a driver sets
pub record Put : Type 0 where
  pub cs : Bool
  pub sk : Bool
  pub di : Bool

abbrev pub put : Bool → Bool → Bool → Put
put cs sk di = record { cs = cs; sk = sk; di = di }

abbrev pub sample_of : Pins → Put → Sample
sample_of p x = record { cs = x.cs; sk = x.sk; di = x.di; org = p.org; pe = p.pe }

-- One sample.
unfoldable pub put_on : Pins → Put → Pins
put_on p x = record { blank = p.blank; machine = cond p.blank p.machine (step p.machine (sample_of p x)); org = p.org; pe = p.pe }

-- a blank has some setup, which nothing tells
abbrev pub blank_setup : Setup
blank_setup = record { part = C46; edition = Fall; cycles = record { write = 0; eral = 0; wrall = 0 } }

-- DO, which a blank never drives
abbrev pub do_of : Pins → ℕ
do_of p = if p.blank then high_impedance else p.machine.out

-- The levels that count: the 46 has ORG high and the fall edition PE high, whatever the straps.
abbrev pub org_at : Part → Bool → Bool
org_at C46 org = true
org_at C56 org = org
org_at C66 org = org
org_at C76 org = org
org_at C86 org = org

abbrev pub pe_at : Edition → Bool → Bool
pe_at Fall pe = true
pe_at Clock pe = pe

unfoldable pub org_on : Pins → Bool
org_on p = org_at p.machine.setup.part p.org

unfoldable pub pe_on : Pins → Bool
pe_on p = pe_at p.machine.setup.edition p.pe

-- The facts: the number of the part, the level of ORG, the level of PE; all 0 of a blank.
abbrev pub facts_of : Pins → ℕ × ℕ × ℕ
facts_of p = cond p.blank (0, 0, 0) ((row_of p.machine.setup.part).number, bit_of (org_on p), bit_of (pe_on p))
