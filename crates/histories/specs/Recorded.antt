-- The account of a history: the samples that its calls put on a chip tell what became of the bytes.
use Rattle.std.specs.Prelude.{◌≡◌, ℕ, false, List, map}
use Rattle.protocol.specs.declared.settings.Setup.{Setup}
use Rattle.protocol.specs.Samples.{byte_of}
use Rattle.chips.specs.Machine.{fresh_machine}
use Rattle.chips.specs.Pins.{Pins, Put, sample_of}
use Rattle.traces.specs.Account.{applied_all}
use Rattle.traces.specs.Entries.{entries_of}
use Rattle.histories.specs.declared.call.Call.{Call}
use Rattle.histories.specs.Samples.{samples_from}

-- a sample that is put on a chip, as a byte: with the chip's levels of ORG and PE
abbrev pub byte_on : Pins → Put → ℕ
byte_on p x = byte_of (sample_of p x)

-- the samples that the calls put on a chip, from a new driver on
abbrev pub samples_on : List Call → Pins → List ℕ
samples_on calls p = map (byte_on p) (samples_from calls p)

-- The calls take a chip p at power-up to q: q has the bytes of p, altered by exactly the entries that were carried out, in order, of the
-- samples that the calls put.
abbrev pub BytesAccounted : List Call → Pins → Pins → Type 0
BytesAccounted calls p q = (setup : Setup) (bytes : List ℕ) → p.blank ≡ false → p.machine ≡ fresh_machine setup bytes →
    q.machine.bytes ≡ applied_all setup.part (entries_of setup (samples_on calls p)) bytes
