-- What is seen of a writer: whose list it has, whose slice that list has, the bytes in it, and the free places.
use Rattle.std.specs.Prelude.{ℕ, true, List, [], ◌∷◌, ◌++◌}
use Rattle.protocol.specs.declared.list.List.{List as Held}
use Rattle.protocol.specs.declared.sample.Straps.{Straps}
use Rattle.protocol.specs.Lists.{items, free}
use Rattle.chips.specs.Machine.{fresh_machine}
use Rattle.chips.specs.Pins.{Pins, Put, blank_setup}
use Rattle.frame_writer.specs.Written.{byte_of}

pub record Kept : Type 0 where
  pub lender : ℕ
  pub slice : ℕ
  pub bytes : List ℕ
  pub places : List ℕ

abbrev pub kept : ℕ → Held ℕ → Kept
kept lender l = record { lender = lender; slice = l.slice.ghost_name; bytes = items l; places = free l }

-- one byte more, if there is a place for it
abbrev pub keep_byte : Kept → ℕ → List ℕ → Kept
keep_byte v byte [] = v
keep_byte v byte (_ ∷ places) = record { lender = v.lender; slice = v.slice; bytes = v.bytes ++ (byte ∷ []); places = places }

-- one sample more, at the levels of ORG and PE
abbrev pub keep : Kept → Pins → Put → Kept
keep v p x = keep_byte v (byte_of p.org p.pe x) v.places

-- a blank at these levels
abbrev pub blank_at : Straps → Pins
blank_at straps = record { blank = true; machine = fresh_machine blank_setup []; org = straps.org; pe = straps.pe }
