-- What every chip keeps true of its meaning: part, edition and number of bytes fit the table, and a byte is a byte.
use Rattle.std.specs.Prelude.{◌≡◌, ℕ, Bool, true, false, ◌&&◌, List, [], ◌∷◌, length, nat_lt}
use Rattle.protocol.specs.Chosen.{is_offered}
use Rattle.protocol.specs.Parts.{bytes_of}
use Rattle.chips.specs.Pins.{Pins}

-- bytes are below 256
unfoldable pub are_bytes : List ℕ → Bool
are_bytes [] = true
are_bytes (b ∷ bs) = nat_lt b 256 && are_bytes bs

pub record Fits (p : Pins) : Type 0 where
  pub offered : is_offered p.machine.setup.part p.machine.setup.edition ≡ true
  pub size : length p.machine.bytes ≡ bytes_of p.machine.setup.part
  pub bytes : are_bytes p.machine.bytes ≡ true

-- A blank fits as it is.
abbrev pub Fitting : Pins → Type 0
Fitting p = p.blank ≡ false → Fits p
