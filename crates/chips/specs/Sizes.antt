-- The size of a model's memory.
use Rattle.std.specs.Prelude.{ℕ, Some, None, Option}
use Rattle.protocol.specs.Parts.{bytes_of}
use Rattle.chips.specs.declared.live.Live.{Live}

-- A chip has its part's, a blank any size.
abbrev pub size_of : Option Live → ℕ → ℕ
size_of (Some live) size = bytes_of live.control.setup.part
size_of None size = size
