-- As many bytes as samples.
use Rattle.std.proofs.Common.{◌≡◌, List, length}
use Rattle.std.proofs.lemmas.List.{length-map}
use Rattle.chips.specs.Pins.{Put}
use Rattle.protocol.specs.declared.sample.Straps.{Straps}
use Rattle.frame_writer.specs.Written.{byte_of, bytes_of}

pub length_bytes : (straps : Straps) (xs : List Put) → length (bytes_of straps.org straps.pe xs) ≡ length xs
length_bytes straps xs = length-map xs (byte_of straps.org straps.pe)
