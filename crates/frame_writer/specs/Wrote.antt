-- What a writer has written down.
use Rattle.std.specs.Prelude.{◌≡◌, List}
use Rattle.protocol.specs.Lists.{Added}
use Rattle.chips.specs.Pins.{Put}
use Rattle.frame_writer.specs.declared.writer.Writer.{Writer}
use Rattle.frame_writer.specs.Written.{bytes_of}

-- The writer w becomes x, with these samples behind the others: in the same list.
pub record Wrote (w x : Writer) (samples : List Put) : Type 0 where
  pub added : Added w.samples.now (bytes_of w.straps.org w.straps.pe samples) x.samples.now
  pub lender : x.samples.ghost_name ≡ w.samples.ghost_name
