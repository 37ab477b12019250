-- The cells lie within the memory.
use Rattle.std.proofs.Common.{◌*◌, ◌≤◌, arith}
use Rattle.protocol.specs.declared.parts.Part.{Part}
use Rattle.protocol.specs.declared.parts.Width.TheVariants.{Eight, Sixteen}
use Rattle.protocol.specs.Parts.{bytes_of, cells_of}
use Rattle.protocol.proofs.Table.{agreed}

pub within_eight : (part : Part) → cells_of part Eight ≤ bytes_of part
within_eight part = omega (arith, (agreed part Eight).within)

pub within_sixteen : (part : Part) → cells_of part Sixteen * 2 ≤ bytes_of part
within_sixteen part = (agreed part Sixteen).within
