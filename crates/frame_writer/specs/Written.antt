-- The bytes of a frame, and what writing them to a list does.
use Rattle.std.specs.Prelude.{◌≡◌, ℕ, ◌+◌, ◌*◌, Bool, List, map, Some, None, Ok, Err, Option, Result}
use Rattle.protocol.specs.declared.instruction.Instruction.{Instruction}
use Rattle.protocol.specs.declared.list.List.{List as Held}
use Rattle.protocol.specs.declared.parts.Part.{Part}
use Rattle.protocol.specs.declared.refusal.Cause.TheVariants.{BadSettings}
use Rattle.protocol.specs.declared.refusal.Refusal.{Refusal}
use Rattle.protocol.specs.Inputs.{Checked, inputs}
use Rattle.protocol.specs.Lists.{Adds}
use Rattle.protocol.specs.Parts.{part_numbered, width_by}
use Rattle.protocol.specs.Refusals.{refusal}
use Rattle.protocol.specs.Samples.{bit_of}
use Rattle.chips.specs.Pins.{Put}
use Rattle.wire.specs.Frames.{frame_of}

-- A sample as a byte, at the levels of ORG and PE.
abbrev pub byte_of : Bool → Bool → Put → ℕ
byte_of org pe x = bit_of x.cs + 2 * bit_of x.sk + 4 * bit_of x.di + 8 * bit_of org + 16 * bit_of pe

abbrev pub bytes_of : Bool → Bool → List Put → List ℕ
bytes_of org pe samples = map (byte_of org pe) samples

-- these bytes, if the input is let through
abbrev pub unless_refused : Checked → List ℕ → Result (List ℕ) Refusal
unless_refused (Ok _) bytes = Ok bytes
unless_refused (Err e) bytes = Err e

abbrev pub written_on : Option Part → Bool → Bool → Instruction → Result (List ℕ) Refusal
written_on None org pe i = Err (refusal BadSettings 0)
written_on (Some part) org pe i = unless_refused (inputs part (width_by part org) i (Ok tt)) (bytes_of org pe (frame_of part (width_by part org) i))

-- The bytes of an instruction's frame for a part by its number, or why there are none.
abbrev pub written : ℕ → Bool → Bool → Instruction → Result (List ℕ) Refusal
written number org pe i = written_on (part_numbered number) org pe i

-- The list l becomes m: all bytes are added, or it is as it was.
abbrev pub Writes : Result (List ℕ) Refusal → Held ℕ → Held ℕ → Result (Unit {0}) Refusal → Type 0
Writes (Ok bytes) l m r = Adds l bytes 0 m r
Writes (Err e) l m r = (m ≡ l) × (r ≡ Err e)
