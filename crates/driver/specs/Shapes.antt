-- What the facts of a chip say: its part at the width in force and PE, where it is no blank.
use Rattle.std.specs.Prelude.{Bool, cond, Ok, Err, Result}
use Rattle.std.specs.Result.{result_and}
use Rattle.protocol.specs.declared.parts.Organisation.{Organisation}
use Rattle.protocol.specs.declared.refusal.Cause.TheVariants.{BlankChip}
use Rattle.protocol.specs.declared.refusal.Refusal.{Refusal}
use Rattle.protocol.specs.Inputs.{Checked}
use Rattle.protocol.specs.Parts.{organisation}
use Rattle.protocol.specs.Refusals.{refusal}
use Rattle.chips.specs.Pins.{Pins, pe_on}
use Rattle.wire.specs.Places.{width_on}

abbrev pub organisation_on : Pins → Organisation
organisation_on p = organisation p.machine.setup.part (width_on p)

abbrev pub shape_on : Pins → Result (Organisation × Bool) Refusal
shape_on p = cond p.blank (Err (refusal BlankChip 0)) (Ok (organisation_on p, pe_on p))

-- what a check lets through may be sent to this organisation
abbrev pub let_through : Pins → Checked → Result Organisation Refusal
let_through p check = result_and check (Ok (organisation_on p))
