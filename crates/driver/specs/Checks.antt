-- What a call is refused for before anything is sent, in the order of judging.
use Rattle.std.specs.Prelude.{ℕ, Bool, cond, Ok, Err}
use Rattle.protocol.specs.declared.instruction.Instruction.{Instruction}
use Rattle.protocol.specs.declared.refusal.Cause.TheVariants.{BlankChip, NotGreeted, Shut, Protected}
use Rattle.protocol.specs.Inputs.{inputs as inputs_at}
pub use Rattle.protocol.specs.Inputs.{Checked}
use Rattle.protocol.specs.Parts.{cells_of}
use Rattle.protocol.specs.Refusals.{refusal}
use Rattle.chips.specs.Pins.{Pins, pe_on}
use Rattle.wire.specs.Places.{width_on}

abbrev pub cells_on : Pins → ℕ
cells_on p = cells_of p.machine.setup.part (width_on p)

-- 10, then 1, 2 and 3, then 11, 12 and 13: each lets the rest of the checks be made
abbrev pub not_blank : Pins → Checked → Checked
not_blank p rest = cond p.blank (Err (refusal BlankChip 0)) rest

abbrev pub inputs : Pins → Instruction → Checked → Checked
inputs p i rest = inputs_at p.machine.setup.part (width_on p) i rest

abbrev pub is_greeted : Bool → Checked → Checked
is_greeted greeted rest = cond greeted rest (Err (refusal NotGreeted 0))

abbrev pub is_open : Bool → Checked → Checked
is_open opened rest = cond opened rest (Err (refusal Shut 0))

abbrev pub unprotected : Pins → Checked → Checked
unprotected p rest = cond (pe_on p) rest (Err (refusal Protected 0))

-- greet
abbrev pub greetable : Pins → Checked
greetable p = not_blank p (Ok tt)

-- a call that changes no cell: settle, open, shut, read and run
abbrev pub admitted : Pins → Bool → Instruction → Checked
admitted p greeted i = not_blank p (inputs p i (is_greeted greeted (Ok tt)))

-- write, erase, fill and clear
abbrev pub changeable : Pins → Bool → Bool → Instruction → Checked
changeable p greeted opened i = not_blank p (inputs p i (is_greeted greeted (is_open opened (unprotected p (Ok tt)))))
