-- What the input of an instruction is refused for, on a part at a width: an address, a value, a number of words.
use Rattle.std.specs.Prelude.{ℕ, cond, ◌||◌, Err, Result, ◌==◌, nat_le, nat_lt}
use Rattle.protocol.specs.declared.instruction.Instruction.{Instruction}
use Rattle.protocol.specs.declared.instruction.Instruction.TheVariants.{Read, Write, Erase, Wen, Wds, Eral, Wrall}
use Rattle.protocol.specs.declared.parts.Part.{Part}
use Rattle.protocol.specs.declared.parts.Width.{Width}
use Rattle.protocol.specs.declared.refusal.Cause.TheVariants.{Address, Value, WordCount}
use Rattle.protocol.specs.declared.refusal.Refusal.{Refusal}
use Rattle.protocol.specs.Parts.{ones_of, cells_of}
use Rattle.protocol.specs.Refusals.{refusal}

abbrev pub Checked : Type 0
Checked = Result (Unit {0}) Refusal

-- each check lets the next be made
abbrev pub in_range : Part → Width → ℕ → Checked → Checked
in_range part width address next = cond (nat_lt address (cells_of part width)) next (Err (refusal Address 0))

abbrev pub in_width : Width → ℕ → Checked → Checked
in_width width value next = cond (nat_le value (ones_of width)) next (Err (refusal Value 0))

abbrev pub some_words : Part → Width → ℕ → Checked → Checked
some_words part width words next = cond (words == 0 || nat_lt (cells_of part width) words) (Err (refusal WordCount 0)) next

abbrev pub inputs : Part → Width → Instruction → Checked → Checked
inputs part width (Read address words) next = in_range part width address (some_words part width words next)
inputs part width (Write address value) next = in_range part width address (in_width width value next)
inputs part width (Erase address) next = in_range part width address next
inputs part width Wen next = next
inputs part width Wds next = next
inputs part width Eral next = next
inputs part width (Wrall value) next = in_width width value next
