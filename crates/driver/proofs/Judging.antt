-- Checks of the input, whatever is judged after them.
use Rattle.std.proofs.Common.{◌≡◌, ℕ, ◌<◌, ◌||◌, eqb, ltb, min, Ok, refl, arith, pow_mono}
use Rattle.std.specs.Result.{result_and}
use Rattle.std.proofs.lemmas.Bool.Decides.{nat_tests}
use Rattle.protocol.specs.declared.instruction.Instruction.{Instruction}
use Rattle.protocol.specs.declared.instruction.Instruction.TheVariants.{Read, Write, Erase, Wen, Wds, Eral, Wrall}
use Rattle.protocol.specs.declared.parts.Part.{Part}
use Rattle.protocol.specs.declared.parts.Width.{Width}
use Rattle.protocol.specs.Inputs.{Checked, inputs}
use Rattle.protocol.specs.Parts.{cells_of}
use Rattle.protocol.proofs.Table.{agreed}

-- what the input is refused for comes first
pub input_first : (part : Part) (width : Width) (i : Instruction) (next : Checked) →
    inputs part width i next ≡ result_and (inputs part width i (Ok tt)) next
input_first part width (Read address words) next = grind arith
input_first part width (Write address value) next = grind arith
input_first part width (Erase address) next = grind arith
input_first part width Wen next = refl
input_first part width Wds next = refl
input_first part width Eral next = refl
input_first part width (Wrall value) next = grind arith

few_cells : (part : Part) (width : Width) → cells_of part width < 65535
few_cells part width = let t = agreed part width in omega (arith, t.addressed, pow_mono t.most)

-- a count of words that is cut is refused as it would be uncut
pub cut : (part : Part) (width : Width) (n : ℕ) →
    (eqb (min n 65535) 0 || ltb (cells_of part width) (min n 65535)) ≡ (eqb n 0 || ltb (cells_of part width) n)
cut part width n = let f = few_cells part width in grind (arith, nat_tests, f)
