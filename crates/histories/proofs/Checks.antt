-- The check of each call: by the facts of the chip and the driver's record alone.
use Rattle.std.proofs.Common.{◌≡◌, ℕ, ◌^◌, ◌<◌, ◌≤◌, Bool, true, false, Ok, Err, inl, inr, arith}
use Rattle.std.proofs.lemmas.Bool.{cases_Bool}
use Rattle.std.proofs.lemmas.Bool.Decides.{nat_tests}
use Rattle.protocol.specs.declared.instruction.Instruction.{Instruction}
use Rattle.protocol.specs.declared.parts.Part.{Part}
use Rattle.protocol.specs.declared.parts.Width.{Width}
use Rattle.protocol.specs.declared.parts.Width.TheVariants.{Eight, Sixteen}
use Rattle.protocol.specs.declared.refusal.Refusal.{Refusal}
use Rattle.protocol.specs.Instructions.{address_in, value_in}
use Rattle.protocol.specs.Parts.{bits_of, ones_of, width_by}
use Rattle.protocol.proofs.Table.{agreed}
use Rattle.chips.specs.Pins.{Pins, org_at, org_on, pe_on}
use Rattle.wire.specs.Places.{width_on, Sendable}
use Rattle.driver.specs.Checks.{cells_on, admitted, changeable}
use Rattle.histories.specs.declared.call.Call.{Call}
pub use Rattle.driver.specs.Cases.{check_of}
pub use Rattle.histories.specs.Requests.{request_of}
use Rattle.histories.specs.Book.{is_unfinished}
use Rattle.histories.specs.Alike.{is_programming}

-- what a check that lets a call through has found
pub record Admitted (p : Pins) (greeted : Bool) (i : Instruction) : Type 0 where
  pub live : p.blank ≡ false
  pub met : greeted ≡ true
  pub address : address_in i < cells_on p
  pub value : value_in i ≤ ones_of (width_on p)

pub admitted_finds : (p : Pins) (greeted : Bool) (i : Instruction) → admitted p greeted i ≡ Ok tt → Admitted p greeted i
admitted_finds p greeted i h =
    let some = (agreed p.machine.setup.part (width_on p)).some in
    record { live = grind (arith, nat_tests); met = grind (arith, nat_tests); address = grind (arith, nat_tests); value = grind (arith, nat_tests) }

pub changeable_finds : (p : Pins) (greeted opened : Bool) (i : Instruction) → changeable p greeted opened i ≡ Ok tt →
    Admitted p greeted i × (opened ≡ true) × (pe_on p ≡ true)
changeable_finds p greeted opened i h =
    (admitted_finds p greeted i (grind (arith, nat_tests)), grind (arith, nat_tests), grind (arith, nat_tests))

in_bits : (width : Width) (value : ℕ) → value ≤ ones_of width → value < 2 ^ bits_of width
in_bits Eight value h = omega arith
in_bits Sixteen value h = omega arith

pub sendable : (p : Pins) (address value : ℕ) → address < cells_on p → value ≤ ones_of (width_on p) → Sendable p address value
sendable p address value h v =
    record { in_field = omega (arith, (agreed p.machine.setup.part (width_on p)).addressed); in_width = in_bits (width_on p) value v }

-- a check never refuses a call as polling does
pub check_early : (x : Call) (p : Pins) (greeted opened : Bool) (e : Refusal) → check_of (request_of x) p greeted opened ≡ Err e →
    (is_programming e.cause ≡ false) × (is_unfinished e.cause ≡ false)
check_early x p greeted opened e h = (grind arith, grind arith)

-- the same facts, but of two blanks
pub record SameFacts (p q : Pins) : Type 0 where
  pub part : p.machine.setup.part ≡ q.machine.setup.part
  pub org : org_on p ≡ org_on q
  pub pe : pe_on p ≡ pe_on q

-- the 46 never reads ORG
width_at : (part : Part) (org : Bool) → width_by part org ≡ width_by part (org_at part org)
width_at part org = grind arith

-- they tell all that a part and a width do
pub same_at : {A : Type 0} (F : Part → Width → A) (p q : Pins) → SameFacts p q →
    F p.machine.setup.part (width_on p) ≡ F q.machine.setup.part (width_on q)
unfolding org_on
same_at F p q f = rw (width_at p.machine.setup.part p.org, f.org, f.part, ← width_at q.machine.setup.part q.org)

pub same_check : (x : Call) (p q : Pins) (greeted opened : Bool) → p.blank ≡ q.blank → (p.blank ≡ false → SameFacts p q) →
    check_of (request_of x) p greeted opened ≡ check_of (request_of x) q greeted opened
same_check x p q greeted opened b same = elim (cases_Bool p.blank) [ inl h ↦ grind arith | inr h ↦ let s = same h in let w = same_at (λ _ width. width) p q s in grind arith ]
