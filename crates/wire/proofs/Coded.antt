-- The bits of an instruction, read back.
use Rattle.std.proofs.Common.{◌≡◌, ℕ, ◌+◌, ◌-◌, ◌*◌, ◌^◌, ◌<◌, ◌≤◌, Bool, true, false, cond, refl, ◌∙◌, arith}
use Rattle.std.proofs.lemmas.Nat.{pow_pos, pow-add, mul-add-lt, shl_below}
use Rattle.protocol.specs.declared.instruction.Kind.{Kind}
use Rattle.protocol.specs.declared.instruction.Kind.TheVariants.{Read, Write, Erase, Wen, Wds, Eral, Wrall}
use Rattle.protocol.specs.declared.parts.Part.{Part}
use Rattle.protocol.specs.declared.parts.Width.{Width}
use Rattle.protocol.specs.Parts.{bits_of, field_of}
use Rattle.protocol.specs.Instructions.{span_of, kind_of, kind_at, has_data, length_of, value_at}
use Rattle.protocol.proofs.Table.{agreed}
use Rattle.wire.specs.Frames.{joined, opcode, field_bits, code_of}
use Rattle.wire.proofs.Bits.{span_above, span_last}

-- a number above n bits
above_lt : (k n high low : ℕ) → high < 2 ^ k → low < 2 ^ n → high * 2 ^ n + low < 2 ^ (k + n)
above_lt k n high low h l = omega (arith, mul-add-lt high (2 ^ n) low (2 ^ k) h l, pow-add 2 k n)

module _ (op size field bits value : ℕ) (o : op < 4) (f : field < 2 ^ size) (v : value < 2 ^ bits) where
  joined_lt : joined op size field bits value < 2 ^ (2 + size + bits)
  joined_lt = above_lt (2 + size) bits (op * 2 ^ size + field) value (above_lt 2 size op field o f) v

  op_joined : span_of (2 + size + bits) (joined op size field bits value) 0 2 ≡ op
  op_joined =
      let e : span_of 2 op 0 2 ≡ op = omega arith in
      span_above (2 + size) bits (op * 2 ^ size + field) value 0 2 v (omega arith) ∙ span_above 2 size op field 0 2 f (omega arith) ∙ e

  field_joined : span_of (2 + size + bits) (joined op size field bits value) 2 size ≡ field
  field_joined = span_above (2 + size) bits (op * 2 ^ size + field) value 2 size v (omega arith) ∙ span_last 2 size op field f

-- the first two address bits under opcode 00
top_joined : (top size bits value : ℕ) → top < 4 → 2 ≤ size → value < 2 ^ bits →
    span_of (2 + size + bits) (joined 0 size (top * 2 ^ (size - 2)) bits value) 2 2 ≡ top
top_joined top size bits value t s v =
    let n : 2 + size ≡ 4 + (size - 2) = omega arith in
    let h : 0 * 2 ^ size + top * 2 ^ (size - 2) ≡ top * 2 ^ (size - 2) + 0 = omega arith in
    let e : span_of 4 top 2 2 ≡ top = omega arith in
    span_above (2 + size) bits (0 * 2 ^ size + top * 2 ^ (size - 2)) value 2 2 v (omega arith)
    ∙ rw (h, n) (span_above 4 (size - 2) top 0 2 2 (pow_pos (size - 2)) (omega arith) ∙ e)

-- opcode and address field fit their bits
op_lt : (kind : Kind) → opcode kind < 4
op_lt kind = grind arith

field_lt : (size : ℕ) (kind : Kind) (address : ℕ) → 2 ≤ size → address < 2 ^ size → field_bits size kind address < 2 ^ size
field_lt size kind address s h =
    let e : 2 + (size - 2) ≡ size = omega arith in
    let t : 3 * 2 ^ (size - 2) < 2 ^ size = rw e at (shl_below 3 2 (size - 2) (omega arith)) in
    grind arith

-- data, where there are any, are the last bits
value_lt : (has : Bool) (bits value : ℕ) → value < 2 ^ bits → cond has value 0 < 2 ^ cond has bits 0
value_lt has bits value h = grind arith

value_last : (has : Bool) (from bits above value : ℕ) → value < 2 ^ bits →
    cond has (span_of (from + cond has bits 0) (above * 2 ^ cond has bits 0 + cond has value 0) from bits) 0 ≡ cond has value 0
value_last true from bits above value h = span_last from bits above value h
value_last false from bits above value h = refl

module _ (part : Part) (width : Width) (address value : ℕ) (a : address < 2 ^ field_of part width) (v : value < 2 ^ bits_of width) where
  abbrev size : ℕ
  size = field_of part width

  two : 2 ≤ size
  two = omega (arith, (agreed part width).least)

  module _ (kind : Kind) where
    abbrev length : ℕ
    length = length_of part width kind

    abbrev code : ℕ
    code = code_of part width kind address value

    in_field : field_bits size kind address < 2 ^ size
    in_field = field_lt size kind address two a

    in_bits : cond (has_data kind) value 0 < 2 ^ cond (has_data kind) (bits_of width) 0
    in_bits = value_lt (has_data kind) (bits_of width) value v

    pub code_lt : code < 2 ^ length
    code_lt = joined_lt _ _ _ _ _ (op_lt kind) in_field in_bits

    pub field_code : span_of length code 2 size ≡ field_bits size kind address
    field_code = field_joined _ _ _ _ _ (op_lt kind) in_field in_bits

    kind_with : (top : ℕ) → span_of length code 2 2 ≡ top → kind_at length code ≡ kind_of (opcode kind) top
    kind_with top e = rw (op_joined (opcode kind) size (field_bits size kind address) _ _ (op_lt kind) in_field in_bits, e)

  pub kind_code : (kind : Kind) → kind_at (length kind) (code kind) ≡ kind
  kind_code Read = kind_with Read _ refl
  kind_code Write = kind_with Write _ refl
  kind_code Erase = kind_with Erase _ refl
  kind_code Wen = kind_with Wen 3 (top_joined 3 size 0 0 (omega arith) two (omega arith))
  kind_code Wds = kind_with Wds 0 (top_joined 0 size 0 0 (omega arith) two (omega arith))
  kind_code Eral = kind_with Eral 2 (top_joined 2 size 0 0 (omega arith) two (omega arith))
  kind_code Wrall = kind_with Wrall 1 (top_joined 1 size (bits_of width) value (omega arith) two v)

  pub value_code : (kind : Kind) → value_at part width kind (length kind) (code kind) ≡ cond (has_data kind) value 0
  value_code kind = value_last (has_data kind) (2 + size) (bits_of width) (opcode kind * 2 ^ size + field_bits size kind address) value v
