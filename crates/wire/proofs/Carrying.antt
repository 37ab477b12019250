-- A frame, from a ready chip to a chip at rest, and the opening of a READ.
use Rattle.std.proofs.Common.{◌≡◌, ℕ, suc, ◌+◌, ◌-◌, ◌*◌, ◌%◌, Bool, true, false, ◌&&◌, eqb, List, [], ◌∷◌, refl, ap, ◌∙◌, arith}
use Rattle.std.proofs.lemmas.Bool.{eq-eqb, and_right}
use Rattle.protocol.specs.declared.instruction.Kind.{Kind}
use Rattle.protocol.specs.declared.instruction.Kind.TheVariants.{Read}
use Rattle.protocol.specs.declared.parts.Part.{Part}
use Rattle.protocol.specs.declared.parts.Width.{Width}
use Rattle.protocol.specs.declared.settings.Setup.{Setup}
use Rattle.protocol.specs.Parts.{cells_of, field_of}
use Rattle.protocol.specs.Instructions.{span_of, is_read, length_of, kind_at}
use Rattle.chips.specs.declared.state.Decision.{Decision}
use Rattle.chips.specs.declared.state.Decision.TheVariants.{Start}
use Rattle.chips.specs.declared.state.Phase.{Phase}
use Rattle.chips.specs.declared.state.Verdict.{Verdict}
use Rattle.chips.specs.Control.{is_clock_edition, instruction_at, carried, obeyed, turn}
use Rattle.chips.specs.Machine.{changed, written}
use Rattle.chips.specs.Pins.{Pins, Put, put_on}
use Rattle.wire.specs.Frames.{ending, opening, field_bits, code_of, read_opening}
use Rattle.wire.specs.Runs.{run}
use Rattle.wire.specs.Places.{width_on, Ready, Sendable, placed, rest_state, since, carried_out, reading}
use Rattle.wire.specs.Deciding.{Note, note, notes, instruction_sent, address_sent, last_clock, end_after}
use Rattle.wire.specs.Laws.{FrameCarriesOut, ReadOpensCell}
use Rattle.wire.proofs.Coded.{code_lt, kind_code, field_code, value_code}
use Rattle.wire.proofs.Going.{goes, goes_by}
use Rattle.wire.proofs.Taking.{bits_taken, whole_length, opened}

-- Carrying out sees no levels and no phase.
carried-selected : (setup : Setup) (kind : Kind) (verdict : Verdict) (enabled sk : Bool) (phase : Phase) →
    carried setup kind verdict (record { enabled = enabled; left = 0; status = false; cs = true; sk = sk; phase = phase })
    ≡ (let st = carried setup kind verdict (rest_state enabled 0) in
    record { enabled = st.enabled; left = st.left; status = st.status; cs = true; sk = sk; phase = phase })
carried-selected setup kind verdict enabled sk phase = grind arith

two-less : (n : ℕ) → n - 1 - 1 ≡ n - 2
two-less n = omega arith

module _ (p : Pins) where
  abbrev setup : Setup
  setup = p.machine.setup

  -- at rest after a decision
  abbrev done : Decision → Pins
  done d =
      let st = obeyed setup d (rest_state p.machine.state.enabled 0) in
      placed p (rest_state st.enabled (since p st.left)) (written setup.part d p.machine.bytes) 2

  -- a whole instruction that is no READ is carried out, in either edition
  whole_ends : (live : p.blank ≡ false) (count bits last : ℕ) (phase : Phase) (clock : Bool) → is_clock_edition setup.edition ≡ clock →
      eqb count (whole_length p count bits) ≡ true → (eqb count (2 + field_of setup.part (width_on p)) && is_read (kind_at count bits)) ≡ false →
      let d = instruction_at setup p.machine.state.enabled p.pe (width_on p) count bits in
      goes_by last (bits_taken p count bits phase) ending ≡ (done d, note (end_after setup.edition last) d ∷ [])
  unfolding run notes put_on turn
  whole_ends live count bits last phase false e x r = simp (live, r, e, x, carried-selected)
  whole_ends live count bits last phase true e x r = simp (live, r, e, x, carried-selected, two-less)

module _ (p : Pins) (address value : ℕ) (r : Ready p) (f : Sendable p address value) (kind : Kind) where
  abbrev part : Part
  part = p.machine.setup.part

  abbrev width : Width
  width = width_on p

  abbrev length : ℕ
  length = length_of part width kind

  abbrev code : ℕ
  code = code_of part width kind address value

  is_kind : kind_at length code ≡ kind
  is_kind = kind_code part width address value f.in_field f.in_width kind

  is_field : span_of length code 2 (field_of part width) ≡ field_bits (field_of part width) kind address
  is_field = field_code part width address value f.in_field f.in_width kind

  -- A kind that takes no address leaves its address field unread.
  changed_field : (v : ℕ) (bytes : List ℕ) →
      changed part kind width (field_bits (field_of part width) kind address % cells_of part width) v bytes
      ≡ changed part kind width (address % cells_of part width) v bytes
  changed_field v bytes = grind arith

  -- what its bits decide is the instruction
  instruction-code : instruction_at p.machine.setup p.machine.state.enabled p.pe width length code ≡ instruction_sent p kind address value
  instruction-code = rw (is_kind, is_field, value_code part width address value f.in_field f.in_width kind)

  done-instructed : done p (instruction_sent p kind address value) ≡ carried_out p kind address value
  done-instructed = rw changed_field

  opens : (place : ℕ) (after : List Put) (q : Pins × List Note) →
      ((phase : Phase) → goes_by (place + (2 * length + 2)) (bits_taken p length code phase) after ≡ q) →
      goes place p (opening length code after) ≡ (q.0, note (suc (suc place)) (Start width) ∷ q.1)
  opens place after q whole =
      opened p r length code (ap (length_of part width) is_kind) (place + (2 * length + 2)) after q whole place refl
      (code_lt part width address value f.in_field f.in_width kind)

  abbrev last : ℕ → ℕ
  last place = place + (2 * length + 2)

  -- the frame of a kind that is no READ
  pub carries_out : (place : ℕ) → is_read kind ≡ false →
      goes place p (opening length code ending)
      ≡ (
        carried_out p kind address value,
        note (suc (suc place)) (Start width) ∷ note (end_after p.machine.setup.edition (last place)) (instruction_sent p kind address value) ∷ [],
      )
  carries_out place other =
      opens place ending _ (λ phase.
      whole_ends p r.rest.live length code (last place) phase _ refl (rw is_kind (eq-eqb length _ refl)) (and_right _ _ (ap is_read is_kind ∙ other))
      ∙ ap (λ (d : Decision). (done p d, note (end_after p.machine.setup.edition (last place)) d ∷ [])) instruction-code
      ∙ ap (λ (q : Pins). (q, note (end_after p.machine.setup.edition (last place)) (instruction_sent p kind address value) ∷ [])) done-instructed)

pub frame_carries_out : FrameCarriesOut
frame_carries_out p kind address value r f other = ap (λ (x : Pins × List Note). x.0) (carries_out p address value r f kind 0 other)

-- the opening of a READ, and what is noted of it
pub opens_cell : (p : Pins) (address : ℕ) (after : List Put) (place : ℕ) → Ready p → Sendable p address 0 →
    goes place p (read_opening p.machine.setup.part (width_on p) address after)
    ≡ (
      run (reading p address) after,
      note (suc (suc place)) (Start (width_on p))
          ∷ note (last_clock p Read place) (address_sent p address) ∷ notes (suc (last_clock p Read place)) (reading p address) after,
    )
opens_cell p address after place r f =
    let whole = eq-eqb (length p address 0 r f Read) (2 + field_of p.machine.setup.part (width_on p)) (omega arith) in
    opens p address 0 r f Read place after _ (λ phase.
    ap (λ (a : Pins × Decision). goes_by (last_clock p Read place) a after)
    (bits_read p address r f phase whole))
  where
    bits_read : (p : Pins) (address : ℕ) (r : Ready p) (f : Sendable p address 0) (phase : Phase) →
        eqb (length p address 0 r f Read) (2 + field_of p.machine.setup.part (width_on p)) ≡ true →
        bits_taken p (length p address 0 r f Read) (code p address 0 r f Read) phase ≡ (reading p address, address_sent p address)
    bits_read p address r f phase whole = simp (whole, is_kind p address 0 r f Read, is_field p address 0 r f Read)

pub read_opens_cell : ReadOpensCell
read_opens_cell p address after r f = ap (λ (x : Pins × List Note). x.0) (opens_cell p address after 0 r f)
