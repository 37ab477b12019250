-- What polling and frames do to a chip at rest.
use Rattle.std.proofs.Common.{◌≡◌, ℕ, ◌-◌, ◌*◌, ◌%◌, ◌<◌, Bool, true, false, cond, List, [], ◌∷◌, Ok, Err, sym, refl, ap, ◌∙◌, subst, inl, inr, mod-eq_of_lt, arith}
use Rattle.std.proofs.lemmas.Bool.Decides.{leb_tells}
use Rattle.protocol.specs.declared.instruction.Instruction.{Instruction}
use Rattle.protocol.specs.declared.instruction.Instruction.TheVariants as instruction
use Rattle.protocol.specs.declared.instruction.Kind.{Kind}
use Rattle.protocol.specs.declared.parts.Part.{Part}
use Rattle.protocol.specs.declared.parts.Width.{Width}
use Rattle.protocol.specs.declared.refusal.Cause.{Cause}
use Rattle.protocol.specs.declared.settings.Edition.{Edition}
use Rattle.protocol.specs.Instructions.{is_read, is_change, has_data, kind_in, address_in, value_in}
use Rattle.protocol.specs.Parts.{bits_of}
use Rattle.protocol.specs.Refusals.{refusal}
use Rattle.chips.specs.declared.state.Verdict.TheVariants.{CarriedOut}
use Rattle.chips.specs.Control.{verdict_of, turn}
use Rattle.chips.specs.Fitting.{Fits}
use Rattle.chips.specs.Machine.{changed}
use Rattle.chips.specs.Pins.{Pins, Put, put_on, pe_at, pe_on}
use Rattle.wire.specs.Frames.{idle, frame_of, plain_frame, clocks, ending}
use Rattle.wire.specs.Hearing.{cells_from, words_heard}
use Rattle.wire.specs.Places.{width_on, left_on, Rest, Ready, Sendable, placed, rest_state, resting, carried_out, reading}
use Rattle.wire.specs.Polling.{polls, is_ready}
use Rattle.wire.specs.Runs.{run}
use Rattle.wire.proofs.Carrying.{frame_carries_out, read_opens_cell}
use Rattle.wire.proofs.Hears.{heard_is_run, read_answers_cells, read_rests}
use Rattle.wire.proofs.Polls.{poll_rests, poll_ready_iff}
use Rattle.wire.proofs.Tells.{told-pins}
use Rattle.driver.specs.Checks.{cells_on}
use Rattle.driver.specs.Outcome.{State, Outcome, state, outcome, sent}
use Rattle.driver.specs.Calls as calls
use Rattle.histories.specs.Events.{unseen, bare_chip}

abbrev pub Driver : Type 0
Driver = State (Unit {0})

-- the driver with its chip elsewhere
abbrev pub at : Driver → Pins → Driver
at s p = state s.greeted s.opened (bare_chip p)

sent-at : (xs : List Put) (s : Driver) → sent unseen xs s ≡ at s (run s.chip.pins xs)
sent-at xs s = ap (at s) (told-pins unseen s.chip xs)

-- How polling ends, from rest.
pub polled_ways : (P : Outcome (Unit {0}) (Unit {0}) → Type 0) (cause : Cause) (s : Driver) → Rest s.chip.pins →
    ((left : ℕ) → P (outcome (Err (refusal cause 0)) (at s (resting s.chip.pins left)))) →
    P (outcome (Ok tt) (at s (resting s.chip.pins 0))) → P (calls.polled unseen cause s)
polled_ways P cause s rest late ready =
    let p = s.chip.pins in
    let e : calls.polled unseen cause s ≡ outcome (cond (is_ready p) (Ok tt) (Err (refusal cause 0))) (at s (resting p (left_on p - 4097))) =
    ap (λ t. outcome (cond (is_ready p) (Ok tt) (Err (refusal cause 0))) t) (sent-at (polls p) s ∙ ap (at s) (poll_rests p rest)) in
    let r = poll_ready_iff p rest in
    subst P (sym e)
    (elim (leb_tells (left_on p) 4096) [
      | inl t ↦ let z : left_on p - 4097 ≡ 0 = omega (arith, t.1) in rw (r ∙ t.0, z) ready
      | inr t ↦ rw (r ∙ t.0) (late (left_on p - 4097))
    ])

-- a chip that is placed at rest
pub rest-placed : (p : Pins) (enabled : Bool) (left : ℕ) (bytes : List ℕ) → p.blank ≡ false → Rest (placed p (rest_state enabled left) bytes 2)
rest-placed p enabled left bytes live = record { live = live; low = refl; waiting = refl; dark = refl }

pub ready_at : (p : Pins) → p.blank ≡ false → Ready (resting p 0)
ready_at p live = record { rest = rest-placed p _ 0 _ live; none = refl }

-- a frame that is no READ's
pub frame_is : (part : Part) (width : Width) (i : Instruction) → is_read (kind_in i) ≡ false →
    frame_of part width i ≡ plain_frame part width (kind_in i) (address_in i) (value_in i)
unfolding frame_of
frame_is part width i h = grind arith

pub frame_sent : (s : Driver) (i : Instruction) → is_read (kind_in i) ≡ false → Ready s.chip.pins → Sendable s.chip.pins (address_in i) (value_in i) →
    calls.sent_frame unseen i s ≡ at s (carried_out s.chip.pins (kind_in i) (address_in i) (value_in i))
frame_sent s i h ready fits =
    sent-at (calls.frame_on s.chip.pins i) s
    ∙ ap (at s) (ap (run s.chip.pins) (frame_is _ _ i h) ∙ frame_carries_out s.chip.pins (kind_in i) (address_in i) (value_in i) ready fits h)

-- a READ's, and the words from an address on
abbrev pub words_in : Pins → ℕ → ℕ → List ℕ
words_in p address count = cells_from p.machine.setup.part (width_on p) p.machine.bytes count address

pub fits-resting : (p : Pins) → Fits p → Fits (resting p 0)
fits-resting p f = record { offered = f.offered; size = f.size; bytes = f.bytes }

pub words_read : (p : Pins) (address count : ℕ) → Ready p → Fits p → Sendable p address 0 → address < cells_on p →
    calls.words_on p address count ≡ words_in p address count
unfolding run
words_read p address count ready fits send h =
    ap (words_heard (bits_of (width_on p)) count) (read_opens_cell p address [] ready send) ∙ read_answers_cells p address count ready fits
    ∙ rw (mod-eq_of_lt h)

pub read_sent : (s : Driver) (address count : ℕ) → Ready s.chip.pins → Sendable s.chip.pins address 0 →
    calls.sent_frame unseen (instruction.Read address count) s ≡ at s (resting s.chip.pins 0)
unfolding frame_of
read_sent s address count ready send =
    let p = s.chip.pins in
    let n = count * bits_of (width_on p) in
    sent-at (calls.frame_on p (instruction.Read address count)) s
    ∙ ap (at s) (read_opens_cell p address (clocks n 0 ending) ready send ∙ heard_is_run (reading p address) n ending ∙ read_rests p address n ready)

-- a change that an open chip takes
verdict_is : (edition : Edition) (enabled pe : Bool) (kind : Kind) → enabled ≡ true → pe_at edition pe ≡ true → verdict_of edition enabled pe kind ≡ CarriedOut
verdict_is edition enabled pe kind e h = grind arith

abbrev pub changed_bytes : Pins → Instruction → List ℕ
changed_bytes p i =
    changed p.machine.setup.part (kind_in i) (width_on p) (address_in i % cells_on p) (cond (has_data (kind_in i)) (value_in i) 0) p.machine.bytes

pub change_carried : (p : Pins) (i : Instruction) → is_change (kind_in i) ≡ true → p.machine.state.enabled ≡ true → pe_on p ≡ true →
    (left : ℕ) × (carried_out p (kind_in i) (address_in i) (value_in i) ≡ placed p (rest_state true left) (changed_bytes p i) 2)
unfolding pe_on
change_carried p i c e h =
    let v = verdict_is p.machine.setup.edition p.machine.state.enabled p.pe (kind_in i) e h in
    (left_on (carried_out p (kind_in i) (address_in i) (value_in i)), grind arith)

-- an idle sample at rest
pub idle-resting : (p : Pins) → Rest p → put_on p idle ≡ resting p (left_on p - 1)
unfolding put_on turn
idle-resting p r = simp (r.live, r.low, r.waiting, r.dark)

pub idle-sent : (s : Driver) → sent unseen (idle ∷ []) s ≡ at s (put_on s.chip.pins idle)
unfolding run
idle-sent s = sent-at (idle ∷ []) s
