-- Start bits and decisions take turns.
use Rattle.decisions.proofs.Entries.{entries_of_any}
use Rattle.traces.specs.Entries.{no_start}
use Rattle.decisions.specs.Reader.{reader, read_one, reader_after, byte_notes, entries_in, EntriesOrdered, Reader}
use Rattle.traces.specs.declared.start_bit.StartBit.{StartBit}
use Rattle.traces.specs.declared.entry.Entry.{Entry}
use Rattle.std.proofs.Common.{◌≡◌, ℕ, suc, ◌+◌, ◌*◌, Bool, true, false, not, ◌&&◌, cond, eqb, ltb, List, [], ◌∷◌, length, refl, sym, ap, arith, subst, add-one, ◌<◌, ◌≤◌, zero-add}
use Rattle.std.proofs.lemmas.Bool.{cond_both}
use Rattle.protocol.specs.declared.parts.Width.{Width}
use Rattle.protocol.specs.declared.sample.Sample.{Sample}
use Rattle.protocol.specs.declared.settings.Setup.{Setup}
use Rattle.protocol.specs.Parts.{bits_of, field_of, width_by}
use Rattle.protocol.specs.Instructions.{is_read, length_of, kind_at, cell_at}
use Rattle.protocol.specs.Samples.{bit_of, levels}
use Rattle.chips.specs.declared.state.Decision.{Decision}
use Rattle.chips.specs.declared.state.Decision.TheVariants.{Nothing, Start, Address, Data, Instruction, WrongCount}
use Rattle.chips.specs.declared.state.Phase.{Phase}
use Rattle.chips.specs.declared.state.Phase.TheVariants.{Waiting, Taking, Reading, Spoiled, Over}
use Rattle.chips.specs.declared.state.State.{State}
use Rattle.chips.specs.Control.{Turn, turn_to, in_phase, is_clock_edition, instruction_at, obeyed, aged, ending, ended, deselected, is_busy_rise, shown_busy, is_clock, taken, appended, clocked, turned, turn, power_up}
use Rattle.chips.specs.Machine.{step}
use Rattle.chips.specs.Pins.{Pins, Put, sample_of, put_on}
use Rattle.wire.specs.Deciding.{Note, decision_on, notes_with, notes, note}
use Rattle.wire.specs.Runs.{run}
use Rattle.decisions.specs.Decided.{owes, Settled, Alternate, InOrder}
use Rattle.decisions.specs.Laws.{EachStartIsDecided, RunsSettle, NotesInOrder, EntriesInOrder}

-- what a decision says of what was owed before it and is owed after it
abbrev Step : Bool → Decision → Bool → Type 0
Step a Nothing b = b ≡ a
Step a (Start width) b = (a ≡ false) × (b ≡ true)
Step a (Address width cell) b = (a ≡ true) × (b ≡ false)
Step a (Data width cell next) b = b ≡ a
Step a (Instruction kind width cell value verdict) b = (a ≡ true) × (b ≡ false)
Step a WrongCount b = (a ≡ true) × (b ≡ false)

abbrev Steps : Bool → Turn → Type 0
Steps a t = Step a t.decision (owes t.state.phase)

was_low : (st : State) → is_busy_rise st ≡ true → st.cs ≡ false
was_low st b = grind arith

module _ (setup : Setup) where
  ending_steps : (enabled pe : Bool) (phase : Phase) → Step (owes phase) (ending setup enabled pe phase) false
  ending_steps enabled pe Waiting = refl
  ending_steps enabled pe (Taking width count bits) =
      cond_both (not (is_clock_edition setup.edition) && eqb count (length_of setup.part width (kind_at count bits)))
      (instruction_at setup enabled pe width count bits) WrongCount (λ d. Step true d false) (λ _. (refl, refl)) (λ _. (refl, refl))
  ending_steps enabled pe (Reading width cell next) = refl
  ending_steps enabled pe Spoiled = (refl, refl)
  ending_steps enabled pe Over = refl

  ended_steps : (s : Sample) (st : State) → (st.cs ≡ false → owes st.phase ≡ false) → Step (owes st.phase) (ended setup s st) false
  ended_steps s st h =
      cond_both st.cs (ending setup st.enabled s.pe st.phase) Nothing (λ d. Step (owes st.phase) d false)
      (λ _. ending_steps st.enabled s.pe st.phase) (λ e. sym (h e))

  taken_steps : (pe : Bool) (width : Width) (count bits : ℕ) (st : State) → Steps true (taken setup pe width count bits st)
  taken_steps pe width count bits st =
      let d = instruction_at setup st.enabled pe width count bits in
      let cell = cell_at setup.part width count bits in
      let whole = turn_to d (in_phase Over (obeyed setup d st)) in
      let more = turn_to Nothing (in_phase (Taking width count bits) st) in
      let read = turn_to (Address width cell) (in_phase (Reading width cell 0) st) in
      cond_both (eqb count (2 + field_of setup.part width) && is_read (kind_at count bits)) read _ (Steps true) (λ _. (refl, refl))
      (λ _. cond_both (is_clock_edition setup.edition && eqb count (length_of setup.part width (kind_at count bits))) whole more (Steps true)
      (λ _. (refl, refl)) (λ _. refl))

  appended_steps : (s : Sample) (width : Width) (count bits : ℕ) (st : State) → Steps true (appended setup s width count bits st)
  unfolding appended
  appended_steps s width count bits st =
      cond_both (not (is_clock_edition setup.edition) && eqb count (length_of setup.part width (kind_at count bits)))
      (turn_to Nothing (in_phase Spoiled st)) _ (Steps true)
      (λ _. refl) (λ _. taken_steps s.pe width (count + 1) (2 * bits + bit_of s.di) st)

  clocked_steps : (s : Sample) (phase : Phase) (st : State) → st.phase ≡ phase → Steps (owes phase) (clocked setup s phase st)
  clocked_steps s Waiting st e =
      let width = width_by setup.part s.org in
      cond_both s.di (turn_to (Start width) (in_phase (Taking width 0 0) st)) (turn_to Nothing st) (Steps false)
      (λ _. (refl, refl)) (λ _. ap owes e)
  clocked_steps s (Taking width count bits) st e = appended_steps s width count bits st
  clocked_steps s (Reading width cell next) st e =
      cond_both (ltb (next + 1) (bits_of width)) (Reading width cell (next + 1)) _ (λ f. owes f ≡ false) (λ _. refl) (λ _. refl)
  clocked_steps s Spoiled st e = ap owes e
  clocked_steps s Over st e = ap owes e

  turned_steps : (s : Sample) (st : State) → (st.cs ≡ false → owes st.phase ≡ false) → Steps (owes st.phase) (turned setup s st)
  turned_steps s st h =
      cond_both (not s.cs) (deselected setup (ended setup s st) st) _ (Steps (owes st.phase)) (λ _. ended_steps s st h)
      (λ _. cond_both (is_busy_rise st) (turn_to Nothing (shown_busy st)) _ (Steps (owes st.phase)) (λ b. sym (h (was_low st b)))
      (λ _. cond_both (is_clock s st) (clocked setup s st.phase st) (turn_to Nothing st) (Steps (owes st.phase))
      (λ _. clocked_steps s st.phase st refl) (λ _. refl)))

  turn_steps : (s : Sample) (st : State) → (st.cs ≡ false → owes st.phase ≡ false) → Steps (owes st.phase) (turn setup st s)
  unfolding turn
  turn_steps s st h = turned_steps s (aged st) h

  turn_settles : (s : Sample) (st : State) → (turn setup st s).state.cs ≡ false → owes (turn setup st s).state.phase ≡ false
  unfolding turn
  turn_settles s st h = simp h

put_settles : (p : Pins) (x : Put) → Settled p → Settled (put_on p x)
unfolding put_on
put_settles p x h =
    cond_both p.blank p.machine (step p.machine (sample_of p x)) (λ m. m.state.cs ≡ false → owes m.state.phase ≡ false) (λ _. h)
    (λ _. turn_settles p.machine.setup (sample_of p x) p.machine.state)

put_steps : (p : Pins) (x : Put) → Settled p → Step (owes p.machine.state.phase) (decision_on p x) (owes (put_on p x).machine.state.phase)
unfolding put_on
put_steps p x h =
    elim p.blank as (λ b. Step (owes p.machine.state.phase) (cond b Nothing (turn p.machine.setup p.machine.state (sample_of p x)).decision)
    (owes (cond b p.machine (step p.machine (sample_of p x))).state.phase))
    [ true ↦ refl | false ↦ turn_steps p.machine.setup (sample_of p x) p.machine.state h ]

pub runs_settle : RunsSettle
unfolding run
runs_settle p [] h = h
runs_settle p (x ∷ xs) h = runs_settle (put_on p x) xs (put_settles p x h)

alternate_noted : (place : ℕ) (a b end : Bool) (d : Decision) (ns : List Note) → Step a d b → Alternate b ns end → Alternate a (notes_with place d ns) end
unfolding Alternate
alternate_noted place a b end Nothing ns s h = subst (λ (c : Bool). Alternate c ns end) s h
alternate_noted place a b end (Start width) ns s h = rw s.0 (refl, subst (λ (c : Bool). Alternate c ns end) s.1 h)
alternate_noted place a b end (Address width cell) ns s h = rw s.0 (refl, subst (λ (c : Bool). Alternate c ns end) s.1 h)
alternate_noted place a b end (Data width cell next) ns s h = subst (λ (c : Bool). Alternate c ns end) s h
alternate_noted place a b end (Instruction kind width cell value verdict) ns s h = rw s.0 (refl, subst (λ (c : Bool). Alternate c ns end) s.1 h)
alternate_noted place a b end WrongCount ns s h = rw s.0 (refl, subst (λ (c : Bool). Alternate c ns end) s.1 h)

pub each_start_is_decided : EachStartIsDecided
unfolding notes run Alternate
each_start_is_decided place p [] h = refl
each_start_is_decided place p (x ∷ xs) h =
    alternate_noted place _ (owes (put_on p x).machine.state.phase) _ (decision_on p x) (notes (suc place) (put_on p x) xs) (put_steps p x h)
    (each_start_is_decided (suc place) (put_on p x) xs (put_settles p x h))

-- places
in_order_on : (place end : ℕ) (ns : List Note) → InOrder (suc place) ns end → InOrder place ns end
unfolding InOrder
in_order_on place end [] h = omega arith
in_order_on place end (n ∷ ns) h = (omega (arith, h.0), h.1)

in_order_noted : (place end : ℕ) (d : Decision) (ns : List Note) → InOrder (suc place) ns end → InOrder place (notes_with place d ns) end
unfolding InOrder
in_order_noted place end Nothing ns h = in_order_on place end ns h
in_order_noted place end (Start width) ns h = (omega arith, h)
in_order_noted place end (Address width cell) ns h = (omega arith, h)
in_order_noted place end (Data width cell next) ns h = in_order_on place end ns h
in_order_noted place end (Instruction kind width cell value verdict) ns h = (omega arith, h)
in_order_noted place end WrongCount ns h = (omega arith, h)

pub notes_in_order : NotesInOrder
unfolding notes InOrder
notes_in_order place p [] = omega arith
notes_in_order place p (x ∷ xs) =
    let e : suc place + length xs ≡ place + suc (length xs) = omega arith in
    in_order_noted place (place + suc (length xs)) (decision_on p x) (notes (suc place) (put_on p x) xs)
    (subst (λ k. InOrder (suc place) (notes (suc place) (put_on p x) xs) k) e (notes_in_order (suc place) (put_on p x) xs))

-- any samples
any_alternate : (setup : Setup) (r : Reader) (bs : List ℕ) → (r.state.cs ≡ false → owes r.state.phase ≡ false) →
    Alternate (owes r.state.phase) (byte_notes setup r.state r.place bs) (owes (reader_after setup r bs).state.phase)
unfolding byte_notes reader_after Alternate
any_alternate setup r [] h = refl
any_alternate setup r (b ∷ bs) h =
    let t = turn setup r.state (levels b) in
    let more : Alternate (owes t.state.phase) (byte_notes setup t.state (r.place + 1) bs) (owes (reader_after setup (read_one setup r b) bs).state.phase) =
    any_alternate setup (read_one setup r b) bs (turn_settles setup (levels b) r.state) in
    alternate_noted r.place _ (owes t.state.phase) _ t.decision (byte_notes setup t.state (suc r.place) bs) (turn_steps setup (levels b) r.state h)
    (subst (λ k. Alternate (owes t.state.phase) (byte_notes setup t.state k bs) (owes (reader_after setup (read_one setup r b) bs).state.phase)) (add-one r.place) more)

notes_ordered : (setup : Setup) (st : State) (place : ℕ) (bs : List ℕ) → InOrder place (byte_notes setup st place bs) (place + length bs)
unfolding byte_notes InOrder
notes_ordered setup st place [] = omega arith
notes_ordered setup st place (b ∷ bs) =
    let t = turn setup st (levels b) in
    let e : suc place + length bs ≡ place + suc (length bs) = omega arith in
    in_order_noted place (place + suc (length bs)) t.decision (byte_notes setup t.state (suc place) bs)
    (subst (λ k. InOrder (suc place) (byte_notes setup t.state (suc place) bs) k) e (notes_ordered setup t.state (suc place) bs))

-- entries of notes that take turns and stand in order
earlier : (here place end : ℕ) (es : List Entry) → here ≤ place → EntriesOrdered place es end → EntriesOrdered here es end
unfolding EntriesOrdered
earlier here place end [] h o = omega (arith, o)
earlier here place end (e ∷ es) h o = (omega (arith, o.0), o.1, o.2)

module _ (z : Bool) (end : ℕ) where
  -- where an instruction is owed, whose start bit stands before the notes, and where none is
  abbrev Owed : List Note → Type 0
  Owed ns = (start : StartBit) (here place : ℕ) → here ≤ start.place → start.place < place → Alternate true ns z → InOrder place ns end →
      EntriesOrdered here (entries_in start ns) end

  abbrev Free : List Note → Type 0
  Free ns = (start : StartBit) (place : ℕ) → Alternate false ns z → InOrder place ns end → EntriesOrdered place (entries_in start ns) end

  owed_more : (k : ℕ) (d : Decision) (ns : List Note) → Free ns → Owed (note k d ∷ ns)
  unfolding Alternate InOrder EntriesOrdered entries_in
  owed_more k Nothing ns f start here place h g a o = earlier here (suc k) end _ (omega (arith, o.0)) (f start (suc k) a.1 o.1)
  owed_more k (Start width) ns f start here place h g a o = cc a.0
  owed_more k (Address width cell) ns f start here place h g a o = (h, omega (arith, o.0), f start (suc k) a.1 o.1)
  owed_more k (Data width cell next) ns f start here place h g a o = earlier here (suc k) end _ (omega (arith, o.0)) (f start (suc k) a.1 o.1)
  owed_more k (Instruction kind width cell value verdict) ns f start here place h g a o = (h, omega (arith, o.0), f start (suc k) a.1 o.1)
  owed_more k WrongCount ns f start here place h g a o = (h, omega (arith, o.0), f start (suc k) a.1 o.1)

  free_more : (k : ℕ) (d : Decision) (ns : List Note) → Owed ns → Free (note k d ∷ ns)
  unfolding Alternate InOrder EntriesOrdered entries_in
  free_more k Nothing ns f start place a o = cc a.0
  free_more k (Start width) ns f start place a o = f (record { width = width; place = k }) place (suc k) o.0 (omega arith) a.1 o.1
  free_more k (Address width cell) ns f start place a o = cc a.0
  free_more k (Data width cell next) ns f start place a o = cc a.0
  free_more k (Instruction kind width cell value verdict) ns f start place a o = cc a.0
  free_more k WrongCount ns f start place a o = cc a.0

  owed_none : Owed []
  unfolding InOrder EntriesOrdered entries_in
  owed_none start here place h g a o = omega (arith, o)

  free_none : Free []
  unfolding InOrder EntriesOrdered entries_in
  free_none start place a o = o

  entries_ordered : (ns : List Note) → Owed ns × Free ns
  entries_ordered [] = (owed_none, free_none)
  entries_ordered (n ∷ ns) =
      let more = entries_ordered ns in (owed_more n.place n.decision ns more.1, free_more n.place n.decision ns more.0)

pub entries_in_order : EntriesInOrder
entries_in_order setup bs =
    let r = reader power_up no_start 0 in
    let l : 0 + length bs ≡ length bs = zero-add (length bs) in
    rw (entries_of_any setup r bs)
    ((entries_ordered (owes (reader_after setup r bs).state.phase) (length bs) (byte_notes setup power_up 0 bs)).1 no_start 0
    (any_alternate setup r bs (λ _. refl)) (subst (λ k. InOrder 0 (byte_notes setup power_up 0 bs) k) l (notes_ordered setup power_up 0 bs)))
