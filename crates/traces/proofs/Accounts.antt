-- The entries of a trace account for the bytes of the machine that runs it.
use Rattle.std.proofs.Common.{◌≡◌, ℕ, ◌+◌, List, [], ◌∷◌, ◌++◌, take, drop, Ok, sym, refl, ap, ◌∙◌}
use Rattle.std.proofs.lemmas.List.{append-nil, take-append-drop, drop_at}
use Rattle.protocol.specs.declared.instruction.Kind.{Kind}
use Rattle.protocol.specs.declared.instruction.Kind.TheVariants.{Read, Write, Erase, Wen, Wds, Eral, Wrall}
use Rattle.protocol.specs.declared.list.List.{List as Held}
use Rattle.protocol.specs.declared.parts.Part.{Part}
use Rattle.protocol.specs.declared.parts.Width.{Width}
use Rattle.protocol.specs.declared.settings.Setup.{Setup}
use Rattle.protocol.specs.Lists.{items, room}
use Rattle.protocol.specs.Samples.{levels}
use Rattle.protocol.proofs.Adding.{length-items}
use Rattle.protocol.proofs.Passed.{ok_not_err}
use Rattle.chips.specs.declared.state.Decision.{Decision}
use Rattle.chips.specs.declared.state.Decision.TheVariants.{Nothing, Start, Address, Data, Instruction, WrongCount}
use Rattle.chips.specs.Control.{turn}
use Rattle.chips.specs.Machine.{Machine, changed, if_carried_out, written, after, run_on, fresh_machine}
use Rattle.traces.specs.declared.entry.Entry.{Entry}
use Rattle.traces.specs.declared.start_bit.StartBit.{StartBit}
use Rattle.traces.specs.Entries.{address_of, data_of, start_after, entry_of, before, no_start, entries_from, entries_of}
use Rattle.traces.specs.Reading.{wanted, answer_of, Listed}
use Rattle.traces.specs.Account.{number_in, applied_all, new_in}

-- the cell and the value of an entry are those of its instruction, as far as its kind has them
changed_is : (part : Part) (kind : Kind) (width : Width) (cell value : ℕ) (bytes : List ℕ) →
    changed part kind width (number_in (address_of kind cell)) (number_in (data_of kind value)) bytes ≡ changed part kind width cell value bytes
changed_is part Read width cell value bytes = refl
changed_is part Write width cell value bytes = refl
changed_is part Erase width cell value bytes = refl
changed_is part Wen width cell value bytes = refl
changed_is part Wds width cell value bytes = refl
changed_is part Eral width cell value bytes = refl
changed_is part Wrall width cell value bytes = refl

-- one decision does to the bytes what its entry does, if it makes one
one : (part : Part) (start : StartBit) (i : ℕ) (d : Decision) (es : List Entry) (bytes : List ℕ) →
    applied_all part (before (entry_of start i d) es) bytes ≡ applied_all part es (written part d bytes)
unfolding applied_all
one part start i Nothing es bytes = refl
one part start i (Start width) es bytes = refl
one part start i (Address width cell) es bytes = refl
one part start i (Data width cell next) es bytes = refl
one part start i (Instruction kind width cell value verdict) es bytes =
    ap (λ (b : List ℕ). applied_all part es (if_carried_out verdict b bytes)) (changed_is part kind width cell value bytes)
one part start i WrongCount es bytes = refl

-- from any machine on
accounts : (m : Machine) (start : StartBit) (i : ℕ) (samples : List ℕ) →
    (run_on m samples).bytes ≡ applied_all m.setup.part (entries_from m.setup m.state start i samples) m.bytes
unfolding run_on entries_from applied_all
accounts m start i [] = refl
accounts m start i (b ∷ bs) =
    let t = turn m.setup m.state (levels b) in
    accounts (after m t) (start_after start i t.decision) (i + 1) bs
    ∙ sym (one m.setup.part start i t.decision (entries_from m.setup t.state (start_after start i t.decision) (i + 1) bs) m.bytes)

none_left : (u : Unit {0}) (es : List Entry) → Ok u ≡ answer_of es → es ≡ []
none_left u [] h = refl
none_left u (e ∷ es) h = absurd (ok_not_err u _ h)

-- where the reader refuses nothing, the entries that came to the list are those of the trace
new_is : (setup : Setup) (samples : List ℕ) (l m : Held Entry) (u : Unit {0}) → Listed setup samples l m (Ok u) → new_in l m ≡ entries_of setup samples
new_is setup samples l m u r =
    let all = wanted setup samples l in
    let e : drop (room l) all ≡ [] = none_left u _ r.answer in
    let t : take (room l) all ++ drop (room l) all ≡ all = take-append-drop (room l) all in
    let i : items m ≡ all = r.holds ∙ sym (append-nil _) ∙ ap (λ (x : List Entry). take (room l) all ++ x) (sym e) ∙ t in
    ap (λ (x : List Entry). drop l.count x) i
    ∙ drop_at (items l) (entries_of setup samples) l.count (length-items l)

-- from power-up: the bytes are the old ones changed by exactly the entries that were carried out, in order
pub accounted : (setup : Setup) (samples bytes : List ℕ) →
    (run_on (fresh_machine setup bytes) samples).bytes ≡ applied_all setup.part (entries_of setup samples) bytes
accounted setup samples bytes = accounts (fresh_machine setup bytes) no_start 0 samples

-- the same of the entries that came to a list
pub account : (setup : Setup) (samples bytes : List ℕ) (l m : Held Entry) (u : Unit {0}) → Listed setup samples l m (Ok u) →
    (run_on (fresh_machine setup bytes) samples).bytes ≡ applied_all setup.part (new_in l m) bytes
account setup samples bytes l m u r =
    accounted setup samples bytes
    ∙ ap (λ (es : List Entry). applied_all setup.part es bytes) (sym (new_is setup samples l m u r))
