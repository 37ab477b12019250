-- Two chips alike answer alike until either is found programming.
use Rattle.std.proofs.Common.{◌≡◌, ℕ, zero, suc, ◌<◌, ◌≤◌, Bool, true, false, cond, List, [], ◌∷◌, length, get_or, slice_get, Some, Ok, Err, sym, refl, ap, ◌∙◌, inl, inr, suc-le-suc, zero-le, arith}
use Rattle.std.proofs.lemmas.Bool.{both_ways, cases_Bool, false≢true}
use Rattle.std.proofs.lemmas.Option.{get_or_from_slice_get, slice_get_within, slice_get-get_or}
use Rattle.protocol.specs.declared.instruction.Instruction.TheVariants as instruction
use Rattle.protocol.specs.Parts.{ones_of}
use Rattle.chips.specs.Fitting.{Fitting}
use Rattle.chips.specs.Pins.{Pins, facts_of}
use Rattle.wire.specs.Places.{width_on}
use Rattle.wire.specs.Hearing.{cells_from}
use Rattle.driver.specs.Checks.{Checked, admitted}
use Rattle.driver.specs.Outcome.{state}
use Rattle.histories.specs.declared.call.Call.{Call}
use Rattle.histories.specs.declared.call.Call.TheVariants.{Greet, Settle, Open, Shut, Read, Run, Write, Erase, Fill, Clear}
use Rattle.histories.specs.Events.{Event, Yield, performed, event, events_from, events_on, cells_in, unseen, bare_chip}
use Rattle.histories.specs.Book.{is_done}
use Rattle.histories.specs.Alike.{was_programming, first_cells}
use Rattle.histories.specs.Laws.{Quiet, SameStart, Alike}
use Rattle.histories.proofs.Handed.{events_length}
use Rattle.histories.proofs.Cells.{all_cells, same_words}
use Rattle.histories.proofs.Checks.{check_of, request_of, admitted_finds, SameFacts, same_at, same_check}
use Rattle.histories.proofs.Effects.{words_for, handed_by, Held, Sound, KeptBy, kept, sound_after, sound_new}
use Rattle.histories.proofs.Sending.{Driver, words_in}
use Rattle.histories.proofs.Keeping.{call_later}

-- of the same facts, blanks aside
pub record Kin (p q : Pins) : Type 0 where
  pub blank : p.blank ≡ q.blank
  pub facts : p.blank ≡ false → SameFacts p q

-- the facts tell a part by its number, and levels by theirs
kin : (p q : Pins) → facts_of p ≡ facts_of q → Kin p q
kin p q e =
    let part = ap (λ (f : ℕ × ℕ × ℕ). f.0) e in
    let org = ap (λ (f : ℕ × ℕ × ℕ). f.1) e in
    let pe = ap (λ (f : ℕ × ℕ × ℕ). f.2) e in
    record { blank = grind arith; facts = λ live. record { part = grind arith; org = grind arith; pe = grind arith } }

-- the words of two such chips whose cells are the same once greeted
module _ (p q : Pins) (k : Kin p q) (greeted : Bool) (same : greeted ≡ true → cells_in p ≡ cells_in q) where
  words_in_lem : (address count : ℕ) (c : Checked) → admitted p greeted (instruction.Read address count) ≡ c →
      cond (is_done c) (words_in p address count) [] ≡ cond (is_done c) (words_in q address count) []
  words_in_lem address count (Err e) h = refl
  words_in_lem address count (Ok u) h =
      let f = admitted_finds p greeted (instruction.Read address count) h in
      let facts = k.facts f.live in
      let bytes = q.machine.bytes in
      same_words p.machine.setup.part (width_on p) p.machine.bytes bytes count address f.address
      (same f.met ∙ sym (same_at (λ part width. all_cells part width bytes) p q facts))
      ∙ same_at (λ part width. cells_from part width bytes count address) p q facts

  words_for_lem : (x : Call) (opened : Bool) → handed_by x p greeted opened ≡ cond (is_done (check_of (request_of x) p greeted opened)) (words_for x q) []
  words_for_lem Greet opened = refl
  words_for_lem Settle opened = refl
  words_for_lem Open opened = refl
  words_for_lem Shut opened = refl
  words_for_lem (Read address) opened = words_in_lem address 1 _ refl
  words_for_lem (Run address count) opened = words_in_lem address count _ refl
  words_for_lem (Write address value) opened = refl
  words_for_lem (Erase address) opened = refl
  words_for_lem (Fill value) opened = refl
  words_for_lem Clear opened = refl

-- two drivers alike in their records, in the facts of their chips and, once greeted, in their cells
pub record Peers (s t : Driver) : Type 0 where
  pub greeted : s.greeted ≡ t.greeted
  pub opened : s.opened ≡ t.opened
  pub kin : Kin s.chip.pins t.chip.pins
  pub cells : s.greeted ≡ true → cells_in s.chip.pins ≡ cells_in t.chip.pins

-- one call keeps the facts
kin-after : (x : Call) (s t : Driver) → Sound s → Sound t → Kin s.chip.pins t.chip.pins →
    Kin (performed unseen x s).after.chip.pins (performed unseen x t).after.chip.pins
kin-after x s t one other k =
    let a = call_later unseen x s one.fitting in
    let b = call_later unseen x t other.fitting in
    record {
      blank = a.blank ∙ k.blank ∙ sym b.blank;
      facts = λ live.
          let f = k.facts (sym a.blank ∙ live) in
          record {
            part = sym a.facts.part ∙ f.part ∙ b.facts.part;
            org = sym a.facts.org ∙ f.org ∙ b.facts.org;
            pe = sym a.facts.pe ∙ f.pe ∙ b.facts.pe;
          };
    }

-- one call
module _ (x : Call) (s t : Driver) (y z : Yield (Unit {0})) (k : KeptBy x s y) (l : KeptBy x t z) (peers : Peers s t) where
  quiet_answer : (u : Driver) (v : Yield (Unit {0})) → KeptBy x u v → was_programming (event x v) ≡ false →
      let p = u.chip.pins in
      (v.answer ≡ check_of (request_of x) p u.greeted u.opened) × (v.words ≡ handed_by x p u.greeted u.opened)
  quiet_answer u v kv quiet = elim kv.answer [ inl h ↦ absurd (both_ways _ quiet h.0) | inr h ↦ h ]

  same_answer : was_programming (event x y) ≡ false → was_programming (event x z) ≡ false → (y.answer ≡ z.answer) × (y.words ≡ z.words)
  same_answer one other =
      let a = quiet_answer s y k one in
      let b = quiet_answer t z l other in
      let p = s.chip.pins in
      let q = t.chip.pins in
      let c : check_of (request_of x) p s.greeted s.opened ≡ check_of (request_of x) q t.greeted t.opened =
      same_check x p q s.greeted s.opened peers.kin.blank peers.kin.facts ∙ rw (peers.greeted, peers.opened) in (
        a.0 ∙ c ∙ sym b.0,
        a.1 ∙ words_for_lem p q peers.kin s.greeted peers.cells x s.opened ∙ ap (λ r. cond (is_done r) (words_for x q) []) c ∙ sym b.1,
      )

  -- where both answer alike, and begin with the same cells
  module _ (held : s.greeted ≡ true → Held s) (e : y.answer ≡ z.answer) (es fs : List Event)
      (start : s.greeted ≡ false → SameStart (first_cells (event x y ∷ es)) (first_cells (event x z ∷ fs))) where
    greeted-after : y.after.greeted ≡ z.after.greeted
    greeted-after = k.greeted ∙ rw (e, peers.greeted) (sym l.greeted)

    cells_after : y.after.greeted ≡ true → cells_in y.after.chip.pins ≡ cells_in z.after.chip.pins
    unfolding first_cells
    cells_after h =
        elim (cases_Bool s.greeted) [
          | inl g ↦
              let o = same_at (λ _ width. ones_of width) s.chip.pins t.chip.pins (peers.kin.facts (held g).rest.live) in
              k.cells g ∙ rw (e, o, peers.cells g) (sym (l.cells (sym peers.greeted ∙ g)))
          | inr g ↦
              rw (k.first g, l.first (sym peers.greeted ∙ g), h, sym greeted-after ∙ h) at (start g)
        ]

    peers_after : Kin y.after.chip.pins z.after.chip.pins → Peers y.after z.after
    peers_after kin =
        record { greeted = greeted-after; opened = k.opened ∙ rw (e, peers.opened) (sym l.opened); kin = kin; cells = cells_after }

    start_after_lem : y.after.greeted ≡ false → SameStart (first_cells es) (first_cells fs)
    unfolding first_cells
    start_after_lem h =
        let a = k.greeted in
        let g : s.greeted ≡ false = grind arith in
        rw (k.first g, l.first (sym peers.greeted ∙ g), h, sym greeted-after ∙ h) at (start g)

-- no event up to place i met a chip that was still programming
abbrev QuietBy : List Event → List Event → Event → ℕ → Type 0
QuietBy es fs d i = (j : ℕ) → j ≤ i → (was_programming (get_or es j d) ≡ false) × (was_programming (get_or fs j d) ≡ false)

alike : (xs : List Call) (s t : Driver) → Sound s → Sound t → Peers s t →
    (s.greeted ≡ false → SameStart (first_cells (events_from unseen xs s)) (first_cells (events_from unseen xs t))) →
    (d : Event) (i : ℕ) → i < length xs → let es = events_from unseen xs s in let fs = events_from unseen xs t in
    QuietBy es fs d i → ((get_or es i d).answer ≡ (get_or fs i d).answer) × ((get_or es i d).words ≡ (get_or fs i d).words)
unfolding events_from
alike [] s t one other peers start d i h quiet = absurd (omega arith)
alike (x ∷ xs) s t one other peers start d zero h quiet =
    same_answer x s t (performed unseen x s) (performed unseen x t) (kept s one x) (kept t other x) peers
    (quiet 0 zero-le).0 (quiet 0 zero-le).1
alike (x ∷ xs) s t one other peers start d (suc i) h quiet =
    let y = performed unseen x s in
    let z = performed unseen x t in
    let k = kept s one x in
    let l = kept t other x in
    let e = (same_answer x s t y z k l peers (quiet 0 zero-le).0 (quiet 0 zero-le).1).0 in
    let es = events_from unseen xs y.after in
    let fs = events_from unseen xs z.after in
    alike xs y.after z.after (sound_after s one x) (sound_after t other x)
    (peers_after x s t y z k l peers one.held e es fs start (kin-after x s t one other peers.kin))
    (start_after_lem x s t y z k l peers one.held e es fs start) d i (omega arith) (λ j b. quiet (suc j) (suc-le-suc b))

-- a quiet history has no such event at any place
quiet_by : (es fs : List Event) (e f : Event) (i : ℕ) → slice_get es i ≡ Some e → slice_get fs i ≡ Some f → Quiet es fs i → QuietBy es fs e i
quiet_by es fs e f i one other quiet j h =
    let k = slice_get_within es i e one in
    let l = slice_get_within fs i f other in
    quiet j (get_or es j e) (get_or fs j e) h (slice_get-get_or es j e (omega (arith, k, h))) (slice_get-get_or fs j e (omega (arith, l, h)))

pub chips_alike_answer_alike : (xs : List Call) (p q : Pins) → Fitting p → Fitting q → facts_of p ≡ facts_of q →
    Alike (events_on xs p) (events_on xs q)
chips_alike_answer_alike xs p q one other facts start i e f at_one at_other quiet =
    let s = state false false (bare_chip p) in
    let t = state false false (bare_chip q) in
    let es = events_from unseen xs s in
    let fs = events_from unseen xs t in
    let h = slice_get_within es i e at_one in
    let a =
    alike xs s t (sound_new p one) (sound_new q other)
    (record { greeted = refl; opened = refl; kin = kin p q facts; cells = λ g. absurd (false≢true g) }) (λ _. start) e i
    (omega (arith, h, events_length xs s)) (quiet_by es fs e f i at_one at_other quiet) in
    let found : get_or es i e ≡ e = get_or_from_slice_get es i e e at_one in
    let other_found : get_or fs i e ≡ f = get_or_from_slice_get fs i f e at_other in
    rw (found, other_found) at a
