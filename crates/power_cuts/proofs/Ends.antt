-- A history on a chip with a twin, both lent.
use Rattle.std.proofs.Common.{◌≡◌, ℕ, Bool, true, false, List, [], ◌∷◌, take, Ok, Result, refl, sym, ap, ◌∙◌}
use Rattle.std.specs.Prelude.{IfOk, if◌then◌else◌}
use Rattle.protocol.specs.declared.refusal.Refusal.{Refusal}
use Rattle.chips.specs.Fitting.{Fitting}
use Rattle.chips.specs.Pins.{Pins, Put}
use Rattle.chips.specs.Seen.{Seen, stepped}
use Rattle.wire.specs.Runs.{run}
use Rattle.wire.specs.Sent.{told}
use Rattle.wire.proofs.Tells.{told-pins}
use Rattle.driver.specs.Outcome.{State, state}
use Rattle.histories.specs.declared.call.Call.{Call}
use Rattle.histories.specs.declared.told.Told.{Told}
use Rattle.histories.specs.Events.{end_from, events_from, events_of, bare_chip}
use Rattle.histories.specs.Performing.{room_answer, Performed, Performs}
use Rattle.histories.specs.Samples.{samples_from}
use Rattle.histories.proofs.Effects.{sound_new}
use Rattle.histories.proofs.Going.{lent, lent_chip}
use Rattle.histories.proofs.Samples.{from_told, end_is_told}
use Rattle.histories.proofs.Views.{views_do_not_matter}
use Rattle.power_cuts.specs.Counting.{uncut_count}
use Rattle.power_cuts.specs.Cuts.{CountsWhole, HasBytesOfWhole}
use Rattle.power_cuts.specs.Twin.{Twinned, twin_after}
use Rattle.power_cuts.proofs.Twins.{told-twinned}
use Rattle.power_cuts.proofs.Uncut.{uncut-whole}
use Rattle.power_cuts.proofs.Whole.{whole_of, cuts}

-- a lent chip goes on as itself
told-lent : {L V : Type 0} (next : V → Pins → Put → V) (name : L) (x : Seen V) (xs : List Put) →
    told (lent next) (lent_chip name x) xs ≡ lent_chip name (told next x xs)
unfolding told
told-lent next name x [] = refl
told-lent next name x (y ∷ ys) = told-lent next name (stepped next x y) ys

-- without room the twin is told nothing
pub nothing_sent : {W : Type 0} (twin_next : W → Pins → Put → W) (y : Seen W) (xs : List Put) (fit : Bool) → false ≡ fit →
    y ≡ told twin_next y (if fit then xs else [])
unfolding told
nothing_sent twin_next y xs fit f = rw (← f) refl

module _ {L V M W : Type 0} (next : V → Pins → Put → V) (twin_next : W → Pins → Put → W) (calls : List Call) (k : ℕ) (name : L) (x : Seen V)
    (twin_name : M) (y : Seen W) where
  abbrev both : Twinned (L × V) (M × W) → Pins → Put → Twinned (L × V) (M × W)
  both = twin_after (lent next) (lent twin_next)

  abbrev chip : Seen (Twinned (L × V) (M × W))
  chip = record { view = record { view = (name, x.view); twin = lent_chip twin_name y; left = k; cut = false }; pins = x.pins }

  abbrev start : State (Twinned (L × V) (M × W))
  start = state false false chip

  abbrev samples : List Put
  samples = samples_from calls x.pins

  -- the chip after the history
  ends : (t : State (Twinned (L × V) (M × W))) → t ≡ end_from both calls start →
      (record { view = t.chip.view.view; pins = t.chip.pins } ≡ lent_chip name (told next x samples))
      × (t.chip.view.twin ≡ lent_chip twin_name (told twin_next y (take k samples)))
  ends t e =
      let all = ap (λ (u : State (Twinned (L × V) (M × W))). u.chip) e ∙ from_told both calls start
      ∙ told-twinned (lent next) (lent twin_next) (name, x.view) (lent_chip twin_name y) k false x.pins samples in (
        ap (λ (c : Seen (Twinned (L × V) (M × W))). record { view = c.view.view; pins = c.pins }) all ∙ told-lent next name x samples,
        ap (λ (c : Seen (Twinned (L × V) (M × W))). c.view.twin) all ∙ told-lent twin_next twin_name y (take k samples),
      )

  pub name_kept : (s t : State (Twinned (L × V) (M × W))) → s ≡ start → t ≡ end_from both calls s → t.chip.view.view.0 ≡ s.chip.view.view.0
  name_kept s t h e =
      rw h (ap (λ (c : Seen (L × V)). c.view.0) (ends t (e ∙ ap (end_from both calls) h)).0)

  pub twin_name_kept : (s t : State (Twinned (L × V) (M × W))) → s ≡ start → t ≡ end_from both calls s → t.chip.view.twin.view.0 ≡ s.chip.view.twin.view.0
  twin_name_kept s t h e =
      rw h (ap (λ (c : Seen (M × W)). c.view.0) (ends t (e ∙ ap (end_from both calls) h)).1)

  module _ (s t : State (Twinned (L × V) (M × W))) (old new : Told) (h : s ≡ start) (p : Performed both calls s t old new) where
    pub performs : (chip' : Seen V) (fit : Bool) → true ≡ fit → chip' ≡ record { view = t.chip.view.view.1; pins = t.chip.pins } →
        Performs next fit calls x chip' old new (room_answer fit)
    performs chip' fit f c =
        let same : events_from both calls start ≡ events_of next calls x =
        (views_do_not_matter both calls chip).0 ∙ sym (views_do_not_matter next calls x).0 in
        let from : events_from both calls s ≡ events_of next calls x = ap (events_from both calls) h ∙ same in
        rw (← f) (
          refl,
          c ∙ ap (λ (z : Seen (L × V)). record { view = z.view.1; pins = z.pins }) (ends t (p.ends ∙ ap (end_from both calls) h)).0
              ∙ sym (end_is_told next calls x),
          rw from at p.answered,
          rw from at p.handed,
        )

    pub sent : (twin' : Seen W) (fit : Bool) → true ≡ fit → twin' ≡ record { view = t.chip.view.twin.view.1; pins = t.chip.view.twin.pins } →
        twin' ≡ told twin_next y (if fit then take k samples else [])
    sent twin' fit f c =
        rw (← f) (c ∙ ap (λ (z : Seen (M × W)). record { view = z.view.1; pins = z.pins }) (ends t (p.ends ∙ ap (end_from both calls) h)).1)

    abbrev wholes : ℕ
    wholes = whole_of calls (state false false (bare_chip x.pins)) k

    counted : uncut_count both calls s ≡ wholes
    counted = ap (uncut_count both calls) h ∙ uncut-whole (lent next) (lent twin_next) calls start refl

    module _ (fits : Fitting x.pins) (r : Result ℕ Refusal) (e : r ≡ Ok (uncut_count both calls s)) where
      pub whole : (fit : Bool) → true ≡ fit → CountsWhole fit calls x.pins k r
      whole fit f =
          let c = cuts calls (state false false (bare_chip x.pins)) k (sound_new x.pins fits) in
          rw (← f, e, counted) (record { within = c.within; come = c.come; cut = c.cut })

      pub bytes : (q : Pins) → q ≡ t.chip.view.twin.pins → y.pins ≡ x.pins → IfOk r (λ n. HasBytesOfWhole calls x.pins n q)
      bytes q c same =
          let at = cuts calls (state false false (bare_chip x.pins)) k (sound_new x.pins fits) in
          let pins : q ≡ run x.pins (take k samples) =
          c ∙ ap (λ (z : Seen (M × W)). z.pins) (ends t (p.ends ∙ ap (end_from both calls) h)).1
          ∙ told-pins twin_next y (take k samples) ∙ ap (λ (o : Pins). run o (take k samples)) same in
          rw (e, counted) (record { either = rw pins at.bytes })
