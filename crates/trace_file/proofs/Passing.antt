-- A pass over the records of a file.
use Rattle.std.proofs.Common.{◌≡◌, ℕ, ◌+◌, ◌<◌, List, [], length, Some, Ok, Err, Result, refl, ap, ◌∙◌, arith}
use Rattle.std.proofs.lemmas.List.{length-append}
use Rattle.std.proofs.lemmas.Bool.{eq-eqb, ne_eqb}
use Rattle.protocol.specs.declared.list.List.{List as Held}
use Rattle.protocol.specs.declared.refusal.Refusal.{Refusal}
use Rattle.protocol.specs.Lists.{room, Added}
use Rattle.protocol.proofs.Adding.{added_none, added_twice}
use Rattle.trace_file.specs.Form.{Rest, bind, record_of, samples_of}
use Rattle.trace_file.specs.Steps.{samples_left, Next, AddsAll}
use Rattle.trace_file.proofs.Reading.{joined, samples_joined, samples_bad}

some_left : (rest : Rest) → 0 < length rest.bytes → samples_left rest ≡ samples_of rest
some_left rest h = rw (ne_eqb (length rest.bytes) 0 (omega arith))

-- the samples that are left, before each call of the iterator
pub left_none : (rest : Rest) → length rest.bytes ≡ 0 → samples_left rest ≡ Ok []
left_none rest h = rw (eq-eqb (length rest.bytes) 0 h)

pub left_joined : (rest next : Rest) (samples : List ℕ) → Next rest (Some (Ok samples)) next → samples_left rest ≡ joined samples (samples_left next)
left_joined rest next samples n = some_left rest n.0 ∙ samples_joined rest next samples n.1

pub left_bad : (rest : Rest) (refused : Refusal) → (0 < length rest.bytes) × (Err refused ≡ record_of rest) → samples_left rest ≡ Err refused
left_bad rest refused n = some_left rest n.0 ∙ samples_bad rest refused n.1

-- so many samples, and those that an answer has
abbrev pub counted : ℕ → Result (List ℕ) Refusal → Result ℕ Refusal
counted count r = bind r (λ samples. Ok (count + length samples))

pub counted_more : (count : ℕ) (samples : List ℕ) (r : Result (List ℕ) Refusal) → counted (count + length samples) r ≡ counted count (joined samples r)
counted_more count samples (Ok more) = ap (λ (n : ℕ). Ok n) (omega (arith, length-append samples more))
counted_more count samples (Err e) = refl

-- adding nothing, samples before others, and samples that find no room
pub adds_none : (l : Held ℕ) → AddsAll (Ok []) l l (Ok tt)
adds_none l = λ h. (added_none l, refl)

module _ (x : Result (List ℕ) Refusal) (samples : List ℕ) (l m : Held ℕ) (r : Result (Unit {0}) Refusal) where
  pub adds_more : (k : Held ℕ) → Added l samples k → AddsAll x k m r → AddsAll (joined samples x) l m r
  adds_more k a = elim x as (λ y. AddsAll y k m r → AddsAll (joined samples y) l m r) [
    | Ok more ↦
        λ h within.
        let t = h (omega (arith, within, length-append samples more, a.counts, a.same_room)) in
        (added_twice l k m samples more a t.0, t.1)
    | Err e ↦ λ h. tt
  ]

  pub adds_full : room l < l.count + length samples → AddsAll (joined samples x) l m r
  adds_full f = elim x as (λ y. AddsAll (joined samples y) l m r) [
    | Ok more ↦ λ within. absurd (omega (arith, f, within, length-append samples more))
    | Err e ↦ tt
  ]
