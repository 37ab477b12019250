-- Adding to a list, bit by bit.
use Rattle.std.proofs.Common.{◌≡◌, ℕ, ◌+◌, ◌-◌, ◌≤◌, Bool, List, [], ◌++◌, length, take, drop, Ok, Result, sym, refl, ap, ◌∙◌, subst, append_assoc, add-zero, le-leb, length-drop, arith}
use Rattle.std.proofs.lemmas.List.{append-nil, length-append, length-take-le, drop-drop, take-append-drop}
use Rattle.std.proofs.lemmas.Slice.{take-put_mid, drop-put_mid}
use Rattle.std.proofs.lemmas.Grind.{common_steps}
use borrow.Rule.Slice.PartMut.{put_mid}
use Rattle.protocol.specs.declared.list.List.{List as Held}
use Rattle.protocol.specs.declared.refusal.Refusal.{Refusal}
use Rattle.protocol.specs.Lists.{items, free, room, has_places, Added, Refilled, FilledFrom, AddsFrom}

abbrev Answer : Type 0
Answer = Result (Unit {0}) Refusal

module _ {T : Type 0} where
  pub length-items : (l : Held T) → length (items l) ≡ l.count
  length-items l = length-take-le l.count l.slice.now l.within

  pub added_none : (l : Held T) → Added l [] l
  added_none l =
      record { adds = sym (append-nil (items l)); past = refl; counts = sym (add-zero l.count); same_room = refl; same_slice = refl }

  pub added_twice : (l m n : Held T) (xs ys : List T) → Added l xs m → Added m ys n → Added l (xs ++ ys) n
  added_twice l m n xs ys a b =
      let k : length (xs ++ ys) ≡ length xs + length ys = length-append xs ys in
      record {
        adds = b.adds ∙ ap (λ (zs : List T). zs ++ ys) a.adds ∙ append_assoc (items l) xs ys;
        past =
            b.past ∙ ap (λ (zs : List T). drop (length ys) zs) a.past ∙ drop-drop (length ys) (length xs) (free l)
            ∙ ap (λ (j : ℕ). drop j (free l)) (sym k);
        counts = omega (arith, k, a.counts, b.counts);
        same_room = b.same_room ∙ a.same_room;
        same_slice = b.same_slice ∙ a.same_slice;
      }

  -- items put over the places behind the first n
  pub put_over : (s xs ys : List T) (n k : ℕ) → k ≡ length xs → ys ≡ xs → n + length xs ≤ length s →
      (take (n + length xs) (put_mid n k s ys) ≡ take n s ++ xs) × (drop (n + length xs) (put_mid n k s ys) ≡ drop (length xs) (drop n s))
      × (length (put_mid n k s ys) ≡ length s)
  put_over s xs ys n k e f h =
      let g : length ys ≡ length xs = ap length f in (
        take-put_mid n k s ys (n + length xs) (omega (arith, g)) (omega (arith, h)) ∙ ap (λ (zs : List T). take n s ++ zs) f,
        drop-put_mid n k s ys (n + length xs) (omega (arith, e)) (omega (arith, h)) (omega (arith, e, g)) ∙ sym (drop-drop (length xs) n s),
        grind (arith, common_steps, e, g, h),
      )

  -- j places that something else has filled
  pub put_places : (s ys : List T) (n k j : ℕ) → length ys ≡ j → k ≡ j → n + j ≤ length s →
      (take (n + j) (put_mid n k s ys) ≡ take n s ++ ys) × (drop (n + j) (put_mid n k s ys) ≡ drop (length ys) (drop n s))
      × (length (put_mid n k s ys) ≡ length s)
  put_places s ys n k j long e h = rw (← long) (put_over s ys ys n k (e ∙ sym long) refl (rw long h))

  -- a source that is done has filled them
  pub filled_done : {S : Type 0} (fills : List T → S → List T → Answer → Type 0) (l m : Held T) (count k : ℕ) (t : S) (ys : List T) →
      m.slice.now ≡ put_mid l.count k l.slice.now ys → m.count ≡ l.count + count → m.slice.ghost_name ≡ l.slice.ghost_name → length ys ≡ count →
      k ≡ count → l.count + count ≤ room l → fills (take count (free l)) t ys (Ok tt) → FilledFrom fills l count t m (Ok tt)
  filled_done fills l m count k t ys put n same long e h f =
      let p = put_places l.slice.now ys l.count k count long e h in
      record {
        places = ys;
        many = long;
        leaves = f;
        extends =
            record { adds = rw (put, n) p.0; past = rw (put, n) p.1; counts = n ∙ ap (λ (j : ℕ). l.count + j) (sym long); same_room = ap length put ∙ p.2; same_slice = same };
      }

  -- a source is asked where there is room
  pub asked : {S : Type 0} (fills : List T → S → List T → Answer → Type 0) (l m : Held T) (count place : ℕ) (s t : S) (r : Answer) →
      l.count + count ≤ room l → AddsFrom fills (has_places l count) l count place s t m r → FilledFrom fills l count t m r
  asked fills l m count place s t r h a =
      subst (λ (fit : Bool). AddsFrom fills fit l count place s t m r) (le-leb count (room l - l.count) (omega (arith, h))) a

  -- places that are as they were
  module _ (l m : Held T) (n : ℕ) (h : l.count + n ≤ room l) where
    pub length-next : length (take n (free l)) ≡ n
    length-next = length-take-le n (free l) (omega (arith, h, length-drop l.count l.slice.now))

    pub unfilled : Refilled l (take n (free l)) m → Added l [] m
    unfilled f =
        record {
          adds = f.same_items ∙ sym (append-nil (items l));
          past = f.past ∙ ap (λ (j : ℕ). take n (free l) ++ drop j (free l)) length-next ∙ take-append-drop n (free l);
          counts = f.same_count ∙ sym (add-zero l.count);
          same_room = f.same_room;
          same_slice = f.same_slice;
        }
