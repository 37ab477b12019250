-- What the definitions of the form give, one record after the other.
use Rattle.std.proofs.Common.{◌≡◌, ℕ, zero, suc, ◌+◌, ◌-◌, ◌≤◌, Bool, true, false, cond, ◌&&◌, eqb, leb, List, [], ◌++◌, length, take, drop, Ok, Err, Result, sym, refl, ap, ◌∙◌, arith, length-drop}
use Rattle.std.proofs.lemmas.List.{append-nil, take_rest, length-take-le, length-append}
use Rattle.std.proofs.lemmas.Bool.{and_parts, leb-true, lt-leb, ltb-false}
use Rattle.protocol.specs.declared.refusal.Refusal.{Refusal}
use Rattle.protocol.specs.declared.settings.Settings.{Settings}
use Rattle.protocol.proofs.Passed.{ok_not_err, passed_over, passed}
use Rattle.trace_file.specs.Form.{Rest, bad_form, bind, marked, behind, settings_of, count_of, record_of, samples_up_to, samples_of, contents_of, too_long, trace_of}
use Rattle.trace_file.specs.Steps.{samples_left}

bind_ok : {A B : Type 0} (r : Result A Refusal) (next : A → Result B Refusal) (y : B) → Ok y ≡ bind r next → (x : A) × (Ok x ≡ r) × (Ok y ≡ next x)
bind_ok (Ok x) next y h = (x, refl, h)
bind_ok (Err e) next y h = absurd (ok_not_err y e h)

bind_same : {A B : Type 0} (r : Result A Refusal) (f g : A → Result B Refusal) → ((x : A) → Ok x ≡ r → f x ≡ g x) → bind r f ≡ bind r g
bind_same (Ok x) f g h = h x refl
bind_same (Err e) f g h = refl

cond_ok : {A : Type 0} (b : Bool) (x y : A) (e : Refusal) → ◌≡◌ {A = Result A Refusal} (Ok x) (cond b (Ok y) (Err e)) → (b ≡ true) × (x ≡ y)
cond_ok b x y e h = let p = passed b (Ok y) e x h in (p.0, (let k = p.1 in cc))

-- a record that stands: it has four bytes and its samples, and what follows begins behind it
pub record Stands (rest : Rest) (samples : List ℕ) (next : Rest) : Type 0 where
  pub places : next.place ≡ rest.place + 4 + length samples
  pub lengths : 4 + length samples + length next.bytes ≡ length rest.bytes

stands :
    (rest next : Rest) (bytes samples : List ℕ) (count : ℕ) → 4 ≤ length rest.bytes → bytes ≡ behind 4 rest.bytes → count ≤ length bytes →
    samples ≡ take count bytes → next ≡ record { place = rest.place + 4 + count; bytes = drop count bytes } → Stands rest samples next
stands rest next bytes samples count h b k s n =
    let c : length samples ≡ count = ap length s ∙ length-take-le count bytes k in
    let m : length bytes ≡ length rest.bytes - 4 = ap length (b ∙ take_rest rest.bytes 4) ∙ length-drop 4 rest.bytes in
    let d : length next.bytes ≡ length bytes - count = ap (λ (x : Rest). length x.bytes) n ∙ length-drop count bytes in
    let p : next.place ≡ rest.place + 4 + count = ap (λ (x : Rest). x.place) n in
    record { places = omega arith; lengths = omega arith }

pub record_stands : (rest : Rest) (samples : List ℕ) (next : Rest) → Ok (samples, next) ≡ record_of rest → Stands rest samples next
record_stands rest samples next h =
    let k = bind_ok (count_of rest) _ (samples, next) h in
    let a = cond_ok (leb 4 (length rest.bytes) && marked 2 rest.bytes) k.0 _ _ k.1 in
    let b = cond_ok (leb k.0.0 (length k.0.1)) (samples, next) _ _ k.2 in
    stands rest next k.0.1 samples k.0.0 (leb-true _ _ (and_parts _ _ a.0).0) (ap (λ (q : ℕ × List ℕ). q.1) a.1) (leb-true _ _ b.0)
    (ap (λ (q : List ℕ × Rest). q.0) b.1) (ap (λ (q : List ℕ × Rest). q.1) b.1)

nothing_left : (rest : Rest) → length rest.bytes ≤ 0 → record_of rest ≡ Err (bad_form rest.place)
nothing_left rest h = rw (lt-leb 4 (length rest.bytes) (omega arith))

-- the samples of a record, and of those behind it unless the file ends there
abbrev joined_by : (Rest → Result (List ℕ) Refusal) → List ℕ × Rest → Result (List ℕ) Refusal
joined_by others q = cond (eqb (length q.1.bytes) 0) (Ok q.0) (bind (others q.1) (λ more. Ok (q.0 ++ more)))

-- the bound on the number of records does not matter
any_bound : (f g : ℕ) (rest : Rest) → length rest.bytes ≤ f → length rest.bytes ≤ g → samples_up_to f rest ≡ samples_up_to g rest
unfolding samples_up_to
any_bound zero zero rest h k = refl
any_bound zero (suc g) rest h k = sym (ap (λ (r : Result (List ℕ × Rest) Refusal). bind r (joined_by (samples_up_to g))) (nothing_left rest h))
any_bound (suc f) zero rest h k = ap (λ (r : Result (List ℕ × Rest) Refusal). bind r (joined_by (samples_up_to f))) (nothing_left rest k)
any_bound (suc f) (suc g) rest h k =
    bind_same (record_of rest) (joined_by (samples_up_to f)) (joined_by (samples_up_to g))
    (λ q e.
    let s = (record_stands rest q.0 q.1 e).lengths in
    ap
    (λ (r : Result (List ℕ) Refusal). cond (eqb (length q.1.bytes) 0) (Ok q.0) (bind r (λ more. Ok (q.0 ++ more))))
    (any_bound f g q.1 (omega arith) (omega arith)))

-- one record more
pub one_record : (rest : Rest) → samples_of rest ≡ bind (record_of rest) (joined_by samples_of)
unfolding samples_up_to
one_record rest =
    any_bound (length rest.bytes) (suc (length rest.bytes)) rest (omega arith) (omega arith)
    ∙ bind_same (record_of rest) (joined_by (samples_up_to (length rest.bytes))) (joined_by samples_of)
    (λ q e.
    let s = (record_stands rest q.0 q.1 e).lengths in
    ap
    (λ (r : Result (List ℕ) Refusal). cond (eqb (length q.1.bytes) 0) (Ok q.0) (bind r (λ more. Ok (q.0 ++ more))))
    (any_bound (length rest.bytes) (length q.1.bytes) q.1 (omega arith) (omega arith)))

-- samples in front of an answer
abbrev pub joined : List ℕ → Result (List ℕ) Refusal → Result (List ℕ) Refusal
joined done r = bind r (λ more. Ok (done ++ more))

joined_or_last : (b : Bool) (samples : List ℕ) (r : Result (List ℕ) Refusal) → cond b (Ok samples) (joined samples r) ≡ joined samples (cond b (Ok []) r)
joined_or_last true samples r = ap Ok (sym (append-nil samples))
joined_or_last false samples r = refl

-- where the first record stands
pub samples_joined : (rest next : Rest) (samples : List ℕ) → Ok (samples, next) ≡ record_of rest → samples_of rest ≡ joined samples (samples_left next)
samples_joined rest next samples e =
    one_record rest ∙ ap (λ (r : Result (List ℕ × Rest) Refusal). bind r (joined_by samples_of)) (sym e)
    ∙ joined_or_last (eqb (length next.bytes) 0) samples (samples_of next)

-- where it does not stand
pub samples_bad : (rest : Rest) (refused : Refusal) → Err refused ≡ record_of rest → samples_of rest ≡ Err refused
samples_bad rest refused e = one_record rest ∙ ap (λ (r : Result (List ℕ × Rest) Refusal). bind r (joined_by samples_of)) (sym e)

-- There are never more samples than bytes.
joined-within :
    (b : Bool) (samples all : List ℕ) (r : Result (List ℕ) Refusal) (n : ℕ) → Ok all ≡ cond b (Ok samples) (bind r (λ more. Ok (samples ++ more))) →
    ((more : List ℕ) → Ok more ≡ r → length more ≤ n) → length all ≤ length samples + n
joined-within true samples all r n h k = let e : all ≡ samples = cc in omega (arith, ap length e)
joined-within false samples all r n h k =
    let m = bind_ok r (λ more. Ok (samples ++ more)) all h in
    let e : all ≡ samples ++ m.0 = (let f = m.2 in cc) in
    omega (arith, ap length e, length-append samples m.0, k m.0 m.1)

samples_within : (most : ℕ) (rest : Rest) (all : List ℕ) → Ok all ≡ samples_up_to most rest → length all ≤ length rest.bytes
unfolding samples_up_to
samples_within zero rest all h = absurd (ok_not_err all _ h)
samples_within (suc most) rest all h =
    let k = bind_ok (record_of rest) (joined_by (samples_up_to most)) all h in
    let s = (record_stands rest k.0.0 k.0.1 k.1).lengths in
    let j = joined-within (eqb (length k.0.1.bytes) 0) k.0.0 all (samples_up_to most k.0.1) (length k.0.1.bytes) k.2
    (samples_within most k.0.1) in
    omega (arith, s, j)

same-samples :
    (s t : Settings) (a b : List ℕ) → ◌≡◌ {A = Result (Settings × List ℕ) Refusal} (Ok (s, a)) (Ok (t, b)) → a ≡ b
same-samples s t a b h = let e : (s, a) ≡ (t, b) = cc in ap (λ (q : Settings × List ℕ). q.1) e

pub trace_within : (file : List ℕ) (settings : Settings) (samples : List ℕ) → Ok (settings, samples) ≡ trace_of file → length samples ≤ 65536
unfolding trace_of
trace_within file settings samples h =
    let c = passed_over (too_long file) (bad_form 65536) (contents_of file) (settings, samples) h in
    let k = bind_ok (settings_of file) _ (settings, samples) (sym c.1) in
    let a = cond_ok (leb 10 (length file) && marked 1 file) k.0 _ _ k.1 in
    let m = bind_ok (samples_of k.0.1) _ (settings, samples) k.2 in
    let e : samples ≡ m.0 = same-samples settings k.0.0 samples m.0 m.2 in
    let d : length k.0.1.bytes ≡ length file - 10 =
    ap (λ (q : Settings × Rest). length q.1.bytes) a.1 ∙ ap length (take_rest file 10) ∙ length-drop 10 file in
    omega (arith, ltb-false _ _ c.0, d, ap length e, samples_within _ _ m.0 m.1)
