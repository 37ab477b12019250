-- What a list kept in a slice holds, and what adding to it does.
use Rattle.std.specs.Prelude.{◌≡◌, ℕ, ◌+◌, ◌-◌, ◌<◌, Bool, true, false, nat_le, List, ◌++◌, length, take, drop, Ok, Err, Result}
use Rattle.protocol.specs.declared.refusal.Cause.TheVariants.{NoRoom}
use Rattle.protocol.specs.declared.refusal.Refusal.{Refusal}
use Rattle.protocol.specs.declared.list.List.{List as Held}
use Rattle.protocol.specs.Refusals.{refusal}

-- the items, in order
abbrev pub items : {T : Type 0} → Held T → List T
items l = take l.count l.slice.now

-- the places of the slice past the items
abbrev pub free : {T : Type 0} → Held T → List T
free l = drop l.count l.slice.now

-- how many items the slice has room for
abbrev pub room : {T : Type 0} → Held T → ℕ
room l = length l.slice.now

-- l with xs behind its items is m: the places past them are as they were, in the same slice
pub record Added {T : Type 0} (l : Held T) (xs : List T) (m : Held T) : Type 0 where
  pub adds : items m ≡ items l ++ xs
  pub past : free m ≡ drop (length xs) (free l)
  pub counts : m.count ≡ l.count + length xs
  pub same_room : room m ≡ room l
  pub same_slice : m.slice.ghost_name ≡ l.slice.ghost_name

-- what adding xs answers and what the list is then: all are added, or there is no room and nothing has changed
abbrev pub Adds : {T : Type 0} → Held T → List T → ℕ → Held T → Result (Unit {0}) Refusal → Type 0
Adds l xs place m (Ok _) = Added l xs m
Adds l xs place m (Err e) = (room l < l.count + length xs) × (e ≡ refusal NoRoom place) × (m ≡ l)

-- are there so many free places?
abbrev pub has_places : {T : Type 0} → Held T → ℕ → Bool
has_places l count = nat_le count (room l - l.count)

-- l with ys in its first free places, and no item more, is m
pub record Refilled {T : Type 0} (l : Held T) (ys : List T) (m : Held T) : Type 0 where
  pub same_items : items m ≡ items l
  pub past : free m ≡ ys ++ drop (length ys) (free l)
  pub same_count : m.count ≡ l.count
  pub same_room : room m ≡ room l
  pub same_slice : m.slice.ghost_name ≡ l.slice.ghost_name

-- what the list is once a source has left ys in its first free places: they are items if it is done, and free if it refuses
abbrev pub Extended : {T : Type 0} → Held T → List T → Held T → Result (Unit {0}) Refusal → Type 0
Extended l ys m (Ok _) = Added l ys m
Extended l ys m (Err e) = Refilled l ys m

-- A source was handed so many free places: it became t, left these places and answered r.
pub record FilledFrom {S T : Type 0} (fills : List T → S → List T → Result (Unit {0}) Refusal → Type 0) (l : Held T) (count : ℕ) (t : S) (m : Held T)
    (r : Result (Unit {0}) Refusal) : Type 0 where
  pub places : List T
  pub many : length places ≡ count
  pub leaves : fills (take count (free l)) t places r
  pub extends : Extended l places m r

-- what adding from a source does: with so many free places it is handed them; without, nothing is done
abbrev pub AddsFrom : {S T : Type 0} → (List T → S → List T → Result (Unit {0}) Refusal → Type 0) → Bool → Held T → ℕ → ℕ → S → S → Held T →
    Result (Unit {0}) Refusal → Type 0
AddsFrom fills true l count place s t m r = FilledFrom fills l count t m r
AddsFrom fills false l count place s t m r = (r ≡ Err (refusal NoRoom place)) × (t ≡ s) × (m ≡ l)
