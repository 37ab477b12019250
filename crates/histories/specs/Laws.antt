-- The laws over whole histories, each over every place of a list of events.
use Rattle.std.specs.Prelude.{◌≡◌, ℕ, ◌+◌, ◌%◌, ◌≤◌, false, List, length, take, Some, None, Option, slice_get}
use Rattle.histories.specs.declared.call.Call.{Call}
use Rattle.histories.specs.declared.call.Call.TheVariants.{Greet, Settle, Open, Shut, Read, Run, Write, Erase, Fill, Clear}
use Rattle.histories.specs.Events.{Event}
use Rattle.histories.specs.Book.{book_of}
use Rattle.histories.specs.Alike.{was_programming, first_cells}

-- the address from which a call reads
abbrev pub reads_from : Call → Option ℕ
reads_from Greet = None
reads_from Settle = None
reads_from Open = None
reads_from Shut = None
reads_from (Read address) = Some address
reads_from (Run address count) = Some address
reads_from (Write address value) = None
reads_from (Erase address) = None
reads_from (Fill value) = None
reads_from Clear = None

-- word k of an event is what the book holds for its cell, the cells wrapping
abbrev pub InBook : Option (List ℕ) → Option ℕ → ℕ → ℕ → Type 0
InBook (Some book) (Some address) k word = slice_get book ((address + k) % length book) ≡ Some word
InBook (Some book) None k word = ⊥
InBook None from k word = ⊥

-- Every word that is handed out is what the book then holds for its cell: word k of call i.
abbrev pub Truthful : ℕ → List Event → Type 0
Truthful ones es = (i k : ℕ) (e : Event) (word : ℕ) → slice_get es i ≡ Some e → slice_get e.words k ≡ Some word →
    InBook (book_of ones (take i es)) (reads_from e.call) k word

-- a book that has begun is these cells
abbrev pub Believed : Option (List ℕ) → List ℕ → Type 0
Believed (Some book) cells = book ≡ cells
Believed None cells = Unit {0}

-- no event of the two histories up to place i met a chip that was still programming
abbrev pub Quiet : List Event → List Event → ℕ → Type 0
Quiet es fs i = (j : ℕ) (e f : Event) → j ≤ i → slice_get es j ≡ Some e → slice_get fs j ≡ Some f →
    (was_programming e ≡ false) × (was_programming f ≡ false)

-- where both books have begun, they began with the same cells
abbrev pub SameStart : Option (List ℕ) → Option (List ℕ) → Type 0
SameStart (Some cells) (Some others) = cells ≡ others
SameStart (Some cells) None = Unit {0}
SameStart None b = Unit {0}

-- Two histories of the same calls, which began with the same cells: the same answers and words before the first 'still programming' in either.
abbrev pub Alike : List Event → List Event → Type 0
Alike es fs = SameStart (first_cells es) (first_cells fs) → (i : ℕ) (e f : Event) → slice_get es i ≡ Some e → slice_get fs i ≡ Some f →
    Quiet es fs i → (e.answer ≡ f.answer) × (e.words ≡ f.words)
