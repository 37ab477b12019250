-- What samples decide, in order: the addresses of READs, the instructions, and the wrong counts.
use Rattle.std.specs.Prelude.{if◌then◌else◌, ◌≡◌, ℕ, suc, ◌-◌, ◌≤◌, Bool, true, false, not, ◌&&◌, List, [], ◌∷◌, nat_lt}
use Rattle.protocol.specs.declared.instruction.Kind.{Kind}
use Rattle.protocol.specs.declared.instruction.Kind.TheVariants.{Read, Write, Erase, Wen, Wds, Eral, Wrall}
use Rattle.protocol.specs.declared.parts.Part.{Part}
use Rattle.protocol.specs.declared.settings.Setup.{Setup}
use Rattle.protocol.specs.Instructions.{is_change}
use Rattle.chips.specs.declared.state.Phase.{Phase}
use Rattle.chips.specs.declared.state.Phase.TheVariants.{Waiting, Taking, Reading, Spoiled, Over}
use Rattle.chips.specs.declared.state.Decision.{Decision}
use Rattle.chips.specs.declared.state.Decision.TheVariants.{Nothing, Start, Address, Data, Instruction, WrongCount}
use Rattle.chips.specs.Machine.{if_carried_out, written}
use Rattle.chips.specs.Pins.{Pins, Put, put_on}
use Rattle.wire.specs.Deciding.{Note, decision_on}

-- a decision before others, if it is one that matters
abbrev pub decisions_with : Decision → List Decision → List Decision
decisions_with Nothing ds = ds
decisions_with (Start width) ds = ds
decisions_with (Address width cell) ds = Address width cell ∷ ds
decisions_with (Data width cell next) ds = ds
decisions_with (Instruction kind width cell value verdict) ds = Instruction kind width cell value verdict ∷ ds
decisions_with WrongCount ds = WrongCount ∷ ds

unfoldable pub decisions_of : Pins → List Put → List Decision
decisions_of p [] = []
decisions_of p (x ∷ xs) = decisions_with (decision_on p x) (decisions_of (put_on p x) xs)

-- the decisions among notes
unfoldable pub decisions_in : List Note → List Decision
decisions_in [] = []
decisions_in (n ∷ ns) = decisions_with n.decision (decisions_in ns)

-- the notes of samples before a place
unfoldable pub notes_before : ℕ → List Note → List Note
notes_before end [] = []
notes_before end (n ∷ ns) = if nat_lt n.place end then n ∷ notes_before end ns else notes_before end ns

-- What decisions do to the bytes, to the open flag, and to the samples left of a cycle.
unfoldable pub written_all : Part → List Decision → List ℕ → List ℕ
written_all part [] bytes = bytes
written_all part (d ∷ ds) bytes = written_all part ds (written part d bytes)

abbrev pub opened_by : Kind → Bool → Bool
opened_by Read enabled = enabled
opened_by Write enabled = enabled
opened_by Erase enabled = enabled
opened_by Wen enabled = true
opened_by Wds enabled = false
opened_by Eral enabled = enabled
opened_by Wrall enabled = enabled

abbrev pub enabled_by : Decision → Bool → Bool
enabled_by Nothing enabled = enabled
enabled_by (Start width) enabled = enabled
enabled_by (Address width cell) enabled = enabled
enabled_by (Data width cell next) enabled = enabled
enabled_by (Instruction kind width cell value verdict) enabled = opened_by kind enabled
enabled_by WrongCount enabled = enabled

unfoldable pub enabled_all : List Decision → Bool → Bool
enabled_all [] enabled = enabled
enabled_all (d ∷ ds) enabled = enabled_all ds (enabled_by d enabled)

-- a cycle begins where a change is carried out
abbrev pub cycle_of : Setup → Kind → ℕ → ℕ
cycle_of setup Read left = left
cycle_of setup Write left = setup.cycles.write
cycle_of setup Erase left = setup.cycles.write
cycle_of setup Wen left = left
cycle_of setup Wds left = left
cycle_of setup Eral left = setup.cycles.eral
cycle_of setup Wrall left = setup.cycles.wrall

abbrev pub left_by : Setup → Decision → ℕ → ℕ
left_by setup Nothing left = left
left_by setup (Start width) left = left
left_by setup (Address width cell) left = left
left_by setup (Data width cell next) left = left
left_by setup (Instruction kind width cell value verdict) left = if_carried_out verdict (cycle_of setup kind left) left
left_by setup WrongCount left = left

-- from a place up to an end: less by one for every sample, but for what the noted decisions make of it
unfoldable pub left_after : Setup → ℕ → ℕ → List Note → ℕ → ℕ
left_after setup place end [] left = left - (end - place)
left_after setup place end (n ∷ ns) left =
    left_after setup (suc n.place) end ns (left_by setup n.decision (left - (suc n.place - place)))

-- is it a change?
abbrev pub is_changing : Decision → Bool
is_changing Nothing = false
is_changing (Start width) = false
is_changing (Address width cell) = false
is_changing (Data width cell next) = false
is_changing (Instruction kind width cell value verdict) = is_change kind
is_changing WrongCount = false

unfoldable pub no_change : List Decision → Bool
no_change [] = true
no_change (d ∷ ds) = not (is_changing d) && no_change ds

-- has it begun an instruction that has not yet decided anything?
abbrev pub owes : Phase → Bool
owes Waiting = false
owes (Taking width count bits) = true
owes (Reading width cell next) = false
owes Spoiled = true
owes Over = false

-- no clock: CS and SK are never high together
unfoldable pub has_no_clock : List Put → Bool
has_no_clock [] = true
has_no_clock (x ∷ xs) = not (x.cs && x.sk) && has_no_clock xs

-- CS stays low
unfoldable pub is_unselected : List Put → Bool
is_unselected [] = true
is_unselected (x ∷ xs) = not x.cs && is_unselected xs

-- A chip whose CS is low owes nothing: so every chip at rest, and every chip that is no blank after a sample.
abbrev pub Settled : Pins → Type 0
Settled p = p.machine.state.cs ≡ false → owes p.machine.state.phase ≡ false

abbrev pub is_start : Decision → Bool
is_start Nothing = false
is_start (Start width) = true
is_start (Address width cell) = false
is_start (Data width cell next) = false
is_start (Instruction kind width cell value verdict) = false
is_start WrongCount = false

-- Start bits and decisions take turns: a start bit comes where nothing is owed, and a decision where one is.
unfoldable pub Alternate : Bool → List Note → Bool → Type 0
Alternate owed [] end = owed ≡ end
Alternate owed (n ∷ ns) end = (is_start n.decision ≡ not owed) × Alternate (not owed) ns end

-- one after the other, from a place on and before an end
unfoldable pub InOrder : ℕ → List Note → ℕ → Type 0
InOrder place [] end = place ≤ end
InOrder place (n ∷ ns) end = (place ≤ n.place) × InOrder (suc n.place) ns end
