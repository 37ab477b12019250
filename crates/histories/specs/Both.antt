-- What becomes of a trace, where calls are performed on two chips before it is replayed.
use Rattle.std.specs.Prelude.{◌≡◌, ℕ, Bool, cond, ◌&&◌, List, length, Ok, Err, Result}
use Rattle.protocol.specs.declared.refusal.Cause.TheVariants.{NoRoom}
use Rattle.protocol.specs.declared.refusal.Refusal.{Refusal}
use Rattle.protocol.specs.declared.settings.Setup.{Setup}
use Rattle.protocol.specs.Chosen.{setup_of}
use Rattle.protocol.specs.Refusals.{refusal}
use Rattle.traces.specs.declared.entry.Entry.{Entry}
use Rattle.traces.specs.Account.{applied_all}
use Rattle.traces.specs.Reading.{ReadAfter}
use Rattle.traces.specs.Replaying.{replayable, levels_after}
use Rattle.histories.specs.declared.both.Trace.{Trace}
use Rattle.histories.specs.declared.call.Call.{Call}
use Rattle.histories.specs.declared.told.Told.{Told}
use Rattle.histories.specs.Handed.{new_items}
use Rattle.histories.specs.Performing.{has_room}

-- is there room for what the calls hand out on both chips?
abbrev pub both_fit : List Call → Told → Told → Bool
both_fit calls one other = has_room calls one && has_room calls other

-- what stands in the way of the replay: no room for the calls, then what `replay` refuses
abbrev pub checked : Bool → Trace → Result Setup Refusal
checked fit t = cond fit (replayable t.settings (length t.memory.now) t.samples.now (length t.levels.now)) (Err (refusal NoRoom 0))

-- the entries and the levels of DO, in the same places
pub record Replayed (check : Result Setup Refusal) (old new : Trace) (r : Result (Unit {0}) Refusal) : Type 0 where
  pub listed : ReadAfter check old.samples.now old.entries new.entries r
  pub levels : new.levels.now ≡ levels_after check r old.samples.now old.memory.now old.levels.now
  pub same_settings : new.settings ≡ old.settings
  pub same_samples : new.samples ≡ old.samples
  pub same_memory : new.memory.ghost_name ≡ old.memory.ghost_name
  pub same_levels : new.levels.ghost_name ≡ old.levels.ghost_name

-- these bytes, altered by exactly the entries that were carried out, in order, of a chip that exists
abbrev pub AlteredBy : Result Setup Refusal → List Entry → List ℕ → List ℕ → Type 0
AlteredBy (Ok setup) entries bytes bytes' = bytes' ≡ applied_all setup.part entries bytes
AlteredBy (Err e) entries bytes bytes' = ⊥

-- The listing accounts for the bytes: where nothing is refused, the memory is what it was, altered by exactly the new entries; else it is
-- what it was.
abbrev pub Accounted : Trace → Trace → Result (Unit {0}) Refusal → Type 0
Accounted old new (Ok _) = AlteredBy (setup_of old.settings) (new_items old.entries new.entries) old.memory.now new.memory.now
Accounted old new (Err e) = new.memory.now ≡ old.memory.now
