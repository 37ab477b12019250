-- What replay answers, and what memory, buffer and list then hold.
use Rattle.std.specs.Prelude.{◌≡◌, ℕ, cond, List, length, Ok, Err, Result, ◌==◌, nat_lt}
use Rattle.protocol.specs.declared.list.List.{List as Held}
use Rattle.protocol.specs.declared.refusal.Cause.TheVariants.{HighSample, BufferLength}
use Rattle.protocol.specs.declared.refusal.Refusal.{Refusal}
use Rattle.protocol.specs.declared.settings.Settings.{Settings}
use Rattle.protocol.specs.declared.settings.Setup.{Setup}
use Rattle.protocol.specs.Refusals.{refusal}
use Rattle.protocol.specs.Samples.{high_at}
use Rattle.chips.specs.Machine.{fresh_machine, run_on, outs}
use Rattle.chips.specs.Powered.{fitted}
use Rattle.traces.specs.declared.entry.Entry.{Entry}
use Rattle.traces.specs.Account.{applied_all, new_in}

-- What stands in the way: a sample above 31, a buffer of another length, a chip that does not exist, a memory of another size.
abbrev pub replayable : Settings → ℕ → List ℕ → ℕ → Result Setup Refusal
replayable settings memory samples buffer =
    cond (nat_lt (high_at samples) (length samples)) (Err (refusal HighSample (high_at samples)))
    (cond (buffer == length samples) (fitted settings memory) (Err (refusal BufferLength 0)))

-- the bytes and the levels of DO of a chip that is powered up over a memory and run
abbrev pub bytes_after : Result Setup Refusal → Result (Unit {0}) Refusal → List ℕ → List ℕ → List ℕ
bytes_after (Ok setup) (Ok _) samples memory = (run_on (fresh_machine setup memory) samples).bytes
bytes_after (Ok setup) (Err e) samples memory = memory
bytes_after (Err e) r samples memory = memory

abbrev pub levels_after : Result Setup Refusal → Result (Unit {0}) Refusal → List ℕ → List ℕ → List ℕ → List ℕ
levels_after (Ok setup) (Ok _) samples memory buffer = outs (fresh_machine setup memory) samples
levels_after (Ok setup) (Err e) samples memory buffer = buffer
levels_after (Err e) r samples memory buffer = buffer

-- The listing accounts for the bytes: if nothing was refused, the memory is the old one changed by exactly the new entries that were carried out, in order.
abbrev pub Accounts : Result Setup Refusal → Result (Unit {0}) Refusal → Held Entry → Held Entry → List ℕ → List ℕ → Type 0
Accounts (Ok setup) (Ok _) l m old new = new ≡ applied_all setup.part (new_in l m) old
Accounts (Ok setup) (Err e) l m old new = new ≡ old
Accounts (Err e) r l m old new = new ≡ old
