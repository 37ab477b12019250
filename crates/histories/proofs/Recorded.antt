-- The machine of a chip runs the samples that the calls put, so the entries of these account for its bytes.
use Rattle.std.proofs.Common.{◌≡◌, Bool, true, false, List, [], ◌∷◌, map, Ok, Result, sym, refl, ap, ◌∙◌, arith}
use Rattle.protocol.specs.declared.refusal.Refusal.{Refusal}
use Rattle.protocol.specs.declared.sample.Sample.{Sample}
use Rattle.protocol.specs.Samples.{levels, byte_of}
use Rattle.protocol.proofs.Passed.{ok_not_err}
use Rattle.chips.specs.Machine.{Machine, step, run_on}
use Rattle.chips.specs.Pins.{Pins, Put, put_on, sample_of}
use Rattle.chips.specs.Seen.{Seen}
use Rattle.wire.specs.Runs.{run}
use Rattle.wire.proofs.Keeping.{put_is, put_keeps_blank}
use Rattle.wire.proofs.Tells.{told-pins}
use Rattle.traces.proofs.Accounts.{accounted}
use Rattle.histories.specs.declared.call.Call.{Call}
use Rattle.histories.specs.declared.told.Told.{Told}
use Rattle.histories.specs.Events.{end_of}
use Rattle.histories.specs.Performing.{Performs}
use Rattle.histories.specs.Recorded.{byte_on, samples_on, BytesAccounted}
use Rattle.histories.specs.Samples.{samples_from}
use Rattle.histories.proofs.Samples.{end_is_told}

-- a sample's byte has the sample's levels
levels-byte_of : (s : Sample) → levels (byte_of s) ≡ s
levels-byte_of s = grind arith

-- the bytes of samples take a machine where the samples take a chip
run_on-bytes : (xs : List Put) (p : Pins) → p.blank ≡ false → run_on p.machine (map (byte_on p) xs) ≡ (run p xs).machine
unfolding run_on run put_on
run_on-bytes [] p live = refl
run_on-bytes (x ∷ xs) p live =
    let s = sample_of p x in
    let q = put_on p x in
    ap (λ t. run_on (step p.machine t) (map (byte_on p) xs)) (levels-byte_of s)
    ∙ ap (λ (m : Machine). run_on m (map (byte_on p) xs)) (sym (ap (λ (r : Pins). r.machine) (put_is p x live)))
    ∙ run_on-bytes xs q (put_keeps_blank p x ∙ live)

-- the chip as the calls leave it, whatever it keeps of the samples
ended : {V : Type 0} (next : V → Pins → Put → V) (calls : List Call) (chip : Seen V) →
    BytesAccounted calls chip.pins (end_of next calls chip).pins
ended {V = V} next calls chip setup bytes live fresh =
    let p = chip.pins in
    let run_is : (end_of next calls chip).pins ≡ run p (samples_from calls p) =
    ap (λ (x : Seen V). x.pins) (end_is_told next calls chip) ∙ told-pins next chip (samples_from calls p) in
    ap (λ (q : Pins). q.machine.bytes) run_is
    ∙ ap (λ (m : Machine). m.bytes) (sym (run_on-bytes (samples_from calls p) p live))
    ∙ ap (λ (m : Machine). (run_on m (samples_on calls p)).bytes) fresh
    ∙ accounted setup (samples_on calls p) bytes

pub recorded : {V : Type 0} (next : V → Pins → Put → V) (fit : Bool) (calls : List Call) (chip chip' : Seen V) (old new : Told)
    (r : Result (Unit {0}) Refusal) → Performs next fit calls chip chip' old new r → r ≡ Ok tt → BytesAccounted calls chip.pins chip'.pins
recorded {V = V} next true calls chip chip' old new r h ok setup bytes live fresh =
    ap (λ (x : Seen V). x.pins.machine.bytes) h.1 ∙ ended next calls chip setup bytes live fresh
recorded {V = V} next false calls chip chip' old new r h ok setup bytes live fresh = absurd (ok_not_err tt _ (sym ok ∙ h.0))
