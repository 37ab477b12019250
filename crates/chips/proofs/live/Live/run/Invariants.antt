use Rattle.std.proofs.Common.{◌≡◌, ◌++◌, take, drop}
use Rattle.chips.specs.Machine.{run_on, outs}
use Rattle.chips.specs.Rewriting.{Rewritten}
use Rattle.chips.specs.Meaning.{machine_with}
use Rattle.chips.proofs.live.Live.run.Given as goal

abbrev pub invariant-loop-place : goal.invariant-loop-place
invariant-loop-place l =
    let before = machine_with l.initial.self.control l.initial.cells.memory.now l.initial.self.out in
    let now = machine_with l.control l.cells.memory.now l.out in
    record {
      machine : run_on now (drop l.place l.samples) ≡ run_on before l.samples;
      levels : take l.place l.levels ++ outs now (drop l.place l.samples) ≡ outs before l.samples;
      setup : l.control.setup ≡ l.initial.self.control.setup;
      cells : Rewritten l.initial.cells l.cells l.cells.memory.now;
    }
