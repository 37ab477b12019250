use Rattle.std.proofs.Common.{rules}
use Rattle.chips.specs.Meaning.{pins_of}
use Rattle.traces.proofs.Replays.{accounts_are}
use Rattle.traces.proofs.replay.replay.Goals as goal

pub returns-clause-account : goal.returns-clause-account
returns-clause-account c =
    accounts_are c.args.settings c.in_ok-check_replay.field-0 c.args.memory.now c.args.samples.now c.args.levels.now c.in_ok-check_replay.ensures
    _ (pins_of c.new-model.result) (pins_of c.run_trace.new.self) c.run_trace.result c.new-model.ensures.is c.run_trace.ensures.answer
    c.args.entries.now c.read_trace.new.entries _ c.in_ok-read_trace.ensures (search rules) c.run_trace.ensures.chip
