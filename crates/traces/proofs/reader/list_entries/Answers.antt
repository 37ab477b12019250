use Rattle.std.proofs.Common.{◌≡◌, ◌+◌, drop, ◌∙◌}
use Rattle.std.proofs.lemmas.Result.{err_from_is_err_and}
use Rattle.traces.specs.Entries.{before, entries_from}
use Rattle.traces.proofs.Entering.{enters_none, enters_full, enters_more, next_entry, no_more}
use Rattle.traces.proofs.reader.list_entries.Goals as goal
use Rattle.traces.proofs.reader.list_entries.Goals.{After-enter, in-Some+in_ok-push, in_default}

-- what the calls of one turn say of the entries to come
turned : (c : After-enter) →
    entries_from c.args.setup c.loop-place.control.state c.loop-place.start c.loop-place.place (drop c.loop-place.place c.args.samples.now)
    ≡ before c.enter.result
    (entries_from c.args.setup c.step-decision.new.self.state c.enter.new.self (c.loop-place.place + 1) (drop (c.loop-place.place + 1) c.args.samples.now))
turned c =
    simp (c.enter.ensures.made, c.enter.ensures.next, c.step-decision.ensures.decision, c.step-decision.ensures.state, c.loop-place.invariant.setup, c.from.ensures)
    (next_entry c.args.setup c.args.samples.now c.loop-place.control.state c.loop-place.start c.loop-place.place c.loop-place-test.true)

pub returns-in_err-push : goal.returns-in_err-push
returns-in_err-push c =
    let p = err_from_is_err_and c.from_residual.result c.from_residual.ensures.1 in
    let t = turned (goal.at.returns-in_err-push c).After-enter in
    let f = c.in_err-push.ensures in
    simp (p.1, p.2, f.1, f.2) (c.loop-place.invariant.all _ _ (rw (t, c.in-Some.is) (enters_full c.in-Some.entry _ _ f.0)))

pub loop-place-preserved : goal.loop-place-preserved
loop-place-preserved c =
    let t = turned (goal.at.loop-place-preserved c).After-enter in
    record {
      setup = c.step-decision.ensures.setup ∙ c.loop-place.invariant.setup;
      all =
          λ m r h.
          c.loop-place.invariant.all m r
          (rw t
          (elim c.match-enter.branch [
            | in-Some+in_ok-push w ↦ rw w.in-Some.is (enters_more _ _ _ _ m r w.in_ok-push.ensures (rw w.entries-is at h))
            | in_default w ↦ rw w.in_default.is (rw w.entries-is at h)
          ]));
    }

pub returns : goal.returns
returns c = c.loop-place.invariant.all _ _ (rw (no_more _ _ _ _ _ c.loop-place-test.false) (enters_none _))
