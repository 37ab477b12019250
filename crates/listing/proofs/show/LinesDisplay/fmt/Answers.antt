use Rattle.std.proofs.Common.{rules, ◌≡◌, ℕ, ◌+◌, ◌<◌, length, List, ◌++◌, codes, get_or, drop, sym, ap, ◌∙◌, append_assoc}
use Rattle.std.proofs.lemmas.List.{at_drop_more}
use Rattle.std.proofs.Output.{has_written_append}
use Rattle.std.specs.Result.{IsOk}
use Rattle.traces.specs.declared.entry.Entry.{Entry}
use Rattle.listing.specs.Text.{line_text, lines_text}
use Rattle.listing.proofs.show.LinesDisplay.fmt.Goals as goal

one_more : (es : List Entry) (i : ℕ) (d : Entry) (done all : List ℕ) → i < length es → done ++ lines_text (drop i es) ≡ all →
    (done ++ (line_text (get_or es i d) ++ codes "\n")) ++ lines_text (drop (i + 1) es) ≡ all
one_more es i d done all h e = rw append_assoc (ap (λ (r : List ℕ). done ++ r) (sym (at_drop_more lines_text es i d h)) ∙ e)

pub loop-entry-preserved : goal.loop-entry-preserved
loop-entry-preserved g c =
    λ plain.
    let now = c.loop-entry.invariant plain in
    let ok : IsOk c.writeln.result = search rules in (
      _,
      has_written_append _ _ _ _ _ _ now.1 (c.writeln.ensures.writes (search rules) ok),
      one_more _ _ _ now.0 _ c.loop-entry-test.true now.2,
    )
