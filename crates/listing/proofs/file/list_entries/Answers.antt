use Rattle.std.proofs.Common.{Err, ap, ◌∙◌}
use Rattle.std.proofs.lemmas.Result.{err_from_is_err_and}
use Rattle.listing.proofs.Files.{refused, file_refused}
use Rattle.listing.proofs.file.list_entries.Goals as goal

pub returns-in_err-settings-clause-answer : goal.returns-in_err-settings-clause-answer
returns-in_err-settings-clause-answer c =
    let p = err_from_is_err_and c.from_residual.result c.from_residual.ensures.1 in
    let t = refused c.args.file.now c.args.samples.now _ c.requires.samples c.requires.limit _ c.in_err-settings.ensures in
    p.1 ∙ ap Err p.2 ∙ (file_refused c.args.file.now c.args.entries.now _ c.requires.entries t).answer
