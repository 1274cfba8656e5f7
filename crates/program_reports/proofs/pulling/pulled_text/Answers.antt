use Rattle.std.proofs.lemmas.Result.{err_from_is_err_and}
use Rattle.program_reports.proofs.pulling.pulled_text.Goals as goal

pub returns-in_err-text : goal.returns-in_err-text
returns-in_err-text c =
    let p = err_from_is_err_and c.from_residual.result c.from_residual.ensures.1 in
    rw p.1 tt
