use Rattle.std.proofs.Common.{◌∙◌}
use Rattle.std.proofs.lemmas.Result.{err_from_is_err_and}
use Rattle.mirror_files.proofs.BodyLemmas.{ends_fail, body_is}
use Rattle.mirror_files.proofs.parts.read_parts.Goals as goal

pub returns-in_err-check_end : goal.returns-in_err-check_end
returns-in_err-check_end c =
    let p = err_from_is_err_and c.from_residual-in_err-check_end.result c.from_residual-in_err-check_end.ensures.1 in
    rw (p.1, p.2) (ends_fail _ _ _ _ _ c.in_ok-lists.ensures
    (c.split_at.ensures.front ∙ body_is _ _ _ c.in_ok-lists.ensures) c.in_err-check_end.ensures)
