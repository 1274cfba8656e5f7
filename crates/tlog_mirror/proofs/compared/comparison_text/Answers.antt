use Rattle.std.proofs.Common.{[], refl, get_or}
use Rattle.std.specs.Prelude.{string_bytes}
use Rattle.std.proofs.lemmas.Result.{IfOk-from_err}
use Rattle.tlog_mirror.specs.Compared.{compared_line}
use Rattle.tlog_mirror.specs.declared.compared.Compared.TheVariants.{Same}
use Rattle.tlog_mirror.proofs.AnswerLines.{recorded_more}
use Rattle.tlog_mirror.proofs.compared.comparison_text.Goals as goal

pub loop-one-preserved : goal.loop-one-preserved
loop-one-preserved c =
    recorded_more compared_line [] c.args.compared.now c.loop-one.one-index
    (get_or c.args.compared.now c.loop-one.one-index (Same 0 [])) (Same 0 []) refl c.loop-one-test.true
    (string_bytes c.loop-one.text) (string_bytes c.push_compared.new.text) c.loop-one.invariant
    c.in_ok-push_compared.ensures

pub returns-in_err-push_compared : goal.returns-in_err-push_compared
returns-in_err-push_compared c = IfOk-from_err _ _ c.from_residual.ensures.0
