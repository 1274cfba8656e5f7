use Rattle.std.proofs.Common.{◌++◌, ◌∙◌, refl, ap, sym, subst, append-nil}
use Rattle.byte_streams.specs.Streams.{AppendsPrefix}
use Rattle.mirror_model.specs.Texts.{fork_line, forks_text}
use Rattle.tlog_mirror.specs.Branches.{fork_of}
use Rattle.tlog_mirror.specs.Pieces.{Sends}
use Rattle.tlog_mirror.proofs.SentPieces.{in_err, held_back}
use Rattle.tlog_mirror.proofs.ForkSteps.{pair_of, no_fork, one_fork, records_none, records_one}
use Rattle.tlog_mirror.proofs.WrittenLines.{one_text}
use Rattle.tlog_mirror.proofs.fork_search.write_fork.Goals as goal

pub returns-then-not-is_apart-clause-ok : goal.returns-then-not-is_apart-clause-ok
returns-then-not-is_apart-clause-ok g c =
    let had = c.args.held.now.items in
    let old = g.W.Write.contents c.args.output.now in
    held_back old old had (forks_text (fork_of c.args.small.now c.args.large.now c.args.under)) had refl
    (sym (append-nil had)
    ∙ ap (λ fs. had ++ forks_text fs)
    (sym (no_fork c.args.small.now c.args.large.now c.args.under
    (sym c.is_apart.ensures ∙ c.if-not-is_apart.true))))

pub returns-then-not-is_apart-clause-any : goal.returns-then-not-is_apart-clause-any
returns-then-not-is_apart-clause-any g c =
    records_none c.args.small.now c.args.large.now c.args.under c.args.before
    (sym c.is_apart.ensures ∙ c.if-not-is_apart.true)

pub returns-in_err-write_line-clause-err : goal.returns-in_err-write_line-clause-err
returns-in_err-write_line-clause-err g c =
    let pair = pair_of c.args.small.now c.args.large.now in
    let line =
    ap forks_text
    (one_fork c.args.small.now c.args.large.now c.args.under (sym c.is_apart.ensures ∙ c.if-not-is_apart.false))
    ∙ one_text fork_line pair in
    in_err c.from_residual.result
    (subst (λ t. AppendsPrefix (g.W.Write.contents c.args.output.now) (g.W.Write.contents c.write_line.new.output)
    (c.args.held.now.items ++ t)) (sym line) c.in_err-write_line.ensures.err)

pub returns-clause-ok : goal.returns-clause-ok
returns-clause-ok g c =
    let pair = pair_of c.args.small.now c.args.large.now in
    let line =
    ap forks_text
    (one_fork c.args.small.now c.args.large.now c.args.under (sym c.is_apart.ensures ∙ c.if-not-is_apart.false))
    ∙ one_text fork_line pair in
    subst (λ t. Sends (g.W.Write.contents c.args.output.now) (g.W.Write.contents c.write_line.new.output)
    c.write_line.new.held.items (c.args.held.now.items ++ t)) (sym line) c.in_ok-write_line.ensures.ok

pub returns-clause-any : goal.returns-clause-any
returns-clause-any g c =
    records_one c.args.small.now c.args.large.now c.args.under c.args.before
    (sym c.is_apart.ensures ∙ c.if-not-is_apart.false)
