use Rattle.std.proofs.Common.{◌++◌, subst, append_assoc, ◌∙◌, ap, refl}
use Rattle.std.specs.Prelude.{string_bytes}
use Rattle.std.proofs.lemmas.Result.{on_ok_weaker, on_err_weaker}
use Rattle.byte_streams.specs.Streams.{AppendsPrefix}
use Rattle.tlog_mirror.specs.Pieces.{Sends}
use Rattle.tlog_mirror.proofs.ForkSteps.{line_is}
use Rattle.tlog_mirror.proofs.SentPieces.{in_err, prefix_more, sends_then, fails_then}
use Rattle.tlog_mirror.proofs.fork_search.write_line.Goals as goal

pub returns-in_err-send-clause-err : goal.returns-in_err-send-clause-err
returns-in_err-send-clause-err g c =
    let old = g.W.Write.contents c.args.output.now in
    let new = g.W.Write.contents c.send.new.output in
    let had = c.args.held.now.items in
    let rest = string_bytes c.args.large.now.as_large in
    let line =
    line_is c.args.small.now c.args.large.now c.requires.small c.requires.large c.as_bytes.result.now rest
    c.as_bytes.ensures.value refl in
    in_err c.from_residual.result
    (subst (AppendsPrefix old new) (append_assoc had c.as_bytes.result.now rest ∙ ap (λ t. had ++ t) line)
    (prefix_more old new (had ++ c.as_bytes.result.now) rest c.in_err-send.ensures.err))

pub returns-clause-ok : goal.returns-clause-ok
returns-clause-ok g c =
    let old = g.W.Write.contents c.args.output.now in
    let mid = g.W.Write.contents c.send.new.output in
    let new = g.W.Write.contents c.send-2.new.output in
    let had = c.args.held.now.items in
    let first = c.as_bytes.result.now in
    let second = c.as_bytes-2.result.now in
    let line =
    line_is c.args.small.now c.args.large.now c.requires.small c.requires.large first second
    c.as_bytes.ensures.value c.as_bytes-2.ensures.value in
    on_ok_weaker c.send-2.result
    (λ (q : Sends mid new c.send-2.new.held.items (c.send.new.held.items ++ second)).
    subst (λ t. Sends old new c.send-2.new.held.items (had ++ t)) line
    (sends_then old mid new had c.send.new.held.items first second c.in_ok-send.ensures.ok c.send-2.new.held.items q))
    c.send-2.ensures.ok

pub returns-clause-err : goal.returns-clause-err
returns-clause-err g c =
    let old = g.W.Write.contents c.args.output.now in
    let mid = g.W.Write.contents c.send.new.output in
    let new = g.W.Write.contents c.send-2.new.output in
    let had = c.args.held.now.items in
    let first = c.as_bytes.result.now in
    let second = c.as_bytes-2.result.now in
    let line =
    line_is c.args.small.now c.args.large.now c.requires.small c.requires.large first second
    c.as_bytes.ensures.value c.as_bytes-2.ensures.value in
    on_err_weaker c.send-2.result
    (λ (q : AppendsPrefix mid new (c.send.new.held.items ++ second)).
    subst (λ t. AppendsPrefix old new (had ++ t)) line
    (fails_then old mid new had c.send.new.held.items first second c.in_ok-send.ensures.ok q))
    c.send-2.ensures.err
