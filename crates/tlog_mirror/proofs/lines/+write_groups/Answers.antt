use Rattle.std.proofs.Common.{◌++◌, ◌/◌, refl, sym, ap}
use Rattle.tlog_tiles.specs.Path.{groups_text, group_text}
use Rattle.tlog_mirror.proofs.SentPieces.{in_err, held_back}
use Rattle.tlog_mirror.proofs.MissingSteps.{fails_first, sends_both, fails_both}
use Rattle.std.proofs.Common.{◌<◌, ◌∙◌, arith, append-nil}
use Rattle.tlog_tiles.proofs.GroupLemmas.{groups_text-zero, groups_text-more}
use Rattle.tlog_mirror.proofs.lines.+write_groups.Goals as goal

pub returns-then-number-eq0-clause-ok : goal.returns-then-number-eq0-clause-ok
returns-then-number-eq0-clause-ok g t c =
    let old = g.W.Write.contents c.args.output.now in
    let had = c.args.held.now.items in
    held_back old old had (groups_text c.args.number) had refl
    (sym (append-nil had) ∙ ap (λ t. had ++ t) (sym (ap groups_text c.if-number-eq0.true ∙ groups_text-zero)))

pub returns-in_err-write_groups-clause-err : goal.returns-in_err-write_groups-clause-err
returns-in_err-write_groups-clause-err g t c =
    let apart = c.if-number-eq0.false in
    let some : 0 < c.args.number = omega (arith, apart) in
    in_err c.from_residual.result
    (fails_first (g.W.Write.contents c.args.output.now) (g.W.Write.contents c.write_groups.new.output) c.args.held.now.items
    (groups_text (c.args.number / 1000)) (group_text c.args.number) _
    (sym (groups_text-more c.args.number some)) c.in_err-write_groups.ensures.err)

pub returns-clause-ok : goal.returns-clause-ok
returns-clause-ok g t c =
    let apart = c.if-number-eq0.false in
    let some : 0 < c.args.number = omega (arith, apart) in
    sends_both (g.W.Write.contents c.args.output.now) (g.W.Write.contents c.write_groups.new.output) c.args.held.now.items
    (groups_text (c.args.number / 1000)) c.group_of-group.result _ (ap (λ t. groups_text (c.args.number / 1000) ++ t) c.group_of-group.ensures ∙ sym (groups_text-more c.args.number some)) (g.W.Write.contents c.send.new.output) c.write_groups.new.held.items c.in_ok-write_groups.ensures.ok c.send.result
    c.send.new.held.items c.send.ensures.ok

pub returns-clause-err : goal.returns-clause-err
returns-clause-err g t c =
    let apart = c.if-number-eq0.false in
    let some : 0 < c.args.number = omega (arith, apart) in
    fails_both (g.W.Write.contents c.args.output.now) (g.W.Write.contents c.write_groups.new.output) c.args.held.now.items
    (groups_text (c.args.number / 1000)) c.group_of-group.result _ (ap (λ t. groups_text (c.args.number / 1000) ++ t) c.group_of-group.ensures ∙ sym (groups_text-more c.args.number some)) (g.W.Write.contents c.send.new.output) c.write_groups.new.held.items c.in_ok-write_groups.ensures.ok c.send.result
    c.send.ensures.err
