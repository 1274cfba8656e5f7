use Rattle.std.proofs.Common.{get_or, ◌∙◌, ◌+◌, [], drop, length, ap, sym, subst, false, inl, inr}
use Rattle.std.proofs.lemmas.Result.{IfOk-from_err}
use Rattle.byte_streams.specs.Streams.{AppendsPrefix}
use Rattle.std.specs.Io.KnownBytes.{Appends}
use Rattle.tlog_mirror.specs.Branches.{all_forks, forks_from, marks_from}
use Rattle.mirror_model.specs.Texts.{fork_line, forks_text}
use Rattle.tlog_mirror.proofs.SentPieces.{in_err, ends, ends_early}
use Rattle.tlog_mirror.proofs.ForkSteps.{all_step, all_end, from_length}
use Rattle.tlog_mirror.proofs.WrittenLines.{IsWritten, starts, writes, breaks, all_sends}
use Rattle.tlog_mirror.proofs.WrittenLines.{all_records}
use Rattle.tlog_mirror.proofs.fork_search.write_all.Goals as goal

pub loop-at-init : goal.loop-at-init
loop-at-init g c = record {
  len = c.requires.marks;
  writes = starts fork_line (g.W.Write.contents c.args.output.now) [] c.new-held.result.items false _ c.new-held.ensures.items;
}

pub loop-at-preserved : goal.loop-at-preserved
loop-at-preserved g c =
    let all = c.args.branches.now in
    let at = c.loop-at.at in
    let marks = c.loop-at.marks in
    let calm = c.args.calm.now in
    let quiet = get_or c.args.calm.now c.loop-at.at false in
    let old = g.W.Write.contents c.args.output.now in
    let now = g.W.Write.contents c.loop-at.output in
    let new = g.W.Write.contents c.write_forks_of.new.output in
    let forks = all_forks c.args.calm.now 0 c.args.marks.now all in
    let after = c.in_ok-any.ensures.marks in
    record {
      len = ap length after ∙ (from_length quiet at marks (drop at all) ∙ c.loop-at.invariant.len);
      writes =
          subst (λ ms. IsWritten fork_line old new [] c.write_forks_of.new.held.items false c.in_ok-any.any forks
          (all_forks calm (at + 1) ms (drop (at + 1) all))) (sym after)
          (writes fork_line old now [] c.loop-at.held.items false c.loop-at.any forks (forks_from quiet at marks (drop at all))
          (all_forks calm (at + 1) (marks_from quiet at marks (drop at all)) (drop (at + 1) all))
          (subst (IsWritten fork_line old now [] c.loop-at.held.items false c.loop-at.any forks)
          (all_step all calm at marks c.loop-at-test.true) c.loop-at.invariant.writes)
          new c.write_forks_of.new.held.items c.in_ok-any.any c.in_ok-any.ensures.ok c.in_ok-any.ensures.any);
    }

pub returns-in_err-any-clause-err : goal.returns-in_err-any-clause-err
returns-in_err-any-clause-err g c =
    let all = c.args.branches.now in
    let at = c.loop-at.at in
    let marks = c.loop-at.marks in
    let calm = c.args.calm.now in
    let quiet = get_or c.args.calm.now c.loop-at.at false in
    let old = g.W.Write.contents c.args.output.now in
    let now = g.W.Write.contents c.loop-at.output in
    let forks = all_forks c.args.calm.now 0 c.args.marks.now all in
    in_err c.from_residual.result
    (breaks fork_line old now [] c.loop-at.held.items false c.loop-at.any forks (forks_from quiet at marks (drop at all))
    (all_forks calm (at + 1) (marks_from quiet at marks (drop at all)) (drop (at + 1) all))
    (subst (IsWritten fork_line old now [] c.loop-at.held.items false c.loop-at.any forks)
    (all_step all calm at marks c.loop-at-test.true) c.loop-at.invariant.writes)
    (g.W.Write.contents c.write_forks_of.new.output) c.in_err-any.ensures.err)

pub returns-in_err-write_whole-clause-err : goal.returns-in_err-write_whole-clause-err
returns-in_err-write_whole-clause-err g c =
    let all = c.args.branches.now in
    let old = g.W.Write.contents c.args.output.now in
    let now = g.W.Write.contents c.loop-at.output in
    let new = g.W.Write.contents c.write_whole.new.writer in
    let forks = all_forks c.args.calm.now 0 c.args.marks.now all in
    in_err c.from_residual-in_err-write_whole.result
    (ends_early old now new c.loop-at.held.items (forks_text forks)
    (all_sends fork_line old now [] c.loop-at.held.items false c.loop-at.any forks _
    (all_end all c.args.calm.now c.loop-at.at c.loop-at.marks c.loop-at-test.false) c.loop-at.invariant.writes)
    (subst (AppendsPrefix now new) c.as_slice.ensures.value c.in_err-write_whole.ensures.err))

pub returns-clause-ok : goal.returns-clause-ok
returns-clause-ok g c =
    let all = c.args.branches.now in
    let old = g.W.Write.contents c.args.output.now in
    let now = g.W.Write.contents c.loop-at.output in
    let new = g.W.Write.contents c.write_whole.new.writer in
    let forks = all_forks c.args.calm.now 0 c.args.marks.now all in
    ends old now new c.loop-at.held.items (forks_text forks)
    (all_sends fork_line old now [] c.loop-at.held.items false c.loop-at.any forks _
    (all_end all c.args.calm.now c.loop-at.at c.loop-at.marks c.loop-at-test.false) c.loop-at.invariant.writes)
    (subst (Appends now new) c.as_slice.ensures.value c.in_ok-write_whole.ensures.ok)

pub returns-clause-any : goal.returns-clause-any
returns-clause-any g c =
    let all = c.args.branches.now in
    let old = g.W.Write.contents c.args.output.now in
    let now = g.W.Write.contents c.loop-at.output in
    let forks = all_forks c.args.calm.now 0 c.args.marks.now all in
    let t =
    all_records fork_line old now [] c.loop-at.held.items false c.loop-at.any forks _
    (all_end all c.args.calm.now c.loop-at.at c.loop-at.marks c.loop-at-test.false) c.loop-at.invariant.writes in
    (λ h. elim (t.0 h) [ inl wrong ↦ absurd (cc wrong) | inr some ↦ some ], λ some. t.1 (inr some))

pub returns-in_err-any-clause-ok : goal.returns-in_err-any-clause-ok
returns-in_err-any-clause-ok g c = IfOk-from_err _ _ c.from_residual.ensures.0

pub returns-in_err-any-clause-any : goal.returns-in_err-any-clause-any
returns-in_err-any-clause-any g c = IfOk-from_err _ _ c.from_residual.ensures.0

pub returns-in_err-write_whole-clause-ok : goal.returns-in_err-write_whole-clause-ok
returns-in_err-write_whole-clause-ok g c = IfOk-from_err _ _ c.from_residual-in_err-write_whole.ensures.0

pub returns-in_err-write_whole-clause-any : goal.returns-in_err-write_whole-clause-any
returns-in_err-write_whole-clause-any g c = IfOk-from_err _ _ c.from_residual-in_err-write_whole.ensures.0
