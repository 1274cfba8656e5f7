use Rattle.std.proofs.Common.{ap, append-nil, inl, inr, ◌++◌, ◌∙◌, ◌+◌, set, drop, refl, sym, subst, true}
use Rattle.std.specs.Prelude.{◌↔◌, ◌≢◌, ◌⊎◌, IsTrue, []}
use Rattle.std.proofs.lemmas.List.{length-set}
use Rattle.std.proofs.lemmas.Result.{IfOk-from_err}
use Rattle.byte_streams.specs.Streams.{AppendsPrefix}
use Rattle.mirror_model.specs.Texts.{fork_line, forks_text}
use Rattle.tlog_mirror.specs.Branches.{fork_of, forks_from, forks_with, marks_from}
use Rattle.tlog_mirror.specs.Pieces.{Sends}
use Rattle.tlog_mirror.proofs.SentPieces.{in_err, held_back}
use Rattle.tlog_mirror.proofs.ForkSteps.{from_here, marks_here, with_step, marked_step, with_end, marked_end}
use Rattle.tlog_mirror.proofs.WrittenLines.{IsWritten}
use Rattle.tlog_mirror.proofs.WrittenLines.{starts, writes, breaks, all_sends, all_records}
use Rattle.tlog_mirror.proofs.fork_search.write_forks_of.Goals as goal

pub returns-then-calm-clause-ok : goal.returns-then-calm-clause-ok
returns-then-calm-clause-ok g c =
    let had = c.args.held.now.items in
    let old = g.W.Write.contents c.args.output.now in
    held_back old old had (forks_text (forks_from c.args.calm c.args.at c.args.marks.now
    (drop c.args.at c.args.branches.now))) had refl
    (sym (append-nil had)
    ∙ ap (λ q. had ++ forks_text (forks_from q c.args.at c.args.marks.now (drop c.args.at c.args.branches.now)))
    (sym c.if-calm.true))

pub returns-then-calm-clause-marks : goal.returns-then-calm-clause-marks
returns-then-calm-clause-marks g c =
    ap (λ q. marks_from q c.args.at c.args.marks.now (drop c.args.at c.args.branches.now)) (sym c.if-calm.true)

pub returns-then-calm-clause-any : goal.returns-then-calm-clause-any
returns-then-calm-clause-any g c =
    subst (λ q. IsTrue c.args.before
    ↔ (IsTrue c.args.before ⊎ (forks_from q c.args.at c.args.marks.now (drop c.args.at c.args.branches.now) ≢ [])))
    (sym c.if-calm.true)
    (λ h. inl h, λ h. elim h [ inl was ↦ was | inr some ↦ absurd (some refl) ])

pub loop-next-init : goal.loop-next-init
loop-next-init g c = record {
  len = length-set c.args.marks.now c.args.at true ∙ c.requires.marks;
  writes = starts fork_line (g.W.Write.contents c.args.output.now) c.args.held.now.items c.args.held.now.items c.args.before _ refl;
  marks = refl;
}

pub loop-next-preserved : goal.loop-next-preserved
loop-next-preserved g c =
    let all = c.args.branches.now in
    let small = c.index-branches-at.result in
    let large = c.index-branches-next.result in
    let marks = c.loop-next.marks in
    let next = c.loop-next.next in
    let u = c.is_under-under.result in
    let old = g.W.Write.contents c.args.output.now in
    let now = g.W.Write.contents c.loop-next.output in
    let step =
    with_step all c.args.at small next marks large c.index-branches-next.is c.loop-next-test.true u
    c.is_under-under.ensures in
    record {
      len = length-set marks next u ∙ c.loop-next.invariant.len;
      writes =
          writes fork_line old now c.args.held.now.items c.loop-next.held.items c.args.before c.loop-next.any
          (forks_with c.args.at small (set c.args.marks.now c.args.at true) (c.args.at + 1) (drop (c.args.at + 1) all))
          (fork_of small large u)
          (forks_with c.args.at small (set marks next u) (next + 1) (drop (next + 1) all))
          (subst (IsWritten fork_line old now c.args.held.now.items c.loop-next.held.items c.args.before c.loop-next.any
          (forks_with c.args.at small (set c.args.marks.now c.args.at true) (c.args.at + 1) (drop (c.args.at + 1) all)))
          step c.loop-next.invariant.writes)
          (g.W.Write.contents c.write_fork.new.output) c.write_fork.new.held.items c.in_ok-any.any
          c.in_ok-any.ensures.ok c.in_ok-any.ensures.any;
      marks =
          sym (marked_step all c.args.at small next marks large c.index-branches-next.is c.loop-next-test.true u
          c.is_under-under.ensures)
          ∙ c.loop-next.invariant.marks;
    }

pub returns-in_err-any-clause-err : goal.returns-in_err-any-clause-err
returns-in_err-any-clause-err g c =
    let all = c.args.branches.now in
    let small = c.index-branches-at.result in
    let large = c.index-branches-next.result in
    let marks = c.loop-next.marks in
    let next = c.loop-next.next in
    let u = c.is_under-under.result in
    let old = g.W.Write.contents c.args.output.now in
    let now = g.W.Write.contents c.loop-next.output in
    let step =
    with_step all c.args.at small next marks large c.index-branches-next.is c.loop-next-test.true u
    c.is_under-under.ensures in
    in_err c.from_residual.result
    (subst (λ fs. AppendsPrefix old (g.W.Write.contents c.write_fork.new.output)
    (c.args.held.now.items ++ forks_text fs))
    (sym (from_here all c.args.at small c.index-branches-at.is c.requires.within c.args.marks.now)
    ∙ ap (λ q. forks_from q c.args.at c.args.marks.now (drop c.args.at all)) (sym c.if-calm.false))
    (breaks fork_line old now c.args.held.now.items c.loop-next.held.items c.args.before c.loop-next.any
    (forks_with c.args.at small (set c.args.marks.now c.args.at true) (c.args.at + 1) (drop (c.args.at + 1) all))
    (fork_of small large u) (forks_with c.args.at small (set marks next u) (next + 1) (drop (next + 1) all))
    (subst (IsWritten fork_line old now c.args.held.now.items c.loop-next.held.items c.args.before c.loop-next.any
    (forks_with c.args.at small (set c.args.marks.now c.args.at true) (c.args.at + 1) (drop (c.args.at + 1) all)))
    step c.loop-next.invariant.writes)
    (g.W.Write.contents c.write_fork.new.output) c.in_err-any.ensures.err))

pub returns-clause-ok : goal.returns-clause-ok
returns-clause-ok g c =
    let all = c.args.branches.now in
    let small = c.index-branches-at.result in
    let old = g.W.Write.contents c.args.output.now in
    let now = g.W.Write.contents c.loop-next.output in
    subst (λ fs. Sends old now c.loop-next.held.items (c.args.held.now.items ++ forks_text fs))
    (sym (from_here all c.args.at small c.index-branches-at.is c.requires.within c.args.marks.now)
    ∙ ap (λ q. forks_from q c.args.at c.args.marks.now (drop c.args.at all)) (sym c.if-calm.false))
    (all_sends fork_line old now c.args.held.now.items c.loop-next.held.items c.args.before c.loop-next.any _ _
    (with_end all c.args.at small c.loop-next.next c.loop-next.marks c.loop-next-test.false)
    c.loop-next.invariant.writes)

pub returns-clause-marks : goal.returns-clause-marks
returns-clause-marks g c =
    let all = c.args.branches.now in
    sym (marked_end all c.args.at c.loop-next.next c.loop-next.marks c.loop-next-test.false)
    ∙ (c.loop-next.invariant.marks
    ∙ (sym (marks_here all c.args.at c.index-branches-at.result c.index-branches-at.is c.requires.within c.args.marks.now)
    ∙ ap (λ q. marks_from q c.args.at c.args.marks.now (drop c.args.at all)) (sym c.if-calm.false)))

pub returns-clause-any : goal.returns-clause-any
returns-clause-any g c =
    let all = c.args.branches.now in
    let small = c.index-branches-at.result in
    subst (λ fs. IsTrue c.loop-next.any ↔ (IsTrue c.args.before ⊎ (fs ≢ [])))
    (sym (from_here all c.args.at small c.index-branches-at.is c.requires.within c.args.marks.now)
    ∙ ap (λ q. forks_from q c.args.at c.args.marks.now (drop c.args.at all)) (sym c.if-calm.false))
    (all_records fork_line (g.W.Write.contents c.args.output.now) (g.W.Write.contents c.loop-next.output) c.args.held.now.items
    c.loop-next.held.items c.args.before c.loop-next.any _ _
    (with_end all c.args.at small c.loop-next.next c.loop-next.marks c.loop-next-test.false)
    c.loop-next.invariant.writes)

pub returns-in_err-any-clause-ok : goal.returns-in_err-any-clause-ok
returns-in_err-any-clause-ok g c = IfOk-from_err _ _ c.from_residual.ensures.0

pub returns-in_err-any-clause-marks : goal.returns-in_err-any-clause-marks
returns-in_err-any-clause-marks g c = IfOk-from_err _ _ c.from_residual.ensures.0

pub returns-in_err-any-clause-any : goal.returns-in_err-any-clause-any
returns-in_err-any-clause-any g c = IfOk-from_err _ _ c.from_residual.ensures.0
