use Rattle.std.proofs.Common.{append-nil, ◌++◌, ◌∙◌, ◌+◌, set, drop, ap, sym}
use Rattle.std.proofs.lemmas.List.{length-set}
use Rattle.tlog_mirror.specs.Branches.{fork_of, forks_from, forks_with, marks_from}
use Rattle.tlog_mirror.proofs.ForkSteps.{from_here, marks_here, with_step, marked_step, with_end, marked_end, listed, listed_all}
use Rattle.tlog_mirror.proofs.fork_search.push_forks.Goals as goal

pub returns-then-calm-clause-forks : goal.returns-then-calm-clause-forks
returns-then-calm-clause-forks c =
    sym (append-nil c.args.forks.now.items)
    ∙ ap (λ q. c.args.forks.now.items ++ forks_from q c.args.at c.args.marks.now (drop c.args.at c.args.branches.now))
    (sym c.if-calm.true)

pub returns-then-calm-clause-marks : goal.returns-then-calm-clause-marks
returns-then-calm-clause-marks c =
    ap (λ q. marks_from q c.args.at c.args.marks.now (drop c.args.at c.args.branches.now)) (sym c.if-calm.true)

pub loop-next-preserved : goal.loop-next-preserved
loop-next-preserved c =
    let all = c.args.branches.now in
    let small = c.index-branches-at.result in
    let large = c.index-branches-next.result in
    let marks = c.loop-next.marks in
    let next = c.loop-next.next in
    let u = c.is_under-under.result in
    record {
      len = length-set marks next u ∙ c.loop-next.invariant.len;
      forks =
          listed c.loop-next.forks.items (fork_of small large u)
          (forks_with c.args.at small (set marks next u) (next + 1) (drop (next + 1) all)) c.push_fork.new.forks.items _
          (ap (λ fs. c.loop-next.forks.items ++ fs)
          (sym (with_step all c.args.at small next marks large c.index-branches-next.is c.loop-next-test.true u
          c.is_under-under.ensures))
          ∙ c.loop-next.invariant.forks)
          c.in_ok-push_fork.ensures;
      marks =
          sym (marked_step all c.args.at small next marks large c.index-branches-next.is c.loop-next-test.true u
          c.is_under-under.ensures)
          ∙ c.loop-next.invariant.marks;
    }

pub returns-clause-forks : goal.returns-clause-forks
returns-clause-forks c =
    let all = c.args.branches.now in
    listed_all c.loop-next.forks.items _ _ c.loop-next.invariant.forks
    (with_end all c.args.at c.index-branches-at.result c.loop-next.next c.loop-next.marks c.loop-next-test.false)
    ∙ ap (λ fs. c.args.forks.now.items ++ fs)
    (sym (from_here all c.args.at c.index-branches-at.result c.index-branches-at.is c.requires.within c.args.marks.now)
    ∙ ap (λ q. forks_from q c.args.at c.args.marks.now (drop c.args.at all)) (sym c.if-calm.false))

pub returns-clause-marks : goal.returns-clause-marks
returns-clause-marks c =
    let all = c.args.branches.now in
    sym (marked_end all c.args.at c.loop-next.next c.loop-next.marks c.loop-next-test.false)
    ∙ (c.loop-next.invariant.marks
    ∙ (sym (marks_here all c.args.at c.index-branches-at.result c.index-branches-at.is c.requires.within c.args.marks.now)
    ∙ ap (λ q. marks_from q c.args.at c.args.marks.now (drop c.args.at all)) (sym c.if-calm.false)))
