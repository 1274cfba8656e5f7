use Rattle.std.proofs.Common.{subst, sym}
use Rattle.std.specs.Prelude.{⊤}
use Rattle.mirror_model.specs.Heads.{IsHead}
use Rattle.copy_follow.specs.Blame.{CountsFollowFault, by_copy}
use Rattle.copy_follow.specs.RunStanding.{HoldsNoCopy}
use Rattle.copy_reader.proofs.Ends.{read_before}
use Rattle.copy_follow.proofs.CopyReads.{fault_counts, fault_ends, no_edge, no_head}
use Rattle.copy_follow.proofs.copy_on_shelf.judge_copy.Goals as goal

pub returns-in_default-clause-found : goal.returns-in_default-clause-found
returns-in_default-clause-found g c = rw c.in_default.is at c.in_ok-note.ensures.answer

pub returns-clause-found : goal.returns-clause-found
returns-clause-found g c =
    let head = c.in-Some-2.head in (
      rw c.in-Some.is at c.in_ok-note.ensures.answer,
      subst (λ b. IsHead b c.args.origin.now head.0 head.1) c.deref.ensures.value
          (rw c.in-Some-2.is at c.in_ok-head.ensures.found),
    )

pub returns-in_default-2-clause-ends : goal.returns-in_default-2-clause-ends
returns-in_default-2-clause-ends g c =
    let origin = c.args.origin.now in
    let x = g.D.Shelf.puts c.args.shelf.now in
    no_head g.H.TreeHash.digest origin x x c.in-Some.note.items (rw c.in-Some.is at c.in_ok-note.ensures.answer)
    (λ size root head. (rw c.in_default-2.is at c.in_ok-head.ensures.none) size root
    (subst (λ b. IsHead b origin size root) (sym c.deref.ensures.value) head))

pub returns-in-Err-clause-counted : goal.returns-in-Err-clause-counted
returns-in-Err-clause-counted g c =
    let failed = g.D.Shelf.failed in
    let e = c.in-Err.fault in
    let found = c.in_ok-note.ensures.counted in
    let read = fault_counts ⊤ (failed c.read.new.self) (failed c.judge_files.new.shelf) e c.in-Err.ensures.counted in
    rw (c.fault_of_copy.ensures.failed, c.fault_of_copy.ensures.fault)
    (subst (λ n. CountsFollowFault n (failed c.judge_files.new.shelf) (by_copy e)) found read)

pub returns-in-Err-clause-ends : goal.returns-in-Err-clause-ends
returns-in-Err-clause-ends g c =
    let digest = g.H.TreeHash.digest in
    let origin = c.args.origin.now in
    let x = g.D.Shelf.puts c.args.shelf.now in
    let head = c.in-Some-2.head in
    let e = c.in-Err.fault in
    let is : IsHead c.in-Some.note.items origin head.0 head.1 =
    subst (λ b. IsHead b origin head.0 head.1) c.deref.ensures.value (rw c.in-Some-2.is at c.in_ok-head.ensures.found) in
    rw c.fault_of_copy.ensures.fault (fault_ends ⊤ (HoldsNoCopy digest origin x) _ _ e c.in-Err.ensures.counted
    (no_edge digest origin x (g.D.Shelf.puts c.read.new.self) c.in-Some.note.items (rw c.in-Some.is at c.in_ok-note.ensures.answer)
    ⊤ head.0 head.1 is c.in_ok-note.ensures.same e c.in-Err.ensures.honest))

pub returns-in_default-2-clause-some : goal.returns-in_default-2-clause-some
returns-in_default-2-clause-some g c = λ e.
    (c.in-Some.note.items, rw c.in-Some.is at c.in_ok-note.ensures.answer)

pub returns-in-Err-clause-some : goal.returns-in-Err-clause-some
returns-in-Err-clause-some g c = λ e.
    (c.in-Some.note.items, rw c.in-Some.is at c.in_ok-note.ensures.answer)

pub returns-clause-judged : goal.returns-clause-judged
returns-clause-judged g c =
    read_before g.H.TreeHash.digest (g.D.Shelf.puts c.args.shelf.now) (g.D.Shelf.puts c.read.new.self)
    c.in_ok-note.ensures.same c.in-Some-2.head.0 c.in-Some-2.head.1 c.in-Ok.ensures.judged
