use Rattle.std.proofs.Common.{ap, ◌≡◌, ◌∙◌, Option, rules, subst}
use Rattle.std.specs.Prelude.{⊤}
use Rattle.std.proofs.lemmas.Result.{IfOk-from_err}
use Rattle.tlog_proof.specs.declared.proof.Proof.{Proof}
use Rattle.mirror_sources.specs.Recorded.{KeepsRecord}
use Rattle.log_reader.specs.Faults.{CountsFailure}
use Rattle.copy_reader.specs.Faults.{CountsRead}
use Rattle.copy_reader.proofs.Exits.{read_exit}
use Rattle.copy_reader.proofs.ShelfSources.{same_shelf}
use Rattle.copy_reader.proofs.WholeCopies.{log_err, log_ok}
use Rattle.copy_follow.proofs.copy_on_shelf.read_proof.Goals as goal

pub returns-in_err-fork_proof : goal.returns-in_err-fork_proof
returns-in_err-fork_proof g c =
    let puts = g.D.Shelf.puts in
    let failed = g.D.Shelf.failed in
    let read = c.fork_proof in
    let before = c.new-files.result.shelf in
    let after = read.new.files.shelf in
    let now = c.new-files.ensures.now in
    let one : after.ghost_name ≡ before.ghost_name =
    same_shelf before.ghost_name after.ghost_name (puts before.now) (puts after.now) read.ensures.later in
    let kept : KeepsRecord (puts c.args.shelf.now) (puts after.now) =
    subst (λ s. KeepsRecord (puts s) (puts after.now)) now read.ensures.kept in
    let counted : CountsRead (failed c.args.shelf.now) (failed after.now) c.from_residual.result =
    read_exit c.from_residual.result read.result c.in_err-fork_proof.field-0.0 c.from_residual.ensures
    c.in_err-fork_proof.was (failed c.args.shelf.now) (failed after.now)
    (subst (λ s. CountsFailure (failed s) (failed after.now) read.result) now read.ensures.counted) in
    record {
      same = search (rules, one, kept);
      counted = search (rules, one, counted);
      honest = log_err {T = Option Proof} g.H.TreeHash.digest before.ghost_name (puts before.now) (puts c.args.shelf.now)
          (ap puts now) (λ entries found. ⊤) c.args.copy.now.size.0 c.args.copy.now.root c.in_err-fork_proof.field-0.0
          c.from_residual.result c.from_residual.ensures c.in_err-fork_proof.ensures.honest;
      proof = IfOk-from_err c.from_residual.result _ c.from_residual.ensures.0;
      agrees = IfOk-from_err c.from_residual.result _ c.from_residual.ensures.0;
    }

pub returns-clause-same : goal.returns-clause-same
returns-clause-same g c =
    let puts = g.D.Shelf.puts in
    let read = c.fork_proof in
    let before = c.new-files.result.shelf in
    let after = read.new.files.shelf in
    let now = c.new-files.ensures.now in
    let one : after.ghost_name ≡ before.ghost_name =
    same_shelf before.ghost_name after.ghost_name (puts before.now) (puts after.now) read.ensures.later in
    let kept : KeepsRecord (puts c.args.shelf.now) (puts after.now) =
    subst (λ s. KeepsRecord (puts s) (puts after.now)) now read.ensures.kept in
    search (rules, one, kept)

pub returns-clause-counted : goal.returns-clause-counted
returns-clause-counted g c =
    let puts = g.D.Shelf.puts in
    let failed = g.D.Shelf.failed in
    let read = c.fork_proof in
    let before = c.new-files.result.shelf in
    let after = read.new.files.shelf in
    let now = c.new-files.ensures.now in
    let one : after.ghost_name ≡ before.ghost_name =
    same_shelf before.ghost_name after.ghost_name (puts before.now) (puts after.now) read.ensures.later in
    let counted : failed after.now ≡ failed c.args.shelf.now = c.in_ok-fork_proof.ensures.counted ∙ ap failed now in
    search (rules, one, counted)

pub returns-clause-honest : goal.returns-clause-honest
returns-clause-honest g c =
    log_ok {T = Option Proof} g.H.TreeHash.digest c.new-files.result.shelf.ghost_name
    (g.D.Shelf.puts c.new-files.result.shelf.now) (g.D.Shelf.puts c.args.shelf.now) (ap g.D.Shelf.puts c.new-files.ensures.now)
    (λ entries found. ⊤) c.args.copy.now.size.0 c.args.copy.now.root c.in_ok-fork_proof.field-0
    c.in_ok-fork_proof.ensures.honest
