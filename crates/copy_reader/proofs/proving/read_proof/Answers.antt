use Rattle.std.proofs.Common.{ap, ◌≡◌, ◌∙◌, rules, subst}
use Rattle.log_reader.proofs.FullTiles.{reads_of_source}
use Rattle.copy_reader.specs.ShelfSources.{ShelfMayAnswer}
use Rattle.copy_reader.proofs.WholeCopies.{read_err, read_ok}
use Rattle.std.proofs.lemmas.Result.{IfOk-from_err}
use Rattle.mirror_sources.specs.Recorded.{KeepsRecord}
use Rattle.log_reader.specs.Faults.{CountsFailure}
use Rattle.copy_reader.specs.Faults.{CountsRead}
use Rattle.copy_reader.proofs.Exits.{read_exit}
use Rattle.copy_reader.proofs.ShelfSources.{same_shelf}
use Rattle.copy_reader.proofs.Damage.{damage_exit, proof_damage}
use Rattle.copy_reader.specs.Damage.{NamesProofDamage}
use Rattle.copy_reader.proofs.proving.read_proof.Goals as goal

pub returns-in_err-proof_of : goal.returns-in_err-proof_of
returns-in_err-proof_of g c =
    let puts = g.D.Shelf.puts in
    let failed = g.D.Shelf.failed in
    let read = c.proof_of in
    let before = c.new-files.result.shelf in
    let after = read.new.files.shelf in
    let now = c.new-files.ensures.now in
    let one : after.ghost_name ≡ before.ghost_name =
    same_shelf before.ghost_name after.ghost_name (puts before.now) (puts after.now) read.ensures.later in
    let kept : KeepsRecord (puts c.args.shelf.now) (puts after.now) =
    subst (λ s. KeepsRecord (puts s) (puts after.now)) now read.ensures.kept in
    let counted : CountsRead (failed c.args.shelf.now) (failed after.now) c.from_residual.result =
    read_exit c.from_residual.result read.result c.in_err-proof_of.field-0.0 c.from_residual.ensures c.in_err-proof_of.was
    (failed c.args.shelf.now) (failed after.now)
    (subst (λ s. CountsFailure (failed s) (failed after.now) read.result) now read.ensures.counted) in
    record {
      asked = IfOk-from_err c.from_residual.result _ c.from_residual.ensures.0;
      holds = IfOk-from_err c.from_residual.result _ c.from_residual.ensures.0;
      same = search (rules, one, kept);
      counted = search (rules, one, counted);
      damage = damage_exit (NamesProofDamage g.H.TreeHash.digest (g.D.Shelf.puts c.args.shelf.now) c.args.reader.now.edge c.args.ask)
          c.from_residual.result _ c.from_residual.ensures
          (proof_damage g.H.TreeHash.digest c.new-files.result.shelf.ghost_name (g.D.Shelf.puts c.new-files.result.shelf.now)
          (g.D.Shelf.puts c.args.shelf.now) (ap g.D.Shelf.puts c.new-files.ensures.now) c.args.reader.now.edge c.args.ask
          c.in_err-proof_of.field-0.0 c.in_err-proof_of.ensures.names);
      honest = read_err g.H.TreeHash.digest c.new-files.result.shelf.ghost_name (g.D.Shelf.puts c.new-files.result.shelf.now)
          (g.D.Shelf.puts c.args.shelf.now) (ap g.D.Shelf.puts c.new-files.ensures.now) _ c.args.reader.now _
          c.in_err-proof_of.field-0.0 c.from_residual.result c.from_residual.ensures
          (reads_of_source g.H.TreeHash.digest c.args.reader.now _
          (ShelfMayAnswer c.new-files.result.shelf.ghost_name (g.D.Shelf.puts c.new-files.result.shelf.now)) _ _ c.in_err-proof_of.ensures.honest);
    }

pub returns-clause-same : goal.returns-clause-same
returns-clause-same g c =
    let puts = g.D.Shelf.puts in
    let read = c.proof_of in
    let before = c.new-files.result.shelf in
    let after = read.new.files.shelf in
    let now = c.new-files.ensures.now in
    let one : after.ghost_name ≡ before.ghost_name =
    same_shelf before.ghost_name after.ghost_name (puts before.now) (puts after.now) read.ensures.later in
    let kept : KeepsRecord (puts c.args.shelf.now) (puts after.now) =
    subst (λ s. KeepsRecord (puts s) (puts after.now)) now read.ensures.kept in
    search (rules, one, kept)

pub returns-clause-counted : goal.returns-clause-counted
returns-clause-counted g c =
    let puts = g.D.Shelf.puts in
    let failed = g.D.Shelf.failed in
    let read = c.proof_of in
    let before = c.new-files.result.shelf in
    let after = read.new.files.shelf in
    let now = c.new-files.ensures.now in
    let one : after.ghost_name ≡ before.ghost_name =
    same_shelf before.ghost_name after.ghost_name (puts before.now) (puts after.now) read.ensures.later in
    let counted : failed after.now ≡ failed c.args.shelf.now = c.in_ok-proof_of.ensures.counted ∙ ap failed now in
    search (rules, one, counted)

pub returns-clause-honest : goal.returns-clause-honest
returns-clause-honest g c =
    read_ok g.H.TreeHash.digest c.new-files.result.shelf.ghost_name (g.D.Shelf.puts c.new-files.result.shelf.now)
    (g.D.Shelf.puts c.args.shelf.now) (ap g.D.Shelf.puts c.new-files.ensures.now) _ c.args.reader.now _ _
    (reads_of_source g.H.TreeHash.digest c.args.reader.now _ (ShelfMayAnswer c.new-files.result.shelf.ghost_name (g.D.Shelf.puts c.new-files.result.shelf.now)) _ _ c.in_ok-proof_of.ensures.honest)
