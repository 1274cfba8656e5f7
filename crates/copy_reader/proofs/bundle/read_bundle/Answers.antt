use Rattle.std.proofs.Common.{ap, ◌≡◌, ◌∙◌, rules, subst}
use Rattle.copy_reader.proofs.WholeCopies.{read_err, read_ok}
use Rattle.std.proofs.lemmas.Result.{IfOk-from_err}
use Rattle.mirror_sources.specs.Recorded.{KeepsRecord}
use Rattle.log_reader.specs.Faults.{CountsFailure}
use Rattle.copy_reader.specs.Faults.{CountsRead}
use Rattle.copy_reader.proofs.Exits.{read_exit}
use Rattle.copy_reader.proofs.ShelfSources.{same_shelf}
use Rattle.log_reader.specs.Holding.{row_width}
use Rattle.copy_reader.proofs.Damage.{bundle_recorded, damage_exit, read_damage}
use Rattle.copy_reader.specs.Damage.{NamesDamage}
use Rattle.copy_reader.proofs.bundle.read_bundle.Goals as goal

pub returns-in_err-bundle : goal.returns-in_err-bundle
returns-in_err-bundle g c =
    let puts = g.D.Shelf.puts in
    let failed = g.D.Shelf.failed in
    let read = c.bundle in
    let before = c.new-files.result.shelf in
    let after = read.new.source.shelf in
    let now = c.new-files.ensures.now in
    let one : after.ghost_name ≡ before.ghost_name =
    same_shelf before.ghost_name after.ghost_name (puts before.now) (puts after.now) read.ensures.later in
    let kept : KeepsRecord (puts c.args.shelf.now) (puts after.now) =
    subst (λ s. KeepsRecord (puts s) (puts after.now)) now read.ensures.kept in
    let counted : CountsRead (failed c.args.shelf.now) (failed after.now) c.from_residual.result =
    read_exit c.from_residual.result read.result c.in_err-bundle.field-0.0 c.from_residual.ensures c.in_err-bundle.was
    (failed c.args.shelf.now) (failed after.now)
    (subst (λ s. CountsFailure (failed s) (failed after.now) read.result) now read.ensures.counted) in
    record {
      edge = c.in_err-bundle.ensures.edge;
      root = c.in_err-bundle.ensures.root;
      shown = IfOk-from_err c.from_residual.result _ c.from_residual.ensures.0;
      given = IfOk-from_err c.from_residual.result _ c.from_residual.ensures.0;
      same = search (rules, one, kept);
      counted = search (rules, one, counted);
      damage = damage_exit (NamesDamage g.H.TreeHash.digest (g.D.Shelf.puts c.args.shelf.now) c.args.reader.now.edge)
          c.from_residual.result _ c.from_residual.ensures
          (read_damage g.H.TreeHash.digest c.new-files.result.shelf.ghost_name (g.D.Shelf.puts c.new-files.result.shelf.now)
          (g.D.Shelf.puts c.args.shelf.now) (ap g.D.Shelf.puts c.new-files.ensures.now) c.args.reader.now.edge
          c.in_err-bundle.field-0.0 c.in_err-bundle.ensures.names);
      honest = read_err g.H.TreeHash.digest c.new-files.result.shelf.ghost_name (g.D.Shelf.puts c.new-files.result.shelf.now)
          (g.D.Shelf.puts c.args.shelf.now) (ap g.D.Shelf.puts c.new-files.ensures.now) _ c.args.reader.now _
          c.in_err-bundle.field-0.0 c.from_residual.result c.from_residual.ensures c.in_err-bundle.ensures.honest;
    }

pub returns-clause-given : goal.returns-clause-given
returns-clause-given g c =
    bundle_recorded g.H.TreeHash.digest c.new-files.result.shelf.ghost_name (g.D.Shelf.puts c.new-files.result.shelf.now)
    (g.D.Shelf.puts c.args.shelf.now) (ap g.D.Shelf.puts c.new-files.ensures.now) c.args.index
    (row_width c.args.reader.now.edge.size 0 c.args.index) c.in_ok-bundle.field-0.items c.in_ok-bundle.ensures.given

pub returns-clause-same : goal.returns-clause-same
returns-clause-same g c =
    let puts = g.D.Shelf.puts in
    let read = c.bundle in
    let before = c.new-files.result.shelf in
    let after = read.new.source.shelf in
    let now = c.new-files.ensures.now in
    let one : after.ghost_name ≡ before.ghost_name =
    same_shelf before.ghost_name after.ghost_name (puts before.now) (puts after.now) read.ensures.later in
    let kept : KeepsRecord (puts c.args.shelf.now) (puts after.now) =
    subst (λ s. KeepsRecord (puts s) (puts after.now)) now read.ensures.kept in
    search (rules, one, kept)

pub returns-clause-counted : goal.returns-clause-counted
returns-clause-counted g c =
    let puts = g.D.Shelf.puts in
    let failed = g.D.Shelf.failed in
    let read = c.bundle in
    let before = c.new-files.result.shelf in
    let after = read.new.source.shelf in
    let now = c.new-files.ensures.now in
    let one : after.ghost_name ≡ before.ghost_name =
    same_shelf before.ghost_name after.ghost_name (puts before.now) (puts after.now) read.ensures.later in
    let counted : failed after.now ≡ failed c.args.shelf.now = c.in_ok-bundle.ensures.counted ∙ ap failed now in
    search (rules, one, counted)

pub returns-clause-honest : goal.returns-clause-honest
returns-clause-honest g c =
    read_ok g.H.TreeHash.digest c.new-files.result.shelf.ghost_name (g.D.Shelf.puts c.new-files.result.shelf.now)
    (g.D.Shelf.puts c.args.shelf.now) (ap g.D.Shelf.puts c.new-files.ensures.now) _ c.args.reader.now _ _
    c.in_ok-bundle.ensures.honest
