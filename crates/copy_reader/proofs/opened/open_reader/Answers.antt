use Rattle.std.proofs.Common.{ap, ◌≡◌, ◌∙◌, rules, subst}
use Rattle.log_reader.specs.Holding.{IsReaderOf}
use Rattle.log_reader.specs.Ways.{Reader}
use Rattle.copy_reader.proofs.WholeCopies.{log_err, log_ok}
use Rattle.std.proofs.lemmas.Result.{IfOk-from_err}
use Rattle.mirror_sources.specs.Recorded.{KeepsRecord}
use Rattle.log_reader.specs.Faults.{CountsFailure}
use Rattle.copy_reader.specs.Faults.{CountsRead}
use Rattle.copy_reader.proofs.Exits.{read_exit}
use Rattle.copy_reader.proofs.ShelfSources.{same_shelf}
use Rattle.copy_reader.proofs.Damage.{damage_exit, edge_damage, edge_recorded}
use Rattle.copy_reader.specs.Damage.{NamesEdgeDamage}
use Rattle.copy_reader.proofs.opened.open_reader.Goals as goal

pub returns-in_err-open : goal.returns-in_err-open
returns-in_err-open g c =
    let puts = g.D.Shelf.puts in
    let failed = g.D.Shelf.failed in
    let read = c.open in
    let before = c.new-files.result.shelf in
    let after = read.new.source.shelf in
    let now = c.new-files.ensures.now in
    let one : after.ghost_name ≡ before.ghost_name =
    same_shelf before.ghost_name after.ghost_name (puts before.now) (puts after.now) read.ensures.later in
    let kept : KeepsRecord (puts c.args.shelf.now) (puts after.now) =
    subst (λ s. KeepsRecord (puts s) (puts after.now)) now read.ensures.kept in
    let counted : CountsRead (failed c.args.shelf.now) (failed after.now) c.from_residual.result =
    read_exit c.from_residual.result read.result c.in_err-open.field-0.0 c.from_residual.ensures c.in_err-open.was
    (failed c.args.shelf.now) (failed after.now)
    (subst (λ s. CountsFailure (failed s) (failed after.now) read.result) now read.ensures.counted) in
    record {
      size = IfOk-from_err c.from_residual.result _ c.from_residual.ensures.0;
      root = IfOk-from_err c.from_residual.result _ c.from_residual.ensures.0;
      given = IfOk-from_err c.from_residual.result _ c.from_residual.ensures.0;
      same = search (rules, one, kept);
      counted = search (rules, one, counted);
      damage = damage_exit (NamesEdgeDamage g.H.TreeHash.digest (g.D.Shelf.puts c.args.shelf.now) c.args.size c.args.root.now)
          c.from_residual.result _ c.from_residual.ensures
          (edge_damage g.H.TreeHash.digest c.new-files.result.shelf.ghost_name (g.D.Shelf.puts c.new-files.result.shelf.now)
          (g.D.Shelf.puts c.args.shelf.now) (ap g.D.Shelf.puts c.new-files.ensures.now) c.args.size c.args.root.now
          c.in_err-open.field-0.0 c.in_err-open.ensures.names);
      honest = log_err {T = Reader} g.H.TreeHash.digest c.new-files.result.shelf.ghost_name (g.D.Shelf.puts c.new-files.result.shelf.now)
          (g.D.Shelf.puts c.args.shelf.now) (ap g.D.Shelf.puts c.new-files.ensures.now)
          (λ entries reader. IsReaderOf g.H.TreeHash.digest entries reader) c.args.size c.args.root.now c.in_err-open.field-0.0
          c.from_residual.result c.from_residual.ensures c.in_err-open.ensures.honest;
    }

pub returns-clause-given : goal.returns-clause-given
returns-clause-given g c =
    edge_recorded g.H.TreeHash.digest c.new-files.result.shelf.ghost_name (g.D.Shelf.puts c.new-files.result.shelf.now)
    (g.D.Shelf.puts c.args.shelf.now) (ap g.D.Shelf.puts c.new-files.ensures.now) c.args.size c.in_ok-open.field-0.edge
    c.in_ok-open.ensures.given

pub returns-clause-same : goal.returns-clause-same
returns-clause-same g c =
    let puts = g.D.Shelf.puts in
    let read = c.open in
    let before = c.new-files.result.shelf in
    let after = read.new.source.shelf in
    let now = c.new-files.ensures.now in
    let one : after.ghost_name ≡ before.ghost_name =
    same_shelf before.ghost_name after.ghost_name (puts before.now) (puts after.now) read.ensures.later in
    let kept : KeepsRecord (puts c.args.shelf.now) (puts after.now) =
    subst (λ s. KeepsRecord (puts s) (puts after.now)) now read.ensures.kept in
    search (rules, one, kept)

pub returns-clause-counted : goal.returns-clause-counted
returns-clause-counted g c =
    let puts = g.D.Shelf.puts in
    let failed = g.D.Shelf.failed in
    let read = c.open in
    let before = c.new-files.result.shelf in
    let after = read.new.source.shelf in
    let now = c.new-files.ensures.now in
    let one : after.ghost_name ≡ before.ghost_name =
    same_shelf before.ghost_name after.ghost_name (puts before.now) (puts after.now) read.ensures.later in
    let counted : failed after.now ≡ failed c.args.shelf.now = c.in_ok-open.ensures.counted ∙ ap failed now in
    search (rules, one, counted)

pub returns-clause-honest : goal.returns-clause-honest
returns-clause-honest g c =
    log_ok {T = Reader} g.H.TreeHash.digest c.new-files.result.shelf.ghost_name
    (g.D.Shelf.puts c.new-files.result.shelf.now) (g.D.Shelf.puts c.args.shelf.now) (ap g.D.Shelf.puts c.new-files.ensures.now)
    (λ entries reader. IsReaderOf g.H.TreeHash.digest entries reader) c.args.size c.args.root.now c.in_ok-open.field-0
    c.in_ok-open.ensures.honest
