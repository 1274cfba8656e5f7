use Rattle.std.proofs.Common.{◌∙◌}
use Rattle.copy_reader.proofs.Damage.{damage_exit}
use Rattle.copy_reader.specs.WholeCopies.{IsShelfFailure}
use Rattle.copy_reader.proofs.WholeCopies.{files_later}
use Rattle.program_copies.specs.Damages.{NamesFile}
use Rattle.program_copies.specs.GivenFiles.{IsEdgeTo}
use Rattle.program_copies.proofs.Damages.{names_before, opened_names, read_names}
use Rattle.program_copies.proofs.TrueProofs.{passed_on}
use Rattle.program_copies.proofs.file.read_anew.Goals as goal

pub returns-in_err-bytes-clause-honest : goal.returns-in_err-bytes-clause-honest
returns-in_err-bytes-clause-honest g c = λ entries log.
    let of = c.in_ok-opened.ensures.honest entries log.size_is log.root_is log.files in
    let files = files_later g.H.TreeHash.digest (g.D.Shelf.puts c.args.shelf.now) (g.D.Shelf.puts c.open_reader.new.shelf)
    c.in_ok-opened.ensures.same entries log.files in
    passed_on IsShelfFailure c.in_err-bytes.field-0.0 c.from_residual-in_err-bytes.result c.from_residual-in_err-bytes.ensures
    (c.in_err-bytes.ensures.honest entries of files).answer

pub returns-in_err-opened-clause-damage : goal.returns-in_err-opened-clause-damage
returns-in_err-opened-clause-damage g c =
    damage_exit (NamesFile g.H.TreeHash.digest (g.D.Shelf.puts c.args.shelf.now) c.args.size c.args.root.now)
    c.from_residual.result c.in_err-opened.field-0.0 c.from_residual.ensures
    (opened_names g.H.TreeHash.digest c.args.size c.args.root.now (g.D.Shelf.puts c.args.shelf.now) c.in_err-opened.field-0.0
    c.in_err-opened.ensures.damage)

pub returns-in_err-bytes-clause-damage : goal.returns-in_err-bytes-clause-damage
returns-in_err-bytes-clause-damage g c =
    let digest = g.H.TreeHash.digest in
    let after = g.D.Shelf.puts c.open_reader.new.shelf in
    let to : IsEdgeTo digest c.args.size c.args.root.now c.in_ok-opened.opened.edge = record {
      hashes = c.root-root.ensures.hashes;
      size_is = c.in_ok-opened.ensures.size;
      leads = c.root-root.ensures.leads ∙ c.in_ok-opened.ensures.root;
    } in
    damage_exit (NamesFile digest (g.D.Shelf.puts c.args.shelf.now) c.args.size c.args.root.now)
    c.from_residual-in_err-bytes.result c.in_err-bytes.field-0.0 c.from_residual-in_err-bytes.ensures
    (names_before digest c.args.size c.args.root.now (g.D.Shelf.puts c.args.shelf.now) after c.in_ok-opened.ensures.same
    c.in_err-bytes.field-0.0
    (read_names digest c.args.size c.args.root.now after c.in_ok-opened.opened.edge to c.in_err-bytes.field-0.0
    c.in_err-bytes.ensures.damage))
