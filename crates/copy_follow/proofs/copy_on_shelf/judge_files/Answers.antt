use Rattle.std.proofs.Common.{◌∙◌}
use Rattle.std.specs.Prelude.{⊤}
use Rattle.std.proofs.lemmas.Result.{err_from_is_err_and}
use Rattle.copy_reader.proofs.Ends.{end_before}
use Rattle.copy_follow.proofs.CopyReads.{read_copy}
use Rattle.copy_follow.proofs.copy_on_shelf.judge_files.Goals as goal

pub returns-in_err-read_end-clause-honest : goal.returns-in_err-read_end-clause-honest
returns-in_err-read_end-clause-honest g c =
    let p = err_from_is_err_and c.from_residual-in_err-read_end.result c.from_residual-in_err-read_end.ensures.1 in
    rw (p.1, p.2) (read_copy _ ⊤ g.H.TreeHash.digest c.args.size c.args.root.now _ _ _ (g.D.Shelf.puts c.args.shelf.now) _
    c.open_reader.ensures.same c.in_err-read_end.field-0.0 c.in_ok-reader.ensures.honest c.in_err-read_end.ensures.honest)

pub returns-clause-judged : goal.returns-clause-judged
returns-clause-judged g c = record {
  edge = c.in_ok-reader.reader.edge;
  hashes = c.root-root.ensures.hashes;
  size_is = c.in_ok-reader.ensures.size;
  leads = c.root-root.ensures.leads ∙ c.in_ok-reader.ensures.root;
  given = c.in_ok-reader.ensures.given;
  end = end_before g.H.TreeHash.digest (g.D.Shelf.puts c.args.shelf.now) (g.D.Shelf.puts c.open_reader.new.shelf)
      c.open_reader.ensures.same c.in_ok-reader.reader.edge c.in_ok-read_end.ensures.end;
}
