use Rattle.std.proofs.Common.{sym, ap, subst, ◌∙◌}
use Rattle.tlog_tiles.specs.Row.{IsRow}
use Rattle.std.proofs.lemmas.Bool.{false≢true}
use Rattle.tlog_hash.specs.Tree.{fold_of}
use Rattle.log_reader.specs.declared.verify.FullFile.TheVariants.{Tile}
use Rattle.log_reader.proofs.Refusing.{other_fold}
use Rattle.log_reader.proofs.tile.verified_row.Goals as goal

pub returns-else-is_same-clause-none : goal.returns-else-is_same-clause-none
returns-else-is_same-clause-none g c =
    let digest = g.H.TreeHash.digest in
    other_fold digest Tile c.args.hash.now c.args.bytes.now c.in-Some.hashes.items
    (rw c.in-Some.is at c.in_ok-hashes.ensures.row)
    (λ e. false≢true (sym c.if-is_same.false ∙ c.is_same.ensures.1
    (c.fold.ensures ∙ (ap (fold_of digest) c.in_ok-row.ensures ∙ e))))

pub returns-then-is_same-clause-found : goal.returns-then-is_same-clause-found
returns-then-is_same-clause-found g c = record {
  is_row = subst (IsRow 256 c.args.bytes.now) (sym c.in_ok-row.ensures) (rw c.in-Some.is at c.in_ok-hashes.ensures.row);
  folds = sym c.fold.ensures ∙ c.is_same.ensures.0 c.if-is_same.true;
}
