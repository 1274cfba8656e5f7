use Rattle.std.proofs.Common.{◌∷◌, [], take, map}
use Rattle.std.proofs.lemmas.List.{map-append, take_more}
use Rattle.std.proofs.lemmas.Result.{IfOk-from_err}
use Rattle.mirror_trees.proofs.LeafRows.{leaves_push, leaves_none}
use Rattle.mirror_trees.proofs.bundle.entries_of.Goals as goal

pub returns-in_default-clause-none : goal.returns-in_default-clause-none
returns-in_default-clause-none g c = λ entries h.
    leaves_none g.H.TreeHash.digest c.args.store.now c.args.row.now entries c.loop-hash.hash-index _
    c.loop-hash-test.true c.in_default.ensures.none h

pub loop-hash-preserved : goal.loop-hash-preserved
loop-hash-preserved g c =
    rw (
      take_more c.args.row.now c.loop-hash.hash-index [] c.loop-hash-test.true,
      c.in_ok-push.ensures.items,
      map-append (λ e. e.now) c.loop-hash.lent.items (c.in-Some.entry ∷ []),
    )
    (leaves_push g.H.TreeHash.digest c.args.store.now (take c.loop-hash.hash-index c.args.row.now)
    (map (λ e. e.now) c.loop-hash.lent.items) _ c.in-Some.entry.now c.loop-hash.invariant c.in-Some.ensures.some)

pub returns-in_err-lent : goal.returns-in_err-lent
returns-in_err-lent g c = record {
  some = IfOk-from_err _ _ c.from_residual.ensures.0;
  none = IfOk-from_err _ _ c.from_residual.ensures.0;
}

pub returns-in_err-push : goal.returns-in_err-push
returns-in_err-push g c = record {
  some = IfOk-from_err _ _ c.from_residual-in_err-push.ensures.0;
  none = IfOk-from_err _ _ c.from_residual-in_err-push.ensures.0;
}
