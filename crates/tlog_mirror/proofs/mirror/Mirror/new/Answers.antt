use Rattle.std.specs.Prelude.{◌≡◌, string_bytes}
use Rattle.std.proofs.Common.{sym, subst, arith}
use Rattle.mirror_model.specs.Origin.{IsOrigin}
use Rattle.mirror_trees.proofs.EmptySets.{empty_known}
use Rattle.tlog_mirror.proofs.NewMirrors.{new_well}
use Rattle.tlog_mirror.proofs.mirror.Mirror.new.Goals as goal

pub invariant_of-result : goal.invariant_of-result
invariant_of-result g c =
    let is : IsOrigin c.args.origin.now = c.is_origin.ensures.0 c.if-not-is_origin.false in
    let same : string_bytes c.in-Ok.origin ≡ c.args.origin.now = grind (arith) in (
      new_well g.H.TreeHash.digest (string_bytes c.in-Ok.origin) (subst IsOrigin (sym same) is) c.new.result.items
          c.new-2.result c.new-3.result.remembered c.new.ensures.items c.new-2.ensures c.new-3.ensures.remembered,
      (empty_known g.H.TreeHash.digest c.new-2.result c.new-3.result.built c.new-3.ensures.built, tt),
    )
