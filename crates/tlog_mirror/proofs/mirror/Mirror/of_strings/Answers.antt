use Rattle.std.proofs.Common.{◌≡◌, sym, subst, arith}
use Rattle.std.specs.Prelude.{string_bytes}
use Rattle.mirror_model.specs.Origin.{IsOrigin}
use Rattle.mirror_trees.proofs.EmptySets.{empty_known}
use Rattle.tlog_mirror.proofs.RestoredMirrors.{restored_well}
use Rattle.tlog_mirror.proofs.mirror.Mirror.of_strings.Goals as goal

pub invariant_of-result : goal.invariant_of-result
invariant_of-result g c =
    let is : IsOrigin c.args.origin.now = c.is_origin.ensures.0 c.if-not-is_origin.false in
    let same : string_bytes c.in-Ok.origin ≡ c.args.origin.now = grind (arith) in (
      restored_well g.H.TreeHash.digest (string_bytes c.in-Ok.origin) c.args.strings (subst IsOrigin (sym same) is)
          c.iter-all.ensures.no_clash c.iter-all.ensures.tagged c.requires.short c.new.result.items c.new-2.result.remembered
          c.new.ensures.items c.new-2.ensures.remembered,
      (empty_known g.H.TreeHash.digest c.args.strings c.new-2.result.built c.new-2.ensures.built, tt),
    )
