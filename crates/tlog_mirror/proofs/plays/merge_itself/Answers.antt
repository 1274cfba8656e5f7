use Rattle.std.proofs.Common.{refl, sym, subst}
use Rattle.mirror_model.specs.View.{View}
use Rattle.mirror_model.proofs.Views.{union_repeats}
use Rattle.node_store.specs.Strings.{NoClash}
use Rattle.tlog_mirror.proofs.plays.merge_itself.Goals as goal

pub returns-clause-merges : goal.returns-clause-merges
returns-clause-merges g c =
    let v = c.args.mirror.now.view in
    let D = g.H.TreeHash.digest in (
      refl,
      subst (λ (w : View). NoClash D w.strings) (sym (union_repeats v))
          c.strings-held.ensures.sound.lawful.no_clash,
      sym (union_repeats v),
    )
