use Rattle.std.proofs.Common.{◌≡◌, ℕ, ◌+◌, ◌<◌, ◌≤◌, List, length, Option, Some, None, IfSome, IfNone, arith}
use Rattle.tlog_hash.specs.Tree.{mth}
use Rattle.tlog_hash.specs.Rows.{part}
use Rattle.node_store.specs.Strings.{Strings}
use Rattle.mirror_model.specs.Complete.{IsTreeOf}
use Rattle.mirror_trees.proofs.top_ranges.TopRangesRanges.hash.Goals as goal

module _ (digest : List ℕ → List ℕ) (held : Strings) (size : ℕ) (root : List ℕ) (start len : ℕ) where
  some_listed : (r : Option (List ℕ)) → IfSome r (λ hash. start + len ≤ size) →
      IfSome r (λ hash. (es : List (List ℕ)) → IsTreeOf digest held size root es →
      hash ≡ mth digest (part start len es)) →
      IfSome r (λ hash. (es : List (List ℕ)) → IsTreeOf digest held size root es →
      (start + len ≤ length es) × (hash ≡ mth digest (part start len es)))
  some_listed None within is = is
  some_listed (Some hash) within is = λ es tree. (omega (arith, tree.size_is), is es tree)

  none_listed : (r : Option (List ℕ)) →
      IfNone r ((es : List (List ℕ)) → IsTreeOf digest held size root es → start + len ≤ size → ⊥) →
      IfNone r ((es : List (List ℕ)) → IsTreeOf digest held size root es → length es < start + len)
  none_listed (Some hash) never = never
  none_listed None never = λ es tree. let over = never es tree in rw tree.size_is (grind arith)

pub returns : goal.returns
returns g c = rw (← c.self.view_is) (record {
  some = some_listed g.H.TreeHash.digest c.self.inside.strings.now c.self.inside.size c.self.inside.root
      c.args.start c.args.len c.range_hash.result c.range_hash.ensures.within c.range_hash.ensures.some;
  none = none_listed g.H.TreeHash.digest c.self.inside.strings.now c.self.inside.size c.self.inside.root
      c.args.start c.args.len c.range_hash.result c.range_hash.ensures.none;
})
