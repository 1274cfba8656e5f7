use Rattle.std.proofs.Common.{◌≡◌, inl, inr, List, [], length, subst, ap, arith}
use Rattle.std.specs.List.{Contains}
use Rattle.std.proofs.lemmas.Result.{IfOk-from_err}
use Rattle.mirror_model.specs.Walk.{IsMissing}
use Rattle.tlog_tiles.specs.declared.paths.Path.{Path}
use Rattle.mirror_trees.proofs.EmptySets.{empty_known}
use Rattle.mirror_trees.proofs.Losses.{nothing_missing, lost_is_missing}
use Rattle.mirror_trees.proofs.missing.all_lost.Goals as goal

none_in : (paths : List Path) (path : Path) → paths ≡ [] → Contains paths path → ⊥
none_in paths path is h = let len = ap length is in omega (arith, len, h.1)

pub returns-then-size-eq0 : goal.returns-then-size-eq0
returns-then-size-eq0 g c = λ path. (
  λ h. absurd (none_in c.new.result.items path c.new.ensures.items h),
  λ m. absurd
      (nothing_missing g.H.TreeHash.digest c.args.store.now c.args.root.now path
      (subst (λ n. IsMissing g.H.TreeHash.digest c.args.store.now n c.args.root.now path) c.if-size-eq0.true m)),
)

pub returns : goal.returns
returns g c = λ path.
    let added = c.in_ok-push_lost.ensures.adds path in
    let same = lost_is_missing g.H.TreeHash.digest c.args.store.now c.args.size c.args.root.now path in (
      λ h. elim
          (added.0 h) [
            | inl a ↦ absurd
                (none_in c.in_ok-paths.paths.items path c.in_ok-paths.ensures.items a)
            | inr m ↦ same.0 m
          ],
      λ m. added.1 (inr (same.1 m)),
    )

pub count_lost-requires-clause-found : goal.count_lost-requires-clause-found
count_lost-requires-clause-found g c =
    empty_known g.H.TreeHash.digest c.args.store.now c.new-found.result c.new-found.ensures

pub returns-in_err-count : goal.returns-in_err-count
returns-in_err-count g c = IfOk-from_err _ _ c.from_residual.ensures.0

pub returns-in_err-paths : goal.returns-in_err-paths
returns-in_err-paths g c = IfOk-from_err _ _ c.from_residual-in_err-paths.ensures.0

pub returns-in_err-push_lost : goal.returns-in_err-push_lost
returns-in_err-push_lost g c = IfOk-from_err _ _ c.from_residual-in_err-push_lost.ensures.0
