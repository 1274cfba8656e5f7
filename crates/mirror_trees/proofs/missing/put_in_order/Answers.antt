use Rattle.std.proofs.Common.{rules}
use Rattle.std.specs.Ordering.{is_lt}
use Rattle.std.proofs.lemmas.List.Filters.{dedup_is}
use Rattle.std.proofs.lemmas.List.Kept.{IsStrictlySortedBy-dedup, Contains-dedup, Contains-from_dedup}
use Rattle.std.proofs.lemmas.List.Sorted.{answers_always, ranks_by, Contains-permutation, IsPermutation-sym}
use Rattle.mirror_model.specs.Front.{path_cmp}
use Rattle.tlog_tiles.specs.contracts.paths.PathPartialEq.TheImpl as path_eq
use Rattle.mirror_trees.proofs.Orders.{path_total, derived, exact, ties, equivalence}
use Rattle.mirror_trees.proofs.missing.put_in_order.Goals as goal

pub returns-clause-sorted : goal.returns-clause-sorted
returns-clause-sorted c =
    let is = dedup_is _ _ _ c.dedup.ensures.filtered in
    let sorted =
    c.sort_unstable_by.ensures.sorted (λ x y. is_lt (path_cmp x y)) (ranks_by path_total (λ x. x))
    (answers_always _ _ _ (λ f a r g h. search rules)) in
    rw is (IsStrictlySortedBy-dedup path_total (ties (path_eq.ghosts).eq derived) _ sorted)

pub returns-clause-same : goal.returns-clause-same
returns-clause-same c = λ path.
    let is = dedup_is _ _ _ c.dedup.ensures.filtered in
    let moved = c.sort_unstable_by.ensures.permutation in (
      λ h. Contains-permutation _ _ path (IsPermutation-sym _ _ moved) (Contains-from_dedup _ _ path (rw is at h)),
      λ h. rw is
          (Contains-dedup (equivalence (path_eq.ghosts).eq derived) (exact (path_eq.ghosts).eq derived) _ path
          (Contains-permutation _ _ path moved h)),
    )
