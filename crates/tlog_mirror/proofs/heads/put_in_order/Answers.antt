use Rattle.std.proofs.lemmas.List.Filters.{dedup_is}
use Rattle.std.proofs.lemmas.List.Kept.{IsStrictlySortedBy-dedup, Contains-dedup, Contains-from_dedup}
use Rattle.std.proofs.lemmas.List.Sorted.{Contains-permutation, IsPermutation-sym}
use Rattle.tlog_mirror.proofs.PointLists.{pairs_total, pairs_tie, pairs_equivalence, pairs_exact}
use Rattle.tlog_mirror.proofs.heads.put_in_order.Goals as goal

pub returns-clause-sorted : goal.returns-clause-sorted
returns-clause-sorted c =
    let is = dedup_is _ _ _ c.dedup.ensures.filtered in
    rw is (IsStrictlySortedBy-dedup pairs_total pairs_tie _ c.sort_unstable.ensures.sorted)

pub returns-clause-same : goal.returns-clause-same
returns-clause-same c = λ p.
    let is = dedup_is _ _ _ c.dedup.ensures.filtered in
    let moved = c.sort_unstable.ensures.permutation in (
      λ h. Contains-permutation _ _ p (IsPermutation-sym _ _ moved) (Contains-from_dedup _ _ p (rw is at h)),
      λ h. rw is (Contains-dedup pairs_equivalence pairs_exact _ p (Contains-permutation _ _ p moved h)),
    )
