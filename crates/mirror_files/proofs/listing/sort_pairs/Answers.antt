use Rattle.std.proofs.lemmas.List.Filters.{dedup_is, All-dedup}
use Rattle.std.proofs.lemmas.List.Kept.{IsStrictlySortedBy-dedup}
use Rattle.std.proofs.lemmas.List.Sorted.{All-permutation}
use Rattle.mirror_files.specs.Putting.{pair_bytes, IsKeyed}
use Rattle.mirror_files.proofs.Gathered.{keyed_total, keyed_ties, keyed_exact, pairs_rise, same_items}
use Rattle.mirror_files.proofs.listing.sort_pairs.Goals as goal

pub returns-clause-rises : goal.returns-clause-rises
returns-clause-rises c =
    let is = dedup_is _ _ _ c.dedup.ensures.filtered in
    rw is (pairs_rise _ (All-dedup _ IsKeyed c.sort.new.self.items (All-permutation IsKeyed
    c.args.pairs.now.items c.sort.new.self.items c.in_ok-sort.ensures.permutation c.requires))
    (IsStrictlySortedBy-dedup keyed_total keyed_ties _ c.in_ok-sort.ensures.sorted))

pub returns-clause-same : goal.returns-clause-same
returns-clause-same c = λ e.
    same_items pair_bytes keyed_total keyed_ties keyed_exact c.args.pairs.now.items c.sort.new.self.items
    c.dedup.new.self.items c.in_ok-sort.ensures.permutation (dedup_is _ _ _ c.dedup.ensures.filtered) e
