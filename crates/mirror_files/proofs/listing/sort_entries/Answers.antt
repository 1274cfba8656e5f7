use Rattle.std.proofs.lemmas.List.Filters.{dedup_is}
use Rattle.std.proofs.lemmas.List.Kept.{IsStrictlySortedBy-dedup}
use Rattle.mirror_files.proofs.Gathered.{lent_bytes, lent_total, lent_ties, lent_exact, entries_rise, same_items}
use Rattle.mirror_files.proofs.listing.sort_entries.Goals as goal

pub returns-clause-rises : goal.returns-clause-rises
returns-clause-rises c =
    let is = dedup_is _ _ _ c.dedup.ensures.filtered in
    rw is (entries_rise _ (IsStrictlySortedBy-dedup lent_total lent_ties _ c.in_ok-sort.ensures.sorted))

pub returns-clause-same : goal.returns-clause-same
returns-clause-same c = λ e.
    same_items lent_bytes lent_total lent_ties lent_exact c.args.entries.now.items c.sort.new.self.items
    c.dedup.new.self.items c.in_ok-sort.ensures.permutation (dedup_is _ _ _ c.dedup.ensures.filtered) e
