use Rattle.std.proofs.Common.{map, refl}
use Rattle.mirror_files.specs.Putting.{pair_bytes}
use Rattle.mirror_files.proofs.Gathered.{both_ok, lent_bytes, part_end, sorted_each}
use Rattle.mirror_files.proofs.listing.list_strings.Goals as goal

pub returns : goal.returns
returns g c =
    let gathered = c.in_ok-add_strings.ensures in
    let pairs = map pair_bytes c.sort_pairs.new.pairs.items in
    let entries = map lent_bytes c.sort_entries.new.entries.items in
    both_ok c.sort_entries.result c.sort_entries.ensures.rises c.sort_entries.ensures.same (λ rises same. record {
      pairs_are = sorted_each 1 c.args.store.now _ pairs
          (part_end 1 c.args.store.now _ _ refl gathered.pairs_are)
          c.in_ok-sort_pairs.ensures.rises c.in_ok-sort_pairs.ensures.same;
      entries_are = sorted_each 0 c.args.store.now _ entries
          (part_end 0 c.args.store.now _ _ refl gathered.entries_are) rises same;
    })
