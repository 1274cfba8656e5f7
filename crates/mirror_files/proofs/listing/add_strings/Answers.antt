use Rattle.std.proofs.Common.{List, ℕ, ap, map, subst, ◌∙◌}
use Rattle.std.proofs.lemmas.List.Elements.{All-nil, All-same}
use Rattle.std.specs.FinSet.{from_list}
use Rattle.mirror_files.specs.Listing.{HasGathered}
use Rattle.mirror_files.specs.Putting.{pair_bytes, IsKeyed}
use Rattle.mirror_files.proofs.Gathered.{lent_bytes, part_start}
use Rattle.mirror_files.proofs.listing.add_strings.Goals as goal

pub loop-string-init : goal.loop-string-init
loop-string-init g c =
    let all = ap (λ (k : List (List ℕ)). from_list k) c.into_iter-string-iterator.ensures.into_iter_gives
    ∙ c.iter-string-items.ensures.all in
    record {
      pairs_are = part_start 1 c.args.store.now (map pair_bytes c.args.held.now.pairs.items)
          c.into_iter-string-iterator.result (ap (map pair_bytes) c.requires.pairs_none) all;
      keyed = All-same IsKeyed _ _ c.requires.pairs_none (All-nil IsKeyed);
      entries_are = part_start 0 c.args.store.now (map lent_bytes c.args.held.now.entries.items)
          c.into_iter-string-iterator.result (ap (map lent_bytes) c.requires.entries_none) all;
    }

pub loop-string-preserved : goal.loop-string-preserved
loop-string-preserved g c =
    c.in_ok-add_string.ensures c.args.store.now c.next.new.self
    (subst (λ (left : List (List ℕ)). HasGathered c.args.store.now c.loop-string.held left) c.in-Some.ensures.steps
    c.loop-string.invariant)
