use Rattle.std.proofs.Common.{◌≡◌, map, take}
use Rattle.std.specs.FinSet as set
use Rattle.node_store.specs.Strings.{NoClash}
use Rattle.mirror_files.specs.Storing.{tagged_as}
use Rattle.mirror_files.proofs.storing.add_listed.Given as goal

-- the strings of the items so far are added
abbrev pub invariant-loop-item : goal.invariant-loop-item
invariant-loop-item g l = record {
  store : l.store
      ≡ set.union l.fn.store (set.from_list (map (tagged_as l.kind) (take l.item-index (map (λ x. x.now) l.items))));
  no_clash : NoClash g.H.TreeHash.digest l.store;
}
