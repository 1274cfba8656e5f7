use Rattle.std.proofs.lemmas.Result.{err_from_is_err_and}
use Rattle.mirror_files.specs.Storing.{IsListable, tagged_as}
use Rattle.std.proofs.lemmas.List.Elements.{All-contains}
use Rattle.mirror_files.proofs.ListedItems.{bytes_of, is_item, listed_more, listed_refused, listed_done}
use Rattle.mirror_trees.proofs.BuiltTrees.{added_none}
use Rattle.mirror_files.proofs.storing.add_listed.Goals as goal

pub loop-item-init : goal.loop-item-init
loop-item-init g c = record { store = added_none c.args.store.now; no_clash = c.requires.no_clash }

pub add_item-requires : goal.add_item-requires
add_item-requires g c =
    All-contains (IsListable c.args.kind) (bytes_of c.args.items.now) _ c.requires.listable
    (is_item (tagged_as c.args.kind) c.args.items.now c.loop-item.item-index _ c.loop-item-test.true)

pub returns-in_err-add_item : goal.returns-in_err-add_item
returns-in_err-add_item g c =
    let p = err_from_is_err_and c.from_residual.result c.from_residual.ensures.1 in
    rw (p.1, p.2) (listed_refused g.H.TreeHash.digest (tagged_as c.args.kind) c.args.items.now c.loop-item.item-index _
    c.loop-item-test.true
    c.args.store.now c.loop-item.store c.add_item.new.store c.loop-item.invariant.store c.in_err-add_item.field-0.0
    c.in_err-add_item.ensures.collision)

pub loop-item-preserved : goal.loop-item-preserved
loop-item-preserved g c = record {
  store = listed_more (tagged_as c.args.kind) c.args.items.now c.loop-item.item-index _ c.loop-item-test.true
      c.args.store.now c.loop-item.store c.add_item.new.store c.loop-item.invariant.store c.in_ok-add_item.ensures.ok.0;
  no_clash = c.in_ok-add_item.ensures.ok.1;
}

pub returns : goal.returns
returns g c =
    listed_done g.H.TreeHash.digest (tagged_as c.args.kind) c.args.items.now c.loop-item.item-index
    c.loop-item-test.false
    c.args.store.now c.loop-item.store c.loop-item.invariant.store c.loop-item.invariant.no_clash
