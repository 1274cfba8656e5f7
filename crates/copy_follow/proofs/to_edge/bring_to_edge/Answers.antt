use Rattle.std.proofs.Common.{◌∙◌, inr, refl}
use Rattle.copy_follow.specs.Asked.{IsEdgeBundle, IsEdgeBundleOrNew, IsNewFull}
use Rattle.copy_follow.proofs.OnePlace.{honest_between}
use Rattle.copy_follow.proofs.Spared.{spared_last, spared_shelf}
use Rattle.copy_follow.proofs.EdgeRows.{edge_known, edge_left}
use Rattle.copy_follow.proofs.Growth.{kept_same}
use Rattle.copy_places.proofs.Asking.{asks_same, asks_weaker}
use Rattle.copy_follow.proofs.NewFulls.{to_edge_asks}
use Rattle.copy_follow.proofs.Others.{last_blames}
use Rattle.copy_follow.proofs.Finishing.{copy_brought, ends_brought, left_put, true_rows}
use Rattle.copy_follow.proofs.Between.{once_below, once_to_edge}
use Rattle.copy_follow.proofs.Exits.{no_place}
use Rattle.copy_follow.proofs.Earlier.{early_result}
use Rattle.std.proofs.Common.{◌*◌, arith}
use Rattle.tlog_shape.specs.Edge.{edge_index_of}
use Rattle.copy_follow.proofs.Exits.{counted_last}
use Rattle.copy_follow.proofs.Earlier.{early_later}
use Rattle.copy_follow.proofs.Spared.{err_weaker}
use Rattle.copy_follow.specs.Conflicts.{IsNoConflict}
use Rattle.copy_follow.specs.Faults.{CountsFault}
use Rattle.std.proofs.Common.{Err, subst}
use Rattle.copy_follow.proofs.Secured.{all_flushed, ok_weaker}
use Rattle.copy_follow.proofs.Differing.{differs_none}
use Rattle.copy_follow.proofs.to_edge.bring_to_edge.Goals as goal

pub returns-in-Err-bring_edge_bundle-clause-brings : goal.returns-in-Err-bring_edge_bundle-clause-brings
returns-in-Err-bring_edge_bundle-clause-brings g c = λ known is.
    let digest = g.H.TreeHash.digest in
    let tip = c.args.tip.now in
    let edge = c.args.edge.now in
    let x = g.D.Shelf.puts c.args.shelf.now in
    let y = g.D.Shelf.puts c.bring_levels.new.shelf in
    let z = g.D.Shelf.puts c.bring_edge_bundle.new.shelf in
    let e = c.in-Ok.ensures.brings known is in
    (edge_left digest tip edge known c.requires.widths x y z 1 e
    (c.in-Err-bring_edge_bundle.ensures.brings e.next (edge_known digest tip edge known c.requires.widths x y 1 0 0 refl is e)))

pub returns-in-Err-put_edge_tiles-clause-brings : goal.returns-in-Err-put_edge_tiles-clause-brings
returns-in-Err-put_edge_tiles-clause-brings g c = λ known is.
    let digest = g.H.TreeHash.digest in
    let tip = c.args.tip.now in
    let edge = c.args.edge.now in
    let x = g.D.Shelf.puts c.args.shelf.now in
    let y = g.D.Shelf.puts c.bring_levels.new.shelf in
    let z = g.D.Shelf.puts c.bring_edge_bundle.new.shelf in
    let w = g.D.Shelf.puts c.put_edge_tiles.new.shelf in
    let e = c.in-Ok.ensures.brings known is in
    let l = c.in-Ok-bring_edge_bundle.ensures.brings e.next (edge_known digest tip edge known c.requires.widths x y 1 0 0 refl is e) in
    (left_put digest tip edge known c.requires.widths x y z e l w w
    (c.in-Err-put_edge_tiles.ensures.puts l.next l.size_is (true_rows digest tip edge known c.requires.widths x y z e l)) (kept_same w))

pub returns-clause-brings : goal.returns-clause-brings
returns-clause-brings g c = λ known is.
    let digest = g.H.TreeHash.digest in
    let tip = c.args.tip.now in
    let edge = c.args.edge.now in
    let x = g.D.Shelf.puts c.args.shelf.now in
    let y = g.D.Shelf.puts c.bring_levels.new.shelf in
    let z = g.D.Shelf.puts c.bring_edge_bundle.new.shelf in
    let w = g.D.Shelf.puts c.put_edge_tiles.new.shelf in
    let v = g.D.Shelf.puts c.put_last.new.shelf in
    let e = c.in-Ok.ensures.brings known is in
    let l = c.in-Ok-bring_edge_bundle.ensures.brings e.next (edge_known digest tip edge known c.requires.widths x y 1 0 0 refl is e) in
    let q = c.in-Ok-put_edge_tiles.ensures.puts l.next l.size_is (true_rows digest tip edge known c.requires.widths x y z e l) in
    ends_brought digest tip edge c.args.note.now known x w v c.put_last.result c.put_last.ensures.puts
    (λ recorded. copy_brought digest tip edge c.args.note.now known c.requires.size c.requires.widths x y z w v e l q recorded)
    (λ kept. left_put digest tip edge known c.requires.widths x y z e l w v q.gathers kept)

pub returns-in-Err-bring_edge_bundle-clause-asks : goal.returns-in-Err-bring_edge_bundle-clause-asks
returns-in-Err-bring_edge_bundle-clause-asks g c =
    to_edge_asks g.S.Source.may_answer g.S.Source.failed g.S.Source.asked c.args.edge.now.size c.args.tip.now.size c.args.places.now
    c.bring_levels.new.places c.bring_edge_bundle.new.places c.bring_levels.ensures.asks c.bring_edge_bundle.ensures.asks

pub returns-in-Err-put_edge_tiles-clause-asks : goal.returns-in-Err-put_edge_tiles-clause-asks
returns-in-Err-put_edge_tiles-clause-asks g c =
    to_edge_asks g.S.Source.may_answer g.S.Source.failed g.S.Source.asked c.args.edge.now.size c.args.tip.now.size c.args.places.now
    c.bring_levels.new.places c.bring_edge_bundle.new.places c.bring_levels.ensures.asks c.bring_edge_bundle.ensures.asks

pub returns-clause-asks : goal.returns-clause-asks
returns-clause-asks g c =
    to_edge_asks g.S.Source.may_answer g.S.Source.failed g.S.Source.asked c.args.edge.now.size c.args.tip.now.size c.args.places.now
    c.bring_levels.new.places c.bring_edge_bundle.new.places c.bring_levels.ensures.asks c.bring_edge_bundle.ensures.asks

pub returns-clause-blames : goal.returns-clause-blames
returns-clause-blames g c =
    let digest = g.H.TreeHash.digest in
    let tip = c.args.tip.now in
    let edge = c.args.edge.now in
    let x = g.D.Shelf.puts c.args.shelf.now in
    let y = g.D.Shelf.puts c.bring_levels.new.shelf in
    let z = g.D.Shelf.puts c.bring_edge_bundle.new.shelf in
    let w = g.D.Shelf.puts c.put_edge_tiles.new.shelf in
    last_blames digest c.bring_edge_bundle.new.places tip x w c.put_last.result
    (λ known is.
    let e = c.in-Ok.ensures.brings known is in
    let l = c.in-Ok-bring_edge_bundle.ensures.brings e.next (edge_known digest tip edge known c.requires.widths x y 1 0 0 refl is e) in
    let q = c.in-Ok-put_edge_tiles.ensures.puts l.next l.size_is (true_rows digest tip edge known c.requires.widths x y z e l) in
    left_put digest tip edge known c.requires.widths x y z e l w w q.gathers (kept_same w))
    c.put_last.ensures.blames

pub returns-in-Err-clause-honest : goal.returns-in-Err-clause-honest
returns-in-Err-clause-honest g c =
    (λ entries size h t is. c.in-Err.ensures.honest entries size h t is)

pub returns-in-Err-bring_edge_bundle-clause-honest : goal.returns-in-Err-bring_edge_bundle-clause-honest
returns-in-Err-bring_edge_bundle-clause-honest g c =
    let may = g.S.Source.may_answer in
    let failed = g.S.Source.failed in
    let asked = g.S.Source.asked in
    let new = IsNewFull c.args.tip.now.size in
    let z = c.bring_edge_bundle.new.places in
    (λ entries size h t is.
    c.in-Err-bring_edge_bundle.ensures.honest entries size
    (honest_between may failed asked g.H.TreeHash.digest entries size new (IsEdgeBundle c.args.edge.now.size) new c.args.places.now
    c.bring_levels.new.places z z (g.D.Shelf.puts c.args.shelf.now) (g.D.Shelf.puts c.bring_levels.new.shelf)
    c.bring_levels.ensures.asks c.bring_edge_bundle.ensures.asks (asks_same may failed asked new z) c.bring_levels.ensures.taken h)
    t is)

pub returns-in-Err-put_edge_tiles-clause-honest : goal.returns-in-Err-put_edge_tiles-clause-honest
returns-in-Err-put_edge_tiles-clause-honest g c =
    (λ entries size h t is.
    spared_shelf c.in-Err-put_edge_tiles.fault c.in-Err-put_edge_tiles.ensures.places c.in-Err-put_edge_tiles.ensures.fault)

pub returns-clause-honest : goal.returns-clause-honest
returns-clause-honest g c =
    spared_last c.put_last.result _ (λ e so entries size h t is. so) c.args.tip.now.checkpoint
    (g.D.Shelf.puts c.put_edge_tiles.new.shelf) c.put_last.ensures.blames c.put_last.ensures.fault

pub returns-in-Err-bring_edge_bundle-clause-once : goal.returns-in-Err-bring_edge_bundle-clause-once
returns-in-Err-bring_edge_bundle-clause-once g c =
    once_to_edge g.S.Source.asked c.args.edge.now.size c.args.places.now
    c.bring_levels.new.places c.bring_edge_bundle.new.places c.bring_levels.ensures.once c.bring_edge_bundle.ensures.once

pub returns-in-Err-put_edge_tiles-clause-once : goal.returns-in-Err-put_edge_tiles-clause-once
returns-in-Err-put_edge_tiles-clause-once g c =
    once_to_edge g.S.Source.asked c.args.edge.now.size c.args.places.now
    c.bring_levels.new.places c.bring_edge_bundle.new.places c.bring_levels.ensures.once c.bring_edge_bundle.ensures.once

pub returns-clause-once : goal.returns-clause-once
returns-clause-once g c =
    once_to_edge g.S.Source.asked c.args.edge.now.size c.args.places.now
    c.bring_levels.new.places c.bring_edge_bundle.new.places c.bring_levels.ensures.once c.bring_edge_bundle.ensures.once

pub returns-in-Err-clause-once : goal.returns-in-Err-clause-once
returns-in-Err-clause-once g c =
    once_below g.S.Source.asked c.args.edge.now.size c.args.places.now c.bring_levels.new.places c.bring_levels.ensures.once

pub returns-in-Err-clause-asks : goal.returns-in-Err-clause-asks
returns-in-Err-clause-asks g c =
    asks_weaker g.S.Source.may_answer g.S.Source.failed g.S.Source.asked (IsNewFull c.args.tip.now.size)
    (IsEdgeBundleOrNew c.args.edge.now.size c.args.tip.now.size) (λ path h. inr h) c.args.places.now c.bring_levels.new.places
    c.bring_levels.ensures.asks

-- ---- what a fault says

pub returns-in-Err-clause-counted : goal.returns-in-Err-clause-counted
returns-in-Err-clause-counted g c =
    let failed = g.D.Shelf.failed in
    c.in-Err.ensures.counted

pub returns-in-Err-clause-blames : goal.returns-in-Err-clause-blames
returns-in-Err-clause-blames g c =
    (inr c.in-Err.ensures.blames)

pub returns-in-Err-clause-early : goal.returns-in-Err-clause-early
returns-in-Err-clause-early g c =
    c.in-Err.ensures.early

pub returns-in-Err-clause-empty : goal.returns-in-Err-clause-empty
returns-in-Err-clause-empty g c =
    c.in-Err.ensures.empty

pub returns-in-Err-bring_edge_bundle-clause-counted : goal.returns-in-Err-bring_edge_bundle-clause-counted
returns-in-Err-bring_edge_bundle-clause-counted g c =
    let failed = g.D.Shelf.failed in
    (subst (λ n. CountsFault n (failed c.bring_edge_bundle.new.shelf) c.in-Err-bring_edge_bundle.fault) c.in-Ok.ensures.counted c.in-Err-bring_edge_bundle.ensures.counted)

pub returns-in-Err-bring_edge_bundle-clause-blames : goal.returns-in-Err-bring_edge_bundle-clause-blames
returns-in-Err-bring_edge_bundle-clause-blames g c =
    (inr c.in-Err-bring_edge_bundle.ensures.blames)

pub returns-in-Err-bring_edge_bundle-clause-empty : goal.returns-in-Err-bring_edge_bundle-clause-empty
returns-in-Err-bring_edge_bundle-clause-empty g c =
    c.in-Err-bring_edge_bundle.ensures.empty

pub returns-in-Err-put_edge_tiles-clause-counted : goal.returns-in-Err-put_edge_tiles-clause-counted
returns-in-Err-put_edge_tiles-clause-counted g c =
    let failed = g.D.Shelf.failed in
    (subst (λ n. CountsFault n (failed c.put_edge_tiles.new.shelf) c.in-Err-put_edge_tiles.fault) (c.in-Ok-bring_edge_bundle.ensures.counted ∙ c.in-Ok.ensures.counted) c.in-Err-put_edge_tiles.ensures.counted)

pub returns-in-Err-put_edge_tiles-clause-blames : goal.returns-in-Err-put_edge_tiles-clause-blames
returns-in-Err-put_edge_tiles-clause-blames g c =
    (inr (no_place c.bring_edge_bundle.new.places c.in-Err-put_edge_tiles.fault c.in-Err-put_edge_tiles.ensures.places))

pub returns-in-Err-put_edge_tiles-clause-empty : goal.returns-in-Err-put_edge_tiles-clause-empty
returns-in-Err-put_edge_tiles-clause-empty g c =
    (λ is. c.in-Err-put_edge_tiles.ensures.fault)

pub returns-in-Err-put_edge_tiles-clause-early : goal.returns-in-Err-put_edge_tiles-clause-early
returns-in-Err-put_edge_tiles-clause-early g c =
    early_result {T = Unit {0}} 0 c.args.tip.now.size (g.D.Shelf.puts c.args.shelf.now) (g.D.Shelf.puts c.put_edge_tiles.new.shelf)
    (Err c.in-Err-put_edge_tiles.fault)
    (c.in-Err-put_edge_tiles.ensures.fault)

pub returns-clause-counted : goal.returns-clause-counted
returns-clause-counted g c =
    counted_last c.put_last.result (g.D.Shelf.failed c.args.shelf.now) (g.D.Shelf.failed c.put_edge_tiles.new.shelf) (g.D.Shelf.failed c.put_last.new.shelf)
    (c.in-Ok-put_edge_tiles.ensures.counted ∙ (c.in-Ok-bring_edge_bundle.ensures.counted ∙ c.in-Ok.ensures.counted))
    c.put_last.ensures.counted

pub returns-clause-early : goal.returns-clause-early
returns-clause-early g c =
    early_result 0 c.args.tip.now.size (g.D.Shelf.puts c.args.shelf.now) (g.D.Shelf.puts c.put_last.new.shelf) c.put_last.result
    c.put_last.ensures.fault

pub returns-clause-empty : goal.returns-clause-empty
returns-clause-empty g c =
    err_weaker c.put_last.result IsNoConflict _ (λ e h is. h) c.put_last.ensures.fault

pub returns-in-Err-clause-brings : goal.returns-in-Err-clause-brings
returns-in-Err-clause-brings g c =
    λ known is.
    (c.in-Err.ensures.brings known is)

pub returns-in-Err-bring_edge_bundle-clause-early : goal.returns-in-Err-bring_edge_bundle-clause-early
returns-in-Err-bring_edge_bundle-clause-early g c =
    let m = c.args.tip.now.size in
    let x = g.D.Shelf.puts c.args.shelf.now in
    let y = g.D.Shelf.puts c.bring_levels.new.shelf in
    let z = g.D.Shelf.puts c.bring_edge_bundle.new.shelf in
    (early_later (Unit {0}) (Unit {0}) 0 (edge_index_of c.args.edge.now.size 0 * 256) m x y z c.in-Err-bring_edge_bundle.fault
    (λ within. (omega arith, c.in-Ok.ensures.none within)) c.in-Err-bring_edge_bundle.ensures.early)

-- ---- the files that were flushed

pub returns-clause-flushed : goal.returns-clause-flushed
returns-clause-flushed g c =
    let flushes = g.D.Shelf.flushes in
    ok_weaker c.put_last.result (λ last. all_flushed c.args.tip.now.size c.args.edge.now.size c.requires.size
    (flushes c.args.shelf.now) (flushes c.bring_levels.new.shelf) (flushes c.bring_edge_bundle.new.shelf)
    (flushes c.put_edge_tiles.new.shelf) (flushes c.put_last.new.shelf) c.in-Ok.ensures.secured
    c.in-Ok-bring_edge_bundle.ensures.secured c.in-Ok-put_edge_tiles.ensures.secured last) c.put_last.ensures.flushed

-- ---- what differs

pub returns-in-Err-clause-differs : goal.returns-in-Err-clause-differs
returns-in-Err-clause-differs g c = c.in-Err.ensures.differs

pub returns-in-Err-bring_edge_bundle-clause-differs : goal.returns-in-Err-bring_edge_bundle-clause-differs
returns-in-Err-bring_edge_bundle-clause-differs g c = c.in-Err-bring_edge_bundle.ensures.differs

pub returns-in-Err-put_edge_tiles-clause-differs : goal.returns-in-Err-put_edge_tiles-clause-differs
returns-in-Err-put_edge_tiles-clause-differs g c =
    differs_none g.H.TreeHash.digest c.args.edge.now c.args.tip.now c.in-Err-put_edge_tiles.fault c.in-Err-put_edge_tiles.ensures.fault

pub returns-clause-differs : goal.returns-clause-differs
returns-clause-differs g c =
    err_weaker c.put_last.result IsNoConflict _ (λ e h. differs_none g.H.TreeHash.digest c.args.edge.now c.args.tip.now e h)
    c.put_last.ensures.fault
