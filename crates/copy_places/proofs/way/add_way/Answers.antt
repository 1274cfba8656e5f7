use Rattle.std.proofs.Common.{◌≡◌, ◌≢◌, ◌∙◌, ◌+◌, ◌-◌, ◌%◌, ◌<◌, ℕ, [], ◌∷◌, ◌++◌, get_or, length, ap, arith, sym, subst, refl}
use Rattle.tlog_shape.specs.Edge.{edge_index_of}
use Rattle.tlog_tiles.specs.declared.paths.Path.TheVariants.{Tile}
use Rattle.tlog_tiles.specs.Row.{row_text}
use Rattle.log_reader.specs.Ways.{IsRowUnder}
use Rattle.log_reader.proofs.Kept.{kept_once, kept_twice}
use Rattle.copy_places.proofs.AskingEnds.{ends_same, ends_then}
use Rattle.copy_places.specs.Nobodys.{IsRowNobodys}
use Rattle.copy_places.specs.WayFiles.{HasWanted, IsOnWay}
use Rattle.copy_places.proofs.WayFiles.{hash_within, row_lacking, wanted_added, wanted_at_edge, wanted_begun, wanted_no_lower, way_at_edge, way_begun, way_lower}
use Rattle.copy_places.proofs.way.add_way.Goals.{in-Edge+in_ok-above-in-Edge, in-Tile+in_ok-add_row-in-Tile}
use Rattle.copy_places.proofs.way.add_way.Goals as goal

pub returns-in_err-above-clause-goes : goal.returns-in_err-above-clause-goes
returns-in_err-above-clause-goes g c =
    ends_same g.S.Source.may_answer g.S.Source.failed g.S.Source.asked c.args.places.now

pub loop-done-init : goal.loop-done-init
loop-done-init g c =
    record {
      same = kept_once (g.D.Shelf.puts c.args.shelf.now);
      counted = refl;
      goes = ends_same g.S.Source.may_answer g.S.Source.failed g.S.Source.asked c.args.places.now;
      end = c.requires.first;
      on = way_begun g.H.TreeHash.digest c.args.first c.args.edge.now c.in_ok-above.above.items c.args.files.now (omega (arith, c.ranges.first.fits))
          (let size_is = c.size-size.ensures in omega (arith, size_is, c.size-size.type_inv)) (c.in_ok-above.ensures.items ∙ c.row.ensures) c.requires.files;
      wanted = wanted_begun c.args.first c.args.edge.now.size c.args.files.now;
    }

pub returns-in_err-step_down-clause-goes : goal.returns-in_err-step_down-clause-goes
returns-in_err-step_down-clause-goes g c =
    ends_then g.S.Source.may_answer g.S.Source.failed g.S.Source.asked c.args.places.now c.loop-done.places c.step_down.new.places c.loop-done.invariant.goes c.step_down.ensures.goes

pub returns-in_err-above-in-Edge-clause-goes : goal.returns-in_err-above-in-Edge-clause-goes
returns-in_err-above-in-Edge-clause-goes g c =
    ends_then g.S.Source.may_answer g.S.Source.failed g.S.Source.asked c.args.places.now c.loop-done.places c.step_down.new.places c.loop-done.invariant.goes c.step_down.ensures.goes

pub returns-in_err-add_row-in-Tile-clause-goes : goal.returns-in_err-add_row-in-Tile-clause-goes
returns-in_err-add_row-in-Tile-clause-goes g c =
    ends_then g.S.Source.may_answer g.S.Source.failed g.S.Source.asked c.args.places.now c.loop-done.places c.step_down.new.places c.loop-done.invariant.goes c.step_down.ensures.goes

pub returns-in-Unneeded-clause-goes : goal.returns-in-Unneeded-clause-goes
returns-in-Unneeded-clause-goes g c =
    ends_then g.S.Source.may_answer g.S.Source.failed g.S.Source.asked c.args.places.now c.loop-done.places c.step_down.new.places c.loop-done.invariant.goes c.step_down.ensures.goes

pub returns-in-Lacking-clause-goes : goal.returns-in-Lacking-clause-goes
returns-in-Lacking-clause-goes g c =
    ends_then g.S.Source.may_answer g.S.Source.failed g.S.Source.asked c.args.places.now c.loop-done.places c.step_down.new.places c.loop-done.invariant.goes c.step_down.ensures.goes

pub loop-done-preserved : goal.loop-done-preserved
loop-done-preserved g c =
    let inv = c.loop-done.invariant in
    let now = c.step_down.ensures in
    let digest = g.H.TreeHash.digest in
    let first = c.args.first in
    let edge = c.args.edge.now in
    let above = c.loop-done.above.items in
    let level = 6 - c.loop-done.done in
    let lt = c.loop-done-test.true in
    let size_is = c.size-size.ensures in
    let step = c.in_ok-step_down.ensures.step in
    let here : 7 - c.loop-done.done ≡ level + 1 = omega (arith, lt) in
    let next : level ≡ 7 - (c.loop-done.done + 1) = omega (arith, lt) in
    let up : IsOnWay digest first edge (level + 1) above c.loop-done.files =
    subst (λ k. IsOnWay digest first edge k above c.loop-done.files) here inv.on in
    let over : HasWanted first edge.size (level + 1) c.loop-done.files =
    subst (λ k. HasWanted first edge.size k c.loop-done.files) here inv.wanted in
    record {
      same = kept_twice (g.D.Shelf.puts c.args.shelf.now) (g.D.Shelf.puts c.loop-done.shelf) (g.D.Shelf.puts c.step_down.new.shelf)
          inv.same now.same;
      counted = c.in_ok-step_down.ensures.counted ∙ inv.counted;
      goes = ends_then g.S.Source.may_answer g.S.Source.failed g.S.Source.asked c.args.places.now c.loop-done.places c.step_down.new.places c.loop-done.invariant.goes c.step_down.ensures.goes;
      end = inv.end ∙ sym (ap (λ (sizes : ℕ × ℕ). sizes.0) now.goes.asks.still.sizes_are);
      on = elim c.match-branch-3.branch [
        | in-Edge+in_ok-above-in-Edge w ↦
            let at : edge_index_of first level ≡ edge_index_of c.size-size.result level = rw w.in-Edge.is at step in
            rw w.files-is (rw w.above-is (subst (λ k. IsOnWay digest first edge k w.in_ok-above-in-Edge.above.items c.loop-done.files) next
            (way_at_edge digest first edge level above w.in_ok-above-in-Edge.above.items c.loop-done.files (omega arith)
            (at ∙ ap (λ m. edge_index_of m level) size_is) (w.in_ok-above-in-Edge.ensures.items ∙ w.row-in-Edge.ensures) up)))
        | in-Tile+in_ok-add_row-in-Tile w ↦
            let row = w.in-Tile.row.items in
            let at = rw w.in-Tile.is at step in
            let differ : edge_index_of first level ≢ edge_index_of edge.size level =
            subst (λ m. edge_index_of first level ≢ edge_index_of m level) size_is at.0 in
            let under : edge_index_of first level % 256 < length above → IsRowUnder digest above (edge_index_of first level % 256) row =
            subst (λ a. edge_index_of first level % 256 < length a → IsRowUnder digest a (edge_index_of first level % 256) row)
            c.deref.ensures.value at.1 in
            let old = c.loop-done.files in
            let new = w.add_row.new.self in
            let adds : new ≡ old ++ (Tile level (edge_index_of first level) 256, row_text row) ∷ [] =
            w.in_ok-add_row-in-Tile.ensures
            ∙ ((λ i. old ++ (Tile level (w.edge_index.ensures i) 256, row_text (w.deref-in-Tile.ensures.value i)) ∷ [])) in
            rw w.files-is (rw w.above-is (subst (λ k. IsOnWay digest first edge k row new) next
            (way_lower digest first edge level above row old new differ
            (under (hash_within digest first edge c.requires.hashes level above old c.requires.less differ up)) adds up)))
      ];
      wanted = elim c.match-branch-3.branch [
        | in-Edge+in_ok-above-in-Edge w ↦
            let at : edge_index_of first level ≡ edge_index_of c.size-size.result level = rw w.in-Edge.is at step in
            rw w.files-is (subst (λ k. HasWanted first edge.size k c.loop-done.files) next
            (wanted_at_edge first edge.size level c.loop-done.files (at ∙ ap (λ m. edge_index_of m level) size_is) over))
        | in-Tile+in_ok-add_row-in-Tile w ↦
            let row = w.in-Tile.row.items in
            let old = c.loop-done.files in
            let new = w.add_row.new.self in
            let adds : new ≡ old ++ (Tile level (edge_index_of first level) 256, row_text row) ∷ [] =
            w.in_ok-add_row-in-Tile.ensures
            ∙ ((λ i. old ++ (Tile level (w.edge_index.ensures i) 256, row_text (w.deref-in-Tile.ensures.value i)) ∷ [])) in
            rw w.files-is (subst (λ k. HasWanted first edge.size k new) next
            (wanted_added first edge.size level (row_text row) old new adds over))
      ];
    }

pub returns-in-Lacking-clause-lacks : goal.returns-in-Lacking-clause-lacks
returns-in-Lacking-clause-lacks g c = λ no.
    let inv = c.loop-done.invariant in
    let digest = g.H.TreeHash.digest in
    let first = c.args.first in
    let edge = c.args.edge.now in
    let above = c.loop-done.above.items in
    let level = 6 - c.loop-done.done in
    let lt = c.loop-done-test.true in
    let puts = g.D.Shelf.puts c.loop-done.shelf in
    let tiles = c.step_down.new.places.ends.tiles.items in
    let m = length c.loop-done.places.list.items in
    let here : 7 - c.loop-done.done ≡ level + 1 = omega (arith, lt) in
    let up : IsOnWay digest first edge (level + 1) above c.loop-done.files =
    subst (λ k. IsOnWay digest first edge k above c.loop-done.files) here inv.on in
    let at = rw c.in-Lacking.is at c.in_ok-step_down.ensures.step in
    row_lacking digest first edge c.requires.hashes (g.D.Shelf.puts c.args.shelf.now) puts inv.same tiles m
    (length c.args.places.now.list.items) inv.goes.asks.count level (omega arith) above c.loop-done.files c.requires.less
    (subst (λ n. edge_index_of first level ≢ edge_index_of n level) c.size-size.ensures at.0) at.1 up
    (subst (λ a. edge_index_of first level % 256 < length a → IsRowNobodys digest puts tiles m level (edge_index_of first level)
    (get_or a (edge_index_of first level % 256) [])) c.deref.ensures.value at.2)

pub returns-in-Unneeded-clause-wanted : goal.returns-in-Unneeded-clause-wanted
returns-in-Unneeded-clause-wanted g c = λ yes.
    let inv = c.loop-done.invariant in
    let first = c.args.first in
    let edge = c.args.edge.now in
    let level = 6 - c.loop-done.done in
    let lt = c.loop-done-test.true in
    let here : 7 - c.loop-done.done ≡ level + 1 = omega (arith, lt) in
    wanted_no_lower first edge.size level c.loop-done.files (rw c.in-Unneeded.is at c.in_ok-step_down.ensures.step)
    (subst (λ k. HasWanted first edge.size k c.loop-done.files) here inv.wanted)
