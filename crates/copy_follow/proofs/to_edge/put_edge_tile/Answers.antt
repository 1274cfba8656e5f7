use Rattle.std.proofs.Common.{rules, ◌≡◌, ◌⊎◌, ◌≤◌, ℕ, List, [], ◌∷◌, length, subst, sym, ap, ◌∙◌, arith}
use Rattle.std.proofs.lemmas.Bool.{false≢true}
use Rattle.std.proofs.lemmas.Result.{err_from_is_err_and}
use Rattle.tlog_shape.specs.Edge.{edge_index_of, width_of}
use Rattle.tlog_tiles.specs.Row.{row_text}
use Rattle.tlog_tiles.specs.declared.paths.Path.TheVariants.{Tile}
use Rattle.mirror_sources.specs.Recorded.{KeepsRecord, AddsToRecord}
use Rattle.copy_follow.specs.Standing.{RecordsStands}
use Rattle.log_reader.specs.EdgeRows.{edge_tile, row_at}
use Rattle.copy_follow.proofs.Growth.{gathers_none, kept_same}
use Rattle.copy_follow.proofs.Finishing.{gathers_tile, new_tile, old_tile, puts_tile, tile_old, tile_put}
use Rattle.copy_follow.proofs.Secured.{no_tile, ok_weaker, one_tile}
use Rattle.copy_follow.proofs.to_edge.put_edge_tile.Goals as goal

pub returns-then-is_empty-clause-puts : goal.returns-then-is_empty-clause-puts
returns-then-is_empty-clause-puts g c = λ entries long row.
    let none : length c.row-row.result.now ≡ 0 = search rules in
    let edge = c.args.edge.now in
    let empty = subst (λ (r : List (List ℕ)). length r ≡ 0) c.row-row.ensures none in
    let width = c.requires.widths c.args.level c.requires.level in
    tile_old g.H.TreeHash.digest c.args.tip.now.size edge entries long (g.D.Shelf.puts c.args.shelf.now) c.args.level
    (λ some. absurd (omega (arith, some, empty, width)))

pub returns-then-is_old-clause-puts : goal.returns-then-is_old-clause-puts
returns-then-is_old-clause-puts g c = λ entries long row.
    let edge = c.args.edge.now in
    let level = c.args.level in
    let same = c.is_old.ensures.0 c.if-is_old.true in
    let index : edge_index_of edge.size level ≡ edge_index_of c.args.tip.now.size level =
    ap (λ n. edge_index_of n level) (sym c.size.ensures) ∙ (same.0 ∙ ap (λ n. edge_index_of n level) c.size-2.ensures) in
    let width : width_of edge.size level ≡ width_of c.args.tip.now.size level =
    ap (λ n. width_of n level) (sym c.size.ensures) ∙ (same.1 ∙ ap (λ n. width_of n level) c.size-2.ensures) in
    tile_old g.H.TreeHash.digest c.args.tip.now.size edge entries long (g.D.Shelf.puts c.args.shelf.now) level
    (λ some. old_tile edge c.args.tip.now.size level c.requires.level some index width)

pub returns-in_err-bytes-clause-puts : goal.returns-in_err-bytes-clause-puts
returns-in_err-bytes-clause-puts g c = λ entries long row.
    let p = err_from_is_err_and c.from_residual.result c.from_residual.ensures.1 in
    rw p.1 (gathers_none g.H.TreeHash.digest c.args.tip.now.size entries (g.D.Shelf.puts c.args.shelf.now)
    (g.D.Shelf.puts c.args.shelf.now) (kept_same (g.D.Shelf.puts c.args.shelf.now)))

pub returns-clause-puts : goal.returns-clause-puts
returns-clause-puts g c = λ entries long row.
    let digest = g.H.TreeHash.digest in
    let edge = c.args.edge.now in
    let m = c.args.tip.now.size in
    let level = c.args.level in
    let y = g.D.Shelf.puts c.args.shelf.now in
    let z = g.D.Shelf.puts c.keep.new.shelf in
    let bytes = c.deref.result.now in
    let upto = c.requires.level in
    let some : 1 ≤ length c.row-row.result.now = search rules in
    let some_row = subst (λ (r : List (List ℕ)). 1 ≤ length r) c.row-row.ensures some in
    let some_width : 1 ≤ width_of edge.size level = subst (λ k. 1 ≤ k) (c.requires.widths level upto) some_row in
    let other : (edge_index_of edge.size level ≡ edge_index_of m level) × (width_of edge.size level ≡ width_of m level) → ⊥ =
    λ both. false≢true (sym c.if-is_old.false ∙ c.is_old.ensures.1 (
      ap (λ n. edge_index_of n level) c.size.ensures ∙ (both.0 ∙ ap (λ n. edge_index_of n level) (sym c.size-2.ensures)),
      ap (λ n. width_of n level) c.size.ensures ∙ (both.1 ∙ ap (λ n. width_of n level) (sym c.size-2.ensures)),
    )) in
    let new = new_tile edge m level c.requires.larger other in
    let is : bytes ≡ row_text (row_at edge level) =
    c.deref.ensures.value ∙ (c.in_ok-bytes.ensures.text ∙ ap row_text c.row-row.ensures) in
    let index : c.edge_index.result ≡ edge_index_of edge.size level =
    c.edge_index.ensures ∙ ap (λ n. edge_index_of n level) c.size-3.ensures in
    let width : c.edge_width.result ≡ width_of edge.size level =
    c.edge_width.ensures ∙ ap (λ n. width_of n level) c.size-4.ensures in
    let path : Tile level c.edge_index.result c.edge_width.result ≡ edge_tile edge level =
    λ j. Tile level (index j) (width j) in
    let puts = subst (λ p. (KeepsRecord y z) ⊎ (AddsToRecord y z ((p, bytes) ∷ []))) path c.keep.ensures.puts in
    puts_tile digest m edge entries y z level c.keep.result
    (RecordsStands y z (Tile level c.edge_index.result c.edge_width.result) bytes) c.keep.ensures.stands
    (λ stands. tile_put digest m edge entries long y z level upto some_width new row bytes is puts
    (subst (λ p. RecordsStands y z p bytes) path stands))
    (gathers_tile digest m edge entries long y z level upto some_width new row bytes is puts)

-- ---- the file to flush

pub returns-then-is_empty-clause-secured : goal.returns-then-is_empty-clause-secured
returns-then-is_empty-clause-secured g c =
    let none : length c.row-row.result.now ≡ 0 = search rules in
    let empty = subst (λ (r : List (List ℕ)). length r ≡ 0) c.row-row.ensures none in
    let width = c.requires.widths c.args.level c.requires.level in
    no_tile c.args.tip.now.size c.args.edge.now.size c.args.level (λ some. absurd (omega (arith, some, empty, width)))
    (g.D.Shelf.flushes c.args.shelf.now)

pub returns-then-is_old-clause-secured : goal.returns-then-is_old-clause-secured
returns-then-is_old-clause-secured g c =
    let edge = c.args.edge.now in
    let level = c.args.level in
    let same = c.is_old.ensures.0 c.if-is_old.true in
    let index : edge_index_of edge.size level ≡ edge_index_of c.args.tip.now.size level =
    ap (λ n. edge_index_of n level) (sym c.size.ensures) ∙ (same.0 ∙ ap (λ n. edge_index_of n level) c.size-2.ensures) in
    let width : width_of edge.size level ≡ width_of c.args.tip.now.size level =
    ap (λ n. width_of n level) (sym c.size.ensures) ∙ (same.1 ∙ ap (λ n. width_of n level) c.size-2.ensures) in
    no_tile c.args.tip.now.size edge.size level
    (λ some. old_tile edge c.args.tip.now.size level c.requires.level some index width) (g.D.Shelf.flushes c.args.shelf.now)

pub returns-clause-secured : goal.returns-clause-secured
returns-clause-secured g c =
    let edge = c.args.edge.now in
    let level = c.args.level in
    let index : c.edge_index.result ≡ edge_index_of edge.size level =
    c.edge_index.ensures ∙ ap (λ n. edge_index_of n level) c.size-3.ensures in
    let width : c.edge_width.result ≡ width_of edge.size level =
    c.edge_width.ensures ∙ ap (λ n. width_of n level) c.size-4.ensures in
    let path : Tile level c.edge_index.result c.edge_width.result ≡ edge_tile edge level =
    λ j. Tile level (index j) (width j) in
    ok_weaker c.keep.result (one_tile c.args.tip.now.size edge.size level (Tile level c.edge_index.result c.edge_width.result)
    path (g.D.Shelf.flushes c.args.shelf.now) (g.D.Shelf.flushes c.keep.new.shelf)) c.keep.ensures.secured
