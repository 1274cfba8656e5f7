use Rattle.std.proofs.Common.{rules, ◌≡◌, ◌⊎◌, ◌≤◌, ℕ, List, [], ◌∷◌, length, subst, ap, ◌∙◌, arith, refl}
use Rattle.tlog_shape.specs.Edge.{edge_index_of, width_of}
use Rattle.tlog_tiles.specs.Row.{row_text}
use Rattle.tlog_tiles.specs.declared.paths.Path.TheVariants.{Tile}
use Rattle.log_reader.specs.EdgeRows.{edge_tile, row_at, RowIsTrue}
use Rattle.mirror_sources.specs.Recorded.{AddsToRecord, KeepsRecord}
use Rattle.copy_follow.specs.Repaired.{RecordsHad}
use Rattle.copy_follow.proofs.Growth.{gathers_none, kept_same}
use Rattle.copy_follow.proofs.MendedFiles.{mends_tile, tile_kept, tile_none, tile_some}
use Rattle.copy_follow.specs.Named.{NamesAt, NamesDamaged}
use Rattle.copy_follow.proofs.Naming.{names_at, names_none, on_ok}
use Rattle.copy_follow.proofs.mend_edge.mend_edge_tile.Goals as goal

pub returns-then-is_empty-clause-puts : goal.returns-then-is_empty-clause-puts
returns-then-is_empty-clause-puts g c = λ entries long row.
    let none : length c.row-row.result.now ≡ 0 = search rules in
    let edge = c.args.edge.now in
    let empty = subst (λ (r : List (List ℕ)). length r ≡ 0) c.row-row.ensures none in
    let width = c.requires.widths c.args.level c.requires.level in
    tile_none g.H.TreeHash.digest edge entries (g.D.Shelf.puts c.args.shelf.now) c.args.level
    (λ some. omega (arith, some, empty, width))

pub returns-in-Err-clause-puts : goal.returns-in-Err-clause-puts
returns-in-Err-clause-puts g c = λ entries long row.
    gathers_none g.H.TreeHash.digest 0 entries (g.D.Shelf.puts c.args.shelf.now) (g.D.Shelf.puts c.args.shelf.now)
    (kept_same (g.D.Shelf.puts c.args.shelf.now))

pub returns-clause-puts : goal.returns-clause-puts
returns-clause-puts g c = λ entries long row.
    let digest = g.H.TreeHash.digest in
    let edge = c.args.edge.now in
    let level = c.args.level in
    let y = g.D.Shelf.puts c.args.shelf.now in
    let z = g.D.Shelf.puts c.mend_partial.new.shelf in
    let bytes = c.deref.result.now in
    let upto = c.requires.level in
    let some : 1 ≤ length c.row-row.result.now = search rules in
    let some_row = subst (λ (r : List (List ℕ)). 1 ≤ length r) c.row-row.ensures some in
    let some_width : 1 ≤ width_of edge.size level = subst (λ k. 1 ≤ k) (c.requires.widths level upto) some_row in
    let is : bytes ≡ row_text (row_at edge level) =
    c.deref.ensures.value ∙ (c.in-Ok.ensures.text ∙ ap row_text c.row-row.ensures) in
    let path : c.edge_path-path.result ≡ edge_tile edge level =
    c.edge_path-path.ensures ∙ ap (λ n. Tile level (edge_index_of n level) (width_of n level)) c.size.ensures in
    let puts = subst (λ p. (KeepsRecord y z) ⊎ (AddsToRecord y z ((p, bytes) ∷ []))) path c.mend_partial.ensures.puts in
    mends_tile digest edge entries y z level c.mend_partial.result (RecordsHad y z c.edge_path-path.result bytes)
    c.mend_partial.ensures.had
    (λ there. tile_some digest edge entries long y z level upto some_width row bytes is puts
    (subst (λ p. RecordsHad y z p bytes) path there))
    (tile_kept digest edge entries long y z level upto some_width row bytes is puts)

pub returns-then-is_empty-clause-names : goal.returns-then-is_empty-clause-names
returns-then-is_empty-clause-names g c = λ log long row.
    let l = c.args.repaired.now.damaged.items in
    names_none g.H.TreeHash.digest log (g.D.Shelf.puts c.args.shelf.now) l l refl

pub returns-clause-names : goal.returns-clause-names
returns-clause-names g c =
    let digest = g.H.TreeHash.digest in
    let edge = c.args.edge.now in
    let level = c.args.level in
    let y = g.D.Shelf.puts c.args.shelf.now in
    let bytes = c.deref.result.now in
    let l = c.args.repaired.now.damaged.items in
    let m = c.mend_partial.new.repaired.damaged.items in
    let is : bytes ≡ row_text (row_at edge level) =
    c.deref.ensures.value ∙ (c.in-Ok.ensures.text ∙ ap row_text c.row-row.ensures) in
    let path : c.edge_path-path.result ≡ edge_tile edge level =
    c.edge_path-path.ensures ∙ ap (λ n. Tile level (edge_index_of n level) (width_of n level)) c.size.ensures in
    on_ok c.mend_partial.result (NamesAt y c.edge_path-path.result bytes l m)
    ((log : List (List ℕ)) → length log ≡ edge.size → RowIsTrue digest edge log level → NamesDamaged digest log y l m)
    (λ named log long row. names_at digest log y (edge_tile edge level) bytes l m (is ∙ ap row_text row)
    (subst (λ p. NamesAt y p bytes l m) path named)) c.mend_partial.ensures.names
