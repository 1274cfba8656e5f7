use Rattle.std.proofs.Common.{◌≡◌, ◌<◌, refl, subst, sym, ◌∙◌, arith}
use Rattle.std.proofs.lemmas.Result.{err_from_is_err_and}
use Rattle.tlog_shape.specs.Edge.{edge_index_of}
use Rattle.tlog_tiles.specs.declared.paths.Path.{Path}
use Rattle.tlog_tiles.specs.Tiles.{IsWithin}
use Rattle.mirror_folders.specs.Files.{file_at, full_paths, kind_level, kind_path, partial_path}
use Rattle.mirror_folders.specs.Since.{is_new}
use Rattle.mirror_folders.proofs.FilePaths.{full_within, partial_within, partial_none, partial_some, index_is, path_is, width_is}
use Rattle.mirror_folders.proofs.Securing.{puts_none, puts_then}
use Rattle.mirror_files.proofs.Exported.{same_recorded}
use Rattle.mirror_files.proofs.Orders.{first_cut, first_put, full_put}
use Rattle.mirror_files.proofs.Prefixes.{adds_none, files_more, files_result, files_then}
use Rattle.mirror_files.proofs.exported_files.put_kind.Goals as goal

-- ---- the full files

pub put_new-requires : goal.put_new-requires
put_new-requires g c =
    let n = c.args.top.now.size in
    let count = index_is n c.args.size c.args.kind c.level_at-level.result c.edge_index-edge.result c.requires.size
    c.level_at-level.ensures c.edge_index-edge.ensures in
    subst (λ path. IsWithin n path) (sym c.path_at.ensures) (full_within n c.args.kind c.loop-index.index
    c.requires.level (subst (λ m. c.loop-index.index < m) count c.loop-index-test.true))

pub loop-index-preserved : goal.loop-index-preserved
loop-index-preserved g c =
    let puts = g.S.Shelf.puts in
    record {
      recorded = λ entries is. first_put (file_at g.H.TreeHash.digest c.args.top.now.note entries) (is_new c.args.since) (puts c.args.shelf.now)
          (puts c.loop-index.shelf) (puts c.put_new.new.shelf) (λ index. kind_path c.args.kind index 256)
          c.loop-index.index c.path_at.result c.path_at.ensures (c.loop-index.invariant.recorded entries is)
          (c.in_ok-put_new.ensures.recorded entries is);
      secured = puts_then (puts c.args.shelf.now) (puts c.loop-index.shelf) (puts c.put_new.new.shelf)
          (g.S.Shelf.flushes c.args.shelf.now) (g.S.Shelf.flushes c.loop-index.shelf) (g.S.Shelf.flushes c.put_new.new.shelf)
          c.loop-index.invariant.secured c.in_ok-put_new.ensures.secured;
      counted = c.in_ok-put_new.ensures.counted ∙ c.loop-index.invariant.counted;
    }

pub returns-in_err-put_new-clause-recorded : goal.returns-in_err-put_new-clause-recorded
returns-in_err-put_new-clause-recorded g c =
    let puts = g.S.Shelf.puts in
    let n = c.args.top.now.size in
    let p = err_from_is_err_and c.from_residual.result c.from_residual.ensures.1 in
    let count = index_is n c.args.size c.args.kind c.level_at-level.result c.edge_index-edge.result c.requires.size
    c.level_at-level.ensures c.edge_index-edge.ensures in
    λ entries is. let file = file_at g.H.TreeHash.digest c.args.top.now.note entries in
    rw p.1 (files_more file (is_new c.args.since) (puts c.args.shelf.now) (puts c.put_new.new.shelf)
    (full_paths n c.args.kind) (partial_path n c.args.kind) (first_cut file (is_new c.args.since) (puts c.args.shelf.now)
    (puts c.loop-index.shelf) (puts c.put_new.new.shelf) (λ index. kind_path c.args.kind index 256)
    c.loop-index.index (edge_index_of n (kind_level c.args.kind)) c.path_at.result c.path_at.ensures
    (subst (λ m. c.loop-index.index < m) count c.loop-index-test.true) (c.loop-index.invariant.recorded entries is)
    (c.in_err-put_new.ensures.recorded entries is)))

-- ---- the partial file

pub put_new-requires-2 : goal.put_new-requires-2
put_new-requires-2 g c =
    let n = c.args.top.now.size in
    let kind = c.args.kind in
    let level = c.level_at-level.result in
    let width = c.edge_width-width.result in
    let at = path_is n c.args.size kind level c.edge_index-edge.result width c.path_at-2.result c.requires.size
    c.level_at-level.ensures c.edge_index-edge.ensures c.edge_width-width.ensures c.path_at-2.ensures in
    let same = width_is n c.args.size kind level width c.requires.size c.level_at-level.ensures
    c.edge_width-width.ensures in
    subst (λ (path : Path). IsWithin n path) (sym at)
    (partial_within n kind c.requires.level (λ none. c.if-width-eq0.false (same ∙ none)))

pub returns-clause-recorded : goal.returns-clause-recorded
returns-clause-recorded g c =
    let puts = g.S.Shelf.puts in
    let n = c.args.top.now.size in
    let kind = c.args.kind in
    let level = c.level_at-level.result in
    let width = c.edge_width-width.result in
    let edge = c.edge_index-edge.result in
    let at = path_is n c.args.size kind level edge width c.path_at-2.result c.requires.size
    c.level_at-level.ensures c.edge_index-edge.ensures c.edge_width-width.ensures c.path_at-2.ensures in
    let same = width_is n c.args.size kind level width c.requires.size c.level_at-level.ensures
    c.edge_width-width.ensures in
    let all : c.loop-index.index ≡ edge = omega arith in
    let count = all ∙ index_is n c.args.size kind level edge c.requires.size c.level_at-level.ensures
    c.edge_index-edge.ensures in
    λ entries is. let file = file_at g.H.TreeHash.digest c.args.top.now.note entries in
    files_result file (is_new c.args.since) (puts c.args.shelf.now) (puts c.loop-index.shelf) (puts c.put_new-2.new.shelf)
    (full_paths n kind) (partial_path n kind) c.put_new-2.result
    (full_put file (is_new c.args.since) (puts c.args.shelf.now) (puts c.loop-index.shelf) n kind c.loop-index.index count
    (c.loop-index.invariant.recorded entries is))
    (rw (partial_some n kind (λ none. c.if-width-eq0.false (same ∙ none))) (rw at at (c.put_new-2.ensures.recorded entries is)))

pub returns-then-width-eq0-clause-recorded : goal.returns-then-width-eq0-clause-recorded
returns-then-width-eq0-clause-recorded g c =
    let puts = g.S.Shelf.puts in
    let n = c.args.top.now.size in
    let kind = c.args.kind in
    let level = c.level_at-level.result in
    let edge = c.edge_index-edge.result in
    let same = width_is n c.args.size kind level c.edge_width-width.result c.requires.size c.level_at-level.ensures
    c.edge_width-width.ensures in
    let all : c.loop-index.index ≡ edge = omega arith in
    let count = all ∙ index_is n c.args.size kind level edge c.requires.size c.level_at-level.ensures
    c.edge_index-edge.ensures in
    λ entries is. let file = file_at g.H.TreeHash.digest c.args.top.now.note entries in
    files_then file (is_new c.args.since) (puts c.args.shelf.now) (puts c.loop-index.shelf) (puts c.loop-index.shelf)
    (full_paths n kind) (partial_path n kind)
    (full_put file (is_new c.args.since) (puts c.args.shelf.now) (puts c.loop-index.shelf) n kind c.loop-index.index count
    (c.loop-index.invariant.recorded entries is))
    (rw (partial_none n kind (sym same ∙ c.if-width-eq0.true)) (adds_none (puts c.loop-index.shelf)))

-- ---- the files to flush

pub loop-index-init : goal.loop-index-init
loop-index-init g c =
    let puts = g.S.Shelf.puts c.args.shelf.now in
    let flushes = g.S.Shelf.flushes c.args.shelf.now in
    record {
      recorded = λ entries is. adds_none puts;
      secured = puts_none puts puts flushes flushes (same_recorded puts) refl;
      counted = refl;
    }

pub returns-in_err-put_new-clause-secured : goal.returns-in_err-put_new-clause-secured
returns-in_err-put_new-clause-secured g c =
    let puts = g.S.Shelf.puts in
    let flushes = g.S.Shelf.flushes in
    puts_then (puts c.args.shelf.now) (puts c.loop-index.shelf) (puts c.put_new.new.shelf) (flushes c.args.shelf.now)
    (flushes c.loop-index.shelf) (flushes c.put_new.new.shelf) c.loop-index.invariant.secured
    c.in_err-put_new.ensures.secured

pub returns-clause-secured : goal.returns-clause-secured
returns-clause-secured g c =
    let puts = g.S.Shelf.puts in
    let flushes = g.S.Shelf.flushes in
    puts_then (puts c.args.shelf.now) (puts c.loop-index.shelf) (puts c.put_new-2.new.shelf) (flushes c.args.shelf.now)
    (flushes c.loop-index.shelf) (flushes c.put_new-2.new.shelf) c.loop-index.invariant.secured
    c.put_new-2.ensures.secured
