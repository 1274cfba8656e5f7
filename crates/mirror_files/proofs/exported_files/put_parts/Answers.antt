use Rattle.std.proofs.Common.{◌≡◌, [], ◌∙◌, arith, subst, sym}
use Rattle.std.proofs.lemmas.Result.{err_from_is_err_and}
use Rattle.mirror_folders.specs.Files.{file_at, kind_paths, tile_paths}
use Rattle.mirror_folders.specs.declared.kind.FileKind.TheVariants.{Bundles}
use Rattle.mirror_folders.specs.Since.{is_new}
use Rattle.mirror_sources.specs.Recorded.{AddsToRecord, KeepsRecord}
use Rattle.mirror_folders.proofs.Securing.{puts_none, puts_then}
use Rattle.mirror_files.proofs.Exported.{same_recorded}
use Rattle.mirror_files.proofs.Orders.{all_levels_put, level_cut, level_put}
use Rattle.mirror_files.proofs.Prefixes.{adds_none, files_more, files_result}
use Rattle.mirror_files.proofs.exported_files.put_parts.Goals as goal

-- ---- the tiles

pub loop-level-preserved : goal.loop-level-preserved
loop-level-preserved g c =
    let puts = g.S.Shelf.puts in
    record {
      recorded = λ entries is. level_put (file_at g.H.TreeHash.digest c.args.top.now.note entries) (is_new c.args.since) (puts c.args.shelf.now)
          (puts c.loop-level.shelf) (puts c.put_kind.new.shelf) c.args.top.now.size c.loop-level.level
          (c.loop-level.invariant.recorded entries is) (c.in_ok-put_kind.ensures.recorded entries is);
      secured = puts_then (puts c.args.shelf.now) (puts c.loop-level.shelf) (puts c.put_kind.new.shelf)
          (g.S.Shelf.flushes c.args.shelf.now) (g.S.Shelf.flushes c.loop-level.shelf) (g.S.Shelf.flushes c.put_kind.new.shelf)
          c.loop-level.invariant.secured c.in_ok-put_kind.ensures.secured;
      counted = c.in_ok-put_kind.ensures.counted ∙ c.loop-level.invariant.counted;
    }

pub returns-in_err-put_kind-clause-recorded : goal.returns-in_err-put_kind-clause-recorded
returns-in_err-put_kind-clause-recorded g c =
    let puts = g.S.Shelf.puts in
    let n = c.args.top.now.size in
    let p = err_from_is_err_and c.from_residual.result c.from_residual.ensures.1 in
    λ entries is. let file = file_at g.H.TreeHash.digest c.args.top.now.note entries in
    rw p.1 (files_more file (is_new c.args.since) (puts c.args.shelf.now) (puts c.put_kind.new.shelf) (tile_paths n) (kind_paths n Bundles)
    (level_cut file (is_new c.args.since) (puts c.args.shelf.now) (puts c.loop-level.shelf) (puts c.put_kind.new.shelf) n
    c.loop-level.level (omega arith) (c.loop-level.invariant.recorded entries is) (c.in_err-put_kind.ensures.recorded entries is)))

-- ---- the bundles

pub returns-clause-recorded : goal.returns-clause-recorded
returns-clause-recorded g c =
    let puts = g.S.Shelf.puts in
    let n = c.args.top.now.size in
    let all : c.loop-level.level ≡ 8 = omega arith in
    λ entries is. let file = file_at g.H.TreeHash.digest c.args.top.now.note entries in
    let tiles = all_levels_put file (is_new c.args.since) (puts c.args.shelf.now) (puts c.loop-level.shelf) n
    c.loop-level.level all (c.loop-level.invariant.recorded entries is) in
    files_result file (is_new c.args.since) (puts c.args.shelf.now) (puts c.loop-level.shelf) (puts c.put_kind-2.new.shelf)
    (tile_paths n) (kind_paths n Bundles) c.put_kind-2.result tiles (c.put_kind-2.ensures.recorded entries is)

-- ---- the files to flush

pub loop-level-init : goal.loop-level-init
loop-level-init g c =
    let puts = g.S.Shelf.puts in
    let flushes = g.S.Shelf.flushes in
    let old = puts c.args.shelf.now in
    let same = sym c.expect_files.ensures.puts in
    record {
      recorded = λ entries is. subst (λ q. AddsToRecord old q []) same (adds_none old);
      secured = puts_none old (puts c.expect_files.new.shelf) (flushes c.args.shelf.now) (flushes c.expect_files.new.shelf)
          (subst (λ q. KeepsRecord old q) same (same_recorded old)) c.expect_files.ensures.still;
      counted = c.expect_files.ensures.failed;
    }

pub returns-in_err-put_kind-clause-secured : goal.returns-in_err-put_kind-clause-secured
returns-in_err-put_kind-clause-secured g c =
    let puts = g.S.Shelf.puts in
    let flushes = g.S.Shelf.flushes in
    puts_then (puts c.args.shelf.now) (puts c.loop-level.shelf) (puts c.put_kind.new.shelf) (flushes c.args.shelf.now)
    (flushes c.loop-level.shelf) (flushes c.put_kind.new.shelf) c.loop-level.invariant.secured
    c.in_err-put_kind.ensures.secured

pub returns-clause-secured : goal.returns-clause-secured
returns-clause-secured g c =
    let puts = g.S.Shelf.puts in
    let flushes = g.S.Shelf.flushes in
    puts_then (puts c.args.shelf.now) (puts c.loop-level.shelf) (puts c.put_kind-2.new.shelf) (flushes c.args.shelf.now)
    (flushes c.loop-level.shelf) (flushes c.put_kind-2.new.shelf) c.loop-level.invariant.secured
    c.put_kind-2.ensures.secured
