use Rattle.std.proofs.Common.{refl, sym, ◌∙◌}
use Rattle.mirror_folders.proofs.Securing.{puts_none}
use Rattle.mirror_files.proofs.Exported.{same_recorded}
use Rattle.mirror_folders.specs.Files.{file_at}
use Rattle.mirror_folders.specs.Since.{is_new}
use Rattle.mirror_files.proofs.Prefixes.{none_kept, one_kept}
use Rattle.mirror_files.proofs.exported_files.put_new.Goals as goal

pub returns-then-not-lacks-clause-recorded : goal.returns-then-not-lacks-clause-recorded
returns-then-not-lacks-clause-recorded g c =
    let puts = g.S.Shelf.puts in
    λ entries is. none_kept (file_at g.H.TreeHash.digest c.args.top.now.note entries) (is_new c.args.since)
    (puts c.args.shelf.now) (puts c.args.shelf.now) c.args.path (sym c.lacks.ensures ∙ c.if-not-lacks.true)

pub returns-clause-recorded : goal.returns-clause-recorded
returns-clause-recorded g c =
    let puts = g.S.Shelf.puts in
    λ entries is. one_kept (file_at g.H.TreeHash.digest c.args.top.now.note entries) (is_new c.args.since)
    (puts c.args.shelf.now) (puts c.put_file.new.shelf) c.args.path c.put_file.result
    (sym c.lacks.ensures ∙ c.if-not-lacks.false) (c.put_file.ensures.recorded entries is)

pub returns-then-not-lacks-clause-secured : goal.returns-then-not-lacks-clause-secured
returns-then-not-lacks-clause-secured g c =
    let puts = g.S.Shelf.puts c.args.shelf.now in
    let flushes = g.S.Shelf.flushes c.args.shelf.now in
    puts_none puts puts flushes flushes (same_recorded puts) refl
