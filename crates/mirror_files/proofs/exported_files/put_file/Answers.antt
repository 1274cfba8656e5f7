use Rattle.std.proofs.Common.{refl}
use Rattle.mirror_folders.proofs.Securing.{put_secures, puts_none}
use Rattle.mirror_files.proofs.Exported.{same_recorded}
use Rattle.mirror_files.proofs.exported_files.put_file.Goals as goal

pub returns-in_err-bytes-clause-secured : goal.returns-in_err-bytes-clause-secured
returns-in_err-bytes-clause-secured g c =
    let puts = g.S.Shelf.puts c.args.shelf.now in
    let flushes = g.S.Shelf.flushes c.args.shelf.now in
    puts_none puts puts flushes flushes (same_recorded puts) refl

pub returns-clause-secured : goal.returns-clause-secured
returns-clause-secured g c =
    put_secures c.args.path _ (g.S.Shelf.puts c.args.shelf.now) (g.S.Shelf.puts c.put-put.new.self)
    (g.S.Shelf.flushes c.args.shelf.now) (g.S.Shelf.flushes c.put-put.new.self) c.put-put.result c.put-put.ensures.recorded
    c.put-put.ensures.secured
