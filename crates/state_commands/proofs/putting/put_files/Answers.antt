use Rattle.std.proofs.Common.{length}
use Rattle.mirror_folders.specs.Files.{file_at, files_at, paths_of}
use Rattle.mirror_files.proofs.Prefixes.{front_none}
use Rattle.state_commands.proofs.PutPaths.{some_files}
use Rattle.state_commands.proofs.putting.put_files.Goals as goal

pub returns-in_default-clause-puts : goal.returns-in_default-clause-puts
returns-in_default-clause-puts g c =
    let s = c.args.source.now in
    let n = length s.entries in
    front_none (g.S.Shelf.puts c.args.shelf.now) (g.S.Shelf.puts c.has.new.self)
    (files_at g.H.TreeHash.digest s.note s.entries (paths_of n))
    (some_files c.files_law.ensures (file_at g.H.TreeHash.digest s.note s.entries) n) c.in_ok-in_use.ensures.same
