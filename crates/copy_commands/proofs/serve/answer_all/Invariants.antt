use Rattle.std.specs.Prelude.{IfSome, Some, None}
use Rattle.sha2.specs.Sha256.{sha256}
use Rattle.mirror_sources.specs.Recorded.{KeepsRecord}
use Rattle.program_copies.specs.CopyHeads.{IsLastOpened}
use Rattle.program_io.specs.Exchanges.{AnswersMore}
use Rattle.copy_commands.specs.Clients.{IsCopyAnswer}
use Rattle.copy_commands.specs.KeyFiles.{AreFileKeys}
use Rattle.copy_commands.proofs.serve.answer_all.Given as goal

-- each iteration so far answered one client, the last note opened, and the earlier puts remain
abbrev pub invariant-loop : goal.invariant-loop
invariant-loop g l =
    KeepsRecord (g.D.Shelf.puts l.fn.folders) (g.D.Shelf.puts l.folders)
    × IfSome (g.D.Shelf.puts l.fn.folders)
    (λ puts. AnswersMore (IsCopyAnswer sha256 (AreFileKeys (g.F.NamedFiles.puts l.files) l.serve.copy.log.keys.now)
    l.serve.copy.log.origin.now (Some puts)) l.counter
    (g.S.Clients.exchanges l.fn.clients) (g.S.Clients.exchanges l.clients))
    × IsLastOpened (AreFileKeys (g.F.NamedFiles.puts l.files) l.serve.copy.log.keys.now) l.serve.copy.log.origin.now None l.kept
