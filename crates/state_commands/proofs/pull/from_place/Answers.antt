use Rattle.std.proofs.Common.{sym, ◌∙◌, ap}
use Rattle.program_io.specs.PlaceWords.{words_of}
use Rattle.state_commands.proofs.Placing.{folder_read, nothing_read, server_read}
use Rattle.state_commands.proofs.pull.from_place.Goals as goal

pub returns-in-Folder-clause-reads : goal.returns-in-Folder-clause-reads
returns-in-Folder-clause-reads g c =
    folder_read _ _ c.args.words.now.place _ _ (words_of c.folder_at-placed.result.place) c.pull_placed-pulled.result.0 _
    c.folder_at-placed.ensures
    (c.pull_placed-pulled.ensures.reads (c.folder_at-placed.ensures ∙ sym (ap words_of c.in-Folder.is)))

pub returns-in-Err-clause-reads : goal.returns-in-Err-clause-reads
returns-in-Err-clause-reads g c = nothing_read _ _ c.args.words.now.place _ _

pub returns-in-Ok-clause-reads : goal.returns-in-Ok-clause-reads
returns-in-Ok-clause-reads g c =
    server_read _ _ c.args.words.now.place _ _ (words_of c.in-Ok.placed.place) c.from_server.result.0 _ c.in-Ok.ensures
    (c.from_server.ensures.reads (c.in-Ok.ensures ∙ sym (ap words_of c.in-Server.is)))
