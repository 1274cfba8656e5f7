use Rattle.copy_reader.proofs.WholeCopies.{files_later}
use Rattle.program_copies.proofs.Damages.{names_before}
use Rattle.program_copies.proofs.file.read_file.Goals as goal

pub returns-in-Err-read_anew-clause-honest : goal.returns-in-Err-read_anew-clause-honest
returns-in-Err-read_anew-clause-honest g c = λ entries log.
    c.in-Err-read_anew.ensures.honest entries (record {
      size_is = log.size_is;
      root_is = log.root_is;
      small = log.small;
      files = files_later g.H.TreeHash.digest (g.D.Shelf.puts c.args.shelf.now) (g.D.Shelf.puts c.read_again.new.shelf)
          c.in-Ok-None.ensures.same entries log.files;
    })

pub returns-in-Err-read_anew-clause-damage : goal.returns-in-Err-read_anew-clause-damage
returns-in-Err-read_anew-clause-damage g c =
    names_before g.H.TreeHash.digest c.args.size c.args.root.now (g.D.Shelf.puts c.args.shelf.now)
    (g.D.Shelf.puts c.read_again.new.shelf) c.in-Ok-None.ensures.same c.in-Err-read_anew.fault c.in-Err-read_anew.ensures.damage
