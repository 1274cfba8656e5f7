use Rattle.std.proofs.Common.{◌≡◌, ◌/◌, ◌%◌, ap, arith, subst}
use Rattle.tlog_tiles.specs.declared.paths.Path.TheVariants.{Entries}
use Rattle.mirror_folders.specs.Shelf.{RecordsRead}
use Rattle.log_reader.specs.Holding.{row_width}
use Rattle.log_reader.specs.Parts.{IsPartGiven}
use Rattle.log_reader.specs.Ways.{IsShownBundle}
use Rattle.copy_reader.proofs.end.read_end.Goals as goal

pub returns-in-Ok-clause-end : goal.returns-in-Ok-clause-end
returns-in-Ok-clause-end g c = λ some.
    let edge = c.args.reader.now.edge in
    let n = edge.size in
    let may = RecordsRead (g.D.Shelf.puts c.args.shelf.now) in
    let bytes = c.in-Ok._bundle.items in
    let at : c.size-size.result / 256 ≡ n / 256 = ap (λ m. m / 256) c.size-size.ensures in
    let wide : row_width n 0 (n / 256) ≡ n % 256 = omega (arith, some) in (
      bytes,
      subst (λ w. IsPartGiven may (Entries (n / 256) w) bytes) wide
          (subst (λ i. IsPartGiven may (Entries i (row_width n 0 i)) bytes) at c.in-Ok.ensures.given),
      subst (λ i. IsShownBundle g.H.TreeHash.digest edge i bytes) at c.in-Ok.ensures.shown,
    )
