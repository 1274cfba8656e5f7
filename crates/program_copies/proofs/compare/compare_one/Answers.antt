use Rattle.copy_reader.proofs.Damage.{damage_exit}
use Rattle.copy_reader.specs.Damage.{NamesDamage}
use Rattle.program_copies.proofs.compare.compare_one.Goals as goal

pub returns-in_err-own-clause-damage : goal.returns-in_err-own-clause-damage
returns-in_err-own-clause-damage g c =
    damage_exit (NamesDamage g.H.TreeHash.digest (g.D.Shelf.puts c.args.shelf.now) c.args.reader.now.edge)
    c.from_residual.result c.in_err-own.field-0.0 c.from_residual.ensures c.in_err-own.ensures.damage
