use Rattle.std.proofs.Common.{refl, ap}
use Rattle.copy_follow.proofs.Naming.{names_noted}
use Rattle.copy_follow.proofs.mend.note_lack.Goals as goal

pub returns-clause-names : goal.returns-clause-names
returns-clause-names g c =
    names_noted (g.D.Shelf.puts c.args.shelf.now) c.args.path.now c.args.repaired.now.damaged.items
    c.note_lacked.new.self.damaged.items c.note_damaged.new.self.damaged.items _ (ap (λ v. v.items) c.note_lacked.ensures.damaged)
    c.in_ok-note_damaged.ensures.named refl c.in_ok-is_missing.ensures.missing
