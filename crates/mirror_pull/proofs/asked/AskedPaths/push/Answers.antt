use Rattle.std.proofs.Common.{sym, subst, Contains}
use Rattle.std.specs.List.Sorted.{IsPermutation}
use Rattle.mirror_pull.proofs.PathSets.{put_new}
use Rattle.mirror_pull.proofs.asked.AskedPaths.push.Goals as goal

pub invariant_of-self-in-Ok : goal.invariant_of-self-in-Ok
invariant_of-self-in-Ok c =
    subst (λ xs. IsPermutation xs c.insert.new.self.keys) (sym c.in_ok-push.ensures.items)
    (put_new c.self.inside.items.items c.self.inside.found c.insert.new.self c.args.path c.in-Ok.field-0
    (λ has. c.requires (subst (λ v. Contains v.items c.args.path) c.self.view_is has)) c.self.invariant
    c.in-Ok.ensures.added c.in-Ok.ensures.keys)
