use Rattle.std.proofs.Common.{◌≡◌, IfSome, length, subst}
use Rattle.mirror_folders.specs.Since.{since_paths}
use Rattle.copy_follow.proofs.copy.find_new_edge.Goals as goal

pub returns-in-Ok-clause-expected : goal.returns-in-Ok-clause-expected
returns-in-Ok-clause-expected g c =
    subst (λ m. IfSome (g.D.Shelf.expected c.expect_new.new.shelf) (λ all. all ≡ length (since_paths m c.args.candidate.now.size)))
    c.size.ensures c.expect_new.ensures.expected
