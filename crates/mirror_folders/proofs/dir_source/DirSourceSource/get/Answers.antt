use Rattle.std.proofs.Common.{ap, ◌∙◌}
use Rattle.mirror_sources.specs.Recorded.{one_more}
use Rattle.mirror_folders.specs.Places.{FolderSource}
use Rattle.mirror_folders.proofs.dir_source.DirSourceSource.get.Goals as goal

pub returns-else-eq-clause-counted : goal.returns-else-eq-clause-counted
returns-else-eq-clause-counted g c =
    c.count_failure-self-inside.ensures ∙ ap one_more (ap (λ (v : FolderSource). v.failures) c.self.view_is)
