use Rattle.std.proofs.Common.{◌∙◌}
use Rattle.signed_note.proofs.PinnedSearch.{is_listed}
use Rattle.signed_note.proofs.pinned.lists.Goals as goal

pub returns : goal.returns
returns c =
    c.is_ok.ensures.value
    ∙ is_listed c.args.digests.now c.args.digest.now c.binary_search.result c.requires c.binary_search.ensures.bound
    c.binary_search.ensures.position
