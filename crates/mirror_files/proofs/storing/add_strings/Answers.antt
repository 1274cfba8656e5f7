use Rattle.mirror_files.proofs.ListedItems.{tags_added}
use Rattle.mirror_files.proofs.storing.add_strings.Goals as goal

pub returns : goal.returns
returns g c =
    tags_added g.H.TreeHash.digest c.args.store.now c.add_listed.new.store _ c.add_listed.result c.add_listed.ensures
