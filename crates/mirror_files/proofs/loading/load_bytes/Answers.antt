use Rattle.std.proofs.Common.{Err, subst}
use Rattle.mirror_files.specs.Checking.{ChecksLists}
use Rattle.mirror_files.specs.Content.{HasStrings}
use Rattle.mirror_files.specs.Stands.{parts_of}
use Rattle.mirror_files.proofs.Loaded.{listable, lists_refused}
use Rattle.mirror_files.proofs.loading.load_bytes.Goals as goal

pub load_lists-loaded-requires : goal.load_lists-loaded-requires
load_lists-loaded-requires g c =
    listable c.as_bytes.result.now c.args.bytes.now (parts_of c.in-Ok.lists) c.in-Ok.ensures

pub returns-in-Ok-clause-loads : goal.returns-in-Ok-clause-loads
returns-in-Ok-clause-loads g c =
    c.load_lists-loaded.ensures.loads c.args.bytes.now
    (subst (λ o. HasStrings o c.args.bytes.now (parts_of c.in-Ok.lists)) c.as_bytes.ensures.value
    c.in-Ok.ensures)

pub returns-in-Err-clause-loads : goal.returns-in-Err-clause-loads
returns-in-Err-clause-loads g c =
    lists_refused g.H.TreeHash.digest c.args.origin.now _ c.args.bytes.now c.in-Err.fault
    (subst (λ o. ChecksLists o c.args.bytes.now (Err c.in-Err.fault)) c.as_bytes.ensures.value c.in-Err.ensures)
