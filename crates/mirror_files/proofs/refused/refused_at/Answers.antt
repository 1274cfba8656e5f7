use Rattle.std.proofs.Common.{rules, ◌≢◌, Err, subst}
use Rattle.mirror_files.specs.Checking.{ChecksLists}
use Rattle.mirror_files.specs.Content.{HasStrings}
use Rattle.mirror_files.specs.Stands.{parts_of}
use Rattle.mirror_files.specs.declared.load_fault.LoadFault.TheVariants as loading
use Rattle.mirror_files.proofs.Loaded.{listable}
use Rattle.mirror_files.proofs.RefusedNotes.{lists_refused}
use Rattle.mirror_files.proofs.refused.refused_at.Goals as goal

pub refused_in-found-requires : goal.refused_in-found-requires
refused_in-found-requires g c =
    listable c.as_bytes.result.now c.args.bytes.now (parts_of c.in-Ok.lists) c.in-Ok.ensures

pub returns-in-Ok : goal.returns-in-Ok
returns-in-Ok g c =
    c.refused_in-found.ensures c.args.bytes.now
    (subst (λ o. HasStrings o c.args.bytes.now (parts_of c.in-Ok.lists)) c.as_bytes.ensures.value c.in-Ok.ensures)

pub returns-in-Err : goal.returns-in-Err
returns-in-Err g c =
    let memory : c.in-Err.field-0 ≢ loading.OutOfMemory = search rules in
    lists_refused g.H.TreeHash.digest c.args.origin.now _ c.args.bytes.now c.in-Err.field-0 memory
    (subst (λ o. ChecksLists o c.args.bytes.now (Err c.in-Err.field-0)) c.as_bytes.ensures.value c.in-Err.ensures)
