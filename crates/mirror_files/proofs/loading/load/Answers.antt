use Rattle.mirror_files.proofs.KeptNotes.{all_given, none_given}
use Rattle.mirror_files.proofs.loading.load.Goals as goal

pub returns-clause-loads : goal.returns-clause-loads
returns-clause-loads g c =
    all_given _ _ c.in-Ok.bytes.items c.as_slice-input.result.now 18446744073709551615 c.is_below.result
    c.as_slice-input.ensures.value c.is_below.ensures c.if-not-is_below.false
    c.in-Ok.ensures.bytes c.load_bytes.ensures.loads

pub returns-in-Err-clause-loads : goal.returns-in-Err-clause-loads
returns-in-Err-clause-loads g c =
    none_given (g.R.Read.remaining c.args.reader.now) g.H.TreeHash.digest c.args.origin.now _ c.in-Err.fault _
    c.stream_fault.ensures
