use Rattle.std.proofs.Common.{[], ◌∷◌, map}
use Rattle.std.proofs.lemmas.Result.{err_from_is_err_and}
use Rattle.program_copies.specs.Evidence.{note_file, proof_files}
use Rattle.program_copies.proofs.Putting.{files_then, front_both, front_more, recorded_both}
use Rattle.program_copies.proofs.evidence.put_fork.Goals as goal

pub returns-in_err-put_note : goal.returns-in_err-put_note
returns-in_err-put_note g c =
    let puts = g.F.NamedFiles.puts in
    let origin = c.args.origin.now in
    let keys = map (λ v. (goal.Verifier-dyn g (v.vtable, v.value)).key v.value) c.args.keys.now in
    let folder = c.args.folder.now in
    let line = c.args.line.now in
    let p = err_from_is_err_and c.from_residual.result c.from_residual.ensures.1 in
    rw (p.1, p.2)
    (front_more origin keys (note_file folder line.small ∷ []) (note_file folder line.large ∷ proof_files folder line line.proof)
    (puts c.args.files.now) (puts c.put_note.new.files) c.in_err-put_note.field-0.0 c.in_err-put_note.ensures)

pub returns-in_err-put_note-2 : goal.returns-in_err-put_note-2
returns-in_err-put_note-2 g c =
    let puts = g.F.NamedFiles.puts in
    let origin = c.args.origin.now in
    let keys = map (λ v. (goal.Verifier-dyn g (v.vtable, v.value)).key v.value) c.args.keys.now in
    let folder = c.args.folder.now in
    let line = c.args.line.now in
    let p = err_from_is_err_and c.from_residual-in_err-put_note-2.result c.from_residual-in_err-put_note-2.ensures.1 in
    rw (p.1, p.2)
    (front_more origin keys (note_file folder line.small ∷ (note_file folder line.large ∷ [])) (proof_files folder line line.proof)
    (puts c.args.files.now) (puts c.put_note-2.new.files) c.in_err-put_note-2.field-0.0
    (front_both origin keys (note_file folder line.small ∷ []) (note_file folder line.large ∷ []) (puts c.args.files.now)
    (puts c.put_note.new.files) (puts c.put_note-2.new.files) c.in_err-put_note-2.field-0.0 c.in_ok-put_note.ensures
    c.in_err-put_note-2.ensures))

pub returns : goal.returns
returns g c =
    let puts = g.F.NamedFiles.puts in
    let origin = c.args.origin.now in
    let keys = map (λ v. (goal.Verifier-dyn g (v.vtable, v.value)).key v.value) c.args.keys.now in
    let folder = c.args.folder.now in
    let line = c.args.line.now in
    files_then origin keys (note_file folder line.small ∷ (note_file folder line.large ∷ [])) (proof_files folder line line.proof)
    (puts c.args.files.now) (puts c.put_note-2.new.files) (puts c.put_proof.new.files) c.put_proof.result
    (recorded_both origin keys (note_file folder line.small ∷ []) (note_file folder line.large ∷ []) (puts c.args.files.now)
    (puts c.put_note.new.files) (puts c.put_note-2.new.files) c.in_ok-put_note.ensures c.in_ok-put_note-2.ensures)
    (c.put_proof.ensures origin keys)
