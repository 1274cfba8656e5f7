use Rattle.std.proofs.Common.{sym, subst}
use Rattle.std.proofs.lemmas.Result.{err_from_is_err_and}
use Rattle.std.proofs.lemmas.Simd.{map-map}
use Rattle.state_commands.specs.NoteFiles.{note_file}
use Rattle.state_commands.specs.NoteTexts.{IsRecorded, PutsEach, PutsFront, in_folder}
use Rattle.state_commands.proofs.PutNotes.{puts_all, puts_front, puts_more}
use Rattle.state_commands.proofs.noted.put_notes.Goals as goal

pub returns-in_err-put_note : goal.returns-in_err-put_note
returns-in_err-put_note g c =
    let puts = g.F.NamedFiles.puts in
    let p = err_from_is_err_and c.from_residual.result c.from_residual.ensures.1 in
    rw (p.1, p.2) (subst (λ files. PutsFront files (puts c.args.files.now) (puts c.put_note.new.files) c.in_err-put_note.field-0.0)
    (sym (map-map (in_folder c.args.folder.now) note_file c.args.notes.now))
    (puts_front
    (λ note. in_folder c.args.folder.now
    (note_file note)) c.args.notes.now c.loop-note.note-index c.note-item.result c.loop-note-test.true c.note-item.is
    (puts c.args.files.now) (puts c.loop-note.files)
    (puts c.put_note.new.files) c.in_err-put_note.field-0.0 c.loop-note.invariant c.in_err-put_note.ensures))

pub loop-note-preserved : goal.loop-note-preserved
loop-note-preserved g c =
    let puts = g.F.NamedFiles.puts in
    puts_more
    (λ note. in_folder c.args.folder.now
    (note_file note)) c.args.notes.now c.loop-note.note-index c.note-item.result c.loop-note-test.true c.note-item.is
    (puts c.args.files.now) (puts c.loop-note.files) (puts c.put_note.new.files) c.loop-note.invariant c.in_ok-put_note.ensures

pub returns : goal.returns
returns g c =
    let puts = g.F.NamedFiles.puts in
    subst (λ files. IsRecorded (PutsEach files) (puts c.args.files.now) (puts c.loop-note.files))
    (sym (map-map (in_folder c.args.folder.now) note_file c.args.notes.now))
    (puts_all (λ note. in_folder c.args.folder.now (note_file note)) c.args.notes.now c.loop-note.note-index
    (puts c.args.files.now) (puts c.loop-note.files)
    c.loop-note-test.false c.loop-note.invariant)
