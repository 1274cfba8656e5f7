use Rattle.std.proofs.Common.{Some, inr, sym}
use Rattle.std.proofs.lemmas.Result.{err_from_is_err_and}
use Rattle.copy_follow.specs.Faults.{IsOtherFound}
use Rattle.copy_follow.specs.RunStanding.{HasStanding}
use Rattle.copy_follow.proofs.Ending.{ends_so, none_found}
use Rattle.copy_follow.proofs.Renoted.{head_as, note_follows, note_kept}
use Rattle.copy_follow.proofs.Runs.{each_none}
use Rattle.copy_follow.proofs.renote.renote.Goals as goal

pub returns-in_err-put_note-clause-keeps : goal.returns-in_err-put_note-clause-keeps
returns-in_err-put_note-clause-keeps g c = λ notes listed.
    each_none g.H.TreeHash.digest c.args.origin.now notes (g.D.Shelf.puts c.args.shelf.now)
    (g.D.Shelf.puts c.put_note.new.shelf) c.in_err-put_note.ensures.puts

pub returns-clause-keeps : goal.returns-clause-keeps
returns-clause-keeps g c =
    note_kept g.H.TreeHash.digest c.args.origin.now c.args.candidate.now.note.items (g.D.Shelf.puts c.args.shelf.now)
    (g.D.Shelf.puts c.put_note.new.shelf) c.args.copy.now.note.items c.args.candidate.now.size.0 c.args.candidate.now.root
    (head_as c.args.origin.now c.args.copy.now c.args.candidate.now c.requires.copy c.requires.size c.requires.root)
    c.requires.candidate c.in_ok-put_note.ensures.puts

pub returns-clause-after : goal.returns-clause-after
returns-clause-after g c =
    note_follows g.H.TreeHash.digest c.args.origin.now c.args.candidate.now.note.items (g.D.Shelf.puts c.args.shelf.now)
    (g.D.Shelf.puts c.put_note.new.shelf) c.args.copy.now.note.items c.args.candidate.now.size.0 c.args.candidate.now.root
    (head_as c.args.origin.now c.args.copy.now c.args.candidate.now c.requires.copy c.requires.size c.requires.root)
    c.requires.candidate c.in_ok-put_note.ensures.puts

pub returns-clause-says : goal.returns-clause-says
returns-clause-says g c = inr ((sym c.requires.size, sym c.requires.root), c.requires.less)

pub returns-in_err-put_note-clause-ends : goal.returns-in_err-put_note-clause-ends
returns-in_err-put_note-clause-ends g c =
    let digest = g.H.TreeHash.digest in
    let origin = c.args.origin.now in
    let copy = c.args.copy.now in
    let x = g.D.Shelf.puts c.args.shelf.now in
    let p = err_from_is_err_and c.from_residual.result c.from_residual.ensures.1 in
    let Lost = HasStanding digest origin (Some copy) x → ⊥ in
    rw (p.1, p.2) (ends_so ⊥ (IsOtherFound (Some copy.note.items) x) Lost Lost c.in_err-put_note.field-0.0
    (λ no. absurd no) (none_found digest origin copy x) c.in_err-put_note.ensures.ends)
