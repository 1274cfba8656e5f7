use Rattle.std.proofs.Common.{Ok, subst, sym}
use Rattle.mirror_model.specs.Heads.{IsHead}
use Rattle.mirror_model.proofs.HeadNotes.{head_of}
use Rattle.mirror_folders.specs.Shelf.{RecordsRead}
use Rattle.log_reader.specs.FalseEdges.{IsEdgeGiven}
use Rattle.log_reader.specs.Holding.{IsReaderOf}
use Rattle.log_reader.specs.Ways.{Reader}
use Rattle.copy_reader.proofs.WholeCopies.{opens_refused, whole_read, whole_refused}
use Rattle.copy_reader.specs.Damage.{NamesOpenDamage}
use Rattle.copy_reader.proofs.Damage.{damage_exit, edge_before, open_damage}
use Rattle.copy_reader.proofs.opened.open_shelf.Goals as goal

pub returns-in_err-reader-clause-answer : goal.returns-in_err-reader-clause-answer
returns-in_err-reader-clause-answer g c =
    let digest = g.H.TreeHash.digest in
    let origin = c.args.origin.now in
    let size = c.in_ok-head.head.0 in
    let root = c.in_ok-head.head.1 in
    let held = g.D.Shelf.puts c.args.shelf.now in
    let stands = rw c.in-Some.is at c.in_ok-note.ensures.answer in
    let head = head_of c.deref.result.now origin _ size root c.in_ok-head.ensures.opens in
    let of_note : IsHead c.in-Some.note.items origin size root = subst (λ b. IsHead b origin size root) c.deref.ensures.value head in
    opens_refused digest origin _ held c.in_err-reader.field-0.0 c.from_residual-in_err-reader.result
    c.from_residual-in_err-reader.ensures
    (whole_refused digest origin held (g.D.Shelf.puts c.read.new.self) c.in_ok-note.ensures.same c.in-Some.note.items
    size root stands of_note {T = Reader} _ (λ entries reader. IsReaderOf digest entries reader) _ _
    c.in_err-reader.field-0.0 c.in_err-reader.ensures.counted c.in_err-reader.ensures.honest)

pub returns-clause-honest : goal.returns-clause-honest
returns-clause-honest g c = λ note entries whole.
    let digest = g.H.TreeHash.digest in
    let origin = c.args.origin.now in
    let size = c.in_ok-head.head.0 in
    let root = c.in_ok-head.head.1 in
    let stands = rw c.in-Some.is at c.in_ok-note.ensures.answer in
    let head = head_of c.deref.result.now origin _ size root c.in_ok-head.ensures.opens in
    let of_note : IsHead c.in-Some.note.items origin size root = subst (λ b. IsHead b origin size root) c.deref.ensures.value head in
    whole_read digest origin (g.D.Shelf.puts c.args.shelf.now) (g.D.Shelf.puts c.read.new.self) c.in_ok-note.ensures.same
    c.in-Some.note.items size root stands of_note {T = Reader} (Ok c.in_ok-reader.reader)
    (λ entries reader. IsReaderOf digest entries reader) c.in_ok-reader.ensures.honest note entries whole

pub returns-in_err-reader-clause-damage : goal.returns-in_err-reader-clause-damage
returns-in_err-reader-clause-damage g c =
    let digest = g.H.TreeHash.digest in
    let origin = c.args.origin.now in
    let held = g.D.Shelf.puts c.args.shelf.now in
    let after = g.D.Shelf.puts c.read.new.self in
    let size = c.in_ok-head.head.0 in
    let root = c.in_ok-head.head.1 in
    let stands = rw c.in-Some.is at c.in_ok-note.ensures.answer in
    damage_exit (NamesOpenDamage digest held origin _) c.from_residual-in_err-reader.result _
    c.from_residual-in_err-reader.ensures
    (open_damage digest origin _ held after c.in_ok-note.ensures.same size root
    c.in-Some.note.items c.deref.result.now c.deref.ensures.value stands c.in_ok-head.ensures.opens
    c.in_err-reader.field-0.0 c.in_err-reader.ensures.damage)

pub returns-clause-given : goal.returns-clause-given
returns-clause-given g c =
    let held = g.D.Shelf.puts c.args.shelf.now in
    let edge = c.in_ok-reader.reader.edge in
    let given = edge_before held (g.D.Shelf.puts c.read.new.self) c.in_ok-note.ensures.same c.in_ok-head.head.0 edge
    c.in_ok-reader.ensures.given in
    subst (λ n. IsEdgeGiven (RecordsRead held) n edge) (sym c.in_ok-reader.ensures.size) given
