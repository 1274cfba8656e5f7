use Rattle.std.proofs.Common.{◌≡◌, ◌<◌, ◌≤◌, List, length, get_or, subst}
use Rattle.std.specs.Prelude.{string_bytes}
use Rattle.mirror_trees.specs.declared.held_note.HeldNote.{HeldNote}
use Rattle.tlog_mirror.proofs.ListedNotes.{note_found, note_past}
use Rattle.tlog_mirror.proofs.mirror.Mirror.note_at.Goals as goal

pub returns-in-Some : goal.returns-in-Some
returns-in-Some g c =
    let o = c.self.inside in
    let k = c.in-Some.kept.now in
    let within : c.args.i < length o.kept.items =
    subst (λ (xs : List HeldNote). c.args.i < length xs) c.deref.ensures.value c.in-Some.ensures.lookup.3.0 in
    let at : k ≡ get_or o.kept.items c.args.i k =
    subst (λ (xs : List HeldNote). k ≡ get_or xs c.args.i k) c.deref.ensures.value c.in-Some.ensures.lookup.1 in
    note_found g.H.TreeHash.digest
    (string_bytes o.origin) o.kept.items o.strings o.known.remembered c.self.invariant.0 c.args.self.now c.self.view_is c.args.i
    k c.bytes.result.now within at c.bytes.ensures.bytes

pub returns-in-None : goal.returns-in-None
returns-in-None g c =
    let o = c.self.inside in
    let past : length o.kept.items ≤ c.args.i =
    subst (λ (xs : List HeldNote). length xs ≤ c.args.i) c.deref.ensures.value c.in-None.ensures.lookup.3 in
    note_past g.H.TreeHash.digest
    (string_bytes o.origin) o.kept.items o.strings o.known.remembered c.self.invariant.0 c.args.self.now c.self.view_is
    c.args.i past
