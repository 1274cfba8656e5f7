use Rattle.std.proofs.Common.{Err, subst}
use Rattle.mirror_files.specs.LoadSteps.{MakesMirror}
use Rattle.mirror_files.specs.Content.{listed_strings}
use Rattle.mirror_files.specs.Stands.{parts_of}
use Rattle.mirror_files.proofs.Loaded.{clash_recorded}
use Rattle.mirror_files.proofs.RefusedNotes.{closed_recorded, edges_judged, strings_clash}
use Rattle.mirror_files.proofs.LoadedNotes.{notes_open, still_open}
use Rattle.mirror_files.proofs.refused.refused_in.Goals as goal

pub first_unheld-found-requires : goal.first_unheld-found-requires
first_unheld-found-requires g c =
    still_open c.args.origin.now _ c.in-Ok.mirror.view _ _ _ _ c.in-Ok.ensures.makes.0 c.notes.ensures
    c.notes-in-Ok.ensures (rw c.in-None.is at c.in_ok-found.ensures.none)

pub returns-in-Ok : goal.returns-in-Ok
returns-in-Ok g c = λ bytes listed.
    edges_judged g.H.TreeHash.digest c.args.origin.now _ bytes (parts_of c.args.lists.now) listed
    _ c.notes.ensures (notes_open c.args.origin.now _ _ (rw c.in-None.is at c.in_ok-found.ensures.none)) c.in-Ok.mirror.view c.in-Ok.ensures.makes
    _ c.notes-in-Ok.ensures c.first_unheld-found.result c.first_unheld-found.ensures.found c.first_unheld-found.ensures.none

pub returns-in-Err-Collision : goal.returns-in-Err-Collision
returns-in-Err-Collision g c = λ bytes listed.
    strings_clash g.H.TreeHash.digest c.args.origin.now _ bytes
    (clash_recorded g.H.TreeHash.digest c.args.origin.now _ bytes (parts_of c.args.lists.now) listed
    _ c.notes.ensures (notes_open c.args.origin.now _ _ (rw c.in-None.is at c.in_ok-found.ensures.none))
    (subst (λ f. MakesMirror g.H.TreeHash.digest c.args.origin.now (listed_strings (parts_of c.args.lists.now)) (Err f))
    c.in-Err-Collision.field-0-is c.in-Err-Collision.ensures.makes))

pub returns-in-Some : goal.returns-in-Some
returns-in-Some g c = λ bytes listed.
    closed_recorded g.H.TreeHash.digest c.args.origin.now _ bytes (parts_of c.args.lists.now) listed _ c.notes.ensures
    c.in-Some.found.0 c.in-Some.found.1.now (rw c.in-Some.is at c.in_ok-found.ensures.found)
