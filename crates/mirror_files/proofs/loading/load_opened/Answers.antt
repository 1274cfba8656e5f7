use Rattle.std.proofs.Common.{Err, All, refl, subst, sym}
use Rattle.mirror_model.specs.View.{View}
use Rattle.tlog_mirror.specs.Opened.{SaysHead}
use Rattle.mirror_files.specs.LoadSteps.{MakesMirror}
use Rattle.mirror_files.specs.Content.{listed_strings}
use Rattle.mirror_files.specs.Stands.{parts_of}
use Rattle.mirror_files.proofs.Loaded.{clash_recorded, loaded, not_loaded}
use Rattle.mirror_files.proofs.LoadedNotes.{notes_open}
use Rattle.mirror_files.proofs.loading.load_opened.Goals as goal

pub keep_all-requires : goal.keep_all-requires
keep_all-requires g c =
    subst (λ (v : View). All (SaysHead v.origin) c.args.heads.now) (sym c.in-Ok.ensures.makes.0) c.requires.said

pub returns-in-Err-Collision-clause-loads : goal.returns-in-Err-Collision-clause-loads
returns-in-Err-Collision-clause-loads g c = λ bytes keys listed opened.
    clash_recorded g.H.TreeHash.digest c.args.origin.now keys bytes (parts_of c.args.lists.now) listed
    _ refl (notes_open c.args.origin.now keys _ opened.opened)
    (subst (λ f. MakesMirror g.H.TreeHash.digest c.args.origin.now (listed_strings (parts_of c.args.lists.now)) (Err f))
    c.in-Err-Collision.field-0-is c.in-Err-Collision.ensures.makes)

pub returns-in-Ok-keep_all-clause-loads : goal.returns-in-Ok-keep_all-clause-loads
returns-in-Ok-keep_all-clause-loads g c = λ bytes keys listed opened.
    loaded g.H.TreeHash.digest c.args.origin.now keys bytes (parts_of c.args.lists.now) listed
    _ refl (notes_open c.args.origin.now keys _ opened.opened) c.in-Ok.mirror.view c.in-Ok.ensures.makes _ opened.bytes_are
    c.keep_all.new.mirror.view c.in-Ok-keep_all.ensures.keeps

pub returns-in-Err-clause-loads : goal.returns-in-Err-clause-loads
returns-in-Err-clause-loads g c = λ bytes keys listed opened.
    not_loaded g.H.TreeHash.digest c.args.origin.now keys bytes (parts_of c.args.lists.now) listed
    _ refl (notes_open c.args.origin.now keys _ opened.opened) c.in-Ok.mirror.view c.in-Ok.ensures.makes _ opened.bytes_are
    c.keep_all.new.mirror.view c.in-Err.fault c.in-Err.ensures.keeps
