use Rattle.std.proofs.Common.{◌∙◌, refl}
use Rattle.copy_follow.specs.Taken.{MayTake}
use Rattle.copy_follow.specs.Repaired.{MayBeAskedToRepair}
use Rattle.copy_places.proofs.Asking.{asks_same}
use Rattle.copy_follow.proofs.Cuts.{clear_weaker}
use Rattle.copy_follow.proofs.Growth.{gathers_none, gathers_then}
use Rattle.copy_follow.proofs.MendedFiles.{repaired_copy, repaired_then}
use Rattle.copy_follow.proofs.Mending.{counts_none, counts_then}
use Rattle.copy_follow.proofs.OnePlace.{taken_kept}
use Rattle.copy_follow.proofs.Lacking.{over_between}
use Rattle.copy_follow.proofs.Naming.{names_none, names_then}
use Rattle.copy_follow.proofs.repair.mend_noted.Goals as goal

pub returns-in-Err-clause-asks : goal.returns-in-Err-clause-asks
returns-in-Err-clause-asks g c =
    asks_same g.S.Source.may_answer g.S.Source.failed g.S.Source.asked (MayBeAskedToRepair c.args.size) c.args.places.now

pub returns-in-Err-clause-keeps : goal.returns-in-Err-clause-keeps
returns-in-Err-clause-keeps g c = λ log long root clear.
    gathers_none g.H.TreeHash.digest 0 log (g.D.Shelf.puts c.args.shelf.now) (g.D.Shelf.puts c.check_note.new.shelf)
    c.check_note.ensures.same

pub returns-in-Err-mend_copy-clause-counts : goal.returns-in-Err-mend_copy-clause-counts
returns-in-Err-mend_copy-clause-counts g c =
    let n = c.args.repaired.now.put in
    let x = g.D.Shelf.puts c.args.shelf.now in
    let y = g.D.Shelf.puts c.check_note.new.shelf in
    let z = g.D.Shelf.puts c.mend_copy.new.shelf in
    let two = counts_then n n c.mend_copy.new.repaired.put x y z (counts_none n n x y refl c.check_note.ensures.same)
    c.mend_copy.ensures.counts in two

pub returns-in-Err-mend_copy-clause-keeps : goal.returns-in-Err-mend_copy-clause-keeps
returns-in-Err-mend_copy-clause-keeps g c = λ log long root clear.
    let digest = g.H.TreeHash.digest in
    let may = g.S.Source.may_answer in
    let p = c.args.places.now in
    let x = g.D.Shelf.puts c.args.shelf.now in
    let y = g.D.Shelf.puts c.check_note.new.shelf in
    let z = g.D.Shelf.puts c.mend_copy.new.shelf in
    let so = MayBeAskedToRepair c.args.size in
    let still = clear_weaker digest log (MayTake may p x) (MayTake may p y)
    (λ path bytes h. taken_kept may g.S.Source.failed g.S.Source.asked so p p x y path bytes
    (asks_same may g.S.Source.failed g.S.Source.asked so p) c.check_note.ensures.same h) clear in
    let two = gathers_then digest 0 log log log x y z (gathers_none digest 0 log x y c.check_note.ensures.same)
    (c.mend_copy.ensures.keeps log long root still) in two

pub returns-in-Ok-check_note-clause-counts : goal.returns-in-Ok-check_note-clause-counts
returns-in-Ok-check_note-clause-counts g c =
    let n = c.args.repaired.now.put in
    let x = g.D.Shelf.puts c.args.shelf.now in
    let y = g.D.Shelf.puts c.check_note.new.shelf in
    let z = g.D.Shelf.puts c.mend_copy.new.shelf in
    let two = counts_then n n c.mend_copy.new.repaired.put x y z (counts_none n n x y refl c.check_note.ensures.same)
    c.mend_copy.ensures.counts in
    let m = c.mend_copy.new.repaired.put in
    let w = g.D.Shelf.puts c.check_note-2.new.shelf in
    counts_then n m m x z w two (counts_none m m z w refl c.check_note-2.ensures.same)

pub returns-in-Ok-check_note-clause-keeps : goal.returns-in-Ok-check_note-clause-keeps
returns-in-Ok-check_note-clause-keeps g c = λ log long root clear.
    let digest = g.H.TreeHash.digest in
    let may = g.S.Source.may_answer in
    let p = c.args.places.now in
    let x = g.D.Shelf.puts c.args.shelf.now in
    let y = g.D.Shelf.puts c.check_note.new.shelf in
    let z = g.D.Shelf.puts c.mend_copy.new.shelf in
    let so = MayBeAskedToRepair c.args.size in
    let still = clear_weaker digest log (MayTake may p x) (MayTake may p y)
    (λ path bytes h. taken_kept may g.S.Source.failed g.S.Source.asked so p p x y path bytes
    (asks_same may g.S.Source.failed g.S.Source.asked so p) c.check_note.ensures.same h) clear in
    let two = gathers_then digest 0 log log log x y z (gathers_none digest 0 log x y c.check_note.ensures.same)
    (c.mend_copy.ensures.keeps log long root still) in
    let w = g.D.Shelf.puts c.check_note-2.new.shelf in
    gathers_then digest 0 log log log x z w two (gathers_none digest 0 log z w c.check_note-2.ensures.same)

pub returns-in-Err-check_note-clause-counts : goal.returns-in-Err-check_note-clause-counts
returns-in-Err-check_note-clause-counts g c =
    let n = c.args.repaired.now.put in
    let x = g.D.Shelf.puts c.args.shelf.now in
    let y = g.D.Shelf.puts c.check_note.new.shelf in
    let z = g.D.Shelf.puts c.mend_copy.new.shelf in
    let two = counts_then n n c.mend_copy.new.repaired.put x y z (counts_none n n x y refl c.check_note.ensures.same)
    c.mend_copy.ensures.counts in
    let m = c.mend_copy.new.repaired.put in
    let w = g.D.Shelf.puts c.check_note-2.new.shelf in
    counts_then n m m x z w two (counts_none m m z w refl c.check_note-2.ensures.same)

pub returns-in-Err-check_note-clause-keeps : goal.returns-in-Err-check_note-clause-keeps
returns-in-Err-check_note-clause-keeps g c = λ log long root clear.
    let digest = g.H.TreeHash.digest in
    let may = g.S.Source.may_answer in
    let p = c.args.places.now in
    let x = g.D.Shelf.puts c.args.shelf.now in
    let y = g.D.Shelf.puts c.check_note.new.shelf in
    let z = g.D.Shelf.puts c.mend_copy.new.shelf in
    let so = MayBeAskedToRepair c.args.size in
    let still = clear_weaker digest log (MayTake may p x) (MayTake may p y)
    (λ path bytes h. taken_kept may g.S.Source.failed g.S.Source.asked so p p x y path bytes
    (asks_same may g.S.Source.failed g.S.Source.asked so p) c.check_note.ensures.same h) clear in
    let two = gathers_then digest 0 log log log x y z (gathers_none digest 0 log x y c.check_note.ensures.same)
    (c.mend_copy.ensures.keeps log long root still) in
    let w = g.D.Shelf.puts c.check_note-2.new.shelf in
    gathers_then digest 0 log log log x z w two (gathers_none digest 0 log z w c.check_note-2.ensures.same)

pub returns-in-Ok-check_note-clause-whole : goal.returns-in-Ok-check_note-clause-whole
returns-in-Ok-check_note-clause-whole g c = λ yes.
    let digest = g.H.TreeHash.digest in
    let origin = c.args.origin.now in
    let note = c.args.note.now in
    let x = g.D.Shelf.puts c.args.shelf.now in
    let y = g.D.Shelf.puts c.check_note.new.shelf in
    let z = g.D.Shelf.puts c.mend_copy.new.shelf in
    let w = g.D.Shelf.puts c.check_note-2.new.shelf in
    repaired_then digest origin note x y w c.check_note.ensures.same
    (repaired_copy digest origin note c.args.size c.args.root.now y z w c.requires (c.in-Ok-mend_copy.ensures.whole yes)
    c.in-Ok-check_note.ensures.read c.check_note-2.ensures.same)

pub returns-in-Ok-check_note-clause-goes_on : goal.returns-in-Ok-check_note-clause-goes_on
returns-in-Ok-check_note-clause-goes_on g c = λ log short long root clear.
    let digest = g.H.TreeHash.digest in
    let may = g.S.Source.may_answer in
    let failed = g.S.Source.failed in
    let asked = g.S.Source.asked in
    let p = c.args.places.now in
    let q = c.mend_copy.new.places in
    let x = g.D.Shelf.puts c.args.shelf.now in
    let y = g.D.Shelf.puts c.check_note.new.shelf in
    let z = g.D.Shelf.puts c.mend_copy.new.shelf in
    let w = g.D.Shelf.puts c.check_note-2.new.shelf in
    let so = MayBeAskedToRepair c.args.size in
    let same = asks_same may failed asked so p in
    let still = clear_weaker digest log (MayTake may p x) (MayTake may p y)
    (λ path bytes h. taken_kept may failed asked so p p x y path bytes same c.check_note.ensures.same h) clear in
    over_between may failed asked digest log so so so p p q q same c.mend_copy.ensures.asks (asks_same may failed asked so q) x y z w
    c.check_note.ensures.same (gathers_none digest 0 log z w c.check_note-2.ensures.same)
    (c.in-Ok-mend_copy.ensures.goes_on log short long root still)

pub returns-in-Ok-check_note-clause-names : goal.returns-in-Ok-check_note-clause-names
returns-in-Ok-check_note-clause-names g c = λ log short long root clear.
    let digest = g.H.TreeHash.digest in
    let may = g.S.Source.may_answer in
    let failed = g.S.Source.failed in
    let asked = g.S.Source.asked in
    let p = c.args.places.now in
    let x = g.D.Shelf.puts c.args.shelf.now in
    let y = g.D.Shelf.puts c.check_note.new.shelf in
    let so = MayBeAskedToRepair c.args.size in
    let still = clear_weaker digest log (MayTake may p x) (MayTake may p y)
    (λ path bytes h. taken_kept may failed asked so p p x y path bytes (asks_same may failed asked so p) c.check_note.ensures.same h)
    clear in
    let l = c.args.repaired.now.damaged.items in
    names_then digest log x y l l c.mend_copy.new.repaired.damaged.items (gathers_none digest 0 log x y c.check_note.ensures.same)
    (names_none digest log x l l refl) (c.in-Ok-mend_copy.ensures.names log short long root still)
