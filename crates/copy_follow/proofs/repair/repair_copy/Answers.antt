use Rattle.std.proofs.Common.{◌∙◌, length}
use Rattle.tlog_hash.specs.Tree.{mth}
use Rattle.mirror_model.proofs.HeadNotes.{head_once}
use Rattle.copy_follow.specs.Repaired.{AsksFiles, AsksNothing, MayBeAskedToRepair}
use Rattle.copy_follow.specs.Taken.{MayTake}
use Rattle.copy_follow.proofs.Begun.{asks_begun, begun_then}
use Rattle.copy_follow.proofs.Cuts.{clear_weaker, taken_begun}
use Rattle.copy_follow.proofs.Growth.{gathers_none, kept_same}
use Rattle.copy_follow.proofs.Lacking.{at_lack, at_spared, over_begun}
use Rattle.copy_follow.proofs.repair.repair_copy.Goals as goal

pub returns-in-Ok-None-clause-asks : goal.returns-in-Ok-None-clause-asks
returns-in-Ok-None-clause-asks g c =
    AsksNothing (asks_begun g.S.Source.may_answer g.S.Source.failed g.S.Source.asked (λ path. ⊥) c.args.places.now c.begin.new.self
    c.begin.ensures.list)

pub returns-in-Ok-None-clause-keeps : goal.returns-in-Ok-None-clause-keeps
returns-in-Ok-None-clause-keeps g c = λ log head clear.
    let x = g.D.Shelf.puts c.args.shelf.now in
    gathers_none g.H.TreeHash.digest 0 log x x (kept_same x)

pub returns-in-Err-clause-asks : goal.returns-in-Err-clause-asks
returns-in-Err-clause-asks g c =
    AsksNothing (asks_begun g.S.Source.may_answer g.S.Source.failed g.S.Source.asked (λ path. ⊥) c.args.places.now c.begin.new.self
    c.begin.ensures.list)

pub returns-in-Err-clause-keeps : goal.returns-in-Err-clause-keeps
returns-in-Err-clause-keeps g c = λ log head clear.
    let x = g.D.Shelf.puts c.args.shelf.now in
    gathers_none g.H.TreeHash.digest 0 log x x (kept_same x)

pub returns-in-Err-mend_noted-clause-asks : goal.returns-in-Err-mend_noted-clause-asks
returns-in-Err-mend_noted-clause-asks g c =
    AsksFiles c.in-Ok-Some.head.0 c.in-Ok-Some.head.1 (rw c.in-Ok-Some.field-0-is at c.in-Ok-Some.ensures.found)
    (begun_then g.S.Source.may_answer g.S.Source.failed g.S.Source.asked (MayBeAskedToRepair c.in-Ok-Some.head.0) c.args.places.now
    c.begin.new.self c.mend_noted.new.places c.begin.ensures.list c.mend_noted.ensures.asks)

pub returns-in-Err-mend_noted-clause-keeps : goal.returns-in-Err-mend_noted-clause-keeps
returns-in-Err-mend_noted-clause-keeps g c = λ log head clear.
    let may = g.S.Source.may_answer in
    let x = g.D.Shelf.puts c.args.shelf.now in
    let is = rw c.in-Ok-Some.field-0-is at c.in-Ok-Some.ensures.found in
    let one = head_once c.args.note.now c.args.origin.now c.args.origin.now (length log) c.in-Ok-Some.head.0 (mth g.H.TreeHash.digest log)
    c.in-Ok-Some.head.1 head is in
    c.mend_noted.ensures.keeps log one.size_is one.root_is
    (clear_weaker g.H.TreeHash.digest log (MayTake may c.args.places.now x) (MayTake may c.begin.new.self x)
    (λ path bytes h. taken_begun may c.args.places.now c.begin.new.self x c.begin.ensures.list path bytes h) clear)

pub returns-then-all-clause-asks : goal.returns-then-all-clause-asks
returns-then-all-clause-asks g c =
    AsksFiles c.in-Ok-Some.head.0 c.in-Ok-Some.head.1 (rw c.in-Ok-Some.field-0-is at c.in-Ok-Some.ensures.found)
    (begun_then g.S.Source.may_answer g.S.Source.failed g.S.Source.asked (MayBeAskedToRepair c.in-Ok-Some.head.0) c.args.places.now
    c.begin.new.self c.mend_noted.new.places c.begin.ensures.list c.mend_noted.ensures.asks)

pub returns-then-all-clause-keeps : goal.returns-then-all-clause-keeps
returns-then-all-clause-keeps g c = λ log head clear.
    let may = g.S.Source.may_answer in
    let x = g.D.Shelf.puts c.args.shelf.now in
    let is = rw c.in-Ok-Some.field-0-is at c.in-Ok-Some.ensures.found in
    let one = head_once c.args.note.now c.args.origin.now c.args.origin.now (length log) c.in-Ok-Some.head.0 (mth g.H.TreeHash.digest log)
    c.in-Ok-Some.head.1 head is in
    c.mend_noted.ensures.keeps log one.size_is one.root_is
    (clear_weaker g.H.TreeHash.digest log (MayTake may c.args.places.now x) (MayTake may c.begin.new.self x)
    (λ path bytes h. taken_begun may c.args.places.now c.begin.new.self x c.begin.ensures.list path bytes h) clear)

pub returns-else-all-clause-asks : goal.returns-else-all-clause-asks
returns-else-all-clause-asks g c =
    AsksFiles c.in-Ok-Some.head.0 c.in-Ok-Some.head.1 (rw c.in-Ok-Some.field-0-is at c.in-Ok-Some.ensures.found)
    (begun_then g.S.Source.may_answer g.S.Source.failed g.S.Source.asked (MayBeAskedToRepair c.in-Ok-Some.head.0) c.args.places.now
    c.begin.new.self c.mend_noted.new.places c.begin.ensures.list c.mend_noted.ensures.asks)

pub returns-else-all-clause-keeps : goal.returns-else-all-clause-keeps
returns-else-all-clause-keeps g c = λ log head clear.
    let may = g.S.Source.may_answer in
    let x = g.D.Shelf.puts c.args.shelf.now in
    let is = rw c.in-Ok-Some.field-0-is at c.in-Ok-Some.ensures.found in
    let one = head_once c.args.note.now c.args.origin.now c.args.origin.now (length log) c.in-Ok-Some.head.0 (mth g.H.TreeHash.digest log)
    c.in-Ok-Some.head.1 head is in
    c.mend_noted.ensures.keeps log one.size_is one.root_is
    (clear_weaker g.H.TreeHash.digest log (MayTake may c.args.places.now x) (MayTake may c.begin.new.self x)
    (λ path bytes h. taken_begun may c.args.places.now c.begin.new.self x c.begin.ensures.list path bytes h) clear)

pub returns-then-all-clause-goes_on : goal.returns-then-all-clause-goes_on
returns-then-all-clause-goes_on g c = λ log short head clear.
    let may = g.S.Source.may_answer in
    let digest = g.H.TreeHash.digest in
    let p = c.args.places.now in
    let b = c.begin.new.self in
    let q = c.mend_noted.new.places in
    let x = g.D.Shelf.puts c.args.shelf.now in
    let y = g.D.Shelf.puts c.mend_noted.new.shelf in
    let is = rw c.in-Ok-Some.field-0-is at c.in-Ok-Some.ensures.found in
    let one = head_once c.args.note.now c.args.origin.now c.args.origin.now (length log) c.in-Ok-Some.head.0 (mth digest log)
    c.in-Ok-Some.head.1 head is in
    over_begun may digest log p b q c.begin.ensures.list x y (c.in-Ok.ensures.goes_on log short one.size_is one.root_is
    (clear_weaker digest log (MayTake may p x) (MayTake may b x)
    (λ path bytes h. taken_begun may p b x c.begin.ensures.list path bytes h) clear))

pub returns-else-all-clause-goes_on : goal.returns-else-all-clause-goes_on
returns-else-all-clause-goes_on g c =
    let may = g.S.Source.may_answer in
    let digest = g.H.TreeHash.digest in
    let p = c.args.places.now in
    let b = c.begin.new.self in
    let q = c.mend_noted.new.places in
    let x = g.D.Shelf.puts c.args.shelf.now in
    let y = g.D.Shelf.puts c.mend_noted.new.shelf in
    at_lack (Unit {0}) q c.lack_of.result _ c.lack_of.ensures.is (λ log short head clear.
    let is = rw c.in-Ok-Some.field-0-is at c.in-Ok-Some.ensures.found in
    let one = head_once c.args.note.now c.args.origin.now c.args.origin.now (length log) c.in-Ok-Some.head.0 (mth digest log)
    c.in-Ok-Some.head.1 head is in
    over_begun may digest log p b q c.begin.ensures.list x y (c.in-Ok.ensures.goes_on log short one.size_is one.root_is
    (clear_weaker digest log (MayTake may p x) (MayTake may b x)
    (λ path bytes h. taken_begun may p b x c.begin.ensures.list path bytes h) clear)))

pub returns-in-Err-mend_noted-clause-goes_on : goal.returns-in-Err-mend_noted-clause-goes_on
returns-in-Err-mend_noted-clause-goes_on g c = at_spared (Unit {0}) _ _ c.in-Err-mend_noted.ensures.spared

pub returns-then-all-clause-names : goal.returns-then-all-clause-names
returns-then-all-clause-names g c = λ log short head clear.
    let may = g.S.Source.may_answer in
    let digest = g.H.TreeHash.digest in
    let p = c.args.places.now in
    let b = c.begin.new.self in
    let x = g.D.Shelf.puts c.args.shelf.now in
    let is = rw c.in-Ok-Some.field-0-is at c.in-Ok-Some.ensures.found in
    let one = head_once c.args.note.now c.args.origin.now c.args.origin.now (length log) c.in-Ok-Some.head.0 (mth digest log)
    c.in-Ok-Some.head.1 head is in
    c.in-Ok.ensures.names log short one.size_is one.root_is
    (clear_weaker digest log (MayTake may p x) (MayTake may b x)
    (λ path bytes h. taken_begun may p b x c.begin.ensures.list path bytes h) clear)

pub returns-else-all-clause-names : goal.returns-else-all-clause-names
returns-else-all-clause-names g c =
    let may = g.S.Source.may_answer in
    let digest = g.H.TreeHash.digest in
    let p = c.args.places.now in
    let b = c.begin.new.self in
    let x = g.D.Shelf.puts c.args.shelf.now in
    at_lack (Unit {0}) c.mend_noted.new.places c.lack_of.result _ c.lack_of.ensures.is (λ log short head clear.
    let is = rw c.in-Ok-Some.field-0-is at c.in-Ok-Some.ensures.found in
    let one = head_once c.args.note.now c.args.origin.now c.args.origin.now (length log) c.in-Ok-Some.head.0 (mth digest log)
    c.in-Ok-Some.head.1 head is in
    c.in-Ok.ensures.names log short one.size_is one.root_is
    (clear_weaker digest log (MayTake may p x) (MayTake may b x)
    (λ path bytes h. taken_begun may p b x c.begin.ensures.list path bytes h) clear))

pub returns-in-Err-mend_noted-clause-names : goal.returns-in-Err-mend_noted-clause-names
returns-in-Err-mend_noted-clause-names g c = at_spared (Unit {0}) _ _ c.in-Err-mend_noted.ensures.spared
