use Rattle.std.proofs.lemmas.Result.{err_from_is_err_and}
use Rattle.copy_follow.specs.Asked.{MayBeAsked}
use Rattle.copy_follow.specs.AskedForCopy.{AsksFiles, AsksNothing}
use Rattle.std.proofs.Common.{◌∙◌, subst, sym, take, IsFalse}
use Rattle.copy_follow.specs.AskedForCopy.{AreEnds}
use Rattle.copy_places.specs.EndTiles.{IsKept}
use Rattle.copy_follow.specs.Pruned.{HadSize}
use Rattle.copy_follow.proofs.Damages.{not_damaged_later, tip_damaged}
use Rattle.copy_follow.proofs.OneHonest.{ended_for, read_fails}
use Rattle.copy_follow.proofs.Begun.{asks_begun, begun_then, blames_from, blames_tip, refuses_from, refuses_tip}
use Rattle.copy_follow.proofs.Growth.{kept_same}
use Rattle.copy_follow.proofs.Others.{in_use_later, tip_in_use}
use Rattle.copy_follow.proofs.Stays.{stays_same}
use Rattle.copy_follow.specs.declared.bring_fault.BringFault.TheVariants.{BadCheckpoint}
use Rattle.copy_follow.proofs.PrunedMoments.{had_pruned, leaves_err, leaves_ok, leaves_same}
use Rattle.copy_follow.proofs.WholeMoments.{had_size, whole_same}
use Rattle.copy_follow.proofs.Earlier.{no_conflict}
use Rattle.copy_follow.proofs.EmptyTips.{has_conflict}
use Rattle.copy_places.proofs.AskingOnce.{begun_once, once_begun}
use Rattle.std.specs.Prelude.{⊤}
use Rattle.std.proofs.Common.{inl, inr, refl, ℕ, Err}
use Rattle.std.specs.Prelude.{option_map}
use Rattle.copy_follow.proofs.Compared.{over_found, over_tip}
use Rattle.std.proofs.lemmas.Result.{IfOk-from_err}
use Rattle.copy_follow.specs.declared.bring_fault.BringFault.TheVariants.{OutOfMemory}
use Rattle.copy_follow.proofs.Earlier.{kept_then}
use Rattle.copy_follow.proofs.Exits.{counted_exit, err_exit}
use Rattle.copy_follow.specs.Faults.{CountsFault}
use Rattle.copy_follow.specs.Told.{AreSizesIn, IsSizeIn}
use Rattle.copy_follow.proofs.Telling.{tip_files}
use Rattle.copy_places.proofs.Answered.{answered_begun}
use Rattle.copy_follow.specs.Secured.{IsNewFileOf}
use Rattle.copy_follow.proofs.Secured.{flushed_after}
use Rattle.copy_follow.proofs.Differing.{explained}
use Rattle.copy_follow.proofs.copy.bring_copy.Goals as goal

pub returns-in_err-head-clause-whole : goal.returns-in_err-head-clause-whole
returns-in_err-head-clause-whole g c =
    let x = g.D.Shelf.puts c.args.shelf.now in
    whole_same g.H.TreeHash.digest c.args.origin.now c.args.note.now x x (kept_same x)

pub returns-in_default-clause-whole : goal.returns-in_default-clause-whole
returns-in_default-clause-whole g c =
    let x = g.D.Shelf.puts c.args.shelf.now in
    whole_same g.H.TreeHash.digest c.args.origin.now c.args.note.now x x (kept_same x)

pub returns-in-Err-clause-whole : goal.returns-in-Err-clause-whole
returns-in-Err-clause-whole g c =
    whole_same g.H.TreeHash.digest c.args.origin.now c.args.note.now (g.D.Shelf.puts c.args.shelf.now)
    (g.D.Shelf.puts c.read_found.new.shelf) c.read_found.ensures.same

pub returns-in_err-head-clause-stays : goal.returns-in_err-head-clause-stays
returns-in_err-head-clause-stays g c =
    let p = err_from_is_err_and c.from_residual.result c.from_residual.ensures.1 in
    let x = g.D.Shelf.puts c.args.shelf.now in
    rw p.1 (stays_same g.H.TreeHash.digest c.args.origin.now x x (kept_same x))

pub returns-in_default-clause-stays : goal.returns-in_default-clause-stays
returns-in_default-clause-stays g c =
    let x = g.D.Shelf.puts c.args.shelf.now in
    stays_same g.H.TreeHash.digest c.args.origin.now x x (kept_same x)

pub returns-in-Err-clause-stays : goal.returns-in-Err-clause-stays
returns-in-Err-clause-stays g c =
    (stays_same g.H.TreeHash.digest c.args.origin.now (g.D.Shelf.puts c.args.shelf.now)
    (g.D.Shelf.puts c.read_found.new.shelf) c.read_found.ensures.same)

pub returns-in-Ok-done-clause-had : goal.returns-in-Ok-done-clause-had
returns-in-Ok-done-clause-had g c =
    rw c.size-had.ensures (had_size g.H.TreeHash.digest c.args.origin.now c.in-Ok.tip
    (g.D.Shelf.puts c.args.shelf.now) c.in-Ok.ensures.tip)

pub returns-in_err-head-clause-asks : goal.returns-in_err-head-clause-asks
returns-in_err-head-clause-asks g c =
    AsksNothing (asks_begun g.S.Source.may_answer g.S.Source.failed g.S.Source.asked (λ path. ⊥) c.args.places.now c.begin.new.self c.begin.ensures.list)

pub returns-in_default-clause-asks : goal.returns-in_default-clause-asks
returns-in_default-clause-asks g c =
    AsksNothing (asks_begun g.S.Source.may_answer g.S.Source.failed g.S.Source.asked (λ path. ⊥) c.args.places.now c.begin.new.self c.begin.ensures.list)

pub returns-in-Err-clause-asks : goal.returns-in-Err-clause-asks
returns-in-Err-clause-asks g c =
    AsksNothing (asks_begun g.S.Source.may_answer g.S.Source.failed g.S.Source.asked (λ path. ⊥) c.args.places.now c.begin.new.self c.begin.ensures.list)

pub returns-in-Err-done-clause-asks : goal.returns-in-Err-done-clause-asks
returns-in-Err-done-clause-asks g c =
    let tip = c.in-Ok.tip in
    let head = c.in-Some.head in
    AsksFiles tip.size head.0 head.1
    (had_size g.H.TreeHash.digest c.args.origin.now tip (g.D.Shelf.puts c.args.shelf.now) c.in-Ok.ensures.tip)
    (rw c.in-Some.is at c.in_ok-head.ensures.found)
    (begun_then g.S.Source.may_answer g.S.Source.failed g.S.Source.asked (MayBeAsked tip.size head.0) c.args.places.now c.keep_ends.new.self c.bring_from-done.new.places
    (c.keep_ends.ensures.list ∙ c.begin.ensures.list) c.bring_from-done.ensures.asks)

pub returns-in-Ok-done-clause-asks : goal.returns-in-Ok-done-clause-asks
returns-in-Ok-done-clause-asks g c =
    let tip = c.in-Ok.tip in
    let head = c.in-Some.head in
    AsksFiles tip.size head.0 head.1
    (had_size g.H.TreeHash.digest c.args.origin.now tip (g.D.Shelf.puts c.args.shelf.now) c.in-Ok.ensures.tip)
    (rw c.in-Some.is at c.in_ok-head.ensures.found)
    (begun_then g.S.Source.may_answer g.S.Source.failed g.S.Source.asked (MayBeAsked tip.size head.0) c.args.places.now c.keep_ends.new.self c.bring_from-done.new.places
    (c.keep_ends.ensures.list ∙ c.begin.ensures.list) c.bring_from-done.ensures.asks)

pub returns-in-Err-done-clause-blames : goal.returns-in-Err-done-clause-blames
returns-in-Err-done-clause-blames g c =
    (blames_from g.S.Source.may_answer g.S.Source.failed g.S.Source.asked (MayBeAsked c.in-Ok.tip.size c.in-Some.head.0) c.args.places.now
    c.keep_ends.new.self c.bring_from-done.new.places g.H.TreeHash.digest c.in-Some.head.0 c.in-Ok.tip
    (g.D.Shelf.puts c.read_found.new.shelf) c.in-Err-done.fault
    (c.keep_ends.ensures.list ∙ c.begin.ensures.list) (subst (λ b. IsFalse b) (sym c.keep_ends.ensures.failed) c.begin.ensures.failed) c.bring_from-done.ensures.asks c.in-Err-done.ensures.blames)

pub returns-in_default-clause-refuses : goal.returns-in_default-clause-refuses
returns-in_default-clause-refuses g c = rw c.in_default.is at c.in_ok-head.ensures.none

pub returns-in-Err-clause-refuses : goal.returns-in-Err-clause-refuses
returns-in-Err-clause-refuses g c =
    (refuses_tip g.H.TreeHash.digest c.args.origin.now c.args.note.now (g.D.Shelf.puts c.args.shelf.now)
    c.in-Err.fault c.in-Err.ensures.blames)

pub returns-in-Err-done-clause-refuses : goal.returns-in-Err-done-clause-refuses
returns-in-Err-done-clause-refuses g c =
    let tip = c.in-Ok.tip in
    let head = c.in-Some.head in
    (refuses_from g.H.TreeHash.digest c.args.origin.now c.args.note.now (g.D.Shelf.puts c.args.shelf.now)
    c.bring_from-done.new.places tip (g.D.Shelf.puts c.read_found.new.shelf) head.0 head.1 c.in-Err-done.fault
    c.in-Ok.ensures.tip
    (had_size g.H.TreeHash.digest c.args.origin.now tip (g.D.Shelf.puts c.args.shelf.now) c.in-Ok.ensures.tip)
    (rw c.in-Some.is at c.in_ok-head.ensures.found) c.in-Err-done.ensures.blames)

pub returns-in-Err-clause-in_use : goal.returns-in-Err-clause-in_use
returns-in-Err-clause-in_use g c =
    (tip_in_use g.H.TreeHash.digest c.args.origin.now (option_map (λ b. b.now) c.args.found) (g.D.Shelf.puts c.args.shelf.now)
    c.in-Err.fault c.in-Err.ensures.blames)

pub returns-in-Err-done-clause-in_use : goal.returns-in-Err-done-clause-in_use
returns-in-Err-done-clause-in_use g c =
    λ is. inl (in_use_later g.H.TreeHash.digest c.args.origin.now c.bring_from-done.new.places c.in-Ok.tip
    c.in-Some.head.0 (g.D.Shelf.puts c.args.shelf.now) (g.D.Shelf.puts c.read_found.new.shelf) c.in-Err-done.fault
    c.read_found.ensures.same c.in-Ok.ensures.tip c.in-Err-done.ensures.blames is)

pub returns-in_default-clause-suffices : goal.returns-in_default-clause-suffices
returns-in_default-clause-suffices g c = λ read h.
    let none = rw c.in_default.is at c.in_ok-head.ensures.none in absurd (none h.size h.root h.is_head)

pub returns-in-Err-clause-suffices : goal.returns-in-Err-clause-suffices
returns-in-Err-clause-suffices g c = λ read h.
    (read_fails g.H.TreeHash.digest c.args.origin.now (take h.size h.entries) (g.D.Shelf.puts c.args.shelf.now)
    (option_map (λ b. b.now) c.args.found) c.in-Err.fault read h.holds c.in-Err.ensures.blames c.in-Err.ensures.fault)

pub returns-in-Err-done-clause-suffices : goal.returns-in-Err-done-clause-suffices
returns-in-Err-done-clause-suffices g c = λ read h.
    let digest = g.H.TreeHash.digest in
    let origin = c.args.origin.now in
    let tip = c.in-Ok.tip in
    let head = c.in-Some.head in
    let x = g.D.Shelf.puts c.args.shelf.now in
    let y = g.D.Shelf.puts c.read_found.new.shelf in
    (ended_for digest g.S.Source.may_answer origin c.args.note.now x y c.args.places.now c.keep_ends.new.self
    c.bring_from-done.new.places (c.keep_ends.ensures.list ∙ c.begin.ensures.list) c.read_found.ensures.same tip c.in-Ok.ensures.tip head.0 head.1
    (rw c.in-Some.is at c.in_ok-head.ensures.found) c.in-Err-done.fault c.in-Err-done.ensures.blames
    c.in-Err-done.ensures.honest h)

pub returns-in-Err-clause-damaged : goal.returns-in-Err-clause-damaged
returns-in-Err-clause-damaged g c =
    (tip_damaged c.in-Err.fault c.in-Err.ensures.blames)

pub returns-in-Err-done-clause-damaged : goal.returns-in-Err-done-clause-damaged
returns-in-Err-done-clause-damaged g c =
    (not_damaged_later g.H.TreeHash.digest c.bring_from-done.new.places c.in-Some.head.0 c.in-Ok.tip
    (g.D.Shelf.puts c.read_found.new.shelf) c.in-Err-done.fault c.in-Err-done.ensures.blames)

pub returns-in-Err-clause-blames : goal.returns-in-Err-clause-blames
returns-in-Err-clause-blames g c =
    (blames_tip g.S.Source.may_answer g.S.Source.failed g.S.Source.asked c.args.places.now c.begin.new.self
    c.in-Err.fault c.in-Err.ensures.blames)

pub returns-in_err-head-clause-pruned : goal.returns-in_err-head-clause-pruned
returns-in_err-head-clause-pruned g c =
    let p = err_from_is_err_and c.from_residual.result c.from_residual.ensures.1 in
    let x = g.D.Shelf.puts c.args.shelf.now in
    rw p.1 (leaves_same g.H.TreeHash.digest c.args.origin.now c.args.note.now x x (kept_same x) p.0)

pub returns-in_default-clause-pruned : goal.returns-in_default-clause-pruned
returns-in_default-clause-pruned g c =
    let x = g.D.Shelf.puts c.args.shelf.now in
    leaves_same g.H.TreeHash.digest c.args.origin.now c.args.note.now x x (kept_same x) BadCheckpoint

pub returns-in-Err-clause-pruned : goal.returns-in-Err-clause-pruned
returns-in-Err-clause-pruned g c =
    (leaves_same g.H.TreeHash.digest c.args.origin.now c.args.note.now (g.D.Shelf.puts c.args.shelf.now)
    (g.D.Shelf.puts c.read_found.new.shelf) c.read_found.ensures.same c.in-Err.fault)

pub returns-in-Err-done-clause-pruned : goal.returns-in-Err-done-clause-pruned
returns-in-Err-done-clause-pruned g c =
    let x = g.D.Shelf.puts c.args.shelf.now in
    let w = g.D.Shelf.puts c.bring_from-done.new.shelf in
    let left = (c.in-Err-done.ensures.brings x c.read_found.ensures.same c.in-Ok.ensures.tip).3 in
    (leaves_err g.H.TreeHash.digest c.args.origin.now c.args.note.now x w c.in-Err-done.fault c.in-Err-done.fault left)

pub returns-in-Ok-done-clause-pruned : goal.returns-in-Ok-done-clause-pruned
returns-in-Ok-done-clause-pruned g c =
    let x = g.D.Shelf.puts c.args.shelf.now in
    let w = g.D.Shelf.puts c.bring_from-done.new.shelf in
    let left = (c.in-Ok-done.ensures.brings x c.read_found.ensures.same c.in-Ok.ensures.tip).3 in
    leaves_ok g.H.TreeHash.digest c.args.origin.now c.args.note.now x w _ c.size-had.result left

pub returns-in-Ok-done-clause-had_pruned : goal.returns-in-Ok-done-clause-had_pruned
returns-in-Ok-done-clause-had_pruned g c =
    rw c.size-had.ensures (had_pruned g.H.TreeHash.digest c.args.origin.now c.in-Ok.tip
    (g.D.Shelf.puts c.args.shelf.now) c.in-Ok.ensures.tip)

pub returns-in-Err-clause-conflicts : goal.returns-in-Err-clause-conflicts
returns-in-Err-clause-conflicts g c =
    (λ conflict. no_conflict c.in-Err.fault _ c.in-Err.ensures.fault conflict)

pub returns-in-Err-done-clause-conflicts : goal.returns-in-Err-done-clause-conflicts
returns-in-Err-done-clause-conflicts g c =
    let head = c.in-Some.head in
    (λ conflict. has_conflict g.H.TreeHash.digest c.args.origin.now c.args.note.now
    (g.D.Shelf.puts c.args.shelf.now) c.in-Ok.tip head.0 head.1 c.in-Err-done.fault c.in-Ok.ensures.tip
    (rw c.in-Some.is at c.in_ok-head.ensures.found) c.in-Err-done.ensures.empty conflict)

pub returns-in_err-head-clause-once : goal.returns-in_err-head-clause-once
returns-in_err-head-clause-once g c =
    once_begun g.S.Source.asked (IsKept c.begin.new.self) c.args.places.now c.begin.new.self c.begin.ensures.list

pub returns-in_default-clause-once : goal.returns-in_default-clause-once
returns-in_default-clause-once g c =
    once_begun g.S.Source.asked (IsKept c.begin.new.self) c.args.places.now c.begin.new.self c.begin.ensures.list

pub returns-in-Err-clause-once : goal.returns-in-Err-clause-once
returns-in-Err-clause-once g c =
    once_begun g.S.Source.asked (IsKept c.begin.new.self) c.args.places.now c.begin.new.self c.begin.ensures.list

pub returns-in-Err-done-clause-once : goal.returns-in-Err-done-clause-once
returns-in-Err-done-clause-once g c =
    begun_once g.S.Source.asked (λ k path. ⊤) c.args.places.now c.keep_ends.new.self c.bring_from-done.new.places
    (c.keep_ends.ensures.list ∙ c.begin.ensures.list) c.bring_from-done.ensures.once

pub returns-in-Ok-done-clause-once : goal.returns-in-Ok-done-clause-once
returns-in-Ok-done-clause-once g c =
    begun_once g.S.Source.asked (λ k path. ⊤) c.args.places.now c.keep_ends.new.self c.bring_from-done.new.places
    (c.keep_ends.ensures.list ∙ c.begin.ensures.list) c.bring_from-done.ensures.once

pub returns-in-Err-clause-ends : goal.returns-in-Err-clause-ends
returns-in-Err-clause-ends g c =
    (λ conflict. no_conflict c.in-Err.fault _ c.in-Err.ensures.fault conflict)

pub returns-in-Err-done-clause-ends : goal.returns-in-Err-done-clause-ends
returns-in-Err-done-clause-ends g c =
    let digest = g.H.TreeHash.digest in
    let origin = c.args.origin.now in
    let note = c.args.note.now in
    let x = g.D.Shelf.puts c.args.shelf.now in
    let head = c.in-Some.head in
    let had = subst (λ n. HadSize digest origin x n) (sym c.size-had.ensures)
    (had_size digest origin c.in-Ok.tip x c.in-Ok.ensures.tip) in
    (λ conflict. subst (λ sizes. AreEnds digest origin note x sizes)
    (sym (c.bring_from-done.ensures.once.still.sizes_are ∙ c.keep_ends.ensures.ends)) (record {
      root = head.1;
      had_is = had;
      is_head = rw c.in-Some.is at c.in_ok-head.ensures.found;
    }))

-- ---- what a fault says

pub returns-in_err-head-clause-counted : goal.returns-in_err-head-clause-counted
returns-in_err-head-clause-counted g c =
    counted_exit c.from_residual.result OutOfMemory c.from_residual.ensures (g.D.Shelf.failed c.args.shelf.now)
    (g.D.Shelf.failed c.args.shelf.now) (g.D.Shelf.failed c.args.shelf.now) refl (λ i. g.D.Shelf.failed c.args.shelf.now)

pub returns-in_err-head-clause-blames : goal.returns-in_err-head-clause-blames
returns-in_err-head-clause-blames g c =
    err_exit _ c.from_residual.result OutOfMemory c.from_residual.ensures tt

pub returns-in_err-head-clause-refuses : goal.returns-in_err-head-clause-refuses
returns-in_err-head-clause-refuses g c =
    err_exit _ c.from_residual.result OutOfMemory c.from_residual.ensures tt

pub returns-in_err-head-clause-in_use : goal.returns-in_err-head-clause-in_use
returns-in_err-head-clause-in_use g c =
    err_exit _ c.from_residual.result OutOfMemory c.from_residual.ensures (λ is. absurd (cc is))

pub returns-in_err-head-clause-damaged : goal.returns-in_err-head-clause-damaged
returns-in_err-head-clause-damaged g c =
    err_exit _ c.from_residual.result OutOfMemory c.from_residual.ensures (λ is. absurd (cc is))

pub returns-in_err-head-clause-suffices : goal.returns-in_err-head-clause-suffices
returns-in_err-head-clause-suffices g c =
    λ read h. err_exit _ c.from_residual.result OutOfMemory c.from_residual.ensures (inr refl)

pub returns-in_err-head-clause-had : goal.returns-in_err-head-clause-had
returns-in_err-head-clause-had g c =
    IfOk-from_err c.from_residual.result _ c.from_residual.ensures.0

pub returns-in_err-head-clause-had_pruned : goal.returns-in_err-head-clause-had_pruned
returns-in_err-head-clause-had_pruned g c =
    IfOk-from_err c.from_residual.result _ c.from_residual.ensures.0

pub returns-in_err-head-clause-conflict : goal.returns-in_err-head-clause-conflict
returns-in_err-head-clause-conflict g c =
    err_exit _ c.from_residual.result OutOfMemory c.from_residual.ensures (λ no. absurd no)

pub returns-in_err-head-clause-conflicts : goal.returns-in_err-head-clause-conflicts
returns-in_err-head-clause-conflicts g c =
    err_exit _ c.from_residual.result OutOfMemory c.from_residual.ensures (λ no. absurd no)

pub returns-in_err-head-clause-ends : goal.returns-in_err-head-clause-ends
returns-in_err-head-clause-ends g c =
    err_exit _ c.from_residual.result OutOfMemory c.from_residual.ensures (λ no. absurd no)

pub returns-in-Err-clause-counted : goal.returns-in-Err-clause-counted
returns-in-Err-clause-counted g c =
    c.in-Err.ensures.counted

pub returns-in-Err-clause-had : goal.returns-in-Err-clause-had
returns-in-Err-clause-had g c =
    tt

pub returns-in-Err-clause-had_pruned : goal.returns-in-Err-clause-had_pruned
returns-in-Err-clause-had_pruned g c =
    tt

pub returns-in-Err-clause-conflict : goal.returns-in-Err-clause-conflict
returns-in-Err-clause-conflict g c =
    (λ no. c.read_found.ensures.same)

pub returns-in-Err-done-clause-counted : goal.returns-in-Err-done-clause-counted
returns-in-Err-done-clause-counted g c =
    (subst (λ n. CountsFault n (g.D.Shelf.failed c.bring_from-done.new.shelf) c.in-Err-done.fault) c.in-Ok.ensures.counted c.in-Err-done.ensures.counted)

pub returns-in-Err-done-clause-had : goal.returns-in-Err-done-clause-had
returns-in-Err-done-clause-had g c =
    tt

pub returns-in-Err-done-clause-had_pruned : goal.returns-in-Err-done-clause-had_pruned
returns-in-Err-done-clause-had_pruned g c =
    tt

pub returns-in-Err-done-clause-conflict : goal.returns-in-Err-done-clause-conflict
returns-in-Err-done-clause-conflict g c =
    (λ no. kept_then (g.D.Shelf.puts c.args.shelf.now) (g.D.Shelf.puts c.read_found.new.shelf)
    (g.D.Shelf.puts c.bring_from-done.new.shelf) c.read_found.ensures.same (c.in-Err-done.ensures.conflict no))

pub returns-in-Err-done-clause-whole : goal.returns-in-Err-done-clause-whole
returns-in-Err-done-clause-whole g c =
    (c.in-Err-done.ensures.brings (g.D.Shelf.puts c.args.shelf.now) c.read_found.ensures.same c.in-Ok.ensures.tip).0

pub returns-in-Err-done-clause-stays : goal.returns-in-Err-done-clause-stays
returns-in-Err-done-clause-stays g c =
    (c.in-Err-done.ensures.brings (g.D.Shelf.puts c.args.shelf.now) c.read_found.ensures.same c.in-Ok.ensures.tip).2

pub returns-in_err-head-clause-compared : goal.returns-in_err-head-clause-compared
returns-in_err-head-clause-compared g c =
    let p = err_from_is_err_and c.from_residual.result c.from_residual.ensures.1 in
    rw (p.1, p.2) tt

pub returns-in_default-clause-compared : goal.returns-in_default-clause-compared
returns-in_default-clause-compared g c =
    tt

pub returns-in-Err-clause-compared : goal.returns-in-Err-clause-compared
returns-in-Err-clause-compared g c =
    over_tip (g.D.Shelf.puts c.args.shelf.now) (option_map (λ b. b.now) c.args.found) ℕ g.H.TreeHash.digest c.args.origin.now
    c.in-Err.fault c.in-Err.ensures.blames c.in-Err.ensures.fault

pub returns-in-Err-done-clause-compared : goal.returns-in-Err-done-clause-compared
returns-in-Err-done-clause-compared g c =
    over_found (g.D.Shelf.puts c.args.shelf.now) (option_map (λ b. b.now) c.args.found) {T = ℕ} (Err c.in-Err-done.fault) c.in-Ok.ensures.compared

pub returns-in-Ok-done-clause-compared : goal.returns-in-Ok-done-clause-compared
returns-in-Ok-done-clause-compared g c =
    c.in-Ok.ensures.compared

-- ---- the sizes in the notes

pub returns-in_err-head-clause-sizes : goal.returns-in_err-head-clause-sizes
returns-in_err-head-clause-sizes g c =
    err_exit _ c.from_residual.result OutOfMemory c.from_residual.ensures (λ no. absurd no)

pub returns-in_default-clause-sizes : goal.returns-in_default-clause-sizes
returns-in_default-clause-sizes g c = λ no. absurd no

pub returns-in-Err-clause-sizes : goal.returns-in-Err-clause-sizes
returns-in-Err-clause-sizes g c =
    (λ of. tip_files _ g.H.TreeHash.digest c.args.origin.now (option_map (λ b. b.now) c.args.found)
    (g.D.Shelf.puts c.args.shelf.now) c.in-Err.fault c.in-Err.ensures.blames c.in-Err.ensures.fault of)

pub returns-in-Err-done-clause-sizes : goal.returns-in-Err-done-clause-sizes
returns-in-Err-done-clause-sizes g c =
    let origin = c.args.origin.now in
    let note = c.args.note.now in
    let found = option_map (λ b. b.now) c.args.found in
    let head = c.in-Some.head in
    (λ of. subst (λ sizes. AreSizesIn origin found note sizes)
    (sym (c.bring_from-done.ensures.once.still.sizes_are ∙ c.keep_ends.ensures.ends)) (
      subst (λ n. IsSizeIn origin found n) (sym c.size-had.ensures) c.in-Ok.ensures.size,
      (head.1, rw c.in-Some.is at c.in_ok-head.ensures.found),
    ))

-- ---- the answers that are kept

pub returns-in_err-head-clause-answered : goal.returns-in_err-head-clause-answered
returns-in_err-head-clause-answered g c =
    err_exit _ c.from_residual.result OutOfMemory c.from_residual.ensures (λ no. absurd no)

pub returns-in_default-clause-answered : goal.returns-in_default-clause-answered
returns-in_default-clause-answered g c = λ no. absurd no

pub returns-in-Err-clause-answered : goal.returns-in-Err-clause-answered
returns-in-Err-clause-answered g c =
    (λ of. tip_files _ g.H.TreeHash.digest c.args.origin.now (option_map (λ b. b.now) c.args.found)
    (g.D.Shelf.puts c.args.shelf.now) c.in-Err.fault c.in-Err.ensures.blames c.in-Err.ensures.fault of)

pub returns-in-Err-done-clause-answered : goal.returns-in-Err-done-clause-answered
returns-in-Err-done-clause-answered g c =
    let may = g.S.Source.may_answer in
    (λ of. answered_begun may c.args.places.now c.keep_ends.new.self c.bring_from-done.new.places
    (c.keep_ends.ensures.list ∙ c.begin.ensures.list) c.keep_ends.ensures.none c.bring_from-done.ensures.asks.answered)

-- ---- the files that were flushed

pub returns-in_err-head-clause-flushed : goal.returns-in_err-head-clause-flushed
returns-in_err-head-clause-flushed g c =
    IfOk-from_err c.from_residual.result _ c.from_residual.ensures.0

pub returns-in-Err-clause-flushed : goal.returns-in-Err-clause-flushed
returns-in-Err-clause-flushed g c =
    tt

pub returns-in-Err-done-clause-flushed : goal.returns-in-Err-done-clause-flushed
returns-in-Err-done-clause-flushed g c =
    tt

pub returns-in-Ok-done-clause-flushed : goal.returns-in-Ok-done-clause-flushed
returns-in-Ok-done-clause-flushed g c =
    let flushes = g.D.Shelf.flushes in
    let head = c.in-Some.head in
    rw c.size-had.ensures record {
      size = head.0;
      root = head.1;
      is_head = (rw c.in-Some.is at c.in_ok-head.ensures.found);
      flushed = flushed_after (IsNewFileOf c.in-Ok.tip.size head.0) (flushes c.args.shelf.now) (flushes c.read_found.new.shelf)
          (flushes c.bring_from-done.new.shelf) c.read_found.ensures.still c.in-Ok-done.ensures.flushed;
    }

-- ---- what differs

pub returns-in-Err-clause-explained : goal.returns-in-Err-clause-explained
returns-in-Err-clause-explained g c = λ conflict. no_conflict c.in-Err.fault _ c.in-Err.ensures.fault conflict

pub returns-in-Err-done-clause-explained : goal.returns-in-Err-done-clause-explained
returns-in-Err-done-clause-explained g c = λ conflict.
    explained g.H.TreeHash.digest c.args.origin.now c.args.note.now (g.D.Shelf.puts c.args.shelf.now) c.in-Ok.tip c.in-Some.head.0
    c.in-Some.head.1 c.in-Err-done.fault c.in-Ok.ensures.tip (rw c.in-Some.is at c.in_ok-head.ensures.found)
    (c.in-Err-done.ensures.differs conflict)

pub returns-in_err-head-clause-explained : goal.returns-in_err-head-clause-explained
returns-in_err-head-clause-explained g c =
    err_exit _ c.from_residual.result OutOfMemory c.from_residual.ensures (λ no. absurd no)
