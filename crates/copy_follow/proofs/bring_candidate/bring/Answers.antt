use Rattle.std.proofs.Common.{◌≡◌, ◌⊎◌, subst, sym, ℕ, Ok, Err}
use Rattle.std.specs.Prelude.{option_map}
use Rattle.copy_follow.specs.Faults.{IsOtherFound}
use Rattle.copy_follow.specs.AskedForCopy.{RefusesNote}
use Rattle.copy_follow.specs.declared.bring_fault.BringFault.TheVariants.{CopyDamaged}
use Rattle.copy_follow.specs.OneHonest.{IsHonestNote}
use Rattle.copy_follow.specs.Conflicts.{HasConflict}
use Rattle.copy_follow.specs.Moments.{IsBroughtTo, KeepsCopy}
use Rattle.copy_follow.specs.declared.bring_fault.BringFault.{BringFault}
use Rattle.copy_follow.specs.Pruned.{LeavesPruned}
use Rattle.copy_follow.specs.Ending.{IsOfOtherRun}
use Rattle.copy_follow.specs.RunStanding.{HoldsNoCopy, HoldsNoSmaller}
use Rattle.copy_follow.proofs.Blame.{any_copied}
use Rattle.copy_follow.proofs.Ending.{brought_damaged, ends_if, no_smaller, turned_conflict, turned_fails, turned_spares}
use Rattle.copy_follow.proofs.Taken.{larger_above}
use Rattle.copy_follow.proofs.OneHonestRun.{honest_note}
use Rattle.copy_follow.proofs.Runs.{each_one}
use Rattle.copy_follow.proofs.Standing.{brought_after, stayed_after, turned_after}
use Rattle.copy_follow.specs.Told.{AreSizesIn, IsOfFiles}
use Rattle.copy_follow.proofs.Telling.{sized_turn}
use Rattle.std.proofs.Common.{refl}
use Rattle.copy_follow.proofs.bring_candidate.bring.Goals as goal

pub returns-in-Ok-clause-keeps : goal.returns-in-Ok-clause-keeps
returns-in-Ok-clause-keeps g c = λ notes listed.
    let digest = g.H.TreeHash.digest in
    let origin = c.args.origin.now in
    let x = g.D.Shelf.puts c.args.shelf.now in
    let w = g.D.Shelf.puts c.bring_copy.new.shelf in
    let note = c.args.candidate.now.note.items in
    each_one digest origin notes note x w c.bring_copy.result listed
    (subst (λ n. KeepsCopy digest origin n x w) c.deref.ensures.value c.bring_copy.ensures.whole)
    (subst (λ n. LeavesPruned digest origin n x w c.bring_copy.result) c.deref.ensures.value c.bring_copy.ensures.pruned)

pub returns-in-Err-clause-keeps : goal.returns-in-Err-clause-keeps
returns-in-Err-clause-keeps g c = λ notes listed.
    let digest = g.H.TreeHash.digest in
    let origin = c.args.origin.now in
    let x = g.D.Shelf.puts c.args.shelf.now in
    let w = g.D.Shelf.puts c.bring_copy.new.shelf in
    let note = c.args.candidate.now.note.items in
    each_one digest origin notes note x w c.bring_copy.result listed
    (subst (λ n. KeepsCopy digest origin n x w) c.deref.ensures.value c.bring_copy.ensures.whole)
    (subst (λ n. LeavesPruned digest origin n x w c.bring_copy.result) c.deref.ensures.value c.bring_copy.ensures.pruned)

pub returns-in-Err-clause-counted : goal.returns-in-Err-clause-counted
returns-in-Err-clause-counted g c =
    c.turn_of.ensures.counted (g.D.Shelf.failed c.args.shelf.now) (g.D.Shelf.failed c.bring_copy.new.shelf)
    c.in-Err.ensures.counted

pub returns-in-Ok-clause-asks : goal.returns-in-Ok-clause-asks
returns-in-Ok-clause-asks g c =
    any_copied g.S.Source.may_answer g.S.Source.failed g.S.Source.asked g.H.TreeHash.digest c.args.origin.now _ _
    c.args.places.now c.bring_copy.new.places c.bring_copy.ensures.asks

pub returns-in-Err-clause-asks : goal.returns-in-Err-clause-asks
returns-in-Err-clause-asks g c =
    any_copied g.S.Source.may_answer g.S.Source.failed g.S.Source.asked g.H.TreeHash.digest c.args.origin.now _ _
    c.args.places.now c.bring_copy.new.places c.bring_copy.ensures.asks

pub returns-in-Err-clause-source : goal.returns-in-Err-clause-source
returns-in-Err-clause-source g c =
    let may = g.S.Source.may_answer in
    let failed = g.S.Source.failed in
    let asked = g.S.Source.asked in
    let asks = any_copied may failed asked g.H.TreeHash.digest c.args.origin.now _ _
    c.args.places.now c.bring_copy.new.places c.bring_copy.ensures.asks in
    turned_fails may failed asked c.args.places.now c.bring_copy.new.places
    c.in-Err.fault c.turn_of.result asks c.in-Err.ensures.blames c.turn_of.ensures.source

pub returns-in-Err-clause-spares : goal.returns-in-Err-clause-spares
returns-in-Err-clause-spares g c =
    turned_spares g.S.Source.may_answer g.S.Source.failed g.S.Source.asked c.args.places.now c.bring_copy.new.places
    c.in-Err.fault c.turn_of.result c.in-Err.ensures.blames c.turn_of.ensures.no_file

pub returns-in-Ok-clause-says : goal.returns-in-Ok-clause-says
returns-in-Ok-clause-says g c = λ digest copy candidate lt. larger_above copy candidate lt

pub returns-in-Err-clause-ends : goal.returns-in-Err-clause-ends
returns-in-Err-clause-ends g c =
    let digest = g.H.TreeHash.digest in
    let origin = c.args.origin.now in
    let candidate = c.args.candidate.now in
    let x = g.D.Shelf.puts c.args.shelf.now in
    ends_if c.turn_of.result (c.in-Err.fault ≡ CopyDamaged) (IsOfOtherRun c.in-Err.fault) (HoldsNoCopy digest origin x)
    (HoldsNoSmaller digest origin candidate.size.0 x ⊎ IsOtherFound (option_map (λ b. b.now) c.args.found) x)
    (brought_damaged digest origin x c.in-Err.fault c.in-Err.ensures.damaged)
    (no_smaller digest origin candidate.note.items candidate.size.0 candidate.root (option_map (λ b. b.now) c.args.found) x
    c.in-Err.fault c.requires
    (subst (λ note. RefusesNote digest origin note x c.in-Err.fault) c.deref.ensures.value c.in-Err.ensures.refuses)
    c.in-Err.ensures.in_use)
    c.turn_of.ensures.ends

pub returns-in-Err-clause-suffices : goal.returns-in-Err-clause-suffices
returns-in-Err-clause-suffices g c = λ read h.
    let digest = g.H.TreeHash.digest in
    let origin = c.args.origin.now in
    let may = g.S.Source.may_answer in
    let x = g.D.Shelf.puts c.args.shelf.now in
    c.turn_of.ensures.suffices (c.in-Err.ensures.suffices read
    (subst (λ note. IsHonestNote digest may x c.args.places.now c.bring_copy.new.places origin note)
    (sym c.deref.ensures.value)
    (honest_note digest may x c.args.places.now c.bring_copy.new.places origin c.args.candidate.now c.requires h)))

pub returns-in-Err-clause-conflicts : goal.returns-in-Err-clause-conflicts
returns-in-Err-clause-conflicts g c =
    let digest = g.H.TreeHash.digest in
    let origin = c.args.origin.now in
    let x = g.D.Shelf.puts c.args.shelf.now in
    turned_conflict digest origin c.args.candidate.now.note.items x c.in-Err.fault c.turn_of.result
    (λ conflict. subst (λ n. HasConflict digest origin n x) c.deref.ensures.value (c.in-Err.ensures.conflicts conflict))
    c.turn_of.ensures.conflicts

pub returns-in-Ok-clause-after : goal.returns-in-Ok-clause-after
returns-in-Ok-clause-after g c =
    let digest = g.H.TreeHash.digest in
    let origin = c.args.origin.now in
    let x = g.D.Shelf.puts c.args.shelf.now in
    let w = g.D.Shelf.puts c.bring_copy.new.shelf in
    let note = c.args.candidate.now.note.items in
    brought_after digest origin {T = ℕ} {E = BringFault} note x w c.in-Ok.field-0
    (subst (λ n. IsBroughtTo digest origin n x w) c.deref.ensures.value c.in-Ok.ensures.brought)
    (subst (λ n. LeavesPruned digest origin {T = ℕ} {E = BringFault} n x w (Ok c.in-Ok.field-0)) c.deref.ensures.value
    c.in-Ok.ensures.pruned)

pub returns-in-Err-clause-after : goal.returns-in-Err-clause-after
returns-in-Err-clause-after g c =
    let digest = g.H.TreeHash.digest in
    let origin = c.args.origin.now in
    let x = g.D.Shelf.puts c.args.shelf.now in
    let w = g.D.Shelf.puts c.bring_copy.new.shelf in
    let note = c.args.candidate.now.note.items in
    turned_after digest origin c.args.candidate.now x w c.turn_of.result
    (stayed_after digest origin {T = ℕ} {E = BringFault} note x w c.in-Err.fault c.in-Err.ensures.stays
    (subst (λ n. LeavesPruned digest origin {T = ℕ} {E = BringFault} n x w (Err c.in-Err.fault)) c.deref.ensures.value
    c.in-Err.ensures.pruned))
    c.turn_of.ensures.after

pub returns-in-Ok-clause-sizes : goal.returns-in-Ok-clause-sizes
returns-in-Ok-clause-sizes g c = λ no. absurd (no refl)

pub returns-in-Err-clause-sizes : goal.returns-in-Err-clause-sizes
returns-in-Err-clause-sizes g c =
    let origin = c.args.origin.now in
    let found = option_map (λ b. b.now) c.args.found in
    sized_turn c.turn_of.result (IsOfFiles c.in-Err.fault) _ c.turn_of.ensures.files
    (subst (λ note. IsOfFiles c.in-Err.fault → AreSizesIn origin found note c.bring_copy.new.places.ends.sizes)
    c.deref.ensures.value c.in-Err.ensures.sizes)

pub returns-in-Ok-clause-answered : goal.returns-in-Ok-clause-answered
returns-in-Ok-clause-answered g c = λ no. absurd (no refl)

pub returns-in-Err-clause-answered : goal.returns-in-Err-clause-answered
returns-in-Err-clause-answered g c =
    sized_turn c.turn_of.result (IsOfFiles c.in-Err.fault) _ c.turn_of.ensures.files c.in-Err.ensures.answered
