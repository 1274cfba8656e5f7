use Rattle.std.proofs.Common.{◌⊎◌, None, sym, true≢false, ◌∙◌}
use Rattle.copy_follow.specs.Faults.{IsOtherFound}
use Rattle.log_reader.proofs.Kept.{kept_once}
use Rattle.copy_places.proofs.Requests.{any_same}
use Rattle.copy_follow.proofs.Runs.{each_none}
use Rattle.copy_follow.proofs.OneHonestRun.{no_false_root}
use Rattle.copy_follow.specs.RunStanding.{HasStanding, HoldsNoCopy, HoldsNoSmaller}
use Rattle.copy_follow.proofs.Ending.{empty_read, ends_so, first_ends, none_empty}
use Rattle.copy_follow.proofs.Standing.{each_same}
use Rattle.copy_follow.proofs.first.take_first.Goals as goal

pub returns-then-has_false_root-clause-keeps : goal.returns-then-has_false_root-clause-keeps
returns-then-has_false_root-clause-keeps g c = λ notes listed.
    let x = g.D.Shelf.puts c.args.shelf.now in each_none g.H.TreeHash.digest c.args.origin.now notes x x (kept_once x)

pub returns-then-has_false_root-clause-after : goal.returns-then-has_false_root-clause-after
returns-then-has_false_root-clause-after g c =
    let x = g.D.Shelf.puts c.args.shelf.now in each_same g.H.TreeHash.digest c.args.origin.now x x (kept_once x)

pub returns-in-Err-clause-ends : goal.returns-in-Err-clause-ends
returns-in-Err-clause-ends g c =
    let digest = g.H.TreeHash.digest in
    let origin = c.args.origin.now in
    let x = g.D.Shelf.puts c.args.shelf.now in
    let n = c.args.candidate.now.size.0 in
    let Lost = HasStanding digest origin None x → ⊥ in
    (ends_so (HoldsNoCopy digest origin x) (HoldsNoSmaller digest origin n x ⊎ IsOtherFound None x) Lost Lost
    c.in-Err.fault (λ h. h.not_none) (none_empty digest origin n x) c.in-Err.ensures.ends)

pub returns-in-Ok-clause-ends : goal.returns-in-Ok-clause-ends
returns-in-Ok-clause-ends g c =
    let digest = g.H.TreeHash.digest in
    let origin = c.args.origin.now in
    let candidate = c.args.candidate.now in
    let x = g.D.Shelf.puts c.args.shelf.now in
    first_ends digest origin candidate x c.over_none.result c.in-Ok.turn c.requires
    (λ f. true≢false (sym (c.has_false_root.ensures.1 f) ∙ c.if-has_false_root.false)) c.in-Ok.ensures.conflicts
    c.over_none.ensures.ends

pub returns-then-has_false_root-clause-asks : goal.returns-then-has_false_root-clause-asks
returns-then-has_false_root-clause-asks g c = any_same g.S.Source.may_answer g.S.Source.failed g.S.Source.asked c.args.places.now

pub returns-then-has_false_root-clause-suffices : goal.returns-then-has_false_root-clause-suffices
returns-then-has_false_root-clause-suffices g c = λ stands h.
    absurd (no_false_root g.H.TreeHash.digest g.S.Source.may_answer (g.D.Shelf.puts c.args.shelf.now) c.args.places.now
    c.args.places.now c.args.origin.now c.args.candidate.now h (c.has_false_root.ensures.0 c.if-has_false_root.true))

pub returns-in-Err-clause-suffices : goal.returns-in-Err-clause-suffices
returns-in-Err-clause-suffices g c = λ stands h.
    c.in-Err.ensures.suffices
    (empty_read g.H.TreeHash.digest c.args.origin.now (g.D.Shelf.puts c.args.shelf.now) stands) h

pub returns-in-Ok-clause-suffices : goal.returns-in-Ok-clause-suffices
returns-in-Ok-clause-suffices g c = λ stands h.
    c.over_none.ensures.suffices (c.in-Ok.ensures.suffices
    (empty_read g.H.TreeHash.digest c.args.origin.now (g.D.Shelf.puts c.args.shelf.now) stands) h)
