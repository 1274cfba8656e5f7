use Rattle.std.proofs.Common.{◌⊎◌, Some, ap, subst, sym}
use Rattle.tlog_tiles.specs.declared.paths.Path.TheVariants.{Checkpoint}
use Rattle.mirror_folders.specs.Shelf.{RecordsRead}
use Rattle.copy_follow.specs.Faults.{IsOtherFound}
use Rattle.std.specs.Prelude.{⊤}
use Rattle.copy_places.specs.Requests.{PlaceFails}
use Rattle.copy_places.specs.EndTiles.{IsKept}
use Rattle.copy_places.proofs.AskingOnce.{each_weaker, once_more}
use Rattle.copy_places.proofs.Requests.{any_then, fails_then}
use Rattle.copy_follow.specs.RunStanding.{HasStanding, HoldsNoCopy, HoldsNoSmaller}
use Rattle.copy_follow.proofs.Ending.{ends_so, none_at_all, none_larger, standing_read}
use Rattle.copy_follow.proofs.Looked.{after_lacked, after_later, counts_later, ends_later, source_lacked, source_never}
use Rattle.copy_follow.proofs.OneHonestRun.{honest_before}
use Rattle.copy_follow.proofs.Runs.{each_none, each_then}
use Rattle.copy_follow.specs.declared.follow_fault.FollowFault.TheVariants.{Source}
use Rattle.copy_follow.specs.declared.run.Outcome.TheVariants.{NotHad}
use Rattle.copy_places.specs.Candidates.{note_of}
use Rattle.copy_follow.specs.Told.{AreSizesIn, HasReason}
use Rattle.copy_follow.proofs.Telling.{fork_asked, sizes_of, tells_asked, tells_other}
use Rattle.copy_follow.proofs.bring_candidate.take_larger.Goals as goal

pub returns-in-Err-clause-ends : goal.returns-in-Err-clause-ends
returns-in-Err-clause-ends g c =
    let digest = g.H.TreeHash.digest in
    let origin = c.args.origin.now in
    let copy = c.args.copy.now in
    let n = c.args.candidate.now.size.0 in
    let x = g.D.Shelf.puts c.args.shelf.now in
    let Lost = HasStanding digest origin (Some copy) x → ⊥ in
    let found = Some c.as_slice.result.now in
    (ends_so (HoldsNoCopy digest origin x) (HoldsNoSmaller digest origin n x ⊎ IsOtherFound found x) Lost Lost
    c.in-Err.fault (none_at_all digest origin copy x)
    (none_larger digest origin copy n found x c.requires.larger (ap Some c.as_slice.ensures.value))
    c.in-Err.ensures.ends)

pub returns-in_default-clause-shows : goal.returns-in_default-clause-shows
returns-in_default-clause-shows g c =
    c.in-Ok.ensures.shows g.H.TreeHash.digest (Some c.args.copy.now) c.args.candidate.now

pub returns-in_default-clause-says : goal.returns-in_default-clause-says
returns-in_default-clause-says g c =
    c.in-Ok.ensures.says g.H.TreeHash.digest (Some c.args.copy.now) c.args.candidate.now c.requires.larger

pub returns-in-Err-clause-suffices : goal.returns-in-Err-clause-suffices
returns-in-Err-clause-suffices g c = λ stands h.
    let x = g.D.Shelf.puts c.args.shelf.now in
    c.in-Err.ensures.suffices (subst (λ note. RecordsRead x Checkpoint (Some note)) (sym c.as_slice.ensures.value)
    (standing_read g.H.TreeHash.digest c.args.origin.now c.args.copy.now x stands)) h

pub returns-in-Err-clause-once : goal.returns-in-Err-clause-once
returns-in-Err-clause-once g c =
    each_weaker g.S.Source.asked (IsKept c.bring.new.places) (λ k path. ⊤) (λ k path h. tt) c.args.places.now c.bring.new.places
    c.bring.ensures.once

pub returns-in_default-clause-once : goal.returns-in_default-clause-once
returns-in_default-clause-once g c =
    each_weaker g.S.Source.asked (IsKept c.bring.new.places) (λ k path. ⊤) (λ k path h. tt) c.args.places.now c.bring.new.places
    c.bring.ensures.once

pub returns-in-Contradicts-clause-asks : goal.returns-in-Contradicts-clause-asks
returns-in-Contradicts-clause-asks g c =
    any_then g.S.Source.may_answer g.S.Source.failed g.S.Source.asked c.args.places.now c.bring.new.places c.contradict.new.places c.bring.ensures.asks c.contradict.ensures.asks

pub returns-in-Contradicts-clause-once : goal.returns-in-Contradicts-clause-once
returns-in-Contradicts-clause-once g c =
    once_more g.S.Source.asked c.args.places.now c.bring.new.places c.contradict.new.places c.bring.ensures.once
    c.contradict.ensures.more

pub returns-in-Contradicts-clause-keeps : goal.returns-in-Contradicts-clause-keeps
returns-in-Contradicts-clause-keeps g c = λ notes listed.
    let x = g.D.Shelf.puts c.args.shelf.now in
    let y = g.D.Shelf.puts c.bring.new.shelf in
    let z = g.D.Shelf.puts c.contradict.new.shelf in
    each_then g.H.TreeHash.digest c.args.origin.now notes x z y (c.bring.ensures.keeps notes listed)
    (each_none g.H.TreeHash.digest c.args.origin.now notes y z c.contradict.ensures.same)

pub returns-in-Contradicts-clause-counted : goal.returns-in-Contradicts-clause-counted
returns-in-Contradicts-clause-counted g c =
    counts_later (g.D.Shelf.failed c.args.shelf.now) (g.D.Shelf.failed c.bring.new.shelf) (g.D.Shelf.failed c.contradict.new.shelf)
    c.contradict.result c.in-Ok.ensures.counted c.contradict.ensures.counted

pub returns-in-Contradicts-clause-after : goal.returns-in-Contradicts-clause-after
returns-in-Contradicts-clause-after g c =
    after_later g.H.TreeHash.digest c.args.origin.now c.args.candidate.now (g.D.Shelf.puts c.args.shelf.now) (g.D.Shelf.puts c.bring.new.shelf)
    (g.D.Shelf.puts c.contradict.new.shelf) c.in-Ok.turn c.contradict.result c.in-Contradicts.is c.in-Ok.ensures.after
    c.contradict.ensures.same c.contradict.ensures.after

pub returns-in-Contradicts-clause-source : goal.returns-in-Contradicts-clause-source
returns-in-Contradicts-clause-source g c = source_never _ (NotHad Source) c.contradict.result c.contradict.ensures.source

pub returns-in-Contradicts-clause-ends : goal.returns-in-Contradicts-clause-ends
returns-in-Contradicts-clause-ends g c =
    ends_later _ c.contradict.result c.contradict.ensures.ends

pub returns-in-Contradicts-clause-suffices : goal.returns-in-Contradicts-clause-suffices
returns-in-Contradicts-clause-suffices g c =
    λ stands h.
    let x = g.D.Shelf.puts c.args.shelf.now in
    let brought = c.in-Ok.ensures.suffices (subst (λ note. RecordsRead x Checkpoint (Some note)) (sym c.as_slice.ensures.value)
    (standing_read g.H.TreeHash.digest c.args.origin.now c.args.copy.now x stands)) (honest_before g.H.TreeHash.digest g.S.Source.may_answer g.S.Source.failed
    g.S.Source.asked (g.D.Shelf.puts c.args.shelf.now) c.args.places.now c.bring.new.places c.contradict.new.places
    c.args.origin.now c.args.candidate.now c.bring.ensures.asks c.contradict.ensures.asks h) in
    absurd (cc (brought, c.in-Contradicts.is))

pub returns-in-NotHad-clause-keeps : goal.returns-in-NotHad-clause-keeps
returns-in-NotHad-clause-keeps g c = λ notes listed.
    let x = g.D.Shelf.puts c.args.shelf.now in
    let y = g.D.Shelf.puts c.bring.new.shelf in
    let z = g.D.Shelf.puts c.contradict-asked.new.shelf in
    each_then g.H.TreeHash.digest c.args.origin.now notes x z y (c.bring.ensures.keeps notes listed)
    (each_none g.H.TreeHash.digest c.args.origin.now notes y z c.contradict-asked.ensures.same)

pub returns-in-NotHad-clause-asks : goal.returns-in-NotHad-clause-asks
returns-in-NotHad-clause-asks g c =
    any_then g.S.Source.may_answer g.S.Source.failed g.S.Source.asked c.args.places.now c.bring.new.places c.contradict-asked.new.places c.bring.ensures.asks c.contradict-asked.ensures.asks

pub returns-in-NotHad-clause-once : goal.returns-in-NotHad-clause-once
returns-in-NotHad-clause-once g c =
    once_more g.S.Source.asked c.args.places.now c.bring.new.places c.contradict-asked.new.places c.bring.ensures.once
    c.contradict-asked.ensures.more

pub returns-in-NotHad-clause-suffices : goal.returns-in-NotHad-clause-suffices
returns-in-NotHad-clause-suffices g c =
    λ stands h.
    let x = g.D.Shelf.puts c.args.shelf.now in
    let brought = c.in-Ok.ensures.suffices (subst (λ note. RecordsRead x Checkpoint (Some note)) (sym c.as_slice.ensures.value)
    (standing_read g.H.TreeHash.digest c.args.origin.now c.args.copy.now x stands)) (honest_before g.H.TreeHash.digest g.S.Source.may_answer g.S.Source.failed
    g.S.Source.asked (g.D.Shelf.puts c.args.shelf.now) c.args.places.now c.bring.new.places c.contradict-asked.new.places
    c.args.origin.now c.args.candidate.now c.bring.ensures.asks c.contradict-asked.ensures.asks h) in
    absurd (cc (brought, c.in-NotHad.is))

pub returns-in-NotHad-clause-counted : goal.returns-in-NotHad-clause-counted
returns-in-NotHad-clause-counted g c =
    let x = g.D.Shelf.failed c.args.shelf.now in
    let z = g.D.Shelf.failed c.contradict-asked.new.shelf in
    c.fork_or.ensures.counted x z (counts_later x (g.D.Shelf.failed c.bring.new.shelf) z
    c.contradict-asked.result c.in-Ok.ensures.counted c.contradict-asked.ensures.counted)

pub returns-in-NotHad-clause-after : goal.returns-in-NotHad-clause-after
returns-in-NotHad-clause-after g c =
    after_lacked g.H.TreeHash.digest c.args.origin.now c.args.candidate.now (g.D.Shelf.puts c.args.shelf.now) (g.D.Shelf.puts c.bring.new.shelf)
    (g.D.Shelf.puts c.contradict-asked.new.shelf) c.in-Ok.turn c.in-NotHad.fault c.fork_or.result c.in-NotHad.is c.in-Ok.ensures.after
    c.contradict-asked.ensures.same c.fork_or.ensures.after

pub returns-in-NotHad-clause-shows : goal.returns-in-NotHad-clause-shows
returns-in-NotHad-clause-shows g c =
    c.fork_or.ensures.shows g.H.TreeHash.digest (Some c.args.copy.now) c.args.candidate.now c.contradict-asked.ensures.shows

pub returns-in-NotHad-clause-source : goal.returns-in-NotHad-clause-source
returns-in-NotHad-clause-source g c =
    let x = c.args.places.now in
    let y = c.bring.new.places in
    let z = c.contradict-asked.new.places in
    source_lacked (PlaceFails x z) c.in-Ok.turn c.in-NotHad.fault c.fork_or.result c.in-NotHad.is
    (λ is. fails_then g.S.Source.may_answer g.S.Source.failed g.S.Source.asked x y z (c.in-Ok.ensures.source is) c.contradict-asked.ensures.asks)
    c.fork_or.ensures.source

-- ---- why a larger candidate is no fork

pub returns-in-Contradicts-clause-tells : goal.returns-in-Contradicts-clause-tells
returns-in-Contradicts-clause-tells g c =
    let origin = c.args.origin.now in
    let copy = c.args.copy.now in
    let candidate = c.args.candidate.now in
    let sizes = c.bring.new.places.ends.sizes in
    let fits = sizes_of origin copy candidate sizes c.requires.copy c.requires.head
    (subst (λ note. AreSizesIn origin (Some note) (note_of candidate) sizes) c.as_slice.ensures.value
    (c.in-Ok.ensures.sizes (λ e. absurd (cc (e, c.in-Contradicts.is))))) in
    let heard = c.in-Ok.ensures.answered (λ e. absurd (cc (e, c.in-Contradicts.is))) in
    tells_asked g.H.TreeHash.digest g.S.Source.may_answer g.S.Source.failed g.S.Source.asked c.args.places.now
    c.contradict.new.places (Some copy) candidate c.contradict.result
    (c.contradict.ensures.tells c.args.places.now c.bring.ensures.asks heard fits)

pub returns-in-NotHad-clause-tells : goal.returns-in-NotHad-clause-tells
returns-in-NotHad-clause-tells g c =
    let origin = c.args.origin.now in
    let copy = c.args.copy.now in
    let candidate = c.args.candidate.now in
    let sizes = c.bring.new.places.ends.sizes in
    let fits = sizes_of origin copy candidate sizes c.requires.copy c.requires.head
    (subst (λ note. AreSizesIn origin (Some note) (note_of candidate) sizes) c.as_slice.ensures.value
    (c.in-Ok.ensures.sizes (λ e. absurd (cc (e, c.in-NotHad.is))))) in
    let heard = c.in-Ok.ensures.answered (λ e. absurd (cc (e, c.in-NotHad.is))) in
    let x = c.args.places.now in
    let y = c.contradict-asked.new.places in
    tells_asked g.H.TreeHash.digest g.S.Source.may_answer g.S.Source.failed g.S.Source.asked x y (Some copy) candidate
    c.fork_or.result
    (fork_asked c.fork_or.result c.contradict-asked.result (HasReason g.H.TreeHash.digest g.S.Source.may_answer
    g.S.Source.failed g.S.Source.asked x y (Some copy) candidate)
    (c.contradict-asked.ensures.tells x c.bring.ensures.asks heard fits) c.fork_or.ensures.fork)

pub returns-in_default-clause-tells : goal.returns-in_default-clause-tells
returns-in_default-clause-tells g c =
    tells_other g.H.TreeHash.digest g.S.Source.may_answer g.S.Source.failed g.S.Source.asked c.args.places.now
    c.bring.new.places (Some c.args.copy.now) c.args.candidate.now c.in-Ok.turn c.in_default.not-Contradicts
    c.in_default.not-NotHad
