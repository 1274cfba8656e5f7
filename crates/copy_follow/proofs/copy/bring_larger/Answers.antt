use Rattle.std.proofs.Common.{◌≤◌, inl, subst, sym, arith}
use Rattle.mirror_model.specs.Heads.{IsHead}
use Rattle.copy_places.specs.Asked.{IsEdgeTile}
use Rattle.copy_follow.specs.Asked.{IsEdgeBundleOrNew, MayBeAsked}
use Rattle.copy_places.specs.PlaceGets.{AsksPlaces}
use Rattle.copy_follow.proofs.OneHonest.{edge_had}
use Rattle.copy_follow.proofs.OnePlace.{honest_between, puts_none}
use Rattle.copy_follow.proofs.Spared.{err_weaker, spared}
use Rattle.copy_places.proofs.Asking.{asks_same, asks_weaker}
use Rattle.copy_follow.proofs.NewFulls.{larger_asks}
use Rattle.copy_follow.proofs.Earlier.{conflict_keeps, conflict_later, kept_then}
use Rattle.copy_follow.proofs.Others.{later_blames}
use Rattle.copy_follow.proofs.Stays.{larger_stays, stays_later, stays_same}
use Rattle.copy_follow.proofs.PrunedMoments.{larger_leaves, leaves_later, leaves_same}
use Rattle.copy_follow.proofs.WholeMoments.{ends_later, larger_ends, larger_whole, whole_later, whole_same}
use Rattle.copy_places.proofs.AskingOnce.{once_weaker}
use Rattle.copy_follow.proofs.Between.{once_larger}
use Rattle.copy_places.specs.AskedOnce.{AsksOnce}
use Rattle.std.specs.Prelude.{⊤}
use Rattle.std.proofs.Common.{inr}
use Rattle.mirror_folders.specs.Flushes.{IsFlushedFirst}
use Rattle.copy_follow.specs.Secured.{IsNewFileOf}
use Rattle.copy_follow.proofs.Secured.{flushed_after, ok_weaker}
use Rattle.copy_follow.proofs.Earlier.{no_conflict}
use Rattle.copy_follow.specs.Differing.{OfTree}
use Rattle.copy_follow.proofs.copy.bring_larger.Goals as goal

pub returns-in-Err-clause-brings : goal.returns-in-Err-clause-brings
returns-in-Err-clause-brings g c = λ before kept t.
    let x = g.D.Shelf.puts c.args.shelf.now in
    let y = g.D.Shelf.puts c.find_new_edge.new.shelf in (
      whole_same g.H.TreeHash.digest c.args.origin.now c.args.candidate.now.note.now before y
          (kept_then before x y kept c.find_new_edge.ensures.same),
      tt,
      stays_same g.H.TreeHash.digest c.args.origin.now before y
          (kept_then before x y kept c.find_new_edge.ensures.same),
      leaves_same g.H.TreeHash.digest c.args.origin.now c.args.candidate.now.note.now before y
          (kept_then before x y kept c.find_new_edge.ensures.same) c.in-Err.fault,
    )

pub returns-clause-conflict : goal.returns-clause-conflict
returns-clause-conflict g c =
    let x = g.D.Shelf.puts c.args.shelf.now in
    let y = g.D.Shelf.puts c.find_new_edge.new.shelf in
    let w = g.D.Shelf.puts c.bring_to_edge-done.new.shelf in
    conflict_later x y w c.bring_to_edge-done.result c.find_new_edge.ensures.same
    (conflict_keeps 0 c.args.tip.now.size y w c.bring_to_edge-done.result c.bring_to_edge-done.ensures.early)

pub returns-clause-brings : goal.returns-clause-brings
returns-clause-brings g c = λ before kept t.
    let digest = g.H.TreeHash.digest in
    let origin = c.args.origin.now in
    let candidate = c.args.candidate.now in
    let note = candidate.note.now in
    let root = candidate.root in
    let tip = c.args.tip.now in
    let edge = c.in-Ok.edge in
    let x = g.D.Shelf.puts c.args.shelf.now in
    let y = g.D.Shelf.puts c.find_new_edge.new.shelf in
    let w = g.D.Shelf.puts c.bring_to_edge-done.new.shelf in
    let leads = c.in-Ok.ensures.leads in
    let size_is = leads.is_edge.size_is in
    let larger = c.requires.larger in
    let head = subst (λ n. IsHead note origin n root) (sym size_is) c.requires.head in
    let upto : tip.size ≤ edge.size = omega (arith, size_is, larger) in
    let still = kept_then before x y kept c.find_new_edge.ensures.same in (
      whole_later digest origin note tip before y w still t
          (λ t'. larger_whole digest origin note tip edge root upto head leads.root_is y w t'
          c.bring_to_edge-done.result c.bring_to_edge-done.ensures.brings),
      ends_later digest origin note tip before y w c.bring_to_edge-done.result still t
          (λ t'. larger_ends digest origin note tip edge root upto head leads.root_is y w t'
          c.bring_to_edge-done.result c.bring_to_edge-done.ensures.brings),
      stays_later digest origin tip before y w c.bring_to_edge-done.result still t
          (λ t'. larger_stays digest origin note tip edge y w t' c.bring_to_edge-done.result
          c.bring_to_edge-done.ensures.brings),
      leaves_later digest g.met.H.TreeHash.digest_length origin note tip before y w c.bring_to_edge-done.result still t
          (λ t'. larger_leaves digest g.met.H.TreeHash.digest_length origin note tip edge root upto head leads.root_is y w t'
          c.bring_to_edge-done.result c.bring_to_edge-done.ensures.brings),
    )

pub returns-in-Err-clause-asks : goal.returns-in-Err-clause-asks
returns-in-Err-clause-asks g c =
    asks_weaker g.S.Source.may_answer g.S.Source.failed g.S.Source.asked (IsEdgeTile c.args.candidate.now.size)
    (MayBeAsked c.args.tip.now.size c.args.candidate.now.size) (λ path h. inl h) c.args.places.now c.find_new_edge.new.places
    c.find_new_edge.ensures.asks

pub returns-clause-asks : goal.returns-clause-asks
returns-clause-asks g c =
    larger_asks g.S.Source.may_answer g.S.Source.failed g.S.Source.asked c.args.candidate.now.size c.args.tip.now.size c.args.places.now
    c.find_new_edge.new.places c.bring_to_edge-done.new.places c.find_new_edge.ensures.asks
    (subst (λ n. AsksPlaces g.S.Source.may_answer g.S.Source.failed g.S.Source.asked (IsEdgeBundleOrNew n c.args.tip.now.size) c.find_new_edge.new.places
    c.bring_to_edge-done.new.places) c.in-Ok.ensures.leads.is_edge.size_is c.bring_to_edge-done.ensures.asks)

pub returns-clause-blames : goal.returns-clause-blames
returns-clause-blames g c =
    later_blames g.H.TreeHash.digest c.bring_to_edge-done.new.places c.args.tip.now (g.D.Shelf.puts c.args.shelf.now)
    (g.D.Shelf.puts c.find_new_edge.new.shelf) c.bring_to_edge-done.result c.find_new_edge.ensures.same
    c.bring_to_edge-done.ensures.blames

pub returns-in-Err-clause-honest : goal.returns-in-Err-clause-honest
returns-in-Err-clause-honest g c =
    (λ entries h t.
    spared c.in-Err.fault
    (c.in-Err.ensures.suffices entries (record { short = h.one.short; upto = h.one.upto; root_is = h.root_is }) h.one.place)
    c.in-Err.ensures.fault)

pub returns-clause-honest : goal.returns-clause-honest
returns-clause-honest g c =
    let may = g.S.Source.may_answer in
    let failed = g.S.Source.failed in
    let asked = g.S.Source.asked in
    let digest = g.H.TreeHash.digest in
    let n = c.args.candidate.now.size in
    let edge = c.in-Ok.edge in
    let tile = IsEdgeTile n in
    let x = c.args.places.now in
    let y = c.find_new_edge.new.places in
    let z = c.bring_to_edge-done.new.places in
    let a = g.D.Shelf.puts c.args.shelf.now in
    let b = g.D.Shelf.puts c.find_new_edge.new.shelf in
    err_weaker c.bring_to_edge-done.result _ _ (λ e so entries h t.
    so entries n
    (honest_between may failed asked digest entries n tile (IsEdgeBundleOrNew edge.size c.args.tip.now.size) tile x y z z a b
    c.find_new_edge.ensures.asks c.bring_to_edge-done.ensures.asks (asks_same may failed asked tile z)
    (puts_none may failed asked x a b c.find_new_edge.ensures.same) h.one) t
    (edge_had digest g.met.H.TreeHash.digest_length may a x z entries n c.args.candidate.now.root (omega arith) h edge
    c.in-Ok.ensures.leads c.in-Ok.ensures.taken)) c.bring_to_edge-done.ensures.honest

pub returns-in-Err-clause-once : goal.returns-in-Err-clause-once
returns-in-Err-clause-once g c =
    once_weaker g.S.Source.asked (λ k. IsEdgeTile c.args.candidate.now.size) (λ k path. ⊤) (λ k path h. tt)
    c.args.places.now c.find_new_edge.new.places c.find_new_edge.ensures.once

pub returns-clause-once : goal.returns-clause-once
returns-clause-once g c =
    once_larger g.S.Source.asked c.args.candidate.now.size c.args.places.now c.find_new_edge.new.places
    c.bring_to_edge-done.new.places c.find_new_edge.ensures.once
    (subst (λ n. AsksOnce g.S.Source.asked (λ k path. ¬ IsEdgeTile n path) c.find_new_edge.new.places
    c.bring_to_edge-done.new.places) c.in-Ok.ensures.leads.is_edge.size_is c.bring_to_edge-done.ensures.once)

pub returns-in-Err-clause-counted : goal.returns-in-Err-clause-counted
returns-in-Err-clause-counted g c =
    c.in-Err.ensures.counted

pub returns-in-Err-clause-blames : goal.returns-in-Err-clause-blames
returns-in-Err-clause-blames g c =
    (inr c.in-Err.ensures.blames)

pub returns-in-Err-clause-empty : goal.returns-in-Err-clause-empty
returns-in-Err-clause-empty g c =
    (λ is. c.in-Err.ensures.fault)

pub returns-in-Err-clause-conflict : goal.returns-in-Err-clause-conflict
returns-in-Err-clause-conflict g c =
    (λ is. c.find_new_edge.ensures.same)

pub returns-clause-flushed : goal.returns-clause-flushed
returns-clause-flushed g c =
    let flushes = g.D.Shelf.flushes in
    let m = c.args.tip.now.size in
    let y = flushes c.find_new_edge.new.shelf in
    let w = flushes c.bring_to_edge-done.new.shelf in
    ok_weaker c.bring_to_edge-done.result (λ done. flushed_after (IsNewFileOf m c.args.candidate.now.size)
    (flushes c.args.shelf.now) y w c.find_new_edge.ensures.still
    (subst (λ n. IsFlushedFirst (IsNewFileOf m n) y w) c.in-Ok.ensures.leads.is_edge.size_is done))
    c.bring_to_edge-done.ensures.flushed

-- ---- what differs

pub returns-in-Err-clause-differs : goal.returns-in-Err-clause-differs
returns-in-Err-clause-differs g c = λ conflict. no_conflict c.in-Err.fault _ c.in-Err.ensures.fault conflict

pub returns-clause-differs : goal.returns-clause-differs
returns-clause-differs g c =
    err_weaker c.bring_to_edge-done.result _ _ (λ e so conflict. OfTree c.in-Ok.edge c.in-Ok.ensures.leads so)
    c.bring_to_edge-done.ensures.differs
