use Rattle.std.proofs.Common.{rules, ◌≡◌, [], sym, ◌∙◌}
use Rattle.std.specs.Prelude.{IsFalse}
use Rattle.std.proofs.lemmas.Bool.{false≢true}
use Rattle.tlog_hash.proofs.Trees.{mth-none}
use Rattle.copy_follow.proofs.Spared.{spared_last}
use Rattle.copy_follow.proofs.Earlier.{kept_then}
use Rattle.copy_follow.proofs.Growth.{left_none}
use Rattle.copy_follow.proofs.Others.{last_empty}
use Rattle.copy_follow.proofs.Stays.{empty_stays, stays_later, stays_same}
use Rattle.copy_follow.specs.declared.bring_fault.BringFault.TheVariants.{Contradiction}
use Rattle.copy_follow.proofs.PrunedMoments.{empty_leaves, leaves_later, leaves_same}
use Rattle.copy_follow.proofs.WholeMoments.{empty_ends, empty_whole, ends_later, whole_later, whole_same}
use Rattle.std.proofs.Common.{◌≤◌, subst, arith}
use Rattle.mirror_folders.specs.Flushes.{FlushesAll}
use Rattle.copy_follow.proofs.Secured.{none_flushed, ok_weaker}
use Rattle.copy_follow.specs.Conflicts.{IsNoConflict}
use Rattle.copy_follow.proofs.Earlier.{no_conflict}
use Rattle.copy_follow.proofs.Spared.{err_weaker}
use Rattle.copy_follow.proofs.copy.put_empty.Goals as goal

pub returns-then-not-is_empty_root-clause-brings : goal.returns-then-not-is_empty_root-clause-brings
returns-then-not-is_empty_root-clause-brings g c = λ before kept t. (
  whole_same g.H.TreeHash.digest c.args.origin.now c.args.candidate.now.note.now before
      (g.D.Shelf.puts c.args.shelf.now) kept,
  tt,
  stays_same g.H.TreeHash.digest c.args.origin.now before (g.D.Shelf.puts c.args.shelf.now) kept,
  leaves_same g.H.TreeHash.digest c.args.origin.now c.args.candidate.now.note.now before
      (g.D.Shelf.puts c.args.shelf.now) kept Contradiction,
)

pub returns-clause-brings : goal.returns-clause-brings
returns-clause-brings g c = λ before kept t.
    let digest = g.H.TreeHash.digest in
    let origin = c.args.origin.now in
    let candidate = c.args.candidate.now in
    let tip = c.args.tip.now in
    let x = g.D.Shelf.puts c.args.shelf.now in
    let y = g.D.Shelf.puts c.expect_new.new.shelf in
    let w = g.D.Shelf.puts c.put_last.new.shelf in
    let still = kept_then before x y kept c.expect_new.ensures.same in
    let root_is : candidate.root ≡ digest [] = search rules in (
      whole_later digest origin candidate.note.now tip before y w still t
          (λ t'. empty_whole digest origin candidate.note.now tip candidate.size candidate.root c.requires.head
          c.requires.empty root_is y w t' c.requires.none c.put_last.result c.put_last.ensures.puts),
      ends_later digest origin candidate.note.now tip before y w c.put_last.result still t
          (λ t'. empty_ends digest origin candidate.note.now tip candidate.size candidate.root c.requires.head
          c.requires.empty root_is y w t' c.requires.none c.put_last.result c.put_last.ensures.puts),
      stays_later digest origin tip before y w c.put_last.result still t
          (λ t'. empty_stays digest origin candidate.note.now tip.checkpoint y w c.put_last.result c.put_last.ensures.puts),
      leaves_later digest g.met.H.TreeHash.digest_length origin candidate.note.now tip before y w c.put_last.result still t
          (λ t'. empty_leaves digest g.met.H.TreeHash.digest_length origin candidate.note.now tip candidate.size candidate.root
          c.requires.head c.requires.empty root_is y w t' c.requires.none c.put_last.result c.put_last.ensures.puts),
    )

pub returns-clause-blames : goal.returns-clause-blames
returns-clause-blames g c =
    let x = g.D.Shelf.puts c.args.shelf.now in
    let y = g.D.Shelf.puts c.expect_new.new.shelf in
    last_empty g.H.TreeHash.digest c.args.tip.now x y c.put_last.result
    (λ known is. left_none g.H.TreeHash.digest c.args.tip.now.size known x y c.expect_new.ensures.same) c.put_last.ensures.blames

pub returns-then-not-is_empty_root-clause-honest : goal.returns-then-not-is_empty_root-clause-honest
returns-then-not-is_empty_root-clause-honest g c = λ root.
    let no : IsFalse c.is_empty_root.result = search rules in
    false≢true (sym no ∙ c.is_empty_root.ensures.1 (root ∙ mth-none g.H.TreeHash.digest))

pub returns-clause-honest : goal.returns-clause-honest
returns-clause-honest g c =
    spared_last c.put_last.result _ (λ e so root. so) c.args.tip.now.checkpoint
    (g.D.Shelf.puts c.expect_new.new.shelf) c.put_last.ensures.blames c.put_last.ensures.fault

pub returns-clause-flushed : goal.returns-clause-flushed
returns-clause-flushed g c =
    let flushes = g.D.Shelf.flushes in
    let z = flushes c.put_last.new.shelf in
    let none = c.requires.empty in
    let le : c.args.candidate.now.size ≤ c.args.tip.now.size = omega arith in
    ok_weaker c.put_last.result (λ last. none_flushed c.args.tip.now.size c.args.candidate.now.size le
    (flushes c.args.shelf.now) z (subst (λ q. FlushesAll q z) c.expect_new.ensures.still last)) c.put_last.ensures.flushed

-- ---- what differs

pub returns-clause-differs : goal.returns-clause-differs
returns-clause-differs g c =
    err_weaker c.put_last.result IsNoConflict _ (λ e h conflict. no_conflict e _ h conflict) c.put_last.ensures.fault
