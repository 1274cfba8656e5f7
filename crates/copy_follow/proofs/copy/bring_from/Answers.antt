use Rattle.copy_follow.specs.Asked.{MayBeAsked}
use Rattle.std.proofs.Common.{◌≡◌, take, ap, ◌∙◌, arith}
use Rattle.tlog_hash.specs.Tree.{mth}
use Rattle.copy_follow.proofs.Spared.{err_weaker}
use Rattle.copy_places.proofs.Asking.{asks_same}
use Rattle.copy_follow.proofs.Stays.{stays_same}
use Rattle.copy_follow.specs.declared.bring_fault.BringFault.TheVariants.{NotLarger}
use Rattle.copy_follow.proofs.PrunedMoments.{leaves_same}
use Rattle.copy_follow.proofs.WholeMoments.{whole_same}
use Rattle.copy_follow.proofs.Earlier.{no_conflict}
use Rattle.copy_follow.proofs.EmptyTips.{false_empty}
use Rattle.copy_places.proofs.AskingOnce.{once_same}
use Rattle.std.specs.Prelude.{⊤}
use Rattle.copy_follow.specs.Differing.{OfEmpty}
use Rattle.copy_follow.proofs.copy.bring_from.Goals as goal

pub returns-clause-brings : goal.returns-clause-brings
returns-clause-brings g c = λ before kept t. (
  whole_same g.H.TreeHash.digest c.args.origin.now c.args.candidate.now.note.now before
      (g.D.Shelf.puts c.args.shelf.now) kept,
  tt,
  stays_same g.H.TreeHash.digest c.args.origin.now before (g.D.Shelf.puts c.args.shelf.now) kept,
  leaves_same g.H.TreeHash.digest c.args.origin.now c.args.candidate.now.note.now before
      (g.D.Shelf.puts c.args.shelf.now) kept NotLarger,
)

pub returns-then-is_none-clause-asks : goal.returns-then-is_none-clause-asks
returns-then-is_none-clause-asks g c =
    asks_same g.S.Source.may_answer g.S.Source.failed g.S.Source.asked (MayBeAsked c.args.tip.now.size c.args.candidate.now.size) c.args.places.now

pub returns-then-is_none-clause-honest : goal.returns-then-is_none-clause-honest
returns-then-is_none-clause-honest g c =
    let digest = g.H.TreeHash.digest in
    let none : c.args.candidate.now.size ≡ 0 = omega arith in
    err_weaker c.put_empty.result _ _ (λ e so entries h t.
    so (h.root_is ∙ ap (λ n. mth digest (take n entries)) none)) c.put_empty.ensures.honest

pub returns-then-size-candidate-clause-empty : goal.returns-then-size-candidate-clause-empty
returns-then-size-candidate-clause-empty g c =
    err_weaker c.bring_larger.result _ _ (λ e so k conflict. no_conflict e _ (so k) conflict) c.bring_larger.ensures.empty

pub returns-then-is_none-clause-empty : goal.returns-then-is_none-clause-empty
returns-then-is_none-clause-empty g c =
    err_weaker c.put_empty.result _ _ (λ e so k conflict.
    false_empty g.H.TreeHash.digest c.args.candidate.now.size c.args.candidate.now.root e (omega arith) so conflict)
    c.put_empty.ensures.honest

pub returns-then-is_none-clause-once : goal.returns-then-is_none-clause-once
returns-then-is_none-clause-once g c =
    once_same g.S.Source.asked (λ k path. ⊤) c.args.places.now

pub returns-clause-once : goal.returns-clause-once
returns-clause-once g c =
    once_same g.S.Source.asked (λ k path. ⊤) c.args.places.now

pub returns-clause-asks : goal.returns-clause-asks
returns-clause-asks g c =
    asks_same g.S.Source.may_answer g.S.Source.failed g.S.Source.asked (MayBeAsked c.args.tip.now.size c.args.candidate.now.size) c.args.places.now

-- ---- what differs

pub returns-then-is_none-clause-differs : goal.returns-then-is_none-clause-differs
returns-then-is_none-clause-differs g c =
    let none : c.args.candidate.now.size ≡ 0 = omega arith in
    err_weaker c.put_empty.result _ _ (λ e so conflict. OfEmpty (none, (so conflict).1) (so conflict).0) c.put_empty.ensures.differs
