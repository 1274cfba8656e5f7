use Rattle.std.proofs.Common.{◌≡◌, ◌<◌, ◌≤◌, ℕ, [], ◌∙◌, inl, refl, subst, sym, arith, List, length, ap}
use Rattle.std.specs.Prelude.{IsTrue}
use Rattle.tlog_hash.proofs.Trees.{mth-none}
use Rattle.copy_places.specs.PlaceGets.{AsksPlaces}
use Rattle.copy_places.proofs.Asking.{asks_same, asks_then, asks_weaker}
use Rattle.copy_follow.specs.Repaired.{HasLog, IsEachHad, IsOfEdge, MayBeAskedToRepair, IsClearLog, IsTreeClear}
use Rattle.copy_follow.specs.Taken.{MayTake}
use Rattle.copy_follow.proofs.Cuts.{clear_weaker, cut_edge_true, cut_tree_clear, ok_weaker}
use Rattle.copy_follow.proofs.Growth.{gathers_none, gathers_then, kept_same}
use Rattle.copy_follow.proofs.MendedFiles.{empty_log, had_log, log_then}
use Rattle.copy_follow.proofs.Mending.{counts_none, counts_then}
use Rattle.copy_follow.proofs.OnePlace.{taken_kept}
use Rattle.tlog_hash.specs.Tree.{mth}
use Rattle.mirror_model.specs.TrueLaws.{AreShort}
use Rattle.copy_follow.specs.Lacked.{GoesOverAll}
use Rattle.copy_follow.specs.Suffices.{IsEdgeTrue}
use Rattle.copy_follow.proofs.Lacking.{over_between, over_edge, over_none}
use Rattle.copy_follow.specs.Named.{NamesDamaged}
use Rattle.copy_follow.proofs.Naming.{names_none, names_then}
use Rattle.copy_follow.proofs.repair.mend_copy.Goals as goal

pub returns-then-size-eq0-clause-asks : goal.returns-then-size-eq0-clause-asks
returns-then-size-eq0-clause-asks g c =
    asks_same g.S.Source.may_answer g.S.Source.failed g.S.Source.asked (MayBeAskedToRepair c.args.size) c.args.places.now

pub returns-then-size-eq0-clause-keeps : goal.returns-then-size-eq0-clause-keeps
returns-then-size-eq0-clause-keeps g c = λ log long root clear.
    let x = g.D.Shelf.puts c.args.shelf.now in
    gathers_none g.H.TreeHash.digest 0 log x x (kept_same x)

pub returns-then-size-eq0-clause-whole : goal.returns-then-size-eq0-clause-whole
returns-then-size-eq0-clause-whole g c =
    let digest = g.H.TreeHash.digest in
    let x = g.D.Shelf.puts c.args.shelf.now in
    let none : c.args.size ≡ 0 = omega arith in
    let root = c.args.root.now in
    ok_weaker c.mend_empty.result (λ all. root ≡ digest []) (λ all. IsTrue all → HasLog digest c.args.size root x x)
    (λ all is yes. empty_log digest c.args.size root x x none (mth-none digest ∙ sym is) (kept_same x)) c.mend_empty.ensures.empty

pub returns-in-Ok-None-clause-asks : goal.returns-in-Ok-None-clause-asks
returns-in-Ok-None-clause-asks g c =
    asks_weaker g.S.Source.may_answer g.S.Source.failed g.S.Source.asked (IsOfEdge c.args.size) (MayBeAskedToRepair c.args.size)
    (λ path h. inl h) c.args.places.now c.look_for_edge.new.places c.look_for_edge.ensures.asks

pub returns-in-Ok-None-clause-keeps : goal.returns-in-Ok-None-clause-keeps
returns-in-Ok-None-clause-keeps g c = λ log long root clear.
    gathers_none g.H.TreeHash.digest 0 log (g.D.Shelf.puts c.args.shelf.now) (g.D.Shelf.puts c.look_for_edge.new.shelf)
    c.look_for_edge.ensures.same

pub returns-in-Err-clause-asks : goal.returns-in-Err-clause-asks
returns-in-Err-clause-asks g c =
    asks_weaker g.S.Source.may_answer g.S.Source.failed g.S.Source.asked (IsOfEdge c.args.size) (MayBeAskedToRepair c.args.size)
    (λ path h. inl h) c.args.places.now c.look_for_edge.new.places c.look_for_edge.ensures.asks

pub returns-in-Err-clause-keeps : goal.returns-in-Err-clause-keeps
returns-in-Err-clause-keeps g c = λ log long root clear.
    gathers_none g.H.TreeHash.digest 0 log (g.D.Shelf.puts c.args.shelf.now) (g.D.Shelf.puts c.look_for_edge.new.shelf)
    c.look_for_edge.ensures.same

pub mend_all-requires-clause-size : goal.mend_all-requires-clause-size
mend_all-requires-clause-size g c =
    let leads = rw c.in-Ok-Some.field-0-is at c.in-Ok-Some.ensures.leads in
    subst (λ n. n < 9223372036854775808) (sym leads.is_edge.size_is) c.requires

pub mend_all-requires-clause-some : goal.mend_all-requires-clause-some
mend_all-requires-clause-some g c =
    let leads = rw c.in-Ok-Some.field-0-is at c.in-Ok-Some.ensures.leads in
    omega (arith, leads.is_edge.size_is)

pub mend_all-requires-clause-widths : goal.mend_all-requires-clause-widths
mend_all-requires-clause-widths g c =
    let leads = rw c.in-Ok-Some.field-0-is at c.in-Ok-Some.ensures.leads in
    leads.is_edge.widths

pub returns-clause-asks : goal.returns-clause-asks
returns-clause-asks g c =
    let may = g.S.Source.may_answer in
    let failed = g.S.Source.failed in
    let asked = g.S.Source.asked in
    let so = MayBeAskedToRepair c.args.size in
    let x = c.args.places.now in
    let y = c.look_for_edge.new.places in
    let z = c.mend_all.new.places in
    let leads = rw c.in-Ok-Some.field-0-is at c.in-Ok-Some.ensures.leads in
    asks_then may failed asked so x y z
    (asks_weaker may failed asked (IsOfEdge c.args.size) so (λ path h. inl h) x y c.look_for_edge.ensures.asks)
    (subst (λ n. AsksPlaces may failed asked (MayBeAskedToRepair n) y z) leads.is_edge.size_is c.mend_all.ensures.asks)

pub returns-clause-counts : goal.returns-clause-counts
returns-clause-counts g c =
    let n = c.args.repaired.now.put in
    let x = g.D.Shelf.puts c.args.shelf.now in
    let y = g.D.Shelf.puts c.look_for_edge.new.shelf in
    counts_then n n c.mend_all.new.repaired.put x y (g.D.Shelf.puts c.mend_all.new.shelf)
    (counts_none n n x y refl c.look_for_edge.ensures.same) c.mend_all.ensures.counts

pub returns-clause-keeps : goal.returns-clause-keeps
returns-clause-keeps g c = λ log long root_is clear.
    let may = g.S.Source.may_answer in
    let failed = g.S.Source.failed in
    let asked = g.S.Source.asked in
    let digest = g.H.TreeHash.digest in
    let p = c.args.places.now in
    let q = c.look_for_edge.new.places in
    let x = g.D.Shelf.puts c.args.shelf.now in
    let y = g.D.Shelf.puts c.look_for_edge.new.shelf in
    let z = g.D.Shelf.puts c.mend_all.new.shelf in
    let leads = rw c.in-Ok-Some.field-0-is at c.in-Ok-Some.ensures.leads in
    let from = rw c.in-Ok-Some.field-0-is at c.in-Ok-Some.ensures.taken in
    let small = c.requires in
    let is = cut_edge_true digest g.met.H.TreeHash.digest_length log (MayTake may p x) clear c.args.size (omega (arith, small)) long
    c.args.root.now (sym root_is) c.in-Ok-Some.edge leads from in
    let tree = cut_tree_clear digest g.met.H.TreeHash.digest_length log (MayTake may p x) clear c.args.size (omega (arith, small)) long
    c.args.root.now (sym root_is) c.in-Ok-Some.edge leads from in
    gathers_then digest 0 log log log x y z (gathers_none digest 0 log x y c.look_for_edge.ensures.same)
    (c.mend_all.ensures.keeps log
    (clear_weaker digest log (MayTake may p x) (MayTake may q y)
    (λ path bytes h. taken_kept may failed asked (IsOfEdge c.args.size) p q x y path bytes c.look_for_edge.ensures.asks
    c.look_for_edge.ensures.same h) clear) tree is)

pub returns-clause-whole : goal.returns-clause-whole
returns-clause-whole g c =
    let digest = g.H.TreeHash.digest in
    let edge = c.in-Ok-Some.edge in
    let x = g.D.Shelf.puts c.args.shelf.now in
    let y = g.D.Shelf.puts c.look_for_edge.new.shelf in
    let z = g.D.Shelf.puts c.mend_all.new.shelf in
    let leads = rw c.in-Ok-Some.field-0-is at c.in-Ok-Some.ensures.leads in
    let small = subst (λ n. n < 9223372036854775808) (sym leads.is_edge.size_is) c.requires in
    ok_weaker c.mend_all.result (λ all. IsTrue all → IsEachHad digest edge y z)
    (λ all. IsTrue all → HasLog digest c.args.size c.args.root.now x z)
    (λ all h yes. log_then digest c.args.size c.args.root.now x y z c.look_for_edge.ensures.same
    (had_log digest c.args.size c.args.root.now edge y z small leads (h yes))) c.mend_all.ensures.whole

pub returns-then-size-eq0-clause-counted : goal.returns-then-size-eq0-clause-counted
returns-then-size-eq0-clause-counted g c = c.mend_empty.ensures.counted (g.D.Shelf.failed c.args.shelf.now)

pub returns-in-Ok-None-clause-counts : goal.returns-in-Ok-None-clause-counts
returns-in-Ok-None-clause-counts g c =
    counts_none c.args.repaired.now.put c.note_lacked.new.self.put (g.D.Shelf.puts c.args.shelf.now)
    (g.D.Shelf.puts c.look_for_edge.new.shelf) c.note_lacked.ensures.put c.look_for_edge.ensures.same

pub returns-then-size-eq0-clause-goes_on : goal.returns-then-size-eq0-clause-goes_on
returns-then-size-eq0-clause-goes_on g c =
    let digest = g.H.TreeHash.digest in
    let may = g.S.Source.may_answer in
    let p = c.args.places.now in
    let x = g.D.Shelf.puts c.args.shelf.now in
    let none : c.args.size ≡ 0 = omega arith in
    let root = c.args.root.now in
    ok_weaker c.mend_empty.result (λ all. root ≡ digest []) (λ all. (log : List (List ℕ)) → AreShort log → length log ≡ c.args.size →
    mth digest log ≡ root → IsClearLog digest log (MayTake may p x) → GoesOverAll digest log may p p x x)
    (λ all empty log short long is clear. over_none digest log may p p x x (long ∙ none)) c.mend_empty.ensures.empty

pub returns-in-Ok-None-clause-goes_on : goal.returns-in-Ok-None-clause-goes_on
returns-in-Ok-None-clause-goes_on g c = λ log short long is clear.
    let none = rw c.in-Ok-None.field-0-is at c.in-Ok-None.ensures.none in
    over_edge g.H.TreeHash.digest log short g.S.Source.may_answer c.args.places.now c.look_for_edge.new.places
    (g.D.Shelf.puts c.args.shelf.now) (g.D.Shelf.puts c.look_for_edge.new.shelf) c.args.size c.args.root.now long is none

pub returns-clause-goes_on : goal.returns-clause-goes_on
returns-clause-goes_on g c =
    let may = g.S.Source.may_answer in
    let failed = g.S.Source.failed in
    let asked = g.S.Source.asked in
    let digest = g.H.TreeHash.digest in
    let size = c.args.size in
    let root = c.args.root.now in
    let edge = c.in-Ok-Some.edge in
    let p = c.args.places.now in
    let q = c.look_for_edge.new.places in
    let r = c.mend_all.new.places in
    let x = g.D.Shelf.puts c.args.shelf.now in
    let y = g.D.Shelf.puts c.look_for_edge.new.shelf in
    let z = g.D.Shelf.puts c.mend_all.new.shelf in
    let leads = rw c.in-Ok-Some.field-0-is at c.in-Ok-Some.ensures.leads in
    let from = rw c.in-Ok-Some.field-0-is at c.in-Ok-Some.ensures.taken in
    let small = c.requires in
    let so = MayBeAskedToRepair size in
    let first = asks_weaker may failed asked (IsOfEdge size) so (λ path h. inl h) p q c.look_for_edge.ensures.asks in
    let second = subst (λ n. AsksPlaces may failed asked (MayBeAskedToRepair n) q r) leads.is_edge.size_is c.mend_all.ensures.asks in
    ok_weaker c.mend_all.result (λ all. (log : List (List ℕ)) → AreShort log → IsClearLog digest log (MayTake may q y) →
    IsTreeClear digest log → IsEdgeTrue digest log edge → GoesOverAll digest log may q r y z)
    (λ all. (log : List (List ℕ)) → AreShort log → length log ≡ size → mth digest log ≡ root →
    IsClearLog digest log (MayTake may p x) → GoesOverAll digest log may p r x z)
    (λ all over log short long root_is clear.
    let is = cut_edge_true digest g.met.H.TreeHash.digest_length log (MayTake may p x) clear size (omega (arith, small)) long
    root (sym root_is) edge leads from in
    let tree = cut_tree_clear digest g.met.H.TreeHash.digest_length log (MayTake may p x) clear size (omega (arith, small)) long
    root (sym root_is) edge leads from in
    let still = clear_weaker digest log (MayTake may p x) (MayTake may q y)
    (λ path bytes h. taken_kept may failed asked (IsOfEdge size) p q x y path bytes c.look_for_edge.ensures.asks
    c.look_for_edge.ensures.same h) clear in
    over_between may failed asked digest log so so so p q r r first second (asks_same may failed asked so r) x y z z
    c.look_for_edge.ensures.same (gathers_none digest 0 log z z (kept_same z)) (over log short still tree is)) c.mend_all.ensures.goes_on

pub returns-then-size-eq0-clause-names : goal.returns-then-size-eq0-clause-names
returns-then-size-eq0-clause-names g c =
    let digest = g.H.TreeHash.digest in
    let x = g.D.Shelf.puts c.args.shelf.now in
    let l = c.args.repaired.now.damaged.items in
    let root = c.args.root.now in
    ok_weaker c.mend_empty.result (λ all. root ≡ digest []) (λ all. (log : List (List ℕ)) → AreShort log → length log ≡ c.args.size →
    mth digest log ≡ root → IsClearLog digest log (MayTake g.S.Source.may_answer c.args.places.now x) → NamesDamaged digest log x l l)
    (λ all empty log short long is clear. names_none digest log x l l refl) c.mend_empty.ensures.empty

pub returns-in-Ok-None-clause-names : goal.returns-in-Ok-None-clause-names
returns-in-Ok-None-clause-names g c = λ log short long is clear.
    names_none g.H.TreeHash.digest log (g.D.Shelf.puts c.args.shelf.now) c.args.repaired.now.damaged.items
    c.note_lacked.new.self.damaged.items (ap (λ v. v.items) c.note_lacked.ensures.damaged)

pub returns-clause-names : goal.returns-clause-names
returns-clause-names g c =
    let may = g.S.Source.may_answer in
    let failed = g.S.Source.failed in
    let asked = g.S.Source.asked in
    let digest = g.H.TreeHash.digest in
    let size = c.args.size in
    let root = c.args.root.now in
    let edge = c.in-Ok-Some.edge in
    let p = c.args.places.now in
    let q = c.look_for_edge.new.places in
    let x = g.D.Shelf.puts c.args.shelf.now in
    let y = g.D.Shelf.puts c.look_for_edge.new.shelf in
    let leads = rw c.in-Ok-Some.field-0-is at c.in-Ok-Some.ensures.leads in
    let from = rw c.in-Ok-Some.field-0-is at c.in-Ok-Some.ensures.taken in
    let small = c.requires in
    let l = c.args.repaired.now.damaged.items in
    let m = c.mend_all.new.repaired.damaged.items in
    ok_weaker c.mend_all.result (λ all. (log : List (List ℕ)) → AreShort log → IsClearLog digest log (MayTake may q y) →
    IsTreeClear digest log → IsEdgeTrue digest log edge → NamesDamaged digest log y l m)
    (λ all. (log : List (List ℕ)) → AreShort log → length log ≡ size → mth digest log ≡ root →
    IsClearLog digest log (MayTake may p x) → NamesDamaged digest log x l m)
    (λ all names log short long root_is clear.
    let is = cut_edge_true digest g.met.H.TreeHash.digest_length log (MayTake may p x) clear size (omega (arith, small)) long
    root (sym root_is) edge leads from in
    let tree = cut_tree_clear digest g.met.H.TreeHash.digest_length log (MayTake may p x) clear size (omega (arith, small)) long
    root (sym root_is) edge leads from in
    let still = clear_weaker digest log (MayTake may p x) (MayTake may q y)
    (λ path bytes h. taken_kept may failed asked (IsOfEdge size) p q x y path bytes c.look_for_edge.ensures.asks
    c.look_for_edge.ensures.same h) clear in
    names_then digest log x y l l m (gathers_none digest 0 log x y c.look_for_edge.ensures.same) (names_none digest log x l l refl)
    (names log short still tree is)) c.mend_all.ensures.names
