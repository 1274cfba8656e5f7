use Rattle.std.proofs.Common.{subst, ℕ}
use Rattle.tlog_shape.specs.Edge.{edge_index_of}
use Rattle.tlog_tiles.specs.declared.paths.Path.TheVariants.{Entries}
use Rattle.copy_places.specs.Giving.{IsFirstOf, MayGive}
use Rattle.copy_places.proofs.Asking.{asks_then}
use Rattle.copy_places.proofs.Giving.{given_before}
use Rattle.copy_follow.specs.Repaired.{BeginsBundle, IsOfEdge}
use Rattle.copy_follow.proofs.Cuts.{found_weaker}
use Rattle.copy_follow.proofs.wider.end_in_wider.Goals as goal

pub returns-in_err-bytes-clause-asks : goal.returns-in_err-bytes-clause-asks
returns-in_err-bytes-clause-asks g c =
    asks_then g.S.Source.may_answer g.S.Source.failed g.S.Source.asked (IsOfEdge c.args.size) c.args.places.now
    c.size_at_place.new.places c.given_at.new.places c.size_at_place.ensures c.given_at.ensures.asks

pub returns-in_default-2-clause-asks : goal.returns-in_default-2-clause-asks
returns-in_default-2-clause-asks g c =
    asks_then g.S.Source.may_answer g.S.Source.failed g.S.Source.asked (IsOfEdge c.args.size) c.args.places.now
    c.size_at_place.new.places c.given_at.new.places c.size_at_place.ensures c.given_at.ensures.asks

pub returns-clause-asks : goal.returns-clause-asks
returns-clause-asks g c =
    asks_then g.S.Source.may_answer g.S.Source.failed g.S.Source.asked (IsOfEdge c.args.size) c.args.places.now
    c.size_at_place.new.places c.given_at.new.places c.size_at_place.ensures c.given_at.ensures.asks

pub returns-clause-taken : goal.returns-clause-taken
returns-clause-taken g c =
    let may = g.S.Source.may_answer in
    let x = c.args.places.now in
    let y = c.size_at_place.new.places in
    let whole = c.in-Some-2.bytes.items in
    let width = c.width_in.result in
    let given = rw c.in-Some-2.is at c.in_ok-bytes.ensures.given in
    let before = given_before may g.S.Source.failed g.S.Source.asked (IsOfEdge c.args.size) x y
    (Entries c.edge_index-index.result width) whole c.size_at_place.ensures given in
    let there = subst (λ i. MayGive may x (Entries i width) whole) c.edge_index-index.ensures before in
    found_weaker c.bundle_of_first.result (λ part. IsFirstOf c.deref.result.now part.items)
    (λ bytes. BeginsBundle (MayGive may x) (edge_index_of c.args.size 0) bytes.items)
    (λ part first. (width, whole, there, subst (λ w. IsFirstOf w part.items) c.deref.ensures.value first))
    c.bundle_of_first.ensures.first
