use Rattle.copy_places.specs.Giving.{MayGive}
use Rattle.copy_places.proofs.Asking.{asks_then}
use Rattle.copy_places.proofs.Giving.{given_before}
use Rattle.copy_follow.specs.Repaired.{IsOfEdge}
use Rattle.copy_follow.proofs.Cuts.{edge_weaker}
use Rattle.copy_follow.proofs.wider.edge_in_wider.Goals as goal

pub returns-in_err-edge-clause-asks : goal.returns-in_err-edge-clause-asks
returns-in_err-edge-clause-asks g c =
    asks_then g.S.Source.may_answer g.S.Source.failed g.S.Source.asked (IsOfEdge c.args.size) c.args.places.now
    c.size_at_place.new.places c.rows_in_wider.new.places c.size_at_place.ensures c.rows_in_wider.ensures.asks

pub returns-in_default-2-clause-asks : goal.returns-in_default-2-clause-asks
returns-in_default-2-clause-asks g c =
    asks_then g.S.Source.may_answer g.S.Source.failed g.S.Source.asked (IsOfEdge c.args.size) c.args.places.now
    c.size_at_place.new.places c.rows_in_wider.new.places c.size_at_place.ensures c.rows_in_wider.ensures.asks

pub returns-in_err-leads_to-clause-asks : goal.returns-in_err-leads_to-clause-asks
returns-in_err-leads_to-clause-asks g c =
    asks_then g.S.Source.may_answer g.S.Source.failed g.S.Source.asked (IsOfEdge c.args.size) c.args.places.now
    c.size_at_place.new.places c.rows_in_wider.new.places c.size_at_place.ensures c.rows_in_wider.ensures.asks

pub returns-then-branch-clause-asks : goal.returns-then-branch-clause-asks
returns-then-branch-clause-asks g c =
    asks_then g.S.Source.may_answer g.S.Source.failed g.S.Source.asked (IsOfEdge c.args.size) c.args.places.now
    c.size_at_place.new.places c.rows_in_wider.new.places c.size_at_place.ensures c.rows_in_wider.ensures.asks

pub returns-else-branch-clause-asks : goal.returns-else-branch-clause-asks
returns-else-branch-clause-asks g c =
    asks_then g.S.Source.may_answer g.S.Source.failed g.S.Source.asked (IsOfEdge c.args.size) c.args.places.now
    c.size_at_place.new.places c.rows_in_wider.new.places c.size_at_place.ensures c.rows_in_wider.ensures.asks

pub returns-then-branch-clause-taken : goal.returns-then-branch-clause-taken
returns-then-branch-clause-taken g c =
    let may = g.S.Source.may_answer in
    let x = c.args.places.now in
    let y = c.size_at_place.new.places in
    edge_weaker (MayGive may y) (MayGive may x)
    (λ path bytes given. given_before may g.S.Source.failed g.S.Source.asked (IsOfEdge c.args.size) x y path bytes
    c.size_at_place.ensures given) c.args.size c.in-Some-2.edge (rw c.in-Some-2.is at c.in_ok-edge.ensures.taken)
