use Rattle.std.proofs.Common.{refl, inr, subst, length}
use Rattle.tlog_shape.specs.Edge.{edge_index_of}
use Rattle.copy_places.specs.Asked.{IsPathOrFull}
use Rattle.copy_places.specs.Giving.{MayGive}
use Rattle.copy_places.proofs.Asking.{asks_same, asks_then, asks_weaker}
use Rattle.copy_places.proofs.Giving.{given_before}
use Rattle.copy_follow.specs.Repaired.{BeginsBundle, IsOfEdge}
use Rattle.copy_follow.specs.Taken.{MayTake}
use Rattle.copy_follow.proofs.Cuts.{bundle_weaker, end_of, some_weaker}
use Rattle.copy_places.proofs.InVain.{parts_between}
use Rattle.log_reader.specs.Verified.{HasLeaves}
use Rattle.copy_follow.proofs.Lacking.{none_any}
use Rattle.copy_follow.proofs.mend_edge.look_for_end.Goals as goal

pub returns-in-Ok-clause-asks : goal.returns-in-Ok-clause-asks
returns-in-Ok-clause-asks g c =
    let may = g.S.Source.may_answer in
    let failed = g.S.Source.failed in
    let asked = g.S.Source.asked in
    let so = IsOfEdge c.args.size in
    let x = c.args.places.now in
    let y = c.end_found.new.places in
    asks_then may failed asked so x y c.end_in_wider_ones.new.places
    (asks_weaker may failed asked (IsPathOrFull c.args.path.now) so
    (λ path h. end_of c.args.size (edge_index_of c.args.size 0) (length c.args.row.now) refl path
    (subst (λ p. IsPathOrFull p path) c.requires.path h)) x y c.end_found.ensures.asks)
    c.end_in_wider_ones.ensures.asks

pub returns-in-Err-end_in_wider_ones-clause-asks : goal.returns-in-Err-end_in_wider_ones-clause-asks
returns-in-Err-end_in_wider_ones-clause-asks g c =
    let may = g.S.Source.may_answer in
    let failed = g.S.Source.failed in
    let asked = g.S.Source.asked in
    let so = IsOfEdge c.args.size in
    let x = c.args.places.now in
    let y = c.end_found.new.places in
    asks_then may failed asked so x y c.end_in_wider_ones.new.places
    (asks_weaker may failed asked (IsPathOrFull c.args.path.now) so
    (λ path h. end_of c.args.size (edge_index_of c.args.size 0) (length c.args.row.now) refl path
    (subst (λ p. IsPathOrFull p path) c.requires.path h)) x y c.end_found.ensures.asks)
    c.end_in_wider_ones.ensures.asks

pub returns-in-Ok-clause-taken : goal.returns-in-Ok-clause-taken
returns-in-Ok-clause-taken g c =
    let may = g.S.Source.may_answer in
    let x = c.args.places.now in
    let y = c.end_found.new.places in
    let take = MayTake may x (g.D.Shelf.puts c.args.shelf.now) in
    let index = edge_index_of c.args.size 0 in
    some_weaker c.in-Ok.found (λ bytes. BeginsBundle (MayGive may y) index bytes.items) (λ bytes. BeginsBundle take index bytes.items)
    (λ bytes h. bundle_weaker (MayGive may y) take
    (λ path b given. inr (given_before may g.S.Source.failed g.S.Source.asked (IsPathOrFull c.args.path.now) x y path b
    c.end_found.ensures.asks given)) index bytes.items h) c.in-Ok.ensures.taken

pub returns-in-Ok-clause-none : goal.returns-in-Ok-clause-none
returns-in-Ok-clause-none g c =
    let may = g.S.Source.may_answer in
    let failed = g.S.Source.failed in
    let asked = g.S.Source.asked in
    let so = IsPathOrFull c.args.path.now in
    let x = c.args.places.now in
    let y = c.end_found.new.places in
    let none = rw c.in-Ok-None.field-0-is at c.in-Ok-None.ensures.none in
    let row = c.args.row.now in
    none_any c.in-Ok.found _ (record {
      shelf = none.shelf;
      places = parts_between may failed asked c.args.path.now (λ bytes. HasLeaves g.H.TreeHash.digest (length row) bytes row) so so
          (IsOfEdge c.args.size) x x y c.end_in_wider_ones.new.places (asks_same may failed asked so x) c.end_found.ensures.asks
          c.end_in_wider_ones.ensures.asks none.places;
    })
