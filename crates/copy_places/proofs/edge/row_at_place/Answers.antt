use Rattle.std.proofs.Common.{◌≤◌, ℕ, List, Vec, Global, length, not, ap, sym, subst, arith, ◌∙◌}
use Rattle.tlog_shape.specs.Edge.{edge_index_of, width_of}
use Rattle.tlog_tiles.specs.Row.{IsRow}
use Rattle.tlog_tiles.specs.Tiles.{IsWithin}
use Rattle.copy_places.specs.Asked.{IsEdgeTile, IsPathOrFull}
use Rattle.copy_places.specs.Giving.{IsRowFrom, MayGive, PartOf}
use Rattle.copy_places.proofs.Asking.{asks_noted, asks_same, asks_weaker, none_given, some_found}
use Rattle.copy_places.proofs.EdgeLevels.{edge_tile_asked}
use Rattle.copy_places.proofs.TruePlaces.{true_between}
use Rattle.copy_places.proofs.TrueAnswers.{edge_within, row_there, some_weaker}
use Rattle.copy_places.proofs.AskingOnce.{once_noted, once_weaker}
use Rattle.copy_places.specs.AskedOnce.{IsAtPlace, IsEdgeTileAt}
use Rattle.copy_places.proofs.EdgeLevels.{tile_partial, tile_at}
use Rattle.copy_places.proofs.edge.row_at_place.Goals as goal
use Rattle.copy_places.proofs.edge.row_at_place.Goals.{then-is_none, else-is_none}

pub returns-clause-asks : goal.returns-clause-asks
returns-clause-asks g c =
    let is = c.edge_width-width.ensures in
    let not = c.if-width-eq0.false in
    let some : 1 ≤ width_of c.args.size c.args.level = omega arith in
    let asks = asks_weaker g.S.Source.may_answer g.S.Source.failed g.S.Source.asked (IsPathOrFull c.edge_path-path.result) (IsEdgeTile c.args.size)
    (λ path h. edge_tile_asked c.args.size c.args.level c.requires.level some c.edge_path-path.result path
    c.edge_path-path.ensures h) c.args.places.now c.get_partial.new.places c.get_partial.ensures.asks in
    elim c.if-is_none.branch [
      | then-is_none w ↦ rw w.places-is (asks_noted g.S.Source.may_answer g.S.Source.failed g.S.Source.asked (IsEdgeTile c.args.size) c.args.places.now
          c.get_partial.new.places w.note_wrong.new.self asks w.note_wrong.ensures.asks)
      | else-is_none w ↦ rw w.places-is asks
    ]

pub returns-in_default-clause-honest : goal.returns-in_default-clause-honest
returns-in_default-clause-honest g c = λ digest hash entries short t le.
    let is = c.edge_width-width.ensures in
    let not = c.if-width-eq0.false in
    let some : 1 ≤ width_of c.args.size c.args.level = omega arith in
    let within = subst (λ p. IsWithin (length entries) p) (sym c.edge_path-path.ensures)
    (edge_within c.args.size (length entries) c.args.level le c.requires.level some) in
    let found = rw c.in_default.is at c.in_ok-bytes.ensures.honest in
    let none = found digest hash entries short t within in
    absurd (cc none)

pub returns-clause-taken : goal.returns-clause-taken
returns-clause-taken g c =
    let may = g.S.Source.may_answer in
    let x = c.args.places.now in
    let bytes = c.in-Some.bytes.items in
    let width = c.edge_width-width.result in
    let given = rw c.in-Some.is at c.in_ok-bytes.ensures.taken in
    some_weaker c.in_ok-row.row (λ (row : Vec (List ℕ) Global). IsRow width c.deref.result.now row.items)
    (λ (row : Vec (List ℕ) Global). IsRowFrom (MayGive may x) c.args.size c.args.level row.items)
    (λ row is. record {
      bytes = bytes;
      is_row = subst (λ w. IsRow w bytes row.items) c.edge_width-width.ensures
          (subst (λ (b : List ℕ). IsRow width b row.items) c.deref.ensures.value is);
      taken = λ some. subst (λ p. PartOf (MayGive may x) p bytes) c.edge_path-path.ensures given;
    }) c.in_ok-row.ensures.row

pub returns-clause-honest : goal.returns-clause-honest
returns-clause-honest g c =
    let may = g.S.Source.may_answer in
    let failed = g.S.Source.failed in
    let asked = g.S.Source.asked in
    let x = c.args.places.now in
    let y = c.get_partial.new.places in
    let so = IsPathOrFull c.edge_path-path.result in
    let is = c.edge_width-width.ensures in
    let not = c.if-width-eq0.false in
    let some : 1 ≤ width_of c.args.size c.args.level = omega arith in
    let found = rw c.in-Some.is at c.in_ok-bytes.ensures.honest in
    elim c.if-is_none.branch [
      | then-is_none w ↦ rw w.places-is (λ digest hash entries short t le.
          row_there digest hash entries c.args.size c.args.level c.edge_width-width.result c.in-Some.bytes.items c.deref.result.now
          c.edge_path-path.result c.in_ok-row.row c.edge_width-width.ensures c.edge_path-path.ensures c.deref.ensures.value
          (found digest hash entries short
          (true_between may failed asked digest entries so so (λ p. ⊥) x x y w.note_wrong.new.self (asks_same may failed asked so x)
          c.get_partial.ensures.asks w.note_wrong.ensures.asks c.args.index t)
          (subst (λ p. IsWithin (length entries) p) (sym c.edge_path-path.ensures)
          (edge_within c.args.size (length entries) c.args.level le c.requires.level some)))
          c.in_ok-row.ensures.row c.in_ok-row.ensures.none)
      | else-is_none w ↦ rw w.places-is (λ digest hash entries short t le.
          row_there digest hash entries c.args.size c.args.level c.edge_width-width.result c.in-Some.bytes.items c.deref.result.now
          c.edge_path-path.result c.in_ok-row.row c.edge_width-width.ensures c.edge_path-path.ensures c.deref.ensures.value
          (found digest hash entries short t
          (subst (λ p. IsWithin (length entries) p) (sym c.edge_path-path.ensures)
          (edge_within c.args.size (length entries) c.args.level le c.requires.level some)))
          c.in_ok-row.ensures.row c.in_ok-row.ensures.none)
    ]

pub returns-clause-once : goal.returns-clause-once
returns-clause-once g c =
    let is = c.edge_width-width.ensures in
    let not = c.if-width-eq0.false in
    let some : 1 ≤ width_of c.args.size c.args.level = omega arith in
    let path = c.edge_path-path.result in
    let so = IsAtPlace c.args.index (IsEdgeTileAt c.args.size c.args.level) in
    let differ = tile_partial c.args.level (edge_index_of c.args.size c.args.level) c.args.size c.args.level path
    c.edge_path-path.ensures in
    let once = once_weaker g.S.Source.asked (IsAtPlace c.args.index (IsPathOrFull path)) so
    (λ k p h. (h.0, tile_at c.args.size c.args.level c.requires.level some path p c.edge_path-path.ensures h.1))
    c.args.places.now c.get_partial.new.places (c.get_partial.ensures.once differ) in
    elim c.if-is_none.branch [
      | then-is_none w ↦ rw w.places-is (once_noted g.S.Source.asked g.S.Source.may_answer g.S.Source.failed so c.args.places.now
          c.get_partial.new.places w.note_wrong.new.self once w.note_wrong.ensures.asks)
      | else-is_none w ↦ rw w.places-is once
    ]

pub returns-in_default-clause-once : goal.returns-in_default-clause-once
returns-in_default-clause-once g c =
    let is = c.edge_width-width.ensures in
    let not = c.if-width-eq0.false in
    let some : 1 ≤ width_of c.args.size c.args.level = omega arith in
    let path = c.edge_path-path.result in
    let so = IsAtPlace c.args.index (IsEdgeTileAt c.args.size c.args.level) in
    let differ = tile_partial c.args.level (edge_index_of c.args.size c.args.level) c.args.size c.args.level path
    c.edge_path-path.ensures in
    let once = once_weaker g.S.Source.asked (IsAtPlace c.args.index (IsPathOrFull path)) so
    (λ k p h. (h.0, tile_at c.args.size c.args.level c.requires.level some path p c.edge_path-path.ensures h.1))
    c.args.places.now c.get_partial.new.places (c.get_partial.ensures.once differ) in once

pub returns-in_err-bytes-clause-once : goal.returns-in_err-bytes-clause-once
returns-in_err-bytes-clause-once g c =
    let is = c.edge_width-width.ensures in
    let not = c.if-width-eq0.false in
    let some : 1 ≤ width_of c.args.size c.args.level = omega arith in
    let path = c.edge_path-path.result in
    let so = IsAtPlace c.args.index (IsEdgeTileAt c.args.size c.args.level) in
    let differ = tile_partial c.args.level (edge_index_of c.args.size c.args.level) c.args.size c.args.level path
    c.edge_path-path.ensures in
    let once = once_weaker g.S.Source.asked (IsAtPlace c.args.index (IsPathOrFull path)) so
    (λ k p h. (h.0, tile_at c.args.size c.args.level c.requires.level some path p c.edge_path-path.ensures h.1))
    c.args.places.now c.get_partial.new.places (c.get_partial.ensures.once differ) in once

pub returns-in_err-row-clause-once : goal.returns-in_err-row-clause-once
returns-in_err-row-clause-once g c =
    let is = c.edge_width-width.ensures in
    let not = c.if-width-eq0.false in
    let some : 1 ≤ width_of c.args.size c.args.level = omega arith in
    let path = c.edge_path-path.result in
    let so = IsAtPlace c.args.index (IsEdgeTileAt c.args.size c.args.level) in
    let differ = tile_partial c.args.level (edge_index_of c.args.size c.args.level) c.args.size c.args.level path
    c.edge_path-path.ensures in
    let once = once_weaker g.S.Source.asked (IsAtPlace c.args.index (IsPathOrFull path)) so
    (λ k p h. (h.0, tile_at c.args.size c.args.level c.requires.level some path p c.edge_path-path.ensures h.1))
    c.args.places.now c.get_partial.new.places (c.get_partial.ensures.once differ) in once

pub returns-clause-blamed : goal.returns-clause-blamed
returns-clause-blamed g c = elim c.if-is_none.branch [
  | then-is_none w ↦ rw w.places-is (none_given c.in_ok-row.row _ (λ d few. w.note_wrong.ensures.noted d))
  | else-is_none w ↦ some_found c.in_ok-row.row _ (c.is_none.ensures ∙ ap not w.if-is_none.false)
]
