use Rattle.std.proofs.Common.{◌≡◌, ℕ, [], ◌∷◌, None, Option, Vec, List, Global, length, length-append, refl, ap, subst, sym, ◌∙◌, arith}
use Rattle.std.specs.Prelude.{IfSome, option_map}
use Rattle.tlog_shape.specs.Edge.{width_of}
use Rattle.log_reader.proofs.Kept.{kept_once, kept_twice}
use Rattle.copy_places.specs.FoundRows.{AreFoundRows, IsFoundRow}
use Rattle.copy_places.specs.Mixes.{given_at}
use Rattle.mirror_folders.specs.Partial.{IsReadPartial}
use Rattle.copy_places.specs.declared.mix.GivenRows.{GivenRows}
use Rattle.copy_places.proofs.RowsGiven.{some_mapped}
use Rattle.copy_places.proofs.Mixing.{items_next}
use Rattle.copy_places.proofs.ShelfRows.{shelf_row_before}
use Rattle.copy_places.proofs.shelf_edge.rows_on_shelf.Goals as goal

pub loop-level-init : goal.loop-level-init
loop-level-init g c = record {
  same = kept_once (g.D.Shelf.puts c.args.shelf.now);
  counted = refl;
  count = ap length c.new-rows.ensures.items;
  wide = λ k none. absurd (omega (arith, none));
  read = λ k none. absurd (omega (arith, none));
}

pub loop-level-preserved : goal.loop-level-preserved
loop-level-preserved g c =
    let inv = c.loop-level.invariant in
    let x = g.D.Shelf.puts c.args.shelf.now in
    let y = g.D.Shelf.puts c.loop-level.shelf in
    let row = c.in_ok-row.row in
    let is = c.in_ok-push.ensures.items in
    let rows = c.loop-level.rows.items in
    record {
      same = kept_twice x y (g.D.Shelf.puts c.row_on_shelf.new.shelf) inv.same c.row_on_shelf.ensures.same;
      counted = c.in_ok-row.ensures.counted ∙ inv.counted;
      count = let count = inv.count in omega (arith, count, ap length is, length-append rows (row ∷ []));
      wide = items_next None
          (λ k (o : Option (Vec (List ℕ) Global)). IfSome (option_map (λ r. r.items) o) (λ r. length r ≡ width_of c.args.size k))
          rows c.push.new.self.items row c.loop-level.level is inv.count inv.wide
          (some_mapped row (λ r. length r ≡ width_of c.args.size c.loop-level.level) c.in_ok-row.ensures.wide);
      read = items_next None
          (λ k (o : Option (Vec (List ℕ) Global)). IsFoundRow (IsReadPartial x) c.args.size k (option_map (λ r. r.items) o))
          rows c.push.new.self.items row c.loop-level.level is inv.count inv.read
          (shelf_row_before x y inv.same c.args.size c.loop-level.level (option_map (λ r. r.items) row) c.in_ok-row.ensures.read);
    }

pub returns-clause-wide : goal.returns-clause-wide
returns-clause-wide g c = λ level low.
    let past = c.loop-level-test.false in
    subst (λ (given : GivenRows). IfSome (given_at given level) (λ row. length row ≡ width_of c.args.size level))
    (sym c.new.ensures) (c.loop-level.invariant.wide level (omega (arith, low, past)))

pub returns-clause-read : goal.returns-clause-read
returns-clause-read g c =
    let past = c.loop-level-test.false in
    subst (λ (given : GivenRows). AreFoundRows (IsReadPartial (g.D.Shelf.puts c.args.shelf.now)) c.args.size given) (sym c.new.ensures)
    (record { each = λ level low. c.loop-level.invariant.read level (omega (arith, low, past)) })
