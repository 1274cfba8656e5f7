use Rattle.std.proofs.Common.{◌≡◌, ℕ, [], ◌∷◌, None, Option, Vec, List, Global, get_or, length, length-append, ap, subst, sym, arith}
use Rattle.std.specs.Prelude.{IfSome, option_map}
use Rattle.tlog_shape.specs.Edge.{width_of}
use Rattle.copy_places.specs.KeptRows.{AreKeptRows, IsKeptRow}
use Rattle.copy_places.specs.Mixes.{given_at}
use Rattle.copy_places.specs.declared.mix.GivenRows.{GivenRows}
use Rattle.copy_places.proofs.AskingEnds.{ends_same, ends_then, still_size}
use Rattle.copy_places.proofs.RowsGiven.{some_mapped}
use Rattle.copy_places.proofs.KeptRows.{row_later}
use Rattle.copy_places.proofs.Mixing.{items_next}
use Rattle.copy_places.proofs.kept.kept_rows.Goals as goal

pub loop-level-init : goal.loop-level-init
loop-level-init g c =
    record {
      goes = ends_same g.S.Source.may_answer g.S.Source.failed g.S.Source.asked c.args.places.now;
      listed = c.requires.place;
      end = c.requires.end;
      count = ap length c.new-rows.ensures.items;
      wide = λ k none. absurd (omega (arith, none));
      kept = λ k none. absurd (omega (arith, none));
    }

pub returns-in_err-row-clause-goes : goal.returns-in_err-row-clause-goes
returns-in_err-row-clause-goes g c =
    ends_then g.S.Source.may_answer g.S.Source.failed g.S.Source.asked c.args.places.now c.loop-level.places c.kept_row.new.places c.loop-level.invariant.goes c.kept_row.ensures.goes

pub returns-in_err-push-clause-goes : goal.returns-in_err-push-clause-goes
returns-in_err-push-clause-goes g c =
    ends_then g.S.Source.may_answer g.S.Source.failed g.S.Source.asked c.args.places.now c.loop-level.places c.kept_row.new.places c.loop-level.invariant.goes c.kept_row.ensures.goes

pub loop-level-preserved : goal.loop-level-preserved
loop-level-preserved g c =
    let inv = c.loop-level.invariant in
    let now = c.kept_row.ensures.goes in
    let row = c.in_ok-row.row in
    let is = c.in_ok-push.ensures.items in
    let rows = c.loop-level.rows.items in
    record {
      goes = ends_then g.S.Source.may_answer g.S.Source.failed g.S.Source.asked c.args.places.now c.loop-level.places c.kept_row.new.places inv.goes now;
      listed = let lt = inv.listed in let count = now.asks.count in omega (arith, lt, count);
      end = still_size g.S.Source.may_answer g.S.Source.failed g.S.Source.asked c.loop-level.places c.kept_row.new.places now c.args.size inv.end;
      count = let count = inv.count in omega (arith, count, ap length is, length-append rows (row ∷ []));
      wide = items_next None
          (λ k (o : Option (Vec (List ℕ) Global)). IfSome (option_map (λ r. r.items) o) (λ r. length r ≡ width_of c.args.size k))
          rows c.push.new.self.items row c.loop-level.level is inv.count inv.wide
          (some_mapped row (λ r. length r ≡ width_of c.args.size c.loop-level.level) c.in_ok-row.ensures.wide);
      kept = items_next None
          (λ k (o : Option (Vec (List ℕ) Global)). IsKeptRow c.kept_row.new.places.ends.tiles.items c.args.index c.args.size k (option_map (λ r. r.items) o))
          rows c.push.new.self.items row c.loop-level.level is inv.count
          (λ k lt. row_later c.loop-level.places.ends.tiles.items c.kept_row.new.places.ends.tiles.items now.stay c.args.index c.args.size k
          (option_map (λ r. r.items) (get_or rows k None)) (inv.kept k lt))
          c.in_ok-row.ensures.kept;
    }

pub returns-clause-wide : goal.returns-clause-wide
returns-clause-wide g c = λ level low.
    let past = c.loop-level-test.false in
    subst (λ (given : GivenRows). IfSome (given_at given level) (λ row. length row ≡ width_of c.args.size level))
    (sym c.new.ensures) (c.loop-level.invariant.wide level (omega (arith, low, past)))

pub returns-clause-kept : goal.returns-clause-kept
returns-clause-kept g c =
    let past = c.loop-level-test.false in
    subst (λ (given : GivenRows). AreKeptRows c.loop-level.places.ends.tiles.items c.args.index c.args.size given) (sym c.new.ensures)
    (record { each = λ level low. c.loop-level.invariant.kept level (omega (arith, low, past)) })
