use Rattle.std.proofs.Common.{All, ◌<◌, ℕ, List, get_or, length, length-append, [], ◌∷◌, ap, subst, sym, arith}
use Rattle.std.proofs.lemmas.List.Elements.{All-append, All-cons, All-nil}
use Rattle.copy_places.specs.Mixes.{HaveNoMix, HaveWidths}
use Rattle.copy_places.specs.declared.mix.GivenRows.{GivenRows}
use Rattle.copy_places.proofs.Asking.{turn_one}
use Rattle.copy_places.proofs.AskingEnds.{ends_same, ends_then, still_size}
use Rattle.copy_places.proofs.KeptRows.{lack_mixes, ok_none_weaker, turns_more}
use Rattle.copy_places.proofs.Mixing.{items_more}
use Rattle.copy_places.proofs.kept.kept_edge.Goals as goal

pub loop-turn-init : goal.loop-turn-init
loop-turn-init g c =
    record {
      goes = ends_same g.S.Source.may_answer g.S.Source.failed g.S.Source.asked c.args.places.now;
      end = c.requires;
      wide = subst (All (HaveWidths c.args.size)) (sym c.new-given.ensures.items) (All-nil (HaveWidths c.args.size));
      long = ap length c.new-given.ensures.items;
      kept = λ t d none. absurd (omega (arith, none));
      alone = λ t d none. absurd (omega (arith, none));
    }

pub returns-in_err-rows-clause-goes : goal.returns-in_err-rows-clause-goes
returns-in_err-rows-clause-goes g c =
    ends_then g.S.Source.may_answer g.S.Source.failed g.S.Source.asked c.args.places.now c.loop-turn.places c.kept_rows.new.places c.loop-turn.invariant.goes c.kept_rows.ensures.goes

pub returns-in_err-edge-clause-goes : goal.returns-in_err-edge-clause-goes
returns-in_err-edge-clause-goes g c =
    ends_then g.S.Source.may_answer g.S.Source.failed g.S.Source.asked c.args.places.now c.loop-turn.places c.kept_rows.new.places c.loop-turn.invariant.goes c.kept_rows.ensures.goes

pub returns-in-Some-clause-goes : goal.returns-in-Some-clause-goes
returns-in-Some-clause-goes g c =
    ends_then g.S.Source.may_answer g.S.Source.failed g.S.Source.asked c.args.places.now c.loop-turn.places c.kept_rows.new.places c.loop-turn.invariant.goes c.kept_rows.ensures.goes

pub returns-in_err-push-in-None-clause-goes : goal.returns-in_err-push-in-None-clause-goes
returns-in_err-push-in-None-clause-goes g c =
    ends_then g.S.Source.may_answer g.S.Source.failed g.S.Source.asked c.args.places.now c.loop-turn.places c.kept_rows.new.places c.loop-turn.invariant.goes c.kept_rows.ensures.goes

pub loop-turn-preserved : goal.loop-turn-preserved
loop-turn-preserved g c =
    let inv = c.loop-turn.invariant in
    let now = c.kept_rows.ensures.goes in
    let is = c.in_ok-push-in-None.ensures.items in
    record {
      goes = ends_then g.S.Source.may_answer g.S.Source.failed g.S.Source.asked c.args.places.now c.loop-turn.places c.kept_rows.new.places inv.goes now;
      end = still_size g.S.Source.may_answer g.S.Source.failed g.S.Source.asked c.loop-turn.places c.kept_rows.new.places now c.args.size inv.end;
      wide = subst (All (HaveWidths c.args.size)) (sym c.in_ok-push-in-None.ensures.items)
          (All-append (HaveWidths c.args.size) c.loop-turn.given.items (c.in_ok-rows.rows ∷ []) inv.wide
          (All-cons (HaveWidths c.args.size) c.in_ok-rows.rows [] c.in_ok-rows.ensures.wide (All-nil (HaveWidths c.args.size))));
      long = let long = inv.long in omega (arith, long, ap length is, length-append c.loop-turn.given.items (c.in_ok-rows.rows ∷ []));
      kept = turns_more c.args.size c.loop-turn.places.ends.tiles.items c.kept_rows.new.places.ends.tiles.items now.stay c.first-first.result
          c.loop-turn.turn c.in_turn-index.result
          (λ k at. turn_one c.first-first.result c.loop-turn.turn c.in_turn-index.result k c.in_turn-index.ensures.turn at)
          c.loop-turn.given.items c.push.new.self.items c.in_ok-rows.rows is inv.long inv.kept c.in_ok-rows.ensures.kept;
      alone = items_more (λ t (rows : GivenRows). HaveNoMix g.H.TreeHash.digest c.args.size c.args.root.now rows rows) c.loop-turn.given.items
          c.push.new.self.items c.in_ok-rows.rows c.loop-turn.turn is inv.long inv.alone (rw c.in-None.is at c.in_ok-edge.ensures.none);
    }

pub returns-clause-none : goal.returns-clause-none
returns-clause-none g c =
    let digest = g.H.TreeHash.digest in
    let inv = c.loop-turn.invariant in
    let long = c.len-turn-end.ensures in
    let past = c.loop-turn-test.false in
    ok_none_weaker c.edge_of_pairs.result _ _
    (λ pairs. lack_mixes digest c.args.size c.args.root.now c.loop-turn.places.ends.tiles.items (length c.args.places.now.list.items)
    c.first-first.result c.loop-turn.turn c.loop-turn.given.items c.first-first.ensures (omega (arith, long, past)) inv.long inv.kept
    inv.alone
    (subst (λ (given : List GivenRows). (s t : ℕ) (d : GivenRows) → s < t → t < length given →
    HaveNoMix digest c.args.size c.args.root.now (get_or given s d) (get_or given t d)) c.deref.ensures.value pairs))
    c.edge_of_pairs.ensures.none
