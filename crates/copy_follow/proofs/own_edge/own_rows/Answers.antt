use Rattle.std.proofs.Common.{ℕ, [], ◌∷◌, None, Option, Vec, List, Global, length, length-append, refl, ap, subst, sym, ◌∙◌, arith}
use Rattle.std.specs.Prelude.{option_map}
use Rattle.mirror_folders.specs.Shelf.{RecordsRead}
use Rattle.log_reader.proofs.Kept.{kept_once, kept_twice}
use Rattle.copy_places.specs.FoundRows.{AreFoundRows, IsFoundRow}
use Rattle.mirror_folders.specs.Partial.{IsReadCut}
use Rattle.copy_places.specs.declared.mix.GivenRows.{GivenRows}
use Rattle.copy_places.proofs.Mixing.{items_next}
use Rattle.copy_follow.proofs.Own.{cut_row_before, part_before}
use Rattle.copy_follow.proofs.own_edge.own_rows.Goals as goal

pub loop-level-init : goal.loop-level-init
loop-level-init g c = record {
  same = kept_once (g.D.Shelf.puts c.args.shelf.now);
  counted = refl;
  many_parts = ap length c.new-parts.ensures.items;
  many_cuts = ap length c.new-cuts.ensures.items;
  parts = λ k none. absurd (omega (arith, none));
  cuts = λ k none. absurd (omega (arith, none));
}

pub loop-level-preserved : goal.loop-level-preserved
loop-level-preserved g c =
    let inv = c.loop-level.invariant in
    let x = g.D.Shelf.puts c.args.shelf.now in
    let y = g.D.Shelf.puts c.loop-level.shelf in
    let z = g.D.Shelf.puts c.part_row.new.shelf in
    let w = g.D.Shelf.puts c.cut_row.new.shelf in
    let earlier = kept_twice x y z inv.same c.part_row.ensures.same in
    let parts = c.loop-level.parts.items in
    let cuts = c.loop-level.cuts.items in
    let part = c.in-Ok.part in
    let cut = c.in-Ok-cut_row.cut in
    let more = c.in-Ok-push_both.ensures in
    record {
      same = kept_twice x z w earlier c.cut_row.ensures.same;
      counted = c.in-Ok-cut_row.ensures.counted ∙ (c.in-Ok.ensures.counted ∙ inv.counted);
      many_parts = let count = inv.many_parts in omega (arith, count, ap length more.0, length-append parts (part ∷ []));
      many_cuts = let count = inv.many_cuts in omega (arith, count, ap length more.1, length-append cuts (cut ∷ []));
      parts = items_next None
          (λ k (o : Option (Vec (List ℕ) Global)). IsFoundRow (RecordsRead x) c.args.size k (option_map (λ r. r.items) o))
          parts c.push_both.new.parts.items part c.loop-level.level more.0 inv.many_parts inv.parts
          (part_before x y inv.same c.args.size c.loop-level.level (option_map (λ r. r.items) part) c.in-Ok.ensures.read);
      cuts = items_next None
          (λ k (o : Option (Vec (List ℕ) Global)). IsFoundRow (IsReadCut x) c.args.size k (option_map (λ r. r.items) o))
          cuts c.push_both.new.cuts.items cut c.loop-level.level more.1 inv.many_cuts inv.cuts
          (cut_row_before x z earlier c.args.size c.loop-level.level (option_map (λ r. r.items) cut) c.in-Ok-cut_row.ensures.read);
    }

pub returns-clause-parts : goal.returns-clause-parts
returns-clause-parts g c =
    let past = c.loop-level-test.false in
    subst (λ (given : GivenRows). AreFoundRows (RecordsRead (g.D.Shelf.puts c.args.shelf.now)) c.args.size given) (sym c.new.ensures)
    (record { each = λ level low. c.loop-level.invariant.parts level (omega (arith, low, past)) })

pub returns-clause-cuts : goal.returns-clause-cuts
returns-clause-cuts g c =
    let past = c.loop-level-test.false in
    subst (λ (given : GivenRows). AreFoundRows (IsReadCut (g.D.Shelf.puts c.args.shelf.now)) c.args.size given) (sym c.new-2.ensures)
    (record { each = λ level low. c.loop-level.invariant.cuts level (omega (arith, low, past)) })
