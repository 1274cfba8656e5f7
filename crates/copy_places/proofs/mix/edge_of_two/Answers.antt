use Rattle.std.proofs.Common.{None, map, subst, sym, List}
use Rattle.copy_places.specs.Mixes.{IsMixTo}
use Rattle.copy_places.specs.declared.mix.TwoRows.{TwoRows}
use Rattle.copy_places.proofs.Mixing.{is_mix, mix_leads, mix_none}
use Rattle.copy_places.proofs.mix.edge_of_two.Goals as goal

pub returns-in-Some-2-clause-leads : goal.returns-in-Some-2-clause-leads
returns-in-Some-2-clause-leads g c =
    let levels = c.in-Some.levels.items in
    let digest = g.H.TreeHash.digest in
    let root = c.args.root.now in
    let rows = map (λ v. v.items) c.in-Some-2.rows.items in
    let found = rw c.in-Some-2.is at c.in_ok-rows.ensures.some in
    mix_leads digest c.args.size root c.args.first.now c.args.second.now levels (rw c.in-Some.is at c.in_ok-levels.ensures.long)
    (rw c.in-Some.is at c.in_ok-levels.ensures.each) rows c.new.result c.requires.first c.requires.second
    (subst (λ (ls : List TwoRows). IsMixTo digest ls None root rows) c.deref.ensures.value found) c.new.ensures.size c.new.ensures.rows

pub returns-in-Some-2-clause-mix : goal.returns-in-Some-2-clause-mix
returns-in-Some-2-clause-mix g c =
    let levels = c.in-Some.levels.items in
    let digest = g.H.TreeHash.digest in
    let root = c.args.root.now in
    let rows = map (λ v. v.items) c.in-Some-2.rows.items in
    let found = rw c.in-Some-2.is at c.in_ok-rows.ensures.some in
    is_mix digest c.args.size root c.args.first.now c.args.second.now levels (rw c.in-Some.is at c.in_ok-levels.ensures.long)
    (rw c.in-Some.is at c.in_ok-levels.ensures.each) rows c.new.result
    (subst (λ (ls : List TwoRows). IsMixTo digest ls None root rows) c.deref.ensures.value found) c.new.ensures.rows

pub returns-clause-none : goal.returns-clause-none
returns-clause-none g c =
    let levels = c.in-Some.levels.items in
    let digest = g.H.TreeHash.digest in
    let root = c.args.root.now in
    let none = rw c.in-None.is at c.in_ok-rows.ensures.none in
    mix_none digest c.args.size root c.args.first.now c.args.second.now levels (rw c.in-Some.is at c.in_ok-levels.ensures.long)
    (rw c.in-Some.is at c.in_ok-levels.ensures.each)
    (λ rows m. none rows (subst (λ (ls : List TwoRows). IsMixTo digest ls None root rows) (sym c.deref.ensures.value) m))
