use Rattle.std.proofs.Common.{◌≡◌, List, ℕ, ◌∷◌, length, Vec, Global, map, sym, ap, ◌∙◌, arith}
use Rattle.std.proofs.lemmas.List.{nil_from_length}
use Rattle.std.specs.Vec.Iter.{into_iter_items}
use Rattle.tlog_hash.specs.Tree.{fold_of}
use Rattle.mirror_model.specs.Edge.{root_from}
use Rattle.mirror_trees.proofs.BuiltTrees.{above_root}
use Rattle.mirror_trees.proofs.edge.root_above.Goals as goal

pub loop-row-init : goal.loop-row-init
loop-row-init g c =
    let same = c.into_iter-row-iterator.ensures.into_iter_gives.0 in record {
      root = ap
          (λ (rows : List (Vec (List ℕ) Global)). root_from g.H.TreeHash.digest c.args.start
          (map (λ row. row.items) rows)) same;
      count = (let gives =
          c.into_iter-row-iterator.ensures.into_iter_gives in let rows =
          c.args.rows in omega (arith, gives.1, ap length same, rows.ok));
    }

pub loop-row-preserved : goal.loop-row-preserved
loop-row-preserved g c =
    let d = g.H.TreeHash.digest in
    let left : into_iter_items c.loop-row.row-iterator ≡ c.in-Some.row ∷ into_iter_items c.next.new.self =
    c.in-Some.ensures.steps.0 in
    let rest : List (List (List ℕ)) = map (λ row. row.items) (into_iter_items c.next.new.self) in
    let hash_is = c.fold-value.ensures ∙ ap (fold_of d) c.as_slice.ensures.value in record {
      root = above_root d c.loop-row.value c.fold-value.result c.in-Some.row.items c.push.new.self.items rest
          c.in_ok-push.ensures.items hash_is
          ∙ ap (λ (rows : List (Vec (List ℕ) Global)). root_from d c.loop-row.value (map (λ row. row.items) rows))
          (sym left) ∙ c.loop-row.invariant.root;
      count = omega (arith, c.in-Some.ensures.steps.1, ap length left, c.loop-row.invariant.count);
    }

pub returns : goal.returns
returns g c =
    let none =
    nil_from_length (into_iter_items c.loop-row.row-iterator)
    (sym c.loop-row.invariant.count ∙ c.in-None.ensures.steps.0) in
    sym (ap (λ (rows : List (Vec (List ℕ) Global)). root_from g.H.TreeHash.digest c.loop-row.value
    (map (λ row. row.items) rows)) none) ∙ c.loop-row.invariant.root
