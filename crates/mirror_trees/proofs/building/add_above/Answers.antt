use Rattle.std.proofs.Common.{◌≡◌, List, ℕ, [], ◌∷◌, ◌++◌, length, Vec, Global, map, sym, ap, ◌∙◌, subst}
use Rattle.std.proofs.Common.{arith}
use Rattle.std.proofs.lemmas.List.{nil_from_length}
use Rattle.std.specs.FinSet as set
use Rattle.std.specs.List.{Contains}
use Rattle.std.proofs.lemmas.List.Elements.{Contains-append_left}
use Rattle.std.specs.Vec.Iter.{into_iter_items}
use Rattle.tlog_hash.specs.Tree.{fold_of, joins}
use Rattle.mirror_model.specs.Edge.{root_from, strings_from}
use Rattle.mirror_model.specs.Strings.{HasClash}
use Rattle.mirror_trees.proofs.BuiltTrees.{above_root, above_strings, above_clash, added_none}
use Rattle.mirror_trees.specs.Building.{HasGained}
use Rattle.mirror_trees.proofs.Gained.{gained_none, gained_above}
use Rattle.mirror_trees.proofs.building.add_above.Goals as goal

pub loop-row-init : goal.loop-row-init
loop-row-init g c =
    let d = g.H.TreeHash.digest in
    let same = c.into_iter-row-iterator.ensures.into_iter_gives.0 in record {
      root = ap (λ (rows : List (Vec (List ℕ) Global)). root_from d c.args.start (map (λ row. row.items) rows)) same;
      strings =
          ap (λ (rows : List (Vec (List ℕ) Global)). set.union c.args.store.now
          (set.from_list (strings_from d c.args.start (map (λ row. row.items) rows)))) same;
      grows = λ s h. h;
      count = (let gives =
          c.into_iter-row-iterator.ensures.into_iter_gives in let rows =
          c.args.rows in omega (arith, gives.1, ap length same, rows.ok));
      no_clash = c.requires;
    }

pub loop-row-preserved : goal.loop-row-preserved
loop-row-preserved g c =
    let d = g.H.TreeHash.digest in
    let left : into_iter_items c.loop-row.row-iterator ≡ c.in-Some.row ∷ into_iter_items c.next.new.self =
    c.in-Some.ensures.steps.0 in
    let rest : List (List (List ℕ)) = map (λ row. row.items) (into_iter_items c.next.new.self) in
    let hash_is = c.in-Ok-add_row.ensures.hash ∙ ap (fold_of d) c.as_slice.ensures.value in
    let store_is =
    c.in-Ok-add_row.ensures.ok ∙
    ap (λ xs. set.union c.loop-row.store (set.from_list (joins d xs))) c.as_slice.ensures.value in record {
      root = above_root d c.loop-row.value c.in-Ok-add_row.hash c.in-Some.row.items c.push.new.self.items rest
          c.in-Ok.ensures.items hash_is
          ∙ ap (λ (rows : List (Vec (List ℕ) Global)). root_from d c.loop-row.value (map (λ row. row.items) rows))
          (sym left) ∙ c.loop-row.invariant.root;
      strings =
          above_strings d c.loop-row.value c.in-Ok-add_row.hash c.in-Some.row.items c.push.new.self.items rest
          c.in-Ok.ensures.items c.loop-row.store c.add_row.new.store hash_is store_is
          ∙ ap (λ (rows : List (Vec (List ℕ) Global)). set.union c.loop-row.store
          (set.from_list (strings_from d c.loop-row.value (map (λ row. row.items) rows)))) (sym left) ∙
          c.loop-row.invariant.strings;
      grows = λ s h. c.add_row.ensures.gained.at_least s (c.loop-row.invariant.grows s h);
      count = omega (arith, c.in-Some.ensures.steps.1, ap length left, c.loop-row.invariant.count);
      no_clash = c.in-Ok-add_row.ensures.no_clash;
    }

pub returns-in-Err-clause-collision : goal.returns-in-Err-clause-collision
returns-in-Err-clause-collision g c = λ is.
    let d = g.H.TreeHash.digest in
    let left : into_iter_items c.loop-row.row-iterator ≡ c.in-Some.row ∷ into_iter_items c.next.new.self =
    c.in-Some.ensures.steps.0 in
    let rest : List (List (List ℕ)) = map (λ row. row.items) (into_iter_items c.next.new.self) in
    subst (HasClash d)
    (ap (λ (rows : List (Vec (List ℕ) Global)). set.union c.loop-row.store
    (set.from_list (strings_from d c.loop-row.value (map (λ row. row.items) rows)))) (sym left) ∙
    c.loop-row.invariant.strings)
    (above_clash d c.loop-row.value
    (fold_of d c.push.new.self.items) c.in-Some.row.items c.push.new.self.items rest c.in-Ok.ensures.items
    c.loop-row.store
    (subst (λ xs. HasClash d (set.union c.loop-row.store (set.from_list (joins d xs)))) c.as_slice.ensures.value
    (c.in-Err.ensures.collision is)))

pub returns-clause-hash : goal.returns-clause-hash
returns-clause-hash g c =
    let d = g.H.TreeHash.digest in
    let none =
    nil_from_length (into_iter_items c.loop-row.row-iterator)
    (sym c.loop-row.invariant.count ∙ c.in-None.ensures.steps.0) in
    sym (ap (λ (rows : List (Vec (List ℕ) Global)). root_from d c.loop-row.value (map (λ row. row.items) rows)) none) ∙
    c.loop-row.invariant.root

pub returns-clause-ok : goal.returns-clause-ok
returns-clause-ok g c =
    let d = g.H.TreeHash.digest in
    let none =
    nil_from_length (into_iter_items c.loop-row.row-iterator)
    (sym c.loop-row.invariant.count ∙ c.in-None.ensures.steps.0) in
    added_none c.loop-row.store
    ∙ sym (ap
    (λ (rows : List (Vec (List ℕ) Global)). set.union c.loop-row.store
    (set.from_list (strings_from d c.loop-row.value (map (λ row. row.items) rows)))) none) ∙
    c.loop-row.invariant.strings

pub returns-in_default-clause-gained : goal.returns-in_default-clause-gained
returns-in_default-clause-gained g c =
    let d = g.H.TreeHash.digest in
    gained_above c.args.store.now c.loop-row.store c.loop-row.store
    (strings_from d c.args.start (map (λ row. row.items) c.args.rows.items))
    (strings_from d c.loop-row.value (map (λ row. row.items) (into_iter_items c.loop-row.row-iterator))) []
    c.loop-row.invariant.grows c.loop-row.invariant.strings (λ y h. absurd (omega (arith, h.1)))
    (gained_none c.loop-row.store [])

pub returns-in-Err-clause-gained : goal.returns-in-Err-clause-gained
returns-in-Err-clause-gained g c =
    let d = g.H.TreeHash.digest in
    let left : into_iter_items c.loop-row.row-iterator ≡ c.in-Some.row ∷ into_iter_items c.next.new.self =
    c.in-Some.ensures.steps.0 in
    let rest : List (List (List ℕ)) = map (λ row. row.items) (into_iter_items c.next.new.self) in
    gained_above c.args.store.now c.loop-row.store c.add_row.new.store
    (strings_from d c.args.start (map (λ row. row.items) c.args.rows.items))
    (strings_from d c.loop-row.value (map (λ row. row.items) (into_iter_items c.loop-row.row-iterator)))
    (joins d (c.in-Some.row.items ++ c.loop-row.value ∷ []))
    c.loop-row.invariant.grows c.loop-row.invariant.strings
    (λ y h. subst (λ (rows : List (Vec (List ℕ) Global)). Contains
    (strings_from d c.loop-row.value (map (λ row. row.items) rows)) y) (sym left)
    (Contains-append_left (joins d (c.in-Some.row.items ++ c.loop-row.value ∷ []))
    (strings_from d (fold_of d (c.in-Some.row.items ++ c.loop-row.value ∷ [])) rest) y h))
    (subst (λ xs. HasGained c.loop-row.store (joins d xs) c.add_row.new.store)
    (c.as_slice.ensures.value ∙ c.in-Ok.ensures.items) c.add_row.ensures.gained)

pub returns-clause-gained : goal.returns-clause-gained
returns-clause-gained g c =
    let d = g.H.TreeHash.digest in
    gained_above c.args.store.now c.loop-row.store c.loop-row.store
    (strings_from d c.args.start (map (λ row. row.items) c.args.rows.items))
    (strings_from d c.loop-row.value (map (λ row. row.items) (into_iter_items c.loop-row.row-iterator))) []
    c.loop-row.invariant.grows c.loop-row.invariant.strings (λ y h. absurd (omega (arith, h.1)))
    (gained_none c.loop-row.store [])
