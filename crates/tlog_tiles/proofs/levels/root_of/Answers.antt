use Rattle.std.proofs.Common.{◌≡◌, ◌*◌, ◌-◌, ◌++◌, ◌∷◌, [], length, take, drop, ap, ◌∙◌}
use Rattle.std.proofs.lemmas.List.{take_rest}
use Rattle.tlog_hash.specs.Tree.{fold_of}
use Rattle.tlog_tiles.proofs.FullRows.{root_with_rest, root_without_rest, no_root, some_of, none_of}
use Rattle.tlog_tiles.proofs.levels.root_of.Goals as goal
use Rattle.tlog_tiles.proofs.levels.root_of.Goals.{then-not-is_empty+in_ok-push, else-not-is_empty}

pub returns-then-is_empty : goal.returns-then-is_empty
returns-then-is_empty g c = λ entries is_leaves is_above.
    c.empty.ensures ∙
    no_root g.H.TreeHash.digest entries c.args.leaves.now is_leaves
    (none_of (length c.args.leaves.now) c.if-is_empty.ensures)

pub returns : goal.returns
returns g c = λ entries is_leaves is_above.
    let leaves = c.args.leaves.now in
    let upper = c.args.above.now in
    let rest = take (length leaves - 256 * length upper) (drop (256 * length upper) leaves) in
    let is_rest : rest ≡ drop (256 * length upper) leaves = take_rest leaves (256 * length upper) in
    let some = some_of (length leaves) c.if-is_empty.ensures in
    c.fold-2.ensures ∙ elim c.if-not-is_empty.branch [
      | then-not-is_empty+in_ok-push w ↦
          root_with_rest g.H.TreeHash.digest entries leaves upper rest c.deref.result.now is_leaves is_above is_rest
          (some_of (length rest) w.if-not-is_empty.ensures)
          (c.deref.ensures.value ∙ ap (λ v. v.items) w.row-is ∙ w.in_ok-push.ensures.items ∙
          ap (λ xs. xs ++ w.fold.result ∷ []) c.in_ok-row.ensures.items ∙ ap (λ h. upper ++ h ∷ []) w.fold.ensures)
      | else-not-is_empty w ↦
          ap (λ xs. fold_of g.H.TreeHash.digest xs)
          (c.deref.ensures.value ∙ ap (λ v. v.items) w.row-is ∙ c.in_ok-row.ensures.items)
          ∙ root_without_rest g.H.TreeHash.digest entries leaves upper rest is_leaves is_above is_rest some
          (none_of (length rest) w.if-not-is_empty.ensures)
    ]
