-- The laws of the standard.
use Rattle.std.proofs.Common.{◌≡◌, ℕ, ◌≤◌, List, ◌∷◌, ◌++◌, length, sym, ◌∙◌, subst, arith, length-take, length-drop}
use Rattle.std.specs.List.{Contains}
use Rattle.tlog_shape.specs.Split.{split_of}
use Rattle.tlog_shape.proofs.Splits.{split_of-below, split_of-positive}
use Rattle.tlog_hash.specs.Tree.{fold_of, mth, strings}
use Rattle.tlog_hash.specs.Laws.{IsTreeHash, IsFold, MthIsTreeHash, FoldMeetsEquations, StringsFollowSplit}
use Rattle.tlog_hash.specs.Laws.{TreeGoesByBlocks}
use Rattle.tlog_hash.specs.Laws.{NodesAreStrings}
use Rattle.tlog_hash.proofs.Trees.{induction, mth-none, mth-one, mth-join, fold_of-one, fold_of-join, strings-none}
use Rattle.tlog_hash.proofs.Trees.{strings-one}
use Rattle.tlog_hash.proofs.Cuts.{tree_of-blocks}
use Rattle.tlog_hash.proofs.NodeStrings.{node_of_string, string_of_node, strings_join}

module _ (digest : List ℕ → List ℕ) (hash : List (List ℕ) → List ℕ) where
  only_mth : IsTreeHash digest hash → (entries : List (List ℕ)) → hash entries ≡ mth digest entries
  only_mth h entries =
      induction (λ es. hash es ≡ mth digest es)
      (h.none ∙ sym (mth-none digest))
      (λ e. h.one e ∙ sym (mth-one digest e))
      (λ es two l r. h.join es two ∙ (λ i. digest (1 ∷ l i ++ r i)) ∙ sym (mth-join digest es two))
      entries

  only_fold : IsFold digest hash → (row : List (List ℕ)) → 1 ≤ length row → hash row ≡ fold_of digest row
  only_fold h row =
      induction (λ xs. 1 ≤ length xs → hash xs ≡ fold_of digest xs)
      (λ some. absurd (omega arith))
      (λ x some. h.one x ∙ sym (fold_of-one digest x))
      (λ xs two l r some.
      let below = split_of-below (length xs) two in
      let positive = split_of-positive (length xs) two in
      let left = l (omega (arith, length-take (split_of (length xs)) xs)) in
      let right = r (omega (arith, length-drop (split_of (length xs)) xs)) in
      h.join xs two ∙ (λ i. digest (1 ∷ left i ++ right i)) ∙ sym (fold_of-join digest xs two))
      row

pub mth_is_tree_hash : MthIsTreeHash
mth_is_tree_hash digest =
    (record { none = mth-none digest; one = mth-one digest; join = mth-join digest }, only_mth digest)

pub fold_is_fold : FoldMeetsEquations
fold_is_fold digest = (record { one = fold_of-one digest; join = fold_of-join digest }, only_fold digest)

pub tree_strings : StringsFollowSplit
tree_strings digest = record { none = strings-none digest; one = strings-one digest; join = strings_join digest }

pub tree_of_blocks : TreeGoesByBlocks
tree_of_blocks exponent blocks cut = tree_of-blocks exponent blocks cut

pub nodes_are_strings : NodesAreStrings
nodes_are_strings digest es y = (
  λ h. let n =
      node_of_string digest es 0 y h in (n.node, n.is, n.string_is),
  λ h. subst (Contains (strings digest es)) h.2 (string_of_node digest es 0 h.0 h.1),
)
