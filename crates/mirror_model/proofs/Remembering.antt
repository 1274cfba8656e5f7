-- The whole list of a complete tree head is a mark.
use Rattle.std.proofs.Common.{◌≡◌, ℕ, ◌+◌, ◌≤◌, List, ◌∷◌, ◌++◌, length, take, drop, sym, refl, ap, ◌∙◌, arith, inl}
use Rattle.std.proofs.lemmas.List.{take_all}
use Rattle.tlog_hash.specs.Tree.{Tree, Empty, One, Join, tree_of, size_of, mth}
use Rattle.tlog_hash.specs.Nodes.{Node, IsNode, entries_root}
use Rattle.tlog_hash.specs.Rows.{part}
use Rattle.tlog_hash.proofs.NodeStrings.{size_of-tree}
use Rattle.mirror_model.specs.MarkLaws.{WholeListIsMark}

-- the top node of a tree that is not empty
pub record HasTop (digest : List ℕ → List ℕ) (t : Tree (List ℕ)) : Type 0 where
  pub node : Node
  pub is : IsNode digest t 0 node
  pub start_is : node.start ≡ 0
  pub len_is : node.len ≡ size_of t

pub top_of : (digest : List ℕ → List ℕ) (t : Tree (List ℕ)) → 1 ≤ size_of t → HasTop digest t
top_of digest Empty some = absurd (omega arith)
top_of digest (One e) some =
    record {
      node =
          record { start = 0; len = 1; string = 0 ∷ e };
      is =
          record { start_is = refl; len_is = refl; string_is = refl };
      start_is = refl;
      len_is = refl;
    }
top_of digest (Join l r) some =
    record {
      node =
          record {
            start = 0;
            len = size_of l + size_of r;
            string = 1 ∷ entries_root digest l ++ entries_root digest r;
          };
      is =
          inl (record { start_is = refl; len_is = refl; string_is = refl });
      start_is = refl;
      len_is = refl;
    }

pub whole_is_mark : WholeListIsMark
whole_is_mark digest v point entries some c =
    let size = size_of-tree entries in
    let top = top_of digest (tree_of entries) (omega (arith, size, c.tree.size_is)) in
    let len : top.node.len ≡ length entries = top.len_is ∙ size in
    let whole : part top.node.start top.node.len entries ≡ entries =
    ap (λ s. take top.node.len (drop s entries)) top.start_is ∙
    take_all top.node.len entries (omega (arith, len)) in
    record {
      size = point.size;
      root = point.root;
      entries = entries;
      complete = c;
      node = top.node;
      is = top.is;
      len_is = sym c.tree.size_is ∙ sym len;
      hash_is = sym c.tree.root_is ∙ ap (mth digest) (sym whole);
    }
