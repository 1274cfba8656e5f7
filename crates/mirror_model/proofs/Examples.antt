-- Small trees, computed.
use Rattle.std.proofs.Common.{◌≡◌, ℕ, ◌+◌, ◌-◌, ◌*◌, ◌/◌, ◌^◌, ◌≤◌, min, List, [], ◌∷◌, ◌++◌, length, get_or, sym, refl}
use Rattle.std.proofs.Common.{ap, ◌∙◌, subst, inl, inr, arith}
use Rattle.std.specs.FinSet as set
use Rattle.tlog_shape.specs.Split.{split_of, power_within}
use Rattle.tlog_hash.specs.Tree.{Tree, Empty, One, Join, size_of, tree_of, tree_within, fold_of, pairs_of, mth, joins}
use Rattle.tlog_hash.specs.Tree.{strings}
use Rattle.tlog_hash.specs.Sum.{sum_digest}
use Rattle.tlog_hash.specs.Nodes.{Node, entries_root}
use Rattle.tlog_hash.proofs.NodeStrings.{size_of-tree}
use Rattle.tlog_tiles.specs.declared.paths.Path.{Path}
use Rattle.tlog_tiles.specs.declared.paths.Path.TheVariants.{Checkpoint, Tile, Entries}
use Rattle.mirror_model.specs.Front.{InFront, IsPathOf}
use Rattle.mirror_model.specs.Edge.{edge_levels}
use Rattle.mirror_model.specs.declared.events.Event.TheVariants.{Take, Merge}
use Rattle.mirror_model.specs.Events.{OpeningReaches}
use Rattle.mirror_model.specs.Examples.{TreeOfThree, EdgesOfSizes, RootsOfRows, HashesDoNotTellForks, PartsOfThree}
use Rattle.mirror_model.specs.Examples.{MergesLeadInOrder, some_item, three}
use Rattle.mirror_model.specs.Examples.{IsFrontOfThree, HasTileOutside}
use Rattle.mirror_model.proofs.StringSets.{has_empty}
use Rattle.mirror_model.proofs.Reaching.{open_none, open_itself, open_first, open_by, item_none, item_first, item_by}

pub is_three : TreeOfThree
unfolding mth fold_of tree_of tree_within pairs_of joins strings split_of power_within sum_digest edge_levels
is_three =
    record {
      root =
          refl;
      prefix_root = refl;
      rows = refl;
      edge_root_is = refl;
      edge_strings_are = refl;
      strings_are = refl;
    }

pub has_edges : EdgesOfSizes
unfolding edge_levels
has_edges = record { none = refl; three = refl; full = refl; more = refl; three_levels = refl; gap = refl }

pub has_roots : RootsOfRows
unfolding fold_of tree_of tree_within pairs_of joins split_of power_within sum_digest
has_roots = record { none = refl; one = refl; two = refl; bare = refl; joined = refl }

pub has_parts : PartsOfThree
has_parts = record { row = refl; bundle = refl }

pub is_forked : HashesDoNotTellForks
unfolding mth fold_of tree_of tree_within split_of power_within sum_digest
is_forked = record {
  small_root = refl;
  large_root = refl;
  same_root = refl;
  not_prefix = λ p. let first : 1 ≡ 20 = ap (λ (es : List (List ℕ)). get_or (get_or es 0 []) 0 0) p.is in omega arith;
  not_extension =
      λ p. let first : 20 ≡ 1 = ap (λ (es : List (List ℕ)). get_or (get_or es 0 []) 0 0) p.is in omega arith;
}

pub is_way : MergesLeadInOrder
is_way = record {
  reaches =
      item_by (Merge 1 0 ∷ Merge 2 1 ∷ []) 0 some_item 2
      (open_by (Merge 2 1 ∷ []) 1 0 2 (open_by [] 2 1 2 (open_itself 2 [])));
  not_back = λ h. elim (item_first (Take 0 some_item) (Merge 2 1 ∷ Merge 1 0 ∷ []) some_item 2 h) [
    | inl a ↦ elim (item_first (Merge 2 1) (Merge 1 0 ∷ []) some_item 2 a) [
      | inl b ↦ elim
          (item_first (Merge 1 0) [] some_item 2 b) [ inl c ↦ item_none some_item 2 c | inr c ↦ absurd (cc (c.is)) ]
      | inr b ↦ absurd (cc (b.is))
    ]
    | inr a ↦
        let t : Take 0 some_item ≡ Take a.target some_item = a.is in
        let zero_is : 0 ≡ a.target = cc t in
        let on : OpeningReaches 0 2 (Merge 2 1 ∷ Merge 1 0 ∷ []) =
        subst (λ n. OpeningReaches n 2 (Merge 2 1 ∷ Merge 1 0 ∷ [])) (sym zero_is) a.on in
        elim (open_first (Merge 2 1) (Merge 1 0 ∷ []) 0 2 on) [
          | inl b ↦ elim (open_first (Merge 1 0) [] 0 2 b) [
            | inl c ↦ (let wrong : 0 ≡ 2 = open_none 0 2 c in omega (arith, wrong))
            | inr c ↦
                (let m : Merge 1 0 ≡ Merge c.target 0 =
                c.is in let one_is : 1 ≡ c.target =
                cc m in let wrong : c.target ≡ 2 = open_none c.target 2 c.on in omega (arith, wrong, one_is))
          ]
          | inr b ↦
              (let m : Merge 2 1 ≡ Merge b.target 0 =
              b.is in let one : ℕ = 1 in let none : ℕ = 0 in let wrong : one ≡ none = cc m in omega (arith, wrong))
        ]
  ];
  not_before = λ h. elim (item_first (Merge 1 0) (Take 0 some_item ∷ []) some_item 1 h) [
    | inr b ↦ absurd (cc (b.is))
    | inl a ↦ elim (item_first (Take 0 some_item) [] some_item 1 a) [
      | inl b ↦ item_none some_item 1 b
      | inr b ↦
          let t : Take 0 some_item ≡ Take b.target some_item = b.is in
          let zero_is : 0 ≡ b.target = cc t in
          let wrong : b.target ≡ 1 = open_none b.target 1 b.on in
          omega (arith, wrong, zero_is)
    ]
  ];
}

-- ---- fronts if nothing is held

-- the node in the front is the top of the tree
pub record HasFrontTop (digest : List ℕ → List ℕ) (t : Tree (List ℕ)) : Type 0 where
  pub node : Node
  pub is : InFront digest set.empty t 0 node
  pub start_is : node.start ≡ 0
  pub len_is : node.len ≡ size_of t

front_top : (digest : List ℕ → List ℕ) (t : Tree (List ℕ)) → 1 ≤ size_of t → HasFrontTop digest t
front_top digest Empty some = absurd (omega arith)
front_top digest (One e) some =
    record {
      node =
          record { start = 0; len = 1; string = 0 ∷ e };
      is =
          record { this = record { start_is = refl; len_is = refl; string_is = refl }; unheld = has_empty _ };
      start_is =
          refl;
      len_is = refl;
    }
front_top digest (Join l r) some =
    record {
      node =
          record {
            start = 0;
            len = size_of l + size_of r;
            string = 1 ∷ entries_root digest l ++ entries_root digest r;
          };
      is =
          inl (record { this = record { start_is = refl; len_is = refl; string_is = refl }; unheld = has_empty _ });
      start_is = refl;
      len_is = refl;
    }

only_top : (digest : List ℕ → List ℕ) (t : Tree (List ℕ)) (start : ℕ) (x : Node) → InFront digest set.empty t start x →
    (x.start ≡ start) × (x.len ≡ size_of t)
only_top digest Empty start x f = absurd f
only_top digest (One e) start x f = (f.this.start_is, f.this.len_is)
only_top digest (Join l r) start x (inl f) = (f.this.start_is, f.this.len_is)
only_top digest (Join l r) start x (inr f) = absurd (has_empty _ f.0)

pub is_front_of_three : IsFrontOfThree
is_front_of_three =
    let size : size_of (tree_of three) ≡ 3 = size_of-tree three in
    let top = front_top sum_digest (tree_of three) (omega (arith, size)) in
    record {
      bundle = record {
        node = top.node;
        is = top.is;
        path_is =
            record {
              few =
                  omega (arith, top.len_is, size);
              index_is = ap (λ n. n / 256) (sym top.start_is);
              width_is = refl;
            };
      };
      alone = λ path f. alone path f.node (only_top sum_digest (tree_of three) 0 f.node f.is) size f.path_is;
    }
  where
    alone : (path : Path) (x : Node) → (x.start ≡ 0) × (x.len ≡ size_of (tree_of three)) → size_of (tree_of three) ≡ 3 →
        IsPathOf 3 x.start x.len path → path ≡ Entries 0 3
    alone Checkpoint x at size p = absurd p
    alone (Tile level index width) x at size p = absurd (omega (arith, p.many, at.1, size))
    alone (Entries index width) x at size p =
        let i : index ≡ 0 = p.index_is ∙ ap (λ n. n / 256) at.0 in
        let w : width ≡ 3 = p.width_is ∙ ap (λ n. min 256 (3 - 256 * n)) i in
        λ k. Entries (i k) (w k)

pub has_tile_outside : HasTileOutside
has_tile_outside digest entries len =
    let size : size_of (tree_of entries) ≡ length entries = size_of-tree entries in
    let top = front_top digest (tree_of entries) (omega (arith, size, len)) in
    let many : top.node.len ≡ 300 = top.len_is ∙ size ∙ len in
    let low : 256 ^ 1 ≡ 256 = refl in
    let high : 256 ^ (1 + 1) ≡ 65536 = refl in
    record {
      node =
          top.node;
      is =
          top.is;
      path_is =
          record {
            many =
                omega (arith, many);
            tile =
                record {
                  above =
                      omega (arith, many, low);
                  upto = omega (arith, many, high);
                  index_is = ap (λ n. n / 65536) (sym top.start_is);
                };
            width_is = refl;
          };
    }
