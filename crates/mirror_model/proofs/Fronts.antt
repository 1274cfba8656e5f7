-- The front and the held strings.
use Rattle.std.proofs.Common.{subst, inl, inr, ◌≡◌, ℕ, zero, suc, ◌+◌, ◌-◌, ◌*◌, ◌/◌, ◌^◌, ◌<◌, ◌≤◌, min, List, ◌∷◌}
use Rattle.std.proofs.Common.{◌++◌, length, take, drop, sym, refl, ap, ◌∙◌, arith, length-take, length-drop}
use Rattle.std.proofs.lemmas.List.{take_min}
use Rattle.std.proofs.lemmas.Nat.{div-mul-add}
use Rattle.std.proofs.lemmas.Bool.{cases_lt}
use Rattle.std.specs.Prelude.{◌↔◌}
use Rattle.std.specs.List.{Contains}
use Rattle.tlog_hash.specs.Tree.{Tree, Empty, One, Join, tree_of, size_of, joins, strings}
use Rattle.tlog_hash.specs.Rows.{part, level_row}
use Rattle.mirror_model.specs.Edge.{edge_rows, edge_strings}
use Rattle.tlog_hash.specs.Nodes.{Node, IsNode, entries_root}
use Rattle.tlog_tiles.specs.declared.paths.Path.{Path}
use Rattle.tlog_tiles.specs.declared.paths.Path.TheVariants.{Tile, Entries}
use Rattle.mirror_model.specs.Front.{IsPathOf, InFront, IsFront}
use Rattle.node_store.specs.Strings.{Strings, Has}
use Rattle.mirror_model.specs.Rounds.{true_strings, AsksUpTo, AsksBundlesAlone}
use Rattle.mirror_model.proofs.StringSets.{HoldsAll, decide_has}
use Rattle.tlog_shape.proofs.Levels.{level_positive, level_mono}
use Rattle.tlog_hash.proofs.NodeStrings.{string_of_node, node_of_string}
use Rattle.mirror_model.proofs.NodeBlocks.{node_inside}
use Rattle.mirror_model.proofs.RowLaws.{full_tile, bundle, to_block}
use Rattle.mirror_model.proofs.EdgeStrings.{full_or_edge}

-- the range of one node is within that of another
pub record IsNodeWithin (x y : Node) : Type 0 where
  pub start_in : y.start ≤ x.start
  pub end_in : x.start + x.len ≤ y.start + y.len

-- the block of c entries that has the range has the index start / c
pub index_of : (i c start len : ℕ) → 0 < c → i * c ≤ start → start + len ≤ i * c + c → 1 ≤ len → start / c ≡ i
index_of i c start len some low high one =
    ap (λ m. m / c) (omega arith) ∙ div-mul-add i c (start - i * c) (omega arith)

module _ (digest : List ℕ → List ℕ) (held : Strings) where
  pub front_node : (t : Tree (List ℕ)) (s : ℕ) (x : Node) → InFront digest held t s x → IsNode digest t s x
  front_node Empty s x h = h
  front_node (One e) s x h = h.this
  front_node (Join l r) s x (inl h) = inl h.this
  front_node (Join l r) s x (inr (h, inl a)) = inr (inl (front_node l s x a))
  front_node (Join l r) s x (inr (h, inr a)) = inr (inr (front_node r (s + size_of l) x a))

  pub front_unheld : (t : Tree (List ℕ)) (s : ℕ) (x : Node) → InFront digest held t s x → Has held x.string → ⊥
  front_unheld Empty s x h = absurd h
  front_unheld (One e) s x h = h.unheld
  front_unheld (Join l r) s x (inl h) = h.unheld
  front_unheld (Join l r) s x (inr (h, inl a)) = front_unheld l s x a
  front_unheld (Join l r) s x (inr (h, inr a)) = front_unheld r (s + size_of l) x a

  -- the node is within the tree
  node_bounds : (t : Tree (List ℕ)) (s : ℕ) (x : Node) → IsNode digest t s x →
      (s ≤ x.start) × (x.start + x.len ≤ s + size_of t)
  node_bounds Empty s x h = absurd h
  node_bounds (One e) s x h = (omega (arith, h.start_is), omega (arith, h.start_is, h.len_is))
  node_bounds (Join l r) s x (inl h) = (omega (arith, h.start_is), omega (arith, h.start_is, h.len_is))
  node_bounds (Join l r) s x (inr (inl a)) = let b = node_bounds l s x a in (b.0, omega (arith, b.1))
  node_bounds (Join l r) s x (inr (inr a)) =
      let b = node_bounds r (s + size_of l) x a in (omega (arith, b.0), omega (arith, b.1))

  -- a node that is not held is below a node of the front
  pub record HasFrontAbove (t : Tree (List ℕ)) (s : ℕ) (x : Node) : Type 0 where
    pub top : Node
    pub is : InFront digest held t s top
    pub within : IsNodeWithin x top

  below_this : (t : Tree (List ℕ)) (s : ℕ) (string : List ℕ) (x : Node) → IsNode digest t s x → (Has held string → ⊥) →
      (InFront digest held t s (record { start = s; len = size_of t; string = string })) → HasFrontAbove t s x
  below_this t s string x n e f =
      let b = node_bounds t s x n in record {
        top = record { start = s; len = size_of t; string = string };
        is =
            f;
        within = record { start_in = b.0; end_in = b.1 };
      }

  pub front_above : (t : Tree (List ℕ)) (s : ℕ) (x : Node) → IsNode digest t s x → (Has held x.string → ⊥) →
      HasFrontAbove t s x
  front_above Empty s x n e = absurd n
  front_above (One v) s x n e =
      record {
        top =
            x;
        is = record { this = n; unheld = e };
        within = record { start_in = omega arith; end_in = omega arith };
      }
  front_above (Join l r) s x (inl n) e =
      record {
        top =
            x;
        is = inl (record { this = n; unheld = e });
        within = record { start_in = omega arith; end_in = omega arith };
      }
  front_above (Join l r) s x (inr (inl n)) e =
      let string = 1 ∷ entries_root digest l ++ entries_root digest r in
      elim (decide_has held string) [
        | inl held_here ↦ let f =
            front_above l s x n e in record { top = f.top; is = inr (held_here, inl f.is); within = f.within }
        | inr none ↦ below_this (Join l r) s string x (inr (inl n)) none
            (inl (record { this = record { start_is = refl; len_is = refl; string_is = refl }; unheld = none }))
      ]
  front_above (Join l r) s x (inr (inr n)) e =
      let string = 1 ∷ entries_root digest l ++ entries_root digest r in
      elim (decide_has held string) [
        | inl held_here ↦ let f =
            front_above r (s + size_of l) x n e in record
            { top = f.top; is = inr (held_here, inr f.is); within = f.within }
        | inr none ↦ below_this (Join l r) s string x (inr (inr n)) none
            (inl (record { this = record { start_is = refl; len_is = refl; string_is = refl }; unheld = none }))
      ]

  -- the front is empty exactly if all strings of the tree are held
  pub none_in_front : (es : List (List ℕ)) →
      ((x : Node) → InFront digest held (tree_of es) 0 x → ⊥) ↔ HoldsAll held (strings digest es)
  none_in_front es = (
    λ none y c.
        let n = node_of_string digest es 0 y c in
        elim (decide_has held y) [
          | inl held_here ↦ held_here
          | inr no_y ↦ let f =
              front_above (tree_of es) 0 n.node n.is (λ h. no_y (subst (Has held) n.string_is h)) in absurd
              (none f.top f.is)
        ],
    λ all x f. front_unheld (tree_of es) 0 x f
        (all x.string (string_of_node digest es 0 x (front_node (tree_of es) 0 x f))),
  )

  -- the level of a node
  pub record HasLevel (len : ℕ) : Type 0 where
    pub level : ℕ
    pub low : level < 8
    pub above : 256 ^ level < len
    pub upto : len ≤ 256 ^ (level + 1)

  level_from : (levels level len : ℕ) → level + levels ≡ 8 → 256 ^ level < len → len ≤ 256 ^ 8 → HasLevel len
  level_from zero level len e low high =
      let same : level ≡ 8 =
      omega arith in let low' = subst (λ m. 256 ^ m < len) same low in absurd (omega (arith, low', high))
  level_from (suc levels) level len e low high =
      elim (cases_lt (256 ^ (level + 1)) len) [
        | inl more ↦ level_from levels (level + 1) len
            (omega arith) more high
        | inr le ↦ record { level = level; low = omega arith; above = low; upto = le }
      ]

  -- each node has a path
  pub record HasPath (size start len : ℕ) : Type 0 where
    pub path : Path
    pub is : IsPathOf size start len path

  pub path_of : (size start len : ℕ) → len ≤ 256 ^ 8 → HasPath size start len
  path_of size start len high =
      elim (cases_lt 256 len) [
        | inl many ↦ let l =
            level_from 7 1 len refl many high in record {
              path = Tile l.level (start / 256 ^ (l.level + 1)) 256;
              is =
                  record {
                    many = many;
                    tile = record { above = l.above; upto = l.upto; index_is = refl };
                    width_is = refl;
                  };
            }
        | inr few ↦ record {
          path = Entries (start / 256) (min 256 (size - 256 * (start / 256)));
          is =
              record { few = few; index_is = refl; width_is = refl };
        }
      ]

  -- the front is empty exactly if all strings of the tree are held
  pub front_empty : (es : List (List ℕ)) → length es ≤ 256 ^ 8 →
      ((p : Path) → IsFront digest held es p → ⊥) ↔ HoldsAll held (strings digest es)
  front_empty es small = (
    λ none. (none_in_front es).0 (λ x f.
        let n = node_inside digest es 0 x (front_node (tree_of es) 0 x f) in
        let p = path_of (length es) x.start x.len (omega (arith, n.upto)) in
        none p.path (record { node = x; is = f; path_is = p.is })),
    λ all p f. (none_in_front es).1 all f.node f.is,
  )

  module _ (after : Strings) (grows : (y : List ℕ) → Has held y → Has after y) (es : List (List ℕ))
      (small : length es ≤ 256 ^ 8) (edge : HoldsAll held (edge_strings digest (edge_rows digest es)))
      (answered : (p : Path) → IsFront digest held es p → HoldsAll after (true_strings digest es p)) where
    -- a node in a requested bundle is held
    in_bundle : (x y : Node) → IsNode digest (tree_of es) 0 x → IsNode digest (tree_of es) 0 y → IsNodeWithin x y →
        InFront digest held (tree_of es) 0 y → y.len ≤ 256 → (Has after x.string → ⊥) → ⊥
    in_bundle x y nx ny w f few e =
        let inside = node_inside digest es 0 y ny in
        let inside_x = node_inside digest es 0 x nx in
        elim (to_block digest es 8 (omega (arith, inside.upto, inside.some)) y ny) [
          | inl long ↦ absurd (omega (arith, long))
          | inr blk ↦
              let i = blk.index in
              let here = node_inside digest (part (i * 256) 256 es) (i * 256) y blk.is in
              let short = length-take 256 (drop (i * 256) es) in
              let width = min 256 (length es - 256 * i) in
              let at : y.start / 256 ≡ i =
              index_of i 256 y.start y.len (omega arith) here.start_in
              (omega (arith, here.upto, short)) here.some in
              let swap : 256 * i ≡ i * 256 = omega arith in
              let all : HoldsAll after (strings digest (part (i * 256) width es)) =
              subst (λ n. HoldsAll after (strings digest (part n width es))) swap
              (answered (Entries i width)
              (record { node = y; is = f; path_is = record { few = few; index_is = sym at; width_is = refl } })) in
              let same : part (i * 256) width es ≡ part (i * 256) 256 es =
              ap (λ n. take n (drop (i * 256) es))
              (let len : length (drop (i * 256) es) ≡ length es - 256 * i =
              length-drop (i * 256) es ∙ omega arith in ap (λ n. min 256 n) (sym len)) ∙
              take_min 256 (drop (i * 256) es) in
              let has : Contains (strings digest (part (i * 256) 256 es)) x.string =
              (bundle digest es i blk.below x.string).1
              (record {
                node =
                    x;
                is = nx;
                inside =
                    record {
                      start_in =
                          omega (arith, here.start_in, w.start_in);
                      upto =
                          omega (arith, here.upto, short, w.end_in);
                      some = inside_x.some;
                    };
                string_is = refl;
              }) in
              e (all x.string (subst (λ zs. Contains (strings digest zs) x.string) (sym same) has))
        ]

    -- a node that is still not held has at most as many entries as a hash of the requested tile
    pub record IsBelowTile (x : Node) : Type 0 where
      pub level : ℕ
      pub index : ℕ
      pub asked : IsFront digest held es (Tile level index 256)
      pub short : x.len ≤ 256 ^ level

    pub below_tile : (x : Node) → IsNode digest (tree_of es) 0 x → (Has after x.string → ⊥) → IsBelowTile x
    below_tile x n e =
        let f = front_above (tree_of es) 0 x n (λ h. e (grows x.string h)) in
        let y = f.top in
        let ny = front_node (tree_of es) 0 y f.is in
        let inside = node_inside digest es 0 y ny in
        let inside_x = node_inside digest es 0 x n in
        elim (cases_lt 256 y.len) [
          | inr few ↦ absurd (in_bundle x y n ny f.within f.is few e)
          | inl many ↦
              let l = level_from 7 1 y.len refl many (omega (arith, inside.upto)) in
              elim (full_or_edge digest es l.level y l.low l.above l.upto ny) [
                | inr on_edge ↦ absurd (front_unheld (tree_of es) 0 y f.is (edge y.string on_edge))
                | inl t ↦
                    let c = 256 ^ (l.level + 1) in
                    let at : y.start / c ≡ t.index =
                    index_of t.index c y.start y.len
                    (level_positive (l.level + 1)) t.inside.start_in t.inside.upto t.inside.some in
                    let asked : IsFront digest held es (Tile l.level t.index 256) =
                    record {
                      node =
                          y;
                      is = f.is;
                      path_is =
                          record {
                            many =
                                many;
                            tile =
                                record { above = l.above; upto = l.upto; index_is = sym at };
                            width_is = refl;
                          };
                    } in
                    elim (cases_lt (256 ^ l.level) x.len) [
                      | inr short ↦ record { level = l.level; index = t.index; asked = asked; short = short }
                      | inl long ↦
                          let has : Contains (joins digest (level_row digest es l.level (256 * t.index) 256)) x.string =
                          (full_tile digest es l.level t.index t.full x.string).1
                          (record {
                            node =
                                x;
                            is = n;
                            inside =
                                record {
                                  start_in =
                                      omega (arith, t.inside.start_in, f.within.start_in);
                                  upto =
                                      omega (arith, t.inside.upto, f.within.end_in);
                                  some = inside_x.some;
                                };
                            long =
                                long;
                            string_is = refl;
                          }) in
                          absurd (e (answered (Tile l.level t.index 256) asked x.string has))
                    ]
              ]
        ]

    -- after a round, each node that is not held has at most 256^top entries
    pub after_round : (top : ℕ) → AsksUpTo digest es held top → (x : Node) → IsNode digest (tree_of es) 0 x →
        (Has after x.string → ⊥) → x.len ≤ 256 ^ top
    after_round top asks x n e =
        let t = below_tile x n e in
        let le = level_mono t.level top (asks t.level t.index 256 t.asked) in
        omega (arith, t.short, le)

    -- after a round of bundles alone, everything is held
    pub after_bundles : AsksBundlesAlone digest es held → HoldsAll after (strings digest es)
    after_bundles alone y c =
        let n = node_of_string digest es 0 y c in
        elim (decide_has after y) [
          | inl held_here ↦ held_here
          | inr none ↦ let t =
              below_tile n.node n.is (λ h. none (subst (Has after) n.string_is h)) in absurd
              (alone t.level t.index 256 t.asked)
        ]
