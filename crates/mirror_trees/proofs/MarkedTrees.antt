-- The points that may be remembered for complete tree heads are those of held trees.
use Rattle.std.proofs.Common.{◌≡◌, ℕ, ◌+◌, ◌-◌, ◌<◌, ◌≤◌, List, [], ◌∷◌, ◌++◌, length, take, drop, sym, ap, ◌∙◌, subst}
use Rattle.std.proofs.Common.{arith, inl, inr, length-take, length-drop, take-append-drop}
use Rattle.std.specs.List.{AllByRecursion}
use Rattle.tlog_shape.specs.Split.{split_of}
use Rattle.tlog_shape.proofs.Splits.{split_of-below}
use Rattle.tlog_hash.specs.Tree.{Join, tree_of, size_of, strings}
use Rattle.tlog_hash.specs.Nodes.{Node, IsNode}
use Rattle.tlog_hash.specs.Rows.{part}
use Rattle.tlog_hash.proofs.Trees.{tree_of-none, tree_of-one, tree_of-join, induction, left-strings, right-strings}
use Rattle.tlog_hash.proofs.NodeStrings.{size_of-tree}
use Rattle.node_store.specs.Strings.{Strings, Has}
use Rattle.mirror_model.specs.View.{View}
use Rattle.mirror_model.specs.Forks.{Point}
use Rattle.mirror_model.specs.Complete.{IsBuilt}
use Rattle.mirror_model.specs.Marks.{IsMark, State, IsSound}
use Rattle.mirror_model.proofs.StringSets.{all_from_held, held_from_all}
use Rattle.mirror_trees.specs.HeldTrees.{AreBuilt}
use Rattle.mirror_trees.proofs.RangeSteps.{part-take, part-drop, part-whole, length-part}

module _ (digest : List ℕ → List ℕ) (held : Strings) where
  abbrev AllHeld : List (List ℕ) → Type 0
  AllHeld es = AllByRecursion (Has held) (strings digest es)

  -- the node is a slice of the list, and the strings that its tree hash hashes are held
  record IsSlice (start : ℕ) (es : List (List ℕ)) (x : Node) : Type 0 where
    from : start ≤ x.start
    upto : x.start + x.len ≤ start + length es
    are_held : AllHeld (part (x.start - start) x.len es)

  abbrev Sliced : List (List ℕ) → Type 0
  Sliced es = (start : ℕ) (x : Node) → AllHeld es → IsNode digest (tree_of es) start x → IsSlice start es x

  sliced_none : Sliced []
  sliced_none start x all n = absurd (subst (λ t. IsNode digest t start x) tree_of-none n)

  -- the complete list
  whole : (es : List (List ℕ)) (start : ℕ) (x : Node) → AllHeld es → x.start ≡ start → x.len ≡ length es →
      IsSlice start es x
  whole es start x all s l = record {
    from = omega (arith, s);
    upto = omega (arith, s, l);
    are_held = subst AllHeld (sym (part-whole es (x.start - start) x.len (omega (arith, s)) l)) all;
  }

  sliced_one : (e : List ℕ) → Sliced (e ∷ [])
  sliced_one e start x all n =
      let this =
      subst (λ t. IsNode digest t start x) (tree_of-one e) n in whole (e ∷ []) start x all this.start_is this.len_is

  sliced_join : (es : List (List ℕ)) → 2 ≤ length es → Sliced (take (split_of (length es)) es) →
      Sliced (drop (split_of (length es)) es) → Sliced es
  sliced_join es two ihl ihr start x all n = go (subst (λ t. IsNode digest t start x) (tree_of-join es two) n)
    where
      k : ℕ
      k = split_of (length es)

      below : split_of (length es) < length es
      below = split_of-below (length es) two

      len_l : length (take (split_of (length es)) es) ≡ split_of (length es)
      len_l = length-take (split_of (length es)) es ∙ omega (arith, below)

      len_r : length (drop (split_of (length es)) es) ≡ length es - split_of (length es)
      len_r = length-drop (split_of (length es)) es

      total : length (take (split_of (length es)) es) + length (drop (split_of (length es)) es) ≡ length es
      total = omega (arith, len_l, len_r, below)

      both : AllHeld (take (split_of (length es)) es ++ drop (split_of (length es)) es)
      both = subst AllHeld (sym (take-append-drop (split_of (length es)) es)) all

      left : AllHeld (take (split_of (length es)) es)
      left = left-strings digest (Has held) (take (split_of (length es)) es) (drop (split_of (length es)) es)
          (omega (arith, total, two)) (len_l ∙ ap split_of (sym total)) both

      right : AllHeld (drop (split_of (length es)) es)
      right = right-strings digest (Has held) (take (split_of (length es)) es) (drop (split_of (length es)) es)
          (omega (arith, total, two)) (len_l ∙ ap split_of (sym total)) both

      size_l : size_of (tree_of (take (split_of (length es)) es)) ≡ split_of (length es)
      size_l = size_of-tree (take (split_of (length es)) es) ∙ len_l

      size_r : size_of (tree_of (drop (split_of (length es)) es)) ≡ length es - split_of (length es)
      size_r = size_of-tree (drop (split_of (length es)) es) ∙ len_r

      go : IsNode digest
          (Join (tree_of (take (split_of (length es)) es)) (tree_of (drop (split_of (length es)) es))) start x →
          IsSlice start es x
      go (inl this) = whole es start x all this.start_is (omega (arith, this.len_is, size_l, size_r, below))
      go (inr (inl a)) =
          let s = ihl start x left a in
          record {
            from = s.from;
            upto = omega (arith, s.upto, len_l, below);
            are_held =
                subst AllHeld
                (part-take es (split_of (length es)) (x.start - start) x.len
                (omega (arith, s.from, s.upto, len_l))) s.are_held;
          }
      go (inr (inr a)) =
          let k = split_of (length es) in
          let s = ihr (start + size_of (tree_of (take k es))) x right a in
          let at : x.start - (start + size_of (tree_of (take k es))) ≡ x.start - start - k =
          omega (arith, size_l, s.from) in
          record {
            from = omega (arith, s.from);
            upto = omega (arith, s.upto, len_r, size_l, below);
            are_held =
                subst AllHeld
                (ap (λ m. part m x.len (drop k es)) at ∙
                part-drop es k (x.start - start) x.len (omega (arith, s.from, size_l))) s.are_held;
          }

  sliced_all : (es : List (List ℕ)) → Sliced es
  sliced_all es = induction Sliced sliced_none sliced_one sliced_join es

-- a mark of a view is a size and root that are built in it
pub mark_is_built : (digest : List ℕ → List ℕ) (v : View) (point : Point) → IsMark digest v point →
    IsBuilt digest v.strings point.size point.root
mark_is_built digest v point m =
    let es = m.entries in
    let x = m.node in
    let s = sliced_all digest v.strings es 0 x
    (all_from_held v.strings (strings digest es) m.complete.tree.are_held) m.is in
    let same : x.start - 0 ≡ x.start = omega arith in
    record {
      entries = part x.start x.len es;
      is = record {
        size_is = length-part es x.start x.len (omega (arith, s.upto)) ∙ sym m.len_is;
        root_is = sym m.hash_is;
        are_held =
            held_from_all v.strings _
            (subst (λ n. AllByRecursion (Has v.strings) (strings digest (part n x.len es))) same s.are_held);
      };
    }

-- so no walk is needed for the points that a sound mirror remembers
pub sound_is_built : (digest : List ℕ → List ℕ) (state : State) → IsSound digest state →
    AreBuilt digest state.view.strings state.remembered
sound_is_built digest state s =
    record {
      built =
          λ size root h. mark_is_built digest state.view (record { size = size; root = root })
          (s.marks (record { size = size; root = root }) h);
    }
