-- Inclusion proofs.
use Rattle.std.proofs.Common.{subst, get_or, inl, inr, ◌≡◌, ℕ, ◌+◌, ◌-◌, ◌<◌, ◌≤◌, List, [], ◌∷◌, ◌++◌, length, take}
use Rattle.std.proofs.Common.{drop, reverse, Option, Some, None, sym, refl, ap, ◌∙◌, arith, length-append}
use Rattle.std.proofs.Common.{take-append-drop}
use Rattle.std.proofs.lemmas.List.{reverse-append, get_or_append_left, get_or-append-add}
use Rattle.std.proofs.lemmas.Bool.{cases_lt, lt-ltb, le-ltb}
use Rattle.std.specs.Option.{option_map}
use Rattle.std.specs.Prelude.{nat_lt, if◌then◌else◌}
use Rattle.tlog_shape.specs.Split.{split_of}
use Rattle.tlog_hash.specs.Tree.{Tree, Empty, One, Join, tree_of, size_of, mth}
use Rattle.tlog_hash.proofs.Trees.{tree_of-one, tree_of-join, induction}
use Rattle.tlog_hash.proofs.PairStrings.{left_is, right_is}
use Rattle.tlog_hash.specs.Blocks.{map_tree}
use Rattle.tlog_hash.specs.Nodes.{Node, IsNode, entries_root}
use Rattle.tlog_proof.specs.Inclusion.{path_in, path_of, incl_in, incl, IsHashed}
use Rattle.tlog_proof.specs.Laws.{MadeInclusionHolds, IsMetByInclusion, AcceptedInclusionShows}
use Rattle.tlog_hash.proofs.Shapes.{blank, shape_of, size_of-map}
use Rattle.tlog_hash.proofs.Folds.{mth-tree}
use Rattle.tlog_hash.proofs.NodeStrings.{size_of-tree, string_of_node}

module _ (digest : List ℕ → List ℕ) where
  -- the entry with that index in the tree
  abbrev at : ℕ → Tree (List ℕ) → List ℕ
  at i Empty = []
  at i (One e) = e
  at i (Join l r) = if nat_lt i (size_of l) then at i l else at (i - size_of l) r

  abbrev bare : Tree (List ℕ) → Tree (ℕ)
  bare t = map_tree (blank {A = List ℕ}) t

  pub incl-left : (l r : Tree ℕ) (i : ℕ) (h p : List ℕ) (q : List (List ℕ)) → i < size_of l →
      incl_in digest (Join l r) i h (p ∷ q) ≡ option_map (λ v. digest (1 ∷ v ++ p)) (incl_in digest l i h q)
  incl-left l r i h p q lt = rw (lt-ltb i (size_of l) lt)

  pub incl-right : (l r : Tree ℕ) (i : ℕ) (h p : List ℕ) (q : List (List ℕ)) → size_of l ≤ i →
      incl_in digest (Join l r) i h (p ∷ q)
      ≡ option_map (λ v. digest (1 ∷ p ++ v)) (incl_in digest r (i - size_of l) h q)
  incl-right l r i h p q le = rw (le-ltb i (size_of l) le)

  path-left : (l r : Tree (List ℕ)) (i : ℕ) → i < size_of l →
      reverse (path_in digest i (Join l r)) ≡ entries_root digest r ∷ reverse (path_in digest i l)
  path-left l r i lt = rw (lt-ltb i (size_of l) lt) (reverse-append (path_in digest i l) (entries_root digest r ∷ []))

  path-right : (l r : Tree (List ℕ)) (i : ℕ) → size_of l ≤ i →
      reverse (path_in digest i (Join l r)) ≡ entries_root digest l ∷ reverse (path_in digest (i - size_of l) r)
  path-right l r i le =
      rw (le-ltb i (size_of l) le) (reverse-append (path_in digest (i - size_of l) r) (entries_root digest l ∷ []))

  at-left : (l r : Tree (List ℕ)) (i : ℕ) → i < size_of l → at i (Join l r) ≡ at i l
  at-left l r i lt = rw (lt-ltb i (size_of l) lt)

  at-right : (l r : Tree (List ℕ)) (i : ℕ) → size_of l ≤ i → at i (Join l r) ≡ at (i - size_of l) r
  at-right l r i le = rw (le-ltb i (size_of l) le)

  made : (t : Tree (List ℕ)) (i : ℕ) → i < size_of t →
      incl_in digest (bare t) i (digest (0 ∷ at i t)) (reverse (path_in digest i t)) ≡ Some (entries_root digest t)
  made Empty i h = absurd (omega arith)
  made (One e) i h = refl
  made (Join l r) i h =
      let s : size_of (bare l) ≡ size_of l = size_of-map (blank {A = List ℕ}) l in
      elim (cases_lt i (size_of l)) [
        | inl lt ↦
            (λ j. incl_in digest (bare (Join l r)) i (digest (0 ∷ at-left l r i lt j)) (path-left l r i lt j))
            ∙ incl-left (bare l) (bare r) i (digest (0 ∷ at i l)) (entries_root digest r) (reverse (path_in digest i l))
            (omega arith)
            ∙ ap (option_map (λ v. digest (1 ∷ v ++ entries_root digest r))) (made l i lt)
        | inr le ↦
            (λ j. incl_in digest (bare (Join l r)) i (digest (0 ∷ at-right l r i le j)) (path-right l r i le j))
            ∙ incl-right (bare l) (bare r) i (digest (0 ∷ at (i - size_of l) r)) (entries_root digest l)
            (reverse (path_in digest (i - size_of l) r)) (omega arith)
            ∙ ap (λ n. option_map (λ v. digest (1 ∷ entries_root digest l ++ v))
            (incl_in digest (bare r) (i - n) (digest (0 ∷ at (i - size_of l) r))
            (reverse (path_in digest (i - size_of l) r)))) s
            ∙ ap (option_map (λ v. digest (1 ∷ entries_root digest l ++ v))) (made r (i - size_of l) (omega arith))
      ]

  at_is : (es : List (List ℕ)) (i : ℕ) → i < length es → at i (tree_of es) ≡ get_or es i []
  at_is es = induction (λ es. (i : ℕ) → i < length es → at i (tree_of es) ≡ get_or es i []) none one more es
    where
      none : (i : ℕ) → i < length {A = List ℕ} [] → at i (tree_of []) ≡ get_or [] i []
      none i h = absurd (omega arith)

      one : (e : List ℕ) (i : ℕ) → i < length (e ∷ []) → at i (tree_of (e ∷ [])) ≡ get_or (e ∷ []) i []
      one e i h = let z : 0 ≡ i = omega arith in ap (at i) (tree_of-one e) ∙ ap (λ n. get_or (e ∷ []) n []) z

      more : (es : List (List ℕ)) → 2 ≤ length es →
          ((i : ℕ) → i < length (take (split_of (length es)) es) →
          at i (tree_of (take (split_of (length es)) es)) ≡ get_or (take (split_of (length es)) es) i []) →
          ((i : ℕ) → i < length (drop (split_of (length es)) es) →
          at i (tree_of (drop (split_of (length es)) es)) ≡ get_or (drop (split_of (length es)) es) i []) → (i : ℕ) →
          i < length es → at i (tree_of es) ≡ get_or es i []
      more es two l r i h =
          let k = split_of (length es) in
          let xs = take k es in
          let ys = drop k es in
          let whole : xs ++ ys ≡ es = take-append-drop k es in
          let total : length xs + length ys ≡ length es = sym (length-append xs ys) ∙ ap length whole in
          let sx = size_of-tree xs in
          ap (at i) (tree_of-join es two) ∙ elim (cases_lt i (length xs)) [
            | inl lt ↦ rw (sx, lt-ltb i (length xs) lt)
                (l i lt ∙ sym (get_or_append_left xs ys [] i lt) ∙ ap (λ zs. get_or zs i []) whole)
            | inr le ↦
                let e : length xs + (i - length xs) ≡ i = omega arith in
                rw (sx, le-ltb i (length xs) le)
                (r (i - length xs) (omega arith) ∙ sym (get_or-append-add xs ys (i - length xs) []) ∙
                ap (λ n. get_or (xs ++ ys) n []) e ∙ ap (λ zs. get_or zs i []) whole)
          ]

  pub incl_made : (es : List (List ℕ)) (i : ℕ) → i < length es →
      incl digest i (length es) (digest (0 ∷ get_or es i [])) (path_of digest i es) ≡ Some (mth digest es)
  unfolding path_of incl
  incl_made es i h =
      (λ j. incl_in digest (sym (shape_of es) j) i (digest (0 ∷ sym (at_is es i h) j))
      (reverse (path_in digest i (tree_of es))))
      ∙ made (tree_of es) i (omega (arith, size_of-tree es)) ∙ ap Some (sym (mth-tree digest es))

-- a value under option_map
pub record IsMapped {X Y : Type 0} (f : X → Y) (o : Option X) (y : Y) : Type 0 where
  pub inner : X
  pub is : o ≡ Some inner
  pub value : f inner ≡ y

pub mapped : {X Y : Type 0} (f : X → Y) (o : Option X) (y : Y) → option_map f o ≡ Some y → IsMapped f o y
mapped f None y e = absurd (cc e)
mapped f (Some x) y e = record { inner = x; is = refl; value = (let v : f x ≡ y = cc e in v) }

module _ (digest : List ℕ → List ℕ) (size : (s : List ℕ) → length (digest s) ≡ 32) (P : List ℕ → Type 0)
    (same : (x y : List ℕ) → P x → P y → digest x ≡ digest y → x ≡ y) (e : List ℕ) (leaf : P (0 ∷ e)) where
  -- P holds for the string of each node
  abbrev AllNodes : Tree (List ℕ) → Type 0
  AllNodes Empty = Unit {0}
  AllNodes (One d) = P (0 ∷ d)
  AllNodes (Join l r) = P (1 ∷ entries_root digest l ++ entries_root digest r) × (AllNodes l × AllNodes r)

  all_of : (t : Tree (List ℕ)) (s : ℕ) → ((x : Node) → IsNode digest t s x → P x.string) → AllNodes t
  all_of Empty s h = tt
  all_of (One d) s h =
      h (record { start = s; len = 1; string = 0 ∷ d }) (record { start_is = refl; len_is = refl; string_is = refl })
  all_of (Join l r) s h = (
    h (record { start = s; len = size_of l + size_of r; string = 1 ∷ entries_root digest l ++ entries_root digest r })
        (inl (record { start_is = refl; len_is = refl; string_is = refl })),
    (all_of l s (λ x n. h x (inr (inl n))), all_of r (s + size_of l) (λ x n. h x (inr (inr n)))),
  )

  root_length : (t : Tree (List ℕ)) → length (entries_root digest t) ≡ 32
  root_length Empty = size []
  root_length (One d) = size (0 ∷ d)
  root_length (Join l r) = size (1 ∷ entries_root digest l ++ entries_root digest r)

  hash : List ℕ
  hash = digest (0 ∷ e)

  incl_length : (t : Tree ℕ) (i : ℕ) (h : List ℕ) (q : List (List ℕ)) (v : List ℕ) → length h ≡ 32 →
      incl_in digest t i h q ≡ Some v → length v ≡ 32
  incl_length Empty i h q v len is = absurd (cc is)
  incl_length (One x) i h [] v len is = (let same_hash : h ≡ v = cc is in ap length (sym same_hash) ∙ len)
  incl_length (One x) i h (p ∷ q) v len is = absurd (cc is)
  incl_length (Join l r) i h [] v len is = absurd (cc is)
  incl_length (Join l r) i h (p ∷ q) v len is = elim (cases_lt i (size_of l)) [
    | inl lt ↦ let m =
        mapped (λ v. digest (1 ∷ v ++ p)) (incl_in digest l i h q) v
        (sym (incl-left digest l r i h p q lt) ∙ is) in ap length (sym m.value) ∙ size (1 ∷ m.inner ++ p)
    | inr le ↦ let m =
        mapped (λ v. digest (1 ∷ p ++ v)) (incl_in digest r (i - size_of l) h q) v
        (sym (incl-right digest l r i h p q le) ∙ is) in ap length (sym m.value) ∙ size (1 ∷ p ++ m.inner)
  ]

  sound : (t : Tree (List ℕ)) (i : ℕ) (h : List ℕ) (q : List (List ℕ)) → h ≡ digest (0 ∷ e) → i < size_of t →
      ((y : List ℕ) → IsHashed digest (bare digest t) i h q y → P y) → AllNodes t →
      incl_in digest (bare digest t) i h q ≡ Some (entries_root digest t) → at digest i t ≡ e
  sound Empty i h q h_is lt hashed all is = absurd (omega arith)
  sound (One d) i h [] h_is lt hashed all is =
      (let roots : h ≡ digest (0 ∷ d) =
      cc is in let strings_same : 0 ∷ d ≡ 0 ∷ e = same (0 ∷ d) (0 ∷ e) all leaf (sym roots ∙ h_is) in cc strings_same)
  sound (One d) i h (p ∷ q) h_is lt hashed all is = absurd (cc is)
  sound (Join l r) i h [] h_is lt hashed all is = absurd (cc is)
  sound (Join l r) i h (p ∷ q) h_is inside hashed all is =
      let a = bare digest l in
      let b = bare digest r in
      let rl = entries_root digest l in
      let rr = entries_root digest r in
      let s : size_of a ≡ size_of l = size_of-map (blank {A = List ℕ}) l in
      let len : length h ≡ 32 = ap length h_is ∙ size (0 ∷ e) in
      elim (cases_lt i (size_of l)) [
        | inl lt ↦
            let lt' : i < size_of a = omega arith in
            let m = mapped (λ v. digest (1 ∷ v ++ p)) (incl_in digest a i h q) (digest (1 ∷ rl ++ rr))
            (sym (incl-left digest a b i h p q lt') ∙ is) in
            let met : P (1 ∷ m.inner ++ p) =
            hashed (1 ∷ m.inner ++ p) (inl (lt', inl (ap (option_map (λ v. 1 ∷ v ++ p)) m.is))) in
            let strings_same : 1 ∷ m.inner ++ p ≡ 1 ∷ rl ++ rr =
            same (1 ∷ m.inner ++ p) (1 ∷ rl ++ rr) met all.0 m.value in
            let lens : length m.inner ≡ length rl = incl_length a i h q m.inner len m.is ∙ sym (root_length l) in
            let u : m.inner ≡ rl = left_is m.inner p rl rr lens strings_same in
            at-left digest l r i lt ∙
            sound l i h q h_is lt (λ y k. hashed y (inl (lt', inr k))) all.1.0 (m.is ∙ ap Some u)
        | inr le ↦
            let le' : size_of a ≤ i = omega arith in
            let m = mapped (λ v. digest (1 ∷ p ++ v)) (incl_in digest b (i - size_of a) h q) (digest (1 ∷ rl ++ rr))
            (sym (incl-right digest a b i h p q le') ∙ is) in
            let met : P (1 ∷ p ++ m.inner) =
            hashed (1 ∷ p ++ m.inner) (inr (le', inl (ap (option_map (λ v. 1 ∷ p ++ v)) m.is))) in
            let strings_same : 1 ∷ p ++ m.inner ≡ 1 ∷ rl ++ rr =
            same (1 ∷ p ++ m.inner) (1 ∷ rl ++ rr) met all.0 m.value in
            let total : length (p ++ m.inner) ≡ length (rl ++ rr) = ap (λ zs. length (drop 1 zs)) strings_same in
            let lens : length p ≡ length rl =
            omega (
              arith,
              total,
              length-append p m.inner,
              length-append rl rr,
              incl_length b (i - size_of a) h q m.inner len m.is,
              root_length l,
              root_length r,
            ) in
            let u : m.inner ≡ rr = right_is p m.inner rl rr lens strings_same in
            let rest : (y : List ℕ) → IsHashed digest b (i - size_of l) h q y → P y =
            (λ y k. hashed y (inr (le', inr (subst (λ n. IsHashed digest b (i - n) h q y) (sym s) k)))) in
            at-right digest l r i le ∙
            sound r (i - size_of l) h q h_is (omega arith) rest all.1.1
            (subst (λ n. incl_in digest b (i - n) h q ≡ Some rr) s (m.is ∙ ap Some u))
      ]

pub made_inclusion_holds : MadeInclusionHolds
made_inclusion_holds digest es i inside = (inside, incl_made digest es i inside)

pub accepted_inclusion_shows : AcceptedInclusionShows
unfolding incl
accepted_inclusion_shows digest size es i e path clean is =
    let P : List ℕ → Type 0 = IsMetByInclusion digest es i e path in
    sym (at_is digest es i is.0)
    ∙ sound digest size P clean e (inl refl) (tree_of es) i (digest (0 ∷ e)) (reverse path) refl
    (omega (arith, is.0, size_of-tree es))
    (λ y k. inr (inl (subst (λ t. IsHashed digest t i (digest (0 ∷ e)) (reverse path) y) (shape_of es) k)))
    (all_of digest size P clean e (inl refl) (tree_of es) 0 (λ x n. inr (inr (string_of_node digest es 0 x n))))
    (subst (λ t. incl_in digest t i (digest (0 ∷ e)) (reverse path) ≡ Some (entries_root digest (tree_of es)))
    (sym (shape_of es)) (is.1 ∙ ap Some (mth-tree digest es)))
