-- The walk from a root fails nowhere exactly if all strings of a list of entries are held.
use Rattle.std.proofs.Common.{zero, suc, ◌≡◌, ℕ, ◌+◌, ◌-◌, ◌*◌, ◌≤◌, ◌^◌, List, [], ◌∷◌, ◌++◌, length, map, take, drop}
use Rattle.std.proofs.Common.{replicate, sym, refl, ap, ◌∙◌, subst, ◌⊎◌, inl, inr, arith}
use Rattle.std.proofs.Common.{length-append, length-take, length-drop, take-append-drop, get_or}
use Rattle.std.specs.List.{Contains}
use Rattle.std.specs.FinSet as set
use Rattle.std.proofs.lemmas.List.{length-replicate}
use Rattle.std.proofs.lemmas.List.Elements.{All-contains, All-nil}
use Rattle.tlog_shape.specs.Split.{split_of}
use Rattle.tlog_shape.proofs.Splits.{split_of-below, split_of-positive}
use Rattle.tlog_hash.specs.Tree.{Tree, Empty, One, Join, tree_of, size_of, mth, strings}
use Rattle.tlog_hash.specs.Shape.{shape}
use Rattle.tlog_hash.proofs.Trees.{tree_of-one, tree_of-join, induction, mth-none, mth-one, mth-append, strings-none}
use Rattle.tlog_hash.proofs.Trees.{strings-one, all-strings}
use Rattle.tlog_hash.proofs.Shapes.{size_of-shape}
use Rattle.node_store.specs.Strings.{Strings, Has, HasAll, NoClash}
use Rattle.mirror_model.specs.Edge.{edge_levels, edge_widths}
use Rattle.mirror_model.specs.Item.{HasEdgeRows}
use Rattle.tlog_tiles.specs.declared.paths.Path.{Path}
use Rattle.mirror_model.specs.Walk.{WalkFails, IsPairHeld, IsMissing, NoClashWith}
use Rattle.mirror_model.specs.Complete.{IsBuilt, IsComplete}
use Rattle.mirror_model.specs.CompleteLaws.{MissingIsNone}
use Rattle.node_store.proofs.Sets.{decide}
use Rattle.mirror_model.proofs.StringSets.{HoldsAll, in_items, has_item, all_from_held, held_from_all, holds_from_held}
use Rattle.mirror_model.proofs.Fronts.{front_empty, path_of}
use Rattle.mirror_model.proofs.TreeLaws.{missing_is_front}
use Rattle.mirror_model.proofs.HeadNotes.{head_once}
use Rattle.mirror_model.proofs.Steps.{same_number}

-- ---- lists that are held

module _ (digest : List ℕ → List ℕ) (held : Strings) where
  pub built-none : (root : List ℕ) → digest [] ≡ root → IsBuilt digest held 0 root
  built-none root is =
      record {
        entries =
            [];
        is = record {
          size_is =
              refl;
          root_is = mth-none digest ∙ is;
          are_held = subst (HasAll held) (sym (strings-none digest)) tt;
        };
      }

  pub built-one : (root e : List ℕ) → Has held (0 ∷ e) → digest (0 ∷ e) ≡ root → IsBuilt digest held 1 root
  built-one root e h is =
      record {
        entries =
            e ∷ [];
        is =
            record {
              size_is =
                  refl;
              root_is = mth-one digest e ∙ is;
              are_held = subst (HasAll held) (sym (strings-one digest e)) (h, tt);
            };
      }

  pub built-join : (n m : ℕ) (root l r : List ℕ) → 2 ≤ n + m → n ≡ split_of (n + m) → Has held (1 ∷ l ++ r) →
      digest (1 ∷ l ++ r) ≡ root → IsBuilt digest held n l → IsBuilt digest held m r → IsBuilt digest held (n + m) root
  built-join n m root l r two half h is x y =
      let sx = x.is.size_is in
      let sy = y.is.size_is in
      let total : length x.entries + length y.entries ≡ n + m = omega (arith, sx, sy) in
      let at : length x.entries ≡ split_of (length x.entries + length y.entries) =
      sx ∙ half ∙ ap split_of (sym total) in
      let two' : 2 ≤ length x.entries + length y.entries = omega arith in
      record {
        entries = x.entries ++ y.entries;
        is = record {
          size_is = length-append x.entries y.entries ∙ total;
          root_is =
              mth-append digest x.entries y.entries two' at ∙ (λ i. digest (1 ∷ x.is.root_is i ++ y.is.root_is i)) ∙ is;
          are_held =
              held_from_all held _
              (all-strings digest (Has held) x.entries y.entries two' at (all_from_held held _ x.is.are_held)
              (all_from_held held _ y.is.are_held)
              (subst (Has held) (λ i. 1 ∷ sym x.is.root_is i ++ sym y.is.root_is i) h));
        };
      }

-- ---- search in a set

-- a string of the list has the property P, or no string does
module _ (P : List ℕ → Type 0) (test : (s : List ℕ) → P s ⊎ (P s → ⊥)) where
  record IsFound (xs : List (List ℕ)) : Type 0 where
    string : List ℕ
    listed : Contains xs string
    meets : P string

  no_more : (x : List ℕ) (xs : List (List ℕ)) → (P x → ⊥) → ((s : List ℕ) → Contains xs s → P s → ⊥) → (s : List ℕ) →
      Contains (x ∷ xs) s → P s → ⊥
  no_more x xs not_here none s (zero, lt, is) p = not_here (subst P (sym is) p)
  no_more x xs not_here none s (suc k, lt, is) p = none s (k, omega (arith, lt), is) p

  search_list : (xs : List (List ℕ)) → IsFound xs ⊎ ((s : List ℕ) → Contains xs s → P s → ⊥)
  search_list [] = inr (λ s c. All-contains (λ z. P z → ⊥) [] s (All-nil (λ z. P z → ⊥)) c)
  search_list (x ∷ xs) =
      elim (test x) [
        | inl here ↦ inl (record { string = x; listed = (0, omega arith, refl); meets = here })
        | inr not_here ↦ elim (search_list xs) [
          | inl there ↦ inl
              (record {
                string =
                    there.string;
                listed =
                    (suc there.listed.0, omega (arith, there.listed.1), there.listed.2);
                meets = there.meets;
              })
          | inr none ↦ inr (no_more x xs not_here none)
        ]
      ]

  -- the set has a string with the property
  pub record HasOne (held : Strings) : Type 0 where
    pub string : List ℕ
    pub has : Has held string
    pub meets : P string

  pub search_set : (held : Strings) → HasOne held ⊎ ((s : List ℕ) → Has held s → P s → ⊥)
  search_set held = elim (search_list (set.items held)) [
    | inl f ↦ inl (record { string = f.string; has = has_item held f.string f.listed; meets = f.meets })
    | inr none ↦ inr (λ s h. none s (in_items held s h))
  ]

module _ (digest : List ℕ → List ℕ) (hash : List ℕ) where
  -- the string is that of an entry, or of a pair, and has the digest
  pub record IsLeafOf (string : List ℕ) : Type 0 where
    pub entry : List ℕ
    pub is : string ≡ 0 ∷ entry
    pub digest_is : digest string ≡ hash

  pub record IsPairOf (string : List ℕ) : Type 0 where
    pub left : List ℕ
    pub right : List ℕ
    pub left_len : length left ≡ 32
    pub right_len : length right ≡ 32
    pub is : string ≡ 1 ∷ left ++ right
    pub digest_is : digest string ≡ hash

  first_of : List ℕ → ℕ
  first_of s = get_or s 0 2

  pub is_leaf : (s : List ℕ) → IsLeafOf s ⊎ (IsLeafOf s → ⊥)
  unfolding first_of
  is_leaf [] = inr (λ l. let e : 2 ≡ 0 = ap first_of l.is in omega arith)
  is_leaf (suc n ∷ s) = inr (λ l. let e : suc n ≡ 0 = ap first_of l.is in omega arith)
  is_leaf (zero ∷ s) = elim (decide (digest (0 ∷ s)) hash) [
    | inl e ↦ inl (record { entry = s; is = refl; digest_is = e })
    | inr ne ↦ inr (λ l. ne l.digest_is)
  ]

  pub is_pair : (s : List ℕ) → IsPairOf s ⊎ (IsPairOf s → ⊥)
  unfolding first_of
  is_pair [] = inr (λ p. let e : 2 ≡ 1 = ap first_of p.is in omega arith)
  is_pair (zero ∷ s) = inr (λ p. let e : 0 ≡ 1 = ap first_of p.is in omega arith)
  is_pair (suc (suc n) ∷ s) = inr (λ p. let e : suc (suc n) ≡ 1 = ap first_of p.is in omega arith)
  is_pair (suc zero ∷ s) = elim (same_number (length s) 64) [
    | inr ne ↦ inr
        (λ p. let e : s ≡ p.left ++ p.right =
        ap (drop 1) p.is in ne (ap length e ∙ length-append p.left p.right ∙ omega (arith, p.left_len, p.right_len)))
    | inl len ↦ elim (decide (digest (1 ∷ s)) hash) [
      | inr ne ↦ inr (λ p. ne p.digest_is)
      | inl e ↦ inl
          (record {
            left =
                take 32 s;
            right =
                drop 32 s;
            left_len =
                omega (arith, length-take 32 s, len);
            right_len =
                omega (arith, length-drop 32 s, len);
            is = ap (λ z. 1 ∷ z) (sym (take-append-drop 32 s));
            digest_is = e;
          })
    ]
  ]

-- ---- the walk

module _ (digest : List ℕ → List ℕ) (held : Strings) where
  abbrev Fails : Tree ℕ → ℕ → List ℕ → ℕ → ℕ → Type 0
  Fails t start hash at many = WalkFails digest held t start hash at many

  abbrev Builds : List ℕ → Type 0
  Builds xs =
      1 ≤ length xs → (start : ℕ) (hash : List ℕ) → ((at many : ℕ) → Fails (tree_of xs) start hash at many → ⊥) →
      IsBuilt digest held (length xs) hash

  builds-one : (x : ℕ) → Builds (x ∷ [])
  builds-one x some start hash ok =
      let ok' : (at many : ℕ) → Fails (One x) start hash at many → ⊥ =
      subst (λ t. (at many : ℕ) → Fails t start hash at many → ⊥) (tree_of-one x) ok in
      elim (search_set (IsLeafOf digest hash) (is_leaf digest hash) held) [
        | inl f ↦
            let l = f.meets in
            built-one digest held hash l.entry (subst (Has held) l.is f.has) (ap digest (sym l.is) ∙ l.digest_is)
        | inr none ↦ absurd
            (ok' start 1 (
              record { at_is = refl; many_is = refl },
              λ e h. none (0 ∷ e) h.is_held (record { entry = e; is = refl; digest_is = h.digest_is }),
            ))
      ]

  builds-join : (xs : List ℕ) → 2 ≤ length xs → Builds (take (split_of (length xs)) xs) →
      Builds (drop (split_of (length xs)) xs) → Builds xs
  builds-join xs two left right some start hash ok =
      let n = length xs in
      let k = split_of n in
      let below = split_of-below n two in
      let positive = split_of-positive n two in
      let a = take k xs in
      let b = drop k xs in
      let la : length a ≡ k = length-take k xs ∙ omega arith in
      let lb : length b ≡ n - k = length-drop k xs in
      let total : length a + length b ≡ n = omega (arith, la, lb) in
      let tl = tree_of a in
      let tr = tree_of b in
      let ok' : (at many : ℕ) → Fails (Join tl tr) start hash at many → ⊥ =
      subst (λ t. (at many : ℕ) → Fails t start hash at many → ⊥) (tree_of-join xs two) ok in
      elim (search_set (IsPairOf digest hash) (is_pair digest hash) held) [
        | inl f ↦
            let p = f.meets in
            let h : Has held (1 ∷ p.left ++ p.right) = subst (Has held) p.is f.has in
            let is : digest (1 ∷ p.left ++ p.right) ≡ hash = ap digest (sym p.is) ∙ p.digest_is in
            let pair : IsPairHeld digest held hash p.left p.right =
            record {
              left_len =
                  p.left_len;
              right_len = p.right_len;
              is = record { is_held = h; digest_is = is };
            } in
            let l = left (omega (arith, la, positive)) start p.left
            (λ at many w. ok' at many (inr (p.left, p.right, pair, inl w))) in
            let r = right (omega (arith, lb, below)) (start + size_of tl) p.right
            (λ at many w. ok' at many (inr (p.left, p.right, pair, inr w))) in
            subst (λ m. IsBuilt digest held m hash) total
            (built-join digest held (length a) (length b) hash p.left p.right (omega (arith, total, two))
            (la ∙ ap split_of (sym total)) h is l r)
        | inr none ↦ absurd
            (ok' start (size_of tl + size_of tr)
            (inl (
              record { at_is = refl; many_is = refl },
              λ x y q. none (1 ∷ x ++ y) q.is.is_held
                  (record {
                    left =
                        x;
                    right = y;
                    left_len = q.left_len;
                    right_len = q.right_len;
                    is = refl;
                    digest_is = q.is.digest_is;
                  }),
            )))
      ]

  builds-all : (xs : List ℕ) → Builds xs
  builds-all xs = induction Builds (λ some. absurd (omega arith)) builds-one builds-join xs

  pub walk_builds : (size : ℕ) (hash : List ℕ) → 1 ≤ size → ((at many : ℕ) → Fails (shape size) 0 hash at many → ⊥) →
      IsBuilt digest held size hash
  unfolding shape
  walk_builds size hash some ok =
      let len : length (replicate size 0) ≡ size =
      length-replicate size 0 in subst (λ m. IsBuilt digest held m hash) len
      (builds-all (replicate size 0) (omega (arith, len)) 0 hash ok)

  -- a walk fails at a node with at most as many entries as the tree
  fails_within : (t : Tree ℕ) (start : ℕ) (hash : List ℕ) (at many : ℕ) → Fails t start hash at many → many ≤ size_of t
  fails_within Empty start hash at many f = absurd f
  fails_within (One x) start hash at many f = omega (arith, f.0.many_is)
  fails_within (Join l r) start hash at many (inl f) = omega (arith, f.0.many_is)
  fails_within (Join l r) start hash at many (inr f) = elim f.3 [
    | inl a ↦ omega (arith, fails_within l start f.0 at many a)
    | inr a ↦ omega (arith, fails_within r (start + size_of l) f.1 at many a)
  ]

  -- if no path is missing, the walk fails nowhere
  pub none_fails : (size : ℕ) (hash : List ℕ) → size ≤ 256 ^ 8 →
      ((path : Path) → IsMissing digest held size hash path → ⊥) → (at many : ℕ) → Fails (shape size) 0 hash at many → ⊥
  none_fails size hash small none at many f =
      let within = fails_within (shape size) 0 hash at many f in
      let p = path_of digest held size at many (omega (arith, within, size_of-shape size, small)) in
      none p.path (record { at = at; many = many; fails = f; path_is = p.is })

  -- if all strings of a list are held, no path is missing
  pub built_none : ((s : List ℕ) → length (digest s) ≡ 32) → NoClash digest held → (size : ℕ) (root : List ℕ) →
      size ≤ 256 ^ 8 → IsBuilt digest held size root → (path : Path) → IsMissing digest held size root path → ⊥
  built_none len clean size root small b path m =
      let es = b.entries in
      let all : HoldsAll held (strings digest es) = holds_from_held held (strings digest es) b.is.are_held in
      let apart : NoClashWith digest held es =
      (λ x y hx hy e. clean.same x y (elim hx [ inl h ↦ h | inr c ↦ all x c ])
      (elim hy [ inl h ↦ h | inr c ↦ all y c ]) e) in
      let m' : IsMissing digest held (length es) (mth digest es) path =
      subst (λ n. IsMissing digest held n (mth digest es) path) (sym b.is.size_is)
      (subst (λ h. IsMissing digest held size h path) (sym b.is.root_is) m) in
      (front_empty digest held es (omega (arith, b.is.size_is, small))).1 all path
      ((missing_is_front digest len held es apart path).0 m')

-- an empty tree head of a lawful view has the root of the empty tree
pub none_root : (digest : List ℕ → List ℕ) (size : ℕ) (root : List ℕ) (rows : List (List ℕ)) → size ≡ 0 →
    HasEdgeRows digest size root rows → digest [] ≡ root
unfolding edge_levels
none_root digest size root [] z h = h.root_is
none_root digest size root (row ∷ rows) z h =
    absurd (let none : length (map length (row ∷ rows)) ≡ 0 =
    ap length h.widths ∙ ap (λ n. length (map (λ w. 32 * w) (edge_widths n))) z in omega arith)

pub missing_is_none : MissingIsNone
missing_is_none digest hash v lawful size root head = (
  λ none. whole size refl none,
  λ c path m. built_none digest v.strings hash lawful.no_clash size root small
      (record { entries = c.entries; is = c.complete.tree }) path m,
)
  where
    small : size ≤ 256 ^ 8
    small = omega (arith, head.holds.is_head.is_checkpoint.in_range)

    complete : IsBuilt digest v.strings size root → IsComplete digest v size root
    complete b = record { entries = b.entries; complete = record { head = head; tree = b.is } }

    whole : (n : ℕ) → size ≡ n → ((path : Path) → IsMissing digest v.strings size root path → ⊥) →
        IsComplete digest v size root
    whole zero z none =
        let e = lawful.edges head.note head.holds.is_held in
        let same = head_once head.note v.origin v.origin size e.size root e.root head.holds.is_head e.is_head in
        let is : digest [] ≡ root =
        none_root digest e.size e.root e.edge.rows (sym same.size_is ∙ z) e.edge.has_edge ∙ sym same.root_is in
        complete (subst (λ n. IsBuilt digest v.strings n root) (sym z) (built-none digest v.strings root is))
    whole (suc n) s none =
        complete (walk_builds digest v.strings size root (omega arith)
        (none_fails digest v.strings size root small none))
