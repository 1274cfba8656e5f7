-- The paths that a walk lists, step by step.
use Rattle.std.proofs.Common.{◌≡◌, ℕ, ◌+◌, ◌-◌, ◌*◌, ◌/◌, ◌^◌, ◌<◌, ◌≤◌, min, List, [], ◌∷◌, ◌++◌, length, take, drop}
use Rattle.std.proofs.Common.{sym, refl, ap, ◌∙◌, subst, arith, ◌⊎◌, inl, inr}
use Rattle.std.specs.Prelude.{◌↔◌}
use Rattle.std.proofs.lemmas.Bool.{cases_lt}
use Rattle.tlog_shape.specs.Split.{split_of}
use Rattle.tlog_shape.proofs.Splits.{split_of-below}
use Rattle.tlog_shape.proofs.Levels.{level_mono}
use Rattle.tlog_hash.specs.Tree.{Tree, Join, mth, size_of}
use Rattle.tlog_hash.specs.Shape.{shape}
use Rattle.tlog_hash.proofs.Shapes.{shape-one, shape-join, size_of-shape}
use Rattle.tlog_hash.proofs.Trees.{induction, tree_of-none, length-mth}
use Rattle.tlog_hash.proofs.PairStrings.{left_is, right_is}
use Rattle.node_store.specs.Strings.{Strings, IsHeldAt, NoClash}
use Rattle.tlog_tiles.specs.declared.paths.Path.{Path}
use Rattle.tlog_tiles.specs.declared.paths.Path.TheVariants.{Checkpoint, Tile, Entries}
use Rattle.mirror_model.specs.Complete.{IsTreeOf, IsBuilt}
use Rattle.mirror_model.specs.Front.{IsPathOf}
use Rattle.mirror_model.specs.Walk.{WalkFails, IsPairHeld, IsMissing}
use Rattle.mirror_trees.specs.Lost.{IsLost}
use Rattle.mirror_trees.proofs.Descents.{tree-one, tree-join, left-tree, right-tree}

-- the path of a node is that of the same numbers
moved : (total at many start len : ℕ) (path : Path) → at ≡ start → many ≡ len → IsPathOf total at many path →
    IsPathOf total start len path
moved total at many start len path s l p =
    subst (λ n. IsPathOf total n len path) s (subst (λ n. IsPathOf total at n path) l p)

module _ (digest : List ℕ → List ℕ) (held : Strings) where
  abbrev Fails : Tree ℕ → ℕ → List ℕ → ℕ → ℕ → Type 0
  Fails t start root at many = WalkFails digest held t start root at many

  both_sizes : (n : ℕ) → 2 ≤ n → size_of (shape (split_of n)) + size_of (shape (n - split_of n)) ≡ n
  both_sizes n two =
      (λ i. size_of-shape (split_of n) i + size_of-shape (n - split_of n) i) ∙
      (let below = split_of-below n two in omega arith)

  -- ---- in a held list the walk fails nowhere

  abbrev Sound : List (List ℕ) → Type 0
  Sound es =
      (start : ℕ) (root : List ℕ) → IsTreeOf digest held (length es) root es → (at many : ℕ) →
      Fails (shape (length es)) start root at many → ⊥

  sound_none : Sound []
  unfolding shape
  sound_none start root t at many f = subst (λ t. Fails t start root at many) tree_of-none f

  sound_one : (e : List ℕ) → Sound (e ∷ [])
  sound_one e start root t at many f =
      let leaf = tree-one digest held root (e ∷ []) t in
      (subst (λ t. Fails t start root at many) shape-one f).1 leaf.entry leaf.at

  module _ (len : (s : List ℕ) → length (digest s) ≡ 32) (clean : NoClash digest held) where
    sound_join : (es : List (List ℕ)) → 2 ≤ length es → Sound (take (split_of (length es)) es) →
        Sound (drop (split_of (length es)) es) → Sound es
    sound_join es two ihl ihr start root t at many f =
        go (subst (λ t. Fails t start root at many) (shape-join (length es) two) f)
      where
        n : ℕ
        n = length es

        go : Fails
            (Join (shape (split_of (length es))) (shape (length es - split_of (length es)))) start root at many → ⊥
        go (inl g) =
            let p = tree-join digest held (length es) root es two t in g.1 (mth digest (take (split_of (length es)) es))
            (mth digest (drop (split_of (length es)) es))
            (record { left_len = length-mth digest len _; right_len = length-mth digest len _; is = p.at })
        go (inr g) =
            let k = split_of (length es) in
            let pair = g.2 in
            let l = left-tree digest held len clean (length es) k root g.0 g.1 two refl pair.left_len pair.is es t in
            let r = right-tree digest held len clean (length es) k root g.0 g.1 two refl pair.left_len pair.is es t in
            elim g.3 [
              | inl a ↦ ihl start g.0 (record { size_is = refl; root_is = l.root_is; are_held = l.are_held }) at many
                  (subst (λ m. Fails (shape m) start g.0 at many) (sym l.size_is) a)
              | inr a ↦ ihr (start + size_of (shape k)) g.1
                  (record { size_is = refl; root_is = r.root_is; are_held = r.are_held }) at many
                  (subst (λ m. Fails (shape m) (start + size_of (shape k)) g.1 at many) (sym r.size_is) a)
            ]

    sound_all : (es : List (List ℕ)) → Sound es
    sound_all es = induction Sound sound_none sound_one sound_join es

    -- in a held tree the walk fails nowhere
    pub built_not_fails : (size : ℕ) (root : List ℕ) → IsBuilt digest held size root → (start at many : ℕ) →
        Fails (shape size) start root at many → ⊥
    built_not_fails size root b start at many f =
        sound_all b.entries start root
        (record { size_is = refl; root_is = b.is.root_is; are_held = b.is.are_held }) at many
        (subst (λ n. Fails (shape n) start root at many) (sym b.is.size_is) f)

    pub built_not_lost : (total start size : ℕ) (root : List ℕ) (path : Path) → IsBuilt digest held size root →
        IsLost digest held total start size root path → ⊥
    built_not_lost total start size root path b m = built_not_fails size root b start m.at m.many m.fails

  module _ (total start : ℕ) (root : List ℕ) (path : Path) where
    -- ---- one entry
    pub leaf_held : (e : List ℕ) → IsHeldAt digest held root (0 ∷ e) → IsLost digest held total start 1 root path → ⊥
    leaf_held e h m = (subst (λ t. Fails t start root m.at m.many) shape-one m.fails).1 e h

    pub leaf_lost : ((e : List ℕ) → IsHeldAt digest held root (0 ∷ e) → ⊥) →
        IsLost digest held total start 1 root path ↔ IsPathOf total start 1 path
    leaf_lost none = (
      λ m. let s =
          (subst (λ t. Fails t start root m.at m.many) shape-one m.fails).0 in
          moved total m.at m.many start 1 path s.at_is s.many_is m.path_is,
      λ p. record {
        at = start;
        many =
            1;
        fails =
            subst (λ t. Fails t start root start 1) (sym shape-one) (record { at_is = refl; many_is = refl }, none);
        path_is = p;
      },
    )

    -- ---- two or more
    module _ (n : ℕ) (two : 2 ≤ n) where
      opened : (at many : ℕ) → Fails (shape n) start root at many →
          Fails (Join (shape (split_of n)) (shape (n - split_of n))) start root at many
      opened at many f = subst (λ t. Fails t start root at many) (shape-join n two) f

      closed : (at many : ℕ) → Fails (Join (shape (split_of n)) (shape (n - split_of n))) start root at many →
          Fails (shape n) start root at many
      closed at many f = subst (λ t. Fails t start root at many) (sym (shape-join n two)) f

      pub pair_lost : ((l r : List ℕ) → IsHeldAt digest held root (1 ∷ l ++ r) → ⊥) →
          IsLost digest held total start n root path ↔ IsPathOf total start n path
      pair_lost none = (
        to,
        λ p. record {
          at = start;
          many =
              n;
          fails =
              closed start n (inl (record { at_is = refl; many_is = sym (both_sizes n two) }, λ x y q. none x y q.is));
          path_is = p;
        },
      )
        where
          from_parts : (at many : ℕ) → Fails (Join (shape (split_of n)) (shape (n - split_of n))) start root at many →
              IsPathOf total at many path → IsPathOf total start n path
          from_parts at many (inl g) p = moved total at many start n path g.0.at_is (g.0.many_is ∙ both_sizes n two) p
          from_parts at many (inr g) p = absurd (none g.0 g.1 g.2.is)

          to : IsLost digest held total start n root path → IsPathOf total start n path
          to m = from_parts m.at m.many (opened m.at m.many m.fails) m.path_is

      pub pair_held : NoClash digest held → (k : ℕ) (l r : List ℕ) → k ≡ split_of n → length l ≡ 32 → length r ≡ 32 →
          IsHeldAt digest held root (1 ∷ l ++ r) →
          IsLost digest held total start n root path
          ↔ (IsLost digest held total start k l path ⊎ IsLost digest held total (start + k) (n - k) r path)
      pair_held clean k l r k_is len_l len_r h =
          subst (λ m. IsLost digest held total start n root path
          ↔ (IsLost digest held total start m l path ⊎ IsLost digest held total (start + m) (n - m) r path)) (sym k_is)
          (to, from)
        where
          here : IsPairHeld digest held root l r
          here = record { left_len = len_l; right_len = len_r; is = h }

          from_parts : (at many : ℕ) → Fails (Join (shape (split_of n)) (shape (n - split_of n))) start root at many →
              IsPathOf total at many path →
              IsLost digest held total start (split_of n) l path
              ⊎ IsLost digest held total (start + split_of n) (n - split_of n) r path
          from_parts at many (inl g) p = absurd (g.1 l r here)
          from_parts at many (inr g) p =
              let same : 1 ∷ g.0 ++ g.1 ≡ 1 ∷ l ++ r =
              clean.same (1 ∷ g.0 ++ g.1) (1 ∷ l ++ r) g.2.is.is_held h.is_held
              (g.2.is.digest_is ∙ sym h.digest_is) in
              let lens : length g.0 ≡ length l = g.2.left_len ∙ sym len_l in
              let l_is : g.0 ≡ l = left_is g.0 g.1 l r lens same in
              let r_is : g.1 ≡ r = right_is g.0 g.1 l r lens same in
              elim g.3 [
                | inl a ↦ inl
                    (record {
                      at =
                          at;
                      many =
                          many;
                      fails = subst (λ v. Fails (shape (split_of n)) start v at many) l_is a;
                      path_is = p;
                    })
                | inr a ↦ inr
                    (record {
                      at =
                          at;
                      many =
                          many;
                      fails =
                          subst (λ v. Fails (shape (n - split_of n)) (start + split_of n) v at many) r_is
                          (subst (λ m. Fails (shape (n - split_of n)) (start + m) g.1 at many)
                          (size_of-shape (split_of n)) a);
                      path_is = p;
                    })
              ]

          to : IsLost digest held total start n root path →
              IsLost digest held total start (split_of n) l path
              ⊎ IsLost digest held total (start + split_of n) (n - split_of n) r path
          to m = from_parts m.at m.many (opened m.at m.many m.fails) m.path_is

          from : IsLost digest held total start (split_of n) l path
              ⊎ IsLost digest held total (start + split_of n) (n - split_of n) r path →
              IsLost digest held total start n root path
          from (inl a) =
              record {
                at =
                    a.at;
                many = a.many;
                fails = closed a.at a.many (inr (l, r, here, inl a.fails));
                path_is = a.path_is;
              }
          from (inr a) =
              record {
                at =
                    a.at;
                many =
                    a.many;
                fails =
                    closed a.at a.many
                    (inr (
                      l,
                      r,
                      here,
                      inr (subst (λ m. Fails (shape (n - split_of n)) (start + m) r a.at a.many)
                          (sym (size_of-shape (split_of n))) a.fails),
                    ));
                path_is = a.path_is;
              }

-- ---- a node has one path

level_once : (a b n : ℕ) → 256 ^ a < n → n ≤ 256 ^ (a + 1) → 256 ^ b < n → n ≤ 256 ^ (b + 1) → a ≡ b
level_once a b n al au bl bu = elim (cases_lt a b) [
  | inl lt ↦ absurd (let more = level_mono (a + 1) b (omega (arith, lt)) in omega (arith, more, au, bl))
  | inr le ↦ elim (cases_lt b a) [
    | inl lt ↦ absurd (let more = level_mono (b + 1) a (omega (arith, lt)) in omega (arith, more, bu, al))
    | inr ge ↦ omega (arith, le, ge)
  ]
]

pub one_path : (total start len : ℕ) (p q : Path) → IsPathOf total start len p → IsPathOf total start len q → p ≡ q
one_path total start len Checkpoint q h k = absurd h
one_path total start len (Tile level index width) Checkpoint h k = absurd k
one_path total start len (Entries index width) Checkpoint h k = absurd k
one_path total start len (Tile level index width) (Entries i w) h k = absurd (omega (arith, h.many, k.few))
one_path total start len (Entries index width) (Tile l i w) h k = absurd (omega (arith, k.many, h.few))
one_path total start len (Entries index width) (Entries i w) h k =
    let a = h.index_is ∙ sym k.index_is in let b : width ≡ w =
    h.width_is ∙ ap (λ m. min 256 (total - 256 * m)) a ∙ sym k.width_is in λ j. Entries (a j) (b j)
one_path total start len (Tile level index width) (Tile l i w) h k =
    let e = level_once level l len h.tile.above h.tile.upto k.tile.above k.tile.upto in
    let a : index ≡ i = h.tile.index_is ∙ ap (λ m. start / 256 ^ (m + 1)) e ∙ sym k.tile.index_is in
    let b : width ≡ w = h.width_is ∙ sym k.width_is in
    λ j. Tile (e j) (a j) (b j)

-- ---- the additions of a step to the list

-- a step that adds the path of the node
pub adds_one : (total start len : ℕ) (result path : Path) (Lost Old New : Type 0) → IsPathOf total start len result →
    Lost ↔ IsPathOf total start len path → New ↔ (Old ⊎ (path ≡ result)) → New ↔ (Old ⊎ Lost)
adds_one total start len result path Lost Old New is lost new = (
  λ h. elim (new.0 h) [ inl a ↦ inl a | inr e ↦ inr (lost.1 (subst (IsPathOf total start len) (sym e) is)) ],
  λ h. elim h [ inl a ↦ new.1 (inl a) | inr m ↦ new.1 (inr (one_path total start len path result (lost.0 m) is)) ],
)

-- a step that adds nothing
pub adds_none : (Lost Old : Type 0) → (Lost → ⊥) → Old ↔ (Old ⊎ Lost)
adds_none Lost Old never = (λ h. inl h, λ h. elim h [ inl a ↦ a | inr m ↦ absurd (never m) ])

-- a step that adds those of both parts
pub adds_both : (Left Right Lost Old Mid New : Type 0) → Lost ↔ (Left ⊎ Right) → Mid ↔ (Old ⊎ Left) →
    New ↔ (Mid ⊎ Right) → New ↔ (Old ⊎ Lost)
adds_both Left Right Lost Old Mid New lost mid new = (
  λ h. elim
      (new.0 h) [
        | inl m ↦ elim (mid.0 m) [ inl a ↦ inl a | inr l ↦ inr (lost.1 (inl l)) ]
        | inr r ↦ inr
            (lost.1 (inr r))
      ],
  λ h. elim h [
    | inl a ↦ new.1 (inl (mid.1 (inl a)))
    | inr m ↦ elim
        (lost.0 m) [ inl l ↦ new.1 (inl (mid.1 (inr l))) | inr r ↦ new.1 (inr r) ]
  ],
)

-- ---- all missing paths

pub nothing_missing : (digest : List ℕ → List ℕ) (held : Strings) (root : List ℕ) (path : Path) →
    IsMissing digest held 0 root path → ⊥
unfolding shape
nothing_missing digest held root path m = subst (λ t. WalkFails digest held t 0 root m.at m.many) tree_of-none m.fails

pub lost_is_missing : (digest : List ℕ → List ℕ) (held : Strings) (size : ℕ) (root : List ℕ) (path : Path) →
    IsLost digest held size 0 size root path ↔ IsMissing digest held size root path
lost_is_missing digest held size root path = (
  λ m. record { at = m.at; many = m.many; fails = m.fails; path_is = m.path_is },
  λ m. record { at = m.at; many = m.many; fails = m.fails; path_is = m.path_is },
)
