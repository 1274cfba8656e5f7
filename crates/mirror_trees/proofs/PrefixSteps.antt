-- One step of the two descents that decide whether one tree is a prefix of another.
use Rattle.std.proofs.Common.{◌≡◌, ℕ, ◌+◌, ◌-◌, ◌<◌, ◌≤◌, List, [], ◌∷◌, ◌++◌, length, take, drop, sym, refl, ap, ◌∙◌}
use Rattle.std.proofs.Common.{subst, Bool, true, false, eqb, not, arith, append_assoc, length-append, take-append-drop}
use Rattle.std.specs.Prelude.{IsTrue, ◌↔◌, ◌≢◌}
use Rattle.std.specs.Cmp.Lexicographic.{pointwise}
use Rattle.std.proofs.lemmas.Slice.Eq.{slice_eq-Decides}
use Rattle.std.proofs.lemmas.Bool.Decides.{Decides-eqb}
use Rattle.std.proofs.lemmas.List.{append-nil, take-append-le, drop-append-le}
use Rattle.std.proofs.Math.Seq.{take-append_seam, take-append-add}
use Rattle.tlog_shape.specs.Split.{split_of, IsPowerOfTwo}
use Rattle.tlog_shape.proofs.Splits.{split_of-unique, split_of-power, split_of-half, split_of-positive}
use Rattle.tlog_hash.specs.Tree.{mth}
use Rattle.node_store.specs.Strings.{Strings, IsHeldAt, NoClash}
use Rattle.mirror_model.specs.View.{View}
use Rattle.mirror_model.specs.Complete.{IsTreeOf, Complete, IsLawful}
use Rattle.mirror_model.specs.Forks.{IsPrefix, Point, IsFork}
use Rattle.mirror_model.specs.Strings.{IsDigest}
use Rattle.mirror_model.proofs.OneLists.{only, one_list, forks_tell, prefix_same}
use Rattle.mirror_trees.specs.Prefixes.{PrefixOfPrefix, ForksGoOn}
use Rattle.mirror_trees.proofs.Descents.{left-tree, right-tree}

pub prefix_of_prefix : PrefixOfPrefix
prefix_of_prefix xs ys zs p fits = (
  λ q.
      let whole : length xs + (length ys - length xs) ≡ length ys = omega arith in
      record {
        rest = take (length ys - length xs) q.rest;
        is = sym (take-append-add xs q.rest (length ys - length xs)) ∙ (λ i. take (whole i) (q.is i)) ∙
            ap (take (length ys)) (sym p.is) ∙ take-append_seam ys p.rest;
      },
  λ q. record { rest = q.rest ++ p.rest; is = sym (append_assoc xs q.rest p.rest) ∙ ap (λ l. l ++ p.rest) q.is ∙ p.is },
)

prefix_take : (k : ℕ) (zs : List (List ℕ)) → IsPrefix (take k zs) zs
prefix_take k zs = record { rest = drop k zs; is = take-append-drop k zs }

begins_none : (xs ys : List (List ℕ)) → length xs ≡ 0 → IsPrefix xs ys
begins_none [] ys none = record { rest = ys; is = refl }
begins_none (x ∷ xs) ys none = absurd (omega arith)

-- a split at k, within the first list
cut_prefix : (k : ℕ) (xs ys : List (List ℕ)) → k ≤ length xs →
    IsPrefix xs ys ↔ ((take k xs ≡ take k ys) × IsPrefix (drop k xs) (drop k ys))
cut_prefix k xs ys fits = (
  λ p. (
    sym (take-append-le k xs p.rest fits) ∙ ap (take k) p.is,
    record { rest = p.rest; is = sym (drop-append-le k xs p.rest fits) ∙ ap (drop k) p.is },
  ),
  λ h. record {
    rest = h.1.rest;
    is =
        ap (λ zs. zs ++ h.1.rest) (sym (take-append-drop k xs)) ∙ append_assoc (take k xs) (drop k xs) h.1.rest ∙
        (λ i. h.0 i ++ h.1.is i) ∙ take-append-drop k ys;
  },
)

-- the answer of `!=` on hashes
module _ (x y : List ℕ) (b : Bool) (is : b ≡ not (pointwise eqb x y)) where
  pub differ_tells : b ≡ true → x ≡ y → ⊥
  differ_tells h same =
      let yes : pointwise eqb x y ≡ true = (slice_eq-Decides Decides-eqb x y (pointwise eqb x y) refl).1 same in
      let wrong : true ≡ false = sym h ∙ is ∙ ap not yes in
      cc wrong

  pub same_tells : b ≡ false → x ≡ y
  same_tells h = (slice_eq-Decides Decides-eqb x y (pointwise eqb x y) refl).0 (at (pointwise eqb x y) (sym is ∙ h))
    where
      at : (t : Bool) → not t ≡ false → t ≡ true
      at true e = refl
      at false e = absurd (cc e)

-- a power of two below m, whose double is at least m
pub one_split : (m n k : ℕ) → 2 ≤ n → k ≡ split_of n → m ≤ n → k < m → k ≡ split_of m
one_split m n k two k_is fits above =
    let positive = split_of-positive n two in
    let half = split_of-half n two in
    split_of-unique m k (omega arith) (subst IsPowerOfTwo (sym k_is) (split_of-power n two)) above (omega arith)

module _ (digest : List ℕ → List ℕ) (held : Strings) (m n : ℕ) (small large : List ℕ) (xs ys : List (List ℕ))
    (t : IsTreeOf digest held m small xs) (u : IsTreeOf digest held n large ys) where
  pub tells_empty : m ≡ 0 → IsTrue true ↔ IsPrefix xs ys
  tells_empty none = (λ _. begins_none xs ys (t.size_is ∙ none), λ _. refl)

  module _ (size : (s : List ℕ) → length (digest s) ≡ 32) (clean : NoClash digest held) where
    -- equal sizes: equal hashes mean equal lists
    pub records_equal : m ≡ n → (b : Bool) → b ≡ pointwise eqb small large → IsTrue b ↔ IsPrefix xs ys
    records_equal equal b is =
        let decides = slice_eq-Decides Decides-eqb small large b is in (
          λ h.
              let root_is : small ≡ large = decides.0 h in
              let one : xs ≡ ys =
              only digest held size clean n large xs ys
              (record { size_is = t.size_is ∙ equal; root_is = t.root_is ∙ root_is; are_held = t.are_held }) u in
              record { rest = []; is = append-nil xs ∙ one },
          λ p. decides.1
              (sym t.root_is ∙ ap (mth digest) (prefix_same xs ys (t.size_is ∙ equal ∙ sym u.size_is) p) ∙ u.root_is),
        )

    module _ (k : ℕ) (l r : List ℕ) (two : 2 ≤ n) (k_is : k ≡ split_of n) (len : length l ≡ 32)
        (h : IsHeldAt digest held large (1 ∷ l ++ r)) (b : Bool) where
      -- the first list ends within the second one's left part
      pub tells_within : m ≤ k →
          ((vs ws : List (List ℕ)) → IsTreeOf digest held m small vs → IsTreeOf digest held k l ws →
          IsTrue b ↔ IsPrefix vs ws) → IsTrue b ↔ IsPrefix xs ys
      tells_within upto f =
          let left = left-tree digest held size clean n k large l r two k_is len h ys u in
          let law = prefix_of_prefix xs (take k ys) ys (prefix_take k ys) (omega (arith, t.size_is, left.size_is)) in
          let x = f xs (take k ys) t left in
          (λ g. law.1 (x.0 g), λ p. x.1 (law.0 p))

      module _ (fits : m ≤ n) (above : k < m) (own_l own_r : List ℕ) (own_len : length own_l ≡ 32)
          (own : IsHeldAt digest held small (1 ∷ own_l ++ own_r)) where
        own_is : k ≡ split_of m
        own_is = one_split m n k two k_is fits above

        own_two : 2 ≤ m
        own_two = let positive = split_of-positive n two in omega (arith, k_is)

        left_x : IsTreeOf digest held k own_l (take k xs)
        left_x = left-tree digest held size clean m k small own_l own_r own_two own_is own_len own xs t

        left_y : IsTreeOf digest held k l (take k ys)
        left_y = left-tree digest held size clean n k large l r two k_is len h ys u

        within : k ≤ length xs
        within = omega (arith, t.size_is)

        -- the left parts differ
        pub tells_differ : (own_l ≡ l → ⊥) → IsTrue false ↔ IsPrefix xs ys
        tells_differ differ = (
          λ g. absurd (let wrong : false ≡ true = g in cc wrong),
          λ p. absurd
              (differ (sym left_x.root_is ∙ ap (mth digest) ((cut_prefix k xs ys within).0 p).0 ∙ left_y.root_is)),
        )

        -- the left parts are equal
        pub tells_beyond : own_l ≡ l →
            ((vs ws : List (List ℕ)) → IsTreeOf digest held (m - k) own_r vs → IsTreeOf digest held (n - k) r ws →
            IsTrue b ↔ IsPrefix vs ws) → IsTrue b ↔ IsPrefix xs ys
        tells_beyond same f =
            let one : take k xs ≡ take k ys =
            only digest held size clean k l (take k xs) (take k ys)
            (subst (λ v. IsTreeOf digest held k v (take k xs)) same left_x) left_y in
            let x = f (drop k xs) (drop k ys)
            (right-tree digest held size clean m k small own_l own_r own_two own_is own_len own xs t)
            (right-tree digest held size clean n k large l r two k_is len h ys u) in
            let law = cut_prefix k xs ys within in
            (λ g. law.1 (one, x.0 g), λ p. x.1 (law.0 p).1)

-- ---- forks

-- neither of two lists is a prefix of the other
abbrev Apart : List (List ℕ) → List (List ℕ) → Type 0
Apart xs ys = (IsPrefix xs ys → ⊥) × (IsPrefix ys xs → ⊥)

length_prefix : (xs ys : List (List ℕ)) → IsPrefix xs ys → length xs ≤ length ys
length_prefix xs ys p = let total = ap length p.is in omega (arith, length-append xs p.rest, total)

-- a list that is no longer than another is apart from it if it is no prefix of it
apart_short : (xs ys : List (List ℕ)) → length xs ≤ length ys → (IsPrefix xs ys → ⊥) → Apart xs ys
apart_short xs ys short not = (
  not,
  λ p.
      let long = length_prefix ys xs p in
      let same : ys ≡ xs = prefix_same ys xs (omega arith) p in
      not (record { rest = []; is = append-nil xs ∙ sym same }),
)

-- equal tree heads have one list, which is not apart from itself
apart_differ : (digest : List ℕ → List ℕ) → IsDigest digest → (v : View) → IsLawful digest v →
    (a b : Point) (xs ys : List (List ℕ)) → Complete digest v a.size a.root xs → Complete digest v b.size b.root ys →
    Apart xs ys → a ≢ b
apart_differ digest hash v lawful a b xs ys p q apart is =
    let one : xs ≡ ys =
    one_list digest hash v lawful a.size a.root xs ys p
    (subst (λ (x : Point). Complete digest v x.size x.root ys) (sym is) q) in
    apart.0 (record { rest = []; is = append-nil xs ∙ one })

tells_fork : (digest : List ℕ → List ℕ) → IsDigest digest → (v : View) → IsLawful digest v →
    (a b : Point) (xs ys : List (List ℕ)) → Complete digest v a.size a.root xs → Complete digest v b.size b.root ys →
    IsFork digest v a b ↔ Apart xs ys
tells_fork digest hash v lawful a b xs ys p q = (
  λ f. (forks_tell digest hash v lawful a b xs ys f.differ p q).0 f,
  λ apart. (forks_tell digest hash v lawful a b xs ys
      (apart_differ digest hash v lawful a b xs ys p q apart) p q).1 apart,
)

pub forks_go_on : ForksGoOn
forks_go_on digest hash v lawful a b c first second third p q r sizes begins =
    let fits : length first ≤ length second = omega (arith, p.tree.size_is, q.tree.size_is) in
    let long = length_prefix second third begins in
    let law = prefix_of_prefix first second third begins fits in
    let ab = tells_fork digest hash v lawful a b first second p q in
    let ac = tells_fork digest hash v lawful a c first third p r in (
      λ f. ab.1 (apart_short first second fits (λ pre. (ac.0 f).0 (law.1 pre))),
      λ f. ac.1 (apart_short first third (omega arith) (λ pre. (ab.0 f).0 (law.0 pre))),
    )
