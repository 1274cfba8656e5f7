-- The known trees, as more of them are found held.
use Rattle.std.proofs.Common.{◌≡◌, ℕ, ◌-◌, ◌≤◌, List, [], ◌∷◌, ◌++◌, length, sym, refl, subst, Bool, true, false, ◌⊎◌, inl, inr}
use Rattle.std.proofs.Common.{Result, Ok, Err, eqb}
use Rattle.std.specs.Prelude.{IsTrue, OnOk, OnErr, ◌↔◌}
use Rattle.std.specs.FinSet as set
use Rattle.std.specs.Cmp.Lexicographic.{pointwise}
use Rattle.std.proofs.lemmas.Slice.Eq.{slice_eq-Decides}
use Rattle.std.proofs.lemmas.Bool.Decides.{Decides-eqb}
use Rattle.tlog_shape.specs.Split.{split_of}
use Rattle.node_store.specs.Strings.{Strings, IsHeldAt, NoClash}
use Rattle.mirror_model.specs.Complete.{IsBuilt}
use Rattle.mirror_model.specs.Forks.{Point}
use Rattle.mirror_model.specs.Marks.{Points}
use Rattle.mirror_trees.specs.HeldTrees.{AreBuilt, AreKnown, HasMark}
use Rattle.mirror_trees.specs.declared.known.HeldTrees.{HeldTrees}
use Rattle.mirror_trees.proofs.Builds.{records_both, tells_left}
use Rattle.mirror_trees.proofs.Descents.{one-tree, join-tree}
use Rattle.mirror_trees.proofs.Settles.{mark_cases}
use Rattle.mirror_trees.proofs.SliceSteps.{point_at}

-- the set after a size and hash were added, or not
pub noted : {E : Type 0} (r : Result (Unit {0}) E) (v w : Points) (p : Point) → OnOk r (w ≡ set.insert v p) →
    OnErr r (w ≡ v) → (q : Point) → HasMark w q → (q ≡ p) ⊎ HasMark v q
noted (Ok x) v w p is same q h = mark_cases v p q (subst (λ s. HasMark s q) is h)
noted (Err e) v w p is same q h = inr (subst (λ s. HasMark s q) same h)

module _ (digest : List ℕ → List ℕ) (held : Strings) where
  -- a known tree is held
  pub known_built : (known : HeldTrees) (n : ℕ) (root : List ℕ) → AreKnown digest held known →
      HasMark known.remembered (record { size = n; root = root }) ⊎ HasMark known.built (record { size = n; root = root }) → IsBuilt digest held n root
  known_built known n root k (inl h) = k.remembered.built n root h
  known_built known n root k (inr h) = k.built.built n root h

  pub known_decides : (known : HeldTrees) (n : ℕ) (root : List ℕ) (b : Bool) → AreKnown digest held known →
      (IsTrue b → HasMark known.remembered (record { size = n; root = root }) ⊎ HasMark known.built (record { size = n; root = root })) → b ≡ true →
      IsTrue true ↔ IsBuilt digest held n root
  known_decides known n root b k has held_is = (λ _. known_built known n root k (has held_is), λ _. refl)

  -- a held tree is noted
  pub noted_built : (v w : Points) (n : ℕ) (root : List ℕ) → AreBuilt digest held v → IsBuilt digest held n root →
      ((q : Point) → HasMark w q → (q ≡ point_at n root) ⊎ HasMark v q) → AreBuilt digest held w
  noted_built v w n root known b only = record {
    built = λ size hash h. elim (only (point_at size hash) h) [
      | inl is ↦ subst (λ (q : Point). IsBuilt digest held q.size q.root) (sym is) b
      | inr m ↦ known.built size hash m
    ];
  }

  pub noted_known : (known : HeldTrees) (w : Points) (n : ℕ) (root : List ℕ) → AreKnown digest held known →
      IsBuilt digest held n root → ((q : Point) → HasMark w q → (q ≡ point_at n root) ⊎ HasMark known.built q) →
      AreKnown digest held (record { remembered = known.remembered; built = w })
  noted_known known w n root k b only =
      record { remembered = k.remembered; built = noted_built known.built w n root k.built b only }

  -- an entry is held, or both parts of a tree are held
  pub leaf_built : (n : ℕ) (root e : List ℕ) → n ≡ 1 → IsHeldAt digest held root (0 ∷ e) → IsBuilt digest held n root
  leaf_built n root e one_is h =
      subst (λ m. IsBuilt digest held m root) (sym one_is)
      (record { entries = e ∷ []; is = one-tree digest held root e h })

  pub parts_built : (n k : ℕ) (root l r : List ℕ) → 2 ≤ n → k ≡ split_of n → IsHeldAt digest held root (1 ∷ l ++ r) →
      IsBuilt digest held k l → IsBuilt digest held (n - k) r → IsBuilt digest held n root
  parts_built n k root l r two k_is h x y = record {
    entries = x.entries ++ y.entries;
    is = join-tree digest held n k root l r x.entries y.entries two k_is h x.is y.is;
  }

  module _ (size : (s : List ℕ) → length (digest s) ≡ 32) (clean : NoClash digest held) (n k : ℕ) (root l r : List ℕ)
      (two : 2 ≤ n) (k_is : k ≡ split_of n) (len : length l ≡ 32) (h : IsHeldAt digest held root (1 ∷ l ++ r)) where
    -- the left part is not held
    pub tells_no_left : (b : Bool) → b ≡ false → IsTrue b ↔ IsBuilt digest held k l →
        IsTrue false ↔ IsBuilt digest held n root
    tells_no_left b unheld_is x =
        subst (λ c. IsTrue c ↔ IsBuilt digest held n root) unheld_is
        (tells_left digest held size clean n k root l r b two k_is len h unheld_is x)

    -- the left part is held, and so is the right one, or not
    pub tells_right : (a b : Bool) → a ≡ true → IsTrue a ↔ IsBuilt digest held k l →
        IsTrue b ↔ IsBuilt digest held (n - k) r → IsTrue b ↔ IsBuilt digest held n root
    tells_right a b held_is x y = records_both digest held size clean n k root l r b two k_is len h (x.0 held_is) y

    pub tells_no_right : (a b : Bool) → a ≡ true → IsTrue a ↔ IsBuilt digest held k l → b ≡ false →
        IsTrue b ↔ IsBuilt digest held (n - k) r → IsTrue false ↔ IsBuilt digest held n root
    tells_no_right a b held_is x unheld_is y =
        subst (λ c. IsTrue c ↔ IsBuilt digest held n root) unheld_is (tells_right a b held_is x y)

    -- both parts are held
    pub both_built : (a b : Bool) → a ≡ true → IsTrue a ↔ IsBuilt digest held k l → b ≡ true →
        IsTrue b ↔ IsBuilt digest held (n - k) r → IsBuilt digest held n root
    both_built a b left_is x right_is y = (tells_right a b left_is x y).0 right_is

    -- both parts are equal, and the left one is held
    pub records_equal : (a b : Bool) → a ≡ true → IsTrue a ↔ IsBuilt digest held k l → n - k ≡ k →
        b ≡ pointwise eqb l r → b ≡ true → IsTrue true ↔ IsBuilt digest held n root
    records_equal a b held_is x half is equal =
        records_both digest held size clean n k root l r true two k_is len h (x.0 held_is) (
          λ _. subst (λ m. IsBuilt digest held m r) (sym half)
              (subst (IsBuilt digest held k) ((slice_eq-Decides Decides-eqb l r b is).0 equal) (x.0 held_is)),
          λ _. refl,
        )
