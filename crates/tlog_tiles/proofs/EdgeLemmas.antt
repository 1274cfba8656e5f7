-- The right edge of a tree.
use Rattle.std.proofs.Common.{◌≡◌, ◌≢◌, ◌↔◌, ℕ, zero, suc, nat_eq, Bool, true, false, if◌then◌else◌, ◌+◌, ◌*◌, ◌/◌, ◌^◌}
use Rattle.std.proofs.Common.{◌<◌, ◌≤◌, List, [], ◌∷◌, ◌++◌, All, AllPairs, sym, ap, subst, ◌∙◌, inl, inr, arith}
use Rattle.std.specs.List.{Contains}
use Rattle.std.proofs.Math.Nat.{le-div_iff_mul-le}
use Rattle.std.proofs.lemmas.Bool.Decides.{eqb_tells}
use Rattle.std.proofs.lemmas.List.Elements.{Contains-append_left, Contains-append_right, Contains-append_cases}
use Rattle.std.proofs.lemmas.List.Elements.{Contains-push, Contains-push_cases, All-push}
use Rattle.std.proofs.lemmas.List.Quantifiers.{all_pairs_push}
use Rattle.std.proofs.lemmas.List.{append-nil}
use Rattle.tlog_shape.specs.Edge.{width_of, edge_index_of}
use Rattle.tlog_shape.proofs.Levels.{level_positive, shift_level}
use Rattle.tlog_tiles.specs.declared.paths.Path.{Path}
use Rattle.tlog_tiles.specs.declared.paths.Path.TheVariants.{Checkpoint, Tile, Entries}
use Rattle.tlog_tiles.specs.Edge.{edge_at, edge_below, edge_of, level_of}
use Rattle.tlog_tiles.specs.Tiles.{IsEdgeTile, IsPartialIn}

-- the full tiles and the partial tile of a level have all hashes of the level
pub hashes_of : (n level : ℕ) → 256 * edge_index_of n level + width_of n level ≡ n / 256 ^ level
hashes_of n level = omega (arith, shift_level n level)

-- the hashes of a tile within a tree are hashes of the tree
within_hashes : (n level index width : ℕ) → (256 * index + width) * 256 ^ level ≤ n →
    256 * index + width ≤ n / 256 ^ level
within_hashes n level index width h = (le-div_iff_mul-le (level_positive level)).1 h

hashes_within : (n level index width : ℕ) → 256 * index + width ≤ n / 256 ^ level →
    (256 * index + width) * 256 ^ level ≤ n
hashes_within n level index width h = (le-div_iff_mul-le (level_positive level)).0 h

-- the partial tile of a level is the widest tile at its index
edge_partial : (n level : ℕ) → level ≤ 7 → width_of n level ≢ 0 →
    IsPartialIn n level (edge_index_of n level) (width_of n level)
edge_partial n level fits some =
    let hashes = hashes_of n level in
    let below : width_of n level < 256 = omega arith in
    record {
      within = record {
        level_fits =
            fits;
        some =
            omega arith;
        upto =
            omega arith;
        within = hashes_within n level (edge_index_of n level) (width_of n level) (omega arith);
      };
      partial = below;
      widest = λ wider more h. let most = within_hashes n level (edge_index_of n level) wider h.within in omega arith;
    }

-- a partial tile that is the widest at its index is the one of its level
pub record IsAtEdge (n level index width : ℕ) : Type 0 where
  pub index_is : index ≡ edge_index_of n level
  pub width_is : width ≡ width_of n level

partial_edge : (n level index width : ℕ) → IsPartialIn n level index width → IsAtEdge n level index width
partial_edge n level index width h =
    let least = within_hashes n level index width h.within.within in
    let narrow = h.partial in
    let most : n / 256 ^ level < 256 * index + (width + 1) =
    most_of (256 * index + (width + 1))
    (λ over. h.widest (width + 1) (omega arith)
    (record {
      level_fits =
          h.within.level_fits;
      some =
          omega arith;
      upto = omega arith;
      within = hashes_within n level index (width + 1) over;
    })) in
    let shift = shift_level n level in
    record { index_is = omega arith; width_is = omega arith }
  where
    most_of : (k : ℕ) → (k ≤ n / 256 ^ level → ⊥) → n / 256 ^ level < k
    most_of k f = omega arith

-- a level without a partial tile adds no path
edge_at-none : (n level : ℕ) → nat_eq (width_of n level) 0 ≡ true → edge_at n level ≡ []
edge_at-none n level e =
    ap (λ (b : Bool). if b then [] else Tile level (edge_index_of n level) (width_of n level) ∷ []) e

edge_at-some : (n level : ℕ) → nat_eq (width_of n level) 0 ≡ false →
    edge_at n level ≡ Tile level (edge_index_of n level) (width_of n level) ∷ []
edge_at-some n level e =
    ap (λ (b : Bool). if b then [] else Tile level (edge_index_of n level) (width_of n level) ∷ []) e

pub contains_none : (path : Path) → Contains [] path → ⊥
contains_none path h = let none = h.1 in omega arith

pub contains_one : (x path : Path) → Contains (x ∷ []) path → x ≡ path
contains_one x path h =
    elim (Contains-push_cases [] x path h) [ inl none ↦ absurd (contains_none path none) | inr e ↦ e ]

at_is : (n level : ℕ) (path : Path) → level ≤ 7 → Contains (edge_at n level) path → IsEdgeTile n path
at_is n level path fits h = elim (eqb_tells (width_of n level) 0) [
  | inl none ↦ absurd
      (contains_none path (subst (λ (xs : List Path). Contains xs path) (edge_at-none n level none.0) h))
  | inr some ↦ subst (IsEdgeTile n)
      (contains_one _ path (subst (λ (xs : List Path). Contains xs path) (edge_at-some n level some.0) h))
      (edge_partial n level fits some.1)
]

below_is : (n levels : ℕ) (path : Path) → levels ≤ 8 → Contains (edge_below n levels) path → IsEdgeTile n path
below_is n zero path fits h = absurd (contains_none path h)
below_is n (suc level) path fits h = elim (Contains-append_cases (edge_below n level) (edge_at n level) path h) [
  | inl lower ↦ below_is n level path (omega arith) lower
  | inr at ↦ at_is n level path (omega arith) at
]

at_below : (n level levels : ℕ) (path : Path) → level < levels → Contains (edge_at n level) path →
    Contains (edge_below n levels) path
at_below n level zero path p h = absurd (omega arith)
at_below n level (suc top) path p h = elim (eqb_tells level top) [
  | inl same ↦ Contains-append_right (edge_below n top) (edge_at n top) path
      (subst (λ k. Contains (edge_at n k) path) same.1 h)
  | inr other ↦ Contains-append_left (edge_below n top) (edge_at n top) path
      (at_below n level top path (let apart = other.1 in omega arith) h)
]

is_below : (n : ℕ) (path : Path) → IsEdgeTile n path → Contains (edge_below n 8) path
is_below n Checkpoint h = absurd h
is_below n (Entries index width) h = absurd h
is_below n (Tile level index width) h =
    let at = partial_edge n level index width h in
    let some = h.within.some in
    let here : Contains (edge_at n level) (Tile level (edge_index_of n level) (width_of n level)) =
    elim (eqb_tells (width_of n level) 0) [
      | inl none ↦
          (let empty : width_of n level ≡ 0 =
          none.1 in let same : width ≡ width_of n level = at.width_is in absurd (omega arith))
      | inr found ↦ subst (λ (xs : List Path). Contains xs (Tile level (edge_index_of n level) (width_of n level)))
          (sym (edge_at-some n level found.0))
          (Contains-push [] (Tile level (edge_index_of n level) (width_of n level)))
    ] in
    let same : Tile level (edge_index_of n level) (width_of n level) ≡ Tile level index width =
    λ i. Tile level (sym at.index_is i) (sym at.width_is i) in
    let fits : level < 8 = omega (arith, h.within.level_fits) in
    at_below n level 8 (Tile level index width) fits (subst (λ p. Contains (edge_at n level) p) same here)

pub edge_is : (n : ℕ) (path : Path) → Contains (edge_of n) path ↔ IsEdgeTile n path
unfolding edge_of
edge_is n path = (below_is n 8 path (omega arith), is_below n path)

-- the levels rise, and are below the given one
record RisesBelow (n levels : ℕ) : Type 0 where
  rises : AllPairs (λ lower higher. level_of lower < level_of higher) (edge_below n levels)
  below : All (λ path. level_of path < levels) (edge_below n levels)

rises_below : (n levels : ℕ) → RisesBelow n levels
rises_below n zero = record { rises = λ i j d p q. absurd (omega arith); below = λ k d p. absurd (omega arith) }
rises_below n (suc level) =
    let lower = rises_below n level in
    let wider : All (λ path. level_of path < suc level) (edge_below n level) =
    λ k d p. let h = lower.below k d p in omega arith in
    elim (eqb_tells (width_of n level) 0) [
      | inl none ↦
          (let same : edge_below n level ≡ edge_below n (suc level) =
          sym (append-nil (edge_below n level)) ∙
          ap (λ (xs : List Path). edge_below n level ++ xs) (sym (edge_at-none n level none.0)) in record {
            rises = subst
                (λ (xs : List Path). AllPairs (λ lower higher. level_of lower < level_of higher) xs) same lower.rises;
            below = subst (λ (xs : List Path). All (λ path. level_of path < suc level) xs) same wider;
          })
      | inr some ↦
          (let same : edge_below n level ++ Tile level (edge_index_of n level) (width_of n level) ∷ []
          ≡ edge_below n (suc level) =
          ap (λ (xs : List Path). edge_below n level ++ xs) (sym (edge_at-some n level some.0)) in record {
            rises = subst (λ (xs : List Path). AllPairs (λ lower higher. level_of lower < level_of higher) xs) same
                (all_pairs_push (λ (lower higher : Path). level_of lower < level_of higher) (edge_below n level)
                (Tile level (edge_index_of n level) (width_of n level)) lower.rises (λ k d p. lower.below k d p));
            below = subst (λ (xs : List Path). All (λ path. level_of path < suc level) xs) same
                (All-push (λ (path : Path). level_of path < suc level) (edge_below n level)
                (Tile level (edge_index_of n level) (width_of n level)) wider (omega arith));
          })
    ]

pub edge_rises : (n : ℕ) → AllPairs (λ lower higher. level_of lower < level_of higher) (edge_of n)
unfolding edge_of
edge_rises n = (rises_below n 8).rises
