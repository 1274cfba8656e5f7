-- The paths that a call requests.
use Rattle.std.proofs.Common.{inl, inr, List, Option, ◌≡◌, ℕ, ◌+◌, ◌*◌, ◌^◌, ◌<◌, ◌≤◌, arith, refl, sym, subst, ap, ◌∙◌}
use Rattle.tlog_shape.proofs.Levels.{level_next}
use Rattle.tlog_shape.specs.Edge.{edge_index_of, width_of}
use Rattle.tlog_tiles.specs.declared.paths.Path.{Path}
use Rattle.tlog_tiles.specs.declared.paths.Path.TheVariants.{Tile, Entries}
use Rattle.copy_places.specs.declared.places.Places.{Places}
use Rattle.copy_places.specs.PlaceGets.{AsksPlaces}
use Rattle.copy_places.proofs.Asking.{asks_then, asks_weaker}
use Rattle.copy_follow.specs.Asked.{IsEdgeBundleOrNew, MayBeAsked, IsNewFull, IsEdgeBundle}
use Rattle.copy_follow.specs.Repaired.{IsFullFile}
use Rattle.copy_places.specs.Asked.{IsEdgeTile, IsPathOrFull}

pub end_is : (level index : ℕ) → (256 * index + 256) * 256 ^ level ≡ (index + 1) * 256 ^ (level + 1)
end_is level index =
    let first : (256 * index + 256) * 256 ^ level ≡ (index + 1) * (256 * 256 ^ level) = omega arith in
    first ∙ ap (λ p. (index + 1) * p) (sym (level_next level))

pub tile_asked : (m level index : ℕ) → 1 ≤ level → m < (index + 1) * 256 ^ (level + 1) → (path : Path) →
    path ≡ Tile level index 256 → IsNewFull m path
tile_asked m level index some beyond path is =
    subst (λ p. IsNewFull m p) (sym is) (
      some,
      refl,
      λ within.
          let upto = within.within in let end = end_is level index in absurd (omega (arith, upto, end, beyond)),
    )

pub bundle_asked : (m index : ℕ) → m < (index + 1) * 256 → (path : Path) → path ≡ Entries index 256 → IsNewFull m path
bundle_asked m index beyond path is =
    subst (λ p. IsNewFull m p) (sym is) (
      refl,
      λ within.
          let upto : (256 * index + 256) * 1 ≤ m = within.within in absurd (omega (arith, upto, beyond)),
    )

-- the same for a repair
pub full_tile_asked : (level index : ℕ) (path : Path) → path ≡ Tile level index 256 → IsFullFile path
full_tile_asked level index path is = subst IsFullFile (sym is) refl

pub full_bundle_asked : (index : ℕ) (path : Path) → path ≡ Entries index 256 → IsFullFile path
full_bundle_asked index path is = subst IsFullFile (sym is) refl

pub edge_bundle_asked : (n index width : ℕ) → index ≡ edge_index_of n 0 → width ≡ width_of n 0 → 1 ≤ width → (path : Path) →
    IsPathOrFull (Entries index width) path → IsEdgeBundle n path
edge_bundle_asked n index width at wide some path h = record {
  some = subst (λ w. 1 ≤ w) wide some;
  is = subst (λ w. IsPathOrFull (Entries (edge_index_of n 0) w) path) wide
      (subst (λ i. IsPathOrFull (Entries i width) path) at h);
}

-- ---- requests in a row

module _ {S : Type 0} (may : S → Path → Option (List ℕ) → Type 0) (failed : S → ℕ) (asked : S → Option (List Path)) where
  -- the requests below the edge, and then those for the partial bundle
  pub to_edge_asks : (n m : ℕ) (x y z : Places S) → AsksPlaces may failed asked (IsNewFull m) x y →
      AsksPlaces may failed asked (IsEdgeBundle n) y z → AsksPlaces may failed asked (IsEdgeBundleOrNew n m) x z
  to_edge_asks n m x y z p q = asks_then may failed asked (IsEdgeBundleOrNew n m) x y z
      (asks_weaker may failed asked (IsNewFull m) (IsEdgeBundleOrNew n m) (λ path h. inr h) x y p)
      (asks_weaker may failed asked (IsEdgeBundle n) (IsEdgeBundleOrNew n m) (λ path h. inl h) y z q)

  -- the requests for the edge rows, and then all others
  pub larger_asks : (n m : ℕ) (x y z : Places S) → AsksPlaces may failed asked (IsEdgeTile n) x y →
      AsksPlaces may failed asked (IsEdgeBundleOrNew n m) y z → AsksPlaces may failed asked (MayBeAsked m n) x z
  larger_asks n m x y z p q = asks_then may failed asked (MayBeAsked m n) x y z
      (asks_weaker may failed asked (IsEdgeTile n) (MayBeAsked m n) (λ path h. inl h) x y p)
      (asks_weaker may failed asked (IsEdgeBundleOrNew n m) (MayBeAsked m n) (λ path h. inr h) y z q)
