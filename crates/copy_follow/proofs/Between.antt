-- The paths that the parts of a call request differ.
use Rattle.std.proofs.Common.{◌≡◌, ◌≢◌, ℕ, ◌+◌, ◌-◌, ◌*◌, ◌/◌, ◌^◌, ◌<◌, ◌≤◌, List, Option, inl, inr, sym, subst, ap, ◌∙◌, arith}
use Rattle.std.specs.Prelude.{⊤}
use Rattle.std.proofs.Math.Nat.{lt-div-mul-add}
use Rattle.std.proofs.lemmas.Nat.{mul-le}
use Rattle.tlog_shape.proofs.Levels.{level_positive}
use Rattle.tlog_shape.specs.Edge.{edge_index_of, width_of}
use Rattle.tlog_tiles.specs.Tiles.{IsWithin}
use Rattle.tlog_tiles.specs.declared.paths.Path.{Path}
use Rattle.tlog_tiles.specs.declared.paths.Path.TheVariants.{Checkpoint, Tile, Entries}
use Rattle.mirror_sources.specs.Files.{full_of, width_named}
use Rattle.copy_follow.specs.Asked.{IsEdgeBundle, IsNewFull}
use Rattle.copy_places.specs.Asked.{IsEdgeTile}
use Rattle.copy_places.specs.AskedOnce.{AsksOnce}
use Rattle.copy_follow.specs.Asked.{IsFullBetween, IsLower}
use Rattle.copy_places.specs.declared.places.Places.{Places}
use Rattle.copy_places.proofs.AskingOnce.{once_then, once_weaker}
use Rattle.copy_follow.proofs.EdgeRows.{floor_mono}
use Rattle.copy_follow.proofs.NewFulls.{bundle_asked, end_is, tile_asked}
use Rattle.copy_follow.proofs.TileRows.{place_of}

-- ---- files below a tile

pub tile_between : (level index : ℕ) → 1 ≤ level → level ≤ 7 → (path : Path) → path ≡ Tile level index 256 →
    IsFullBetween (level + 1) (index * 256 ^ (level + 1)) ((index + 1) * 256 ^ (level + 1)) path
tile_between level index some upto path is =
    let from = index * 256 ^ (level + 1) in
    let to = (index + 1) * 256 ^ (level + 1) in
    let power = level_positive (level + 1) in
    let end = end_is level index in
    record {
      new = tile_asked from level index some (omega (arith, power)) path is;
      within = subst (λ p. IsWithin to p) (sym is) (record {
        level_fits = upto;
        some = omega arith;
        upto = omega arith;
        within = omega (arith, end);
      });
      lower = subst (λ p. IsLower (level + 1) p) (sym is) (omega arith);
    }

pub bundle_between : (level index : ℕ) → level ≡ 0 → (path : Path) → path ≡ Entries index 256 →
    IsFullBetween (level + 1) (index * 256 ^ (level + 1)) ((index + 1) * 256 ^ (level + 1)) path
bundle_between level index zero path is =
    let from = index * 256 ^ (level + 1) in
    let to = (index + 1) * 256 ^ (level + 1) in
    let one : 256 ^ (level + 1) ≡ 256 = ap (λ l. 256 ^ (l + 1)) zero in
    let from_is : from ≡ index * 256 = ap (λ p. index * p) one in
    let to_is : to ≡ (index + 1) * 256 = ap (λ p. (index + 1) * p) one in
    record {
      new = bundle_asked from index (omega (arith, from_is)) path is;
      within = subst (λ p. IsWithin to p) (sym is) (record {
        level_fits = omega arith;
        some = omega arith;
        upto = omega arith;
        within = omega (arith, to_is);
      });
      lower = subst (λ p. IsLower (level + 1) p) (sym is) tt;
    }

pub between_weaker : (low high a b c d : ℕ) → low ≤ high → c ≤ a → b ≤ d → (path : Path) → IsFullBetween low a b path →
    IsFullBetween high c d path
between_weaker low high a b c d up from to Checkpoint h = absurd h.lower
between_weaker low high a b c d up from to (Tile level index width) h = record {
  new = (
    h.new.0,
    h.new.1,
    λ w. h.new.2 (record {
      level_fits = w.level_fits;
      some = w.some;
      upto = w.upto;
      within = let upto = w.within in omega (arith, upto, from);
    }),
  );
  within = let w = h.within in record {
    level_fits = w.level_fits;
    some = w.some;
    upto = w.upto;
    within = let upto = w.within in omega (arith, upto, to);
  };
  lower = let l = h.lower in omega (arith, l, up);
}
between_weaker low high a b c d up from to (Entries index width) h = record {
  new = (
    h.new.0,
    λ w. h.new.1 (record {
      level_fits = w.level_fits;
      some = w.some;
      upto = w.upto;
      within = let upto = w.within in omega (arith, upto, from);
    }),
  );
  within = let w = h.within in record {
    level_fits = w.level_fits;
    some = w.some;
    upto = w.upto;
    within = let upto = w.within in omega (arith, upto, to);
  };
  lower = tt;
}

-- a file that comes to an end in one range of entries does not in the next one
pub between_apart : (low high a b c : ℕ) → (path : Path) → IsFullBetween low a b path → IsFullBetween high b c path → ⊥
between_apart low high a b c Checkpoint p q = p.lower
between_apart low high a b c (Tile level index width) p q = q.new.2 p.within
between_apart low high a b c (Entries index width) p q = q.new.1 p.within

pub tile_apart : (level index a b : ℕ) (path : Path) → path ≡ Tile level index 256 → IsFullBetween level a b path → ⊥
tile_apart level index a b path is h =
    let lower : level < level = subst (λ p. IsLower level p) is h.lower in omega (arith, lower)

-- the row of a full tile
pub row_to : (level index width : ℕ) → width ≡ 256 → (256 * index + width) * 256 ^ level ≡ (index + 1) * 256 ^ (level + 1)
row_to level index width wide = ap (λ w. (256 * index + w) * 256 ^ level) wide ∙ end_is level index

pub child_to : (level index width i : ℕ) → i ≤ width → (256 * index + i) * 256 ^ level ≤ (256 * index + width) * 256 ^ level
child_to level index width i le =
    mul-le (256 * index + i) (256 ^ level) (256 * index + width) (256 ^ level) (omega arith) (omega arith)

pub child_from : (level index i : ℕ) → index * 256 ^ (level + 1) ≤ (256 * index + i) * 256 ^ level
child_from level index i =
    let whole : index * 256 ^ (level + 1) ≡ 256 * index * 256 ^ level = place_of level index in
    let more : 256 * index * 256 ^ level ≤ (256 * index + i) * 256 ^ level =
    mul-le (256 * index) (256 ^ level) (256 * index + i) (256 ^ level) (omega arith) (omega arith) in
    omega (arith, whole, more)

-- ---- the right edge

pub bundle_partial : (index width n : ℕ) → width ≡ width_of n 0 → Entries index width ≢ full_of (Entries index width)
bundle_partial index width n wide e = let named : width ≡ 256 = ap width_named e in omega (arith, named, wide)

-- a tree of n entries has no full tile at the index of its partial one
edge_beyond : (n level : ℕ) → (256 * edge_index_of n level + 256) * 256 ^ level ≤ n → ⊥
edge_beyond n level upto =
    let end = end_is level (edge_index_of n level) in
    let above : n < edge_index_of n level * 256 ^ (level + 1) + 256 ^ (level + 1) = lt-div-mul-add (level_positive (level + 1)) in
    omega (arith, upto, end, above)

width_of_full : (from : ℕ) (path : Path) → IsNewFull from path → width_named path ≡ 256
width_of_full from Checkpoint h = absurd h
width_of_full from (Tile level index width) h = h.1
width_of_full from (Entries index width) h = h.0

pub between_no_tile : (high from n : ℕ) (path : Path) → IsFullBetween high from n path → IsEdgeTile n path → ⊥
between_no_tile high from n path h tile =
    let full = width_of_full from path h.new in
    elim tile.is [
      | inl e ↦ let named : width_named path ≡ width_of n tile.level = ap width_named e in omega (arith, full, named)
      | inr e ↦ let w = subst (λ p. IsWithin n p) e h.within in edge_beyond n tile.level w.within
    ]

pub between_no_bundle : (high from n : ℕ) (path : Path) → IsFullBetween high from n path → IsEdgeBundle n path → ⊥
between_no_bundle high from n path h bundle =
    let full = width_of_full from path h.new in
    elim bundle.is [
      | inl e ↦ let named : width_named path ≡ width_of n 0 = ap width_named e in omega (arith, full, named)
      | inr e ↦ let w = subst (λ p. IsWithin n p) e h.within in edge_beyond n 0 w.within
    ]

abbrev is_bundle : Path → Type 0
is_bundle Checkpoint = ⊥
is_bundle (Tile level index width) = ⊥
is_bundle (Entries index width) = Unit {0}

pub bundle_no_tile : (n : ℕ) (path : Path) → IsEdgeBundle n path → IsEdgeTile n path → ⊥
bundle_no_tile n path bundle tile =
    let is : is_bundle path = elim bundle.is [
      | inl e ↦ subst (λ p. is_bundle p) (sym e) tt
      | inr e ↦ subst (λ p. is_bundle p) (sym e) tt
    ] in
    elim tile.is [ inl e ↦ subst (λ p. is_bundle p) e is | inr e ↦ subst (λ p. is_bundle p) e is ]

-- ---- calls in a row

module _ {S : Type 0} (asked : S → Option (List Path)) where
  -- a full tile, and then all files below it
  pub once_tile : (level index width : ℕ) → 1 ≤ level → level ≤ 7 → width ≡ 256 → (x y z : Places S) →
      AsksOnce asked (λ k p. p ≡ Tile level index 256) x y →
      AsksOnce asked (λ k. IsFullBetween level (index * 256 ^ (level + 1)) ((256 * index + width) * 256 ^ level)) y z →
      AsksOnce asked (λ k. IsFullBetween (level + 1) (index * 256 ^ (level + 1)) ((index + 1) * 256 ^ (level + 1))) x z
  once_tile level index width some upto wide =
      let from = index * 256 ^ (level + 1) in
      let to = (256 * index + width) * 256 ^ level in
      let end = (index + 1) * 256 ^ (level + 1) in
      let same = row_to level index width wide in
      once_then asked (λ k p. p ≡ Tile level index 256) (λ k. IsFullBetween level from to)
      (λ k. IsFullBetween (level + 1) from end) (λ k path is h. tile_apart level index from to path is h)
      (λ k path is. tile_between level index some upto path is)
      (λ k path h. between_weaker level (level + 1) from to from end (omega arith) (omega arith) (omega (arith, same)) path h)

  pub once_longer : (level from to end : ℕ) → to ≤ end → (x y : Places S) → AsksOnce asked (λ k. IsFullBetween level from to) x y →
      AsksOnce asked (λ k. IsFullBetween level from end) x y
  once_longer level from to end le = once_weaker asked (λ k. IsFullBetween level from to) (λ k. IsFullBetween level from end)
      (λ k path h. between_weaker level level from to from end (omega arith) (omega arith) le path h)

  -- the files of one range of entries, and then those of the next one
  once_next : (low high a b c : ℕ) → low ≤ high → a ≤ b → b ≤ c → (x y z : Places S) →
      AsksOnce asked (λ k. IsFullBetween high a b) x y → AsksOnce asked (λ k. IsFullBetween low b c) y z →
      AsksOnce asked (λ k. IsFullBetween high a c) x z
  once_next low high a b c up ab bc =
      once_then asked (λ k. IsFullBetween high a b) (λ k. IsFullBetween low b c) (λ k. IsFullBetween high a c)
      (λ k path p q. between_apart high low a b c path p q)
      (λ k path p. between_weaker high high a b a c (omega arith) (omega arith) bc path p)
      (λ k path q. between_weaker low high b c a c up ab (omega arith) path q)

  -- the files below the first hashes of a row, and then those below the next hash
  pub once_child : (level index i : ℕ) → 1 ≤ level → (x y z : Places S) →
      AsksOnce asked (λ k. IsFullBetween level (index * 256 ^ (level + 1)) ((256 * index + i) * 256 ^ level)) x y →
      AsksOnce asked (λ k. IsFullBetween (level - 1 + 1) ((256 * index + i) * 256 ^ (level - 1 + 1))
      ((256 * index + i + 1) * 256 ^ (level - 1 + 1))) y z →
      AsksOnce asked (λ k. IsFullBetween level (index * 256 ^ (level + 1)) ((256 * index + (i + 1)) * 256 ^ level)) x z
  once_child level index i some x y z p q =
      let up : level - 1 + 1 ≡ level = omega arith in
      let a = index * 256 ^ (level + 1) in
      let b = (256 * index + i) * 256 ^ level in
      let c = (256 * index + (i + 1)) * 256 ^ level in
      let next : 256 * index + i + 1 ≡ 256 * index + (i + 1) = omega arith in
      let up_to : b ≤ c = mul-le (256 * index + i) (256 ^ level) (256 * index + (i + 1)) (256 ^ level) (omega arith) (omega arith) in
      once_next level level a b c (omega arith) (child_from level index i) up_to x y z p
      (subst (λ n. AsksOnce asked (λ k. IsFullBetween level b (n * 256 ^ level)) y z) next
      (subst (λ l. AsksOnce asked (λ k. IsFullBetween l ((256 * index + i) * 256 ^ l) ((256 * index + i + 1) * 256 ^ l)) y z) up q))

  -- the files below the edge rows of the levels above, and then those below the edge row of a level
  pub once_row : (n level : ℕ) → level ≤ 7 → (x y z : Places S) →
      AsksOnce asked (λ k. IsFullBetween 7 0 (n / 256 ^ (level + 1) * 256 ^ (level + 1))) x y →
      AsksOnce asked (λ k. IsFullBetween level (n / 256 ^ (level + 1) * 256 ^ (level + 1)) (n / 256 ^ level * 256 ^ level)) y z →
      AsksOnce asked (λ k. IsFullBetween 7 0 (n / 256 ^ level * 256 ^ level)) x z
  once_row n level upto = once_next level 7 0 (n / 256 ^ (level + 1) * 256 ^ (level + 1)) (n / 256 ^ level * 256 ^ level) upto
      (omega arith) (floor_mono n level (level + 1) (omega arith))

  -- all files below the edge rows, and then the partial bundle
  pub once_to_edge : (n : ℕ) (x y z : Places S) → AsksOnce asked (λ k. IsFullBetween 7 0 n) x y →
      AsksOnce asked (λ k. IsEdgeBundle n) y z → AsksOnce asked (λ k path. ¬ IsEdgeTile n path) x z
  once_to_edge n = once_then asked (λ k. IsFullBetween 7 0 n) (λ k. IsEdgeBundle n) (λ k path. ¬ IsEdgeTile n path)
      (λ k path h bundle. between_no_bundle 7 0 n path h bundle) (λ k path h tile. between_no_tile 7 0 n path h tile)
      (λ k path bundle tile. bundle_no_tile n path bundle tile)

  pub once_below : (n : ℕ) (x y : Places S) → AsksOnce asked (λ k. IsFullBetween 7 0 n) x y →
      AsksOnce asked (λ k path. ¬ IsEdgeTile n path) x y
  once_below n = once_weaker asked (λ k. IsFullBetween 7 0 n) (λ k path. ¬ IsEdgeTile n path)
      (λ k path h tile. between_no_tile 7 0 n path h tile)

  -- the edge rows, and then all other files
  pub once_larger : (n : ℕ) (x y z : Places S) → AsksOnce asked (λ k. IsEdgeTile n) x y →
      AsksOnce asked (λ k path. ¬ IsEdgeTile n path) y z → AsksOnce asked (λ k path. ⊤) x z
  once_larger n = once_then asked (λ k. IsEdgeTile n) (λ k path. ¬ IsEdgeTile n path) (λ k path. ⊤)
      (λ k path tile not. not tile) (λ k path h. tt) (λ k path h. tt)
