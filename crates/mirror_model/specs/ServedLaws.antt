-- The entries that a client reads from the served bundles (C2SP tlog-tiles, "Log Entries").
use Rattle.std.specs.Prelude.{◌≡◌, ℕ, ◌+◌, ◌≤◌, List, [], ◌∷◌, length}
use Rattle.tlog_hash.specs.Blocks.{joined_up}
use Rattle.tlog_tiles.specs.Bundle.{IsBundle}
use Rattle.mirror_model.specs.View.{View}
use Rattle.mirror_model.specs.Complete.{IsLawful}
use Rattle.mirror_model.specs.Served.{IsServedList, IsServedBundle}
use Rattle.mirror_model.specs.Strings.{IsDigest}

module _ (digest : List ℕ → List ℕ) (v : View) where
  -- a bundle with that index is served and has exactly these entries, and no wider bundle with that
  -- index is served
  pub record IsWidestBundle (index : ℕ) (entries : List (List ℕ)) : Type 0 where
    pub bytes : List ℕ
    pub served : IsServedBundle digest v index (length entries) bytes
    pub is_bundle : IsBundle (length entries) bytes entries
    pub widest :
        (width : ℕ) (other : List ℕ) → IsServedBundle digest v index width other →
        width ≤ length entries

  -- these are the entries of the served bundles from that index on, one list for each bundle, and
  -- no bundle is served after the last
  abbrev pub AreBundles : ℕ → List (List (List ℕ)) → Type 0
  AreBundles index [] = (width : ℕ) (bytes : List ℕ) → ¬ IsServedBundle digest v index width bytes
  AreBundles index (entries ∷ more) = IsWidestBundle index entries × AreBundles (index + 1) more

-- the entries of the served bundles, in order, are exactly the served entries
abbrev pub ServedBundlesAreAllEntries : Type 0
ServedBundlesAreAllEntries =
    (digest : List ℕ → List ℕ) →
    IsDigest digest →
    (v : View) →
    IsLawful digest v →
    (entries : List (List ℕ)) →
    IsServedList digest v entries →
    (bundles : List (List (List ℕ))) →
    AreBundles digest v 0 bundles →
    joined_up bundles ≡ entries

-- the served entries are in served bundles, from index 0 on
abbrev pub AllEntriesAreInBundles : Type 0
AllEntriesAreInBundles =
    (digest : List ℕ → List ℕ) →
    IsDigest digest →
    (v : View) →
    IsLawful digest v →
    (entries : List (List ℕ)) →
    IsServedList digest v entries →
    (bundles : List (List (List ℕ))) × AreBundles digest v 0 bundles
