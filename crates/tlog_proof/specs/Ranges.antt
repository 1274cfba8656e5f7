-- Hashes of a range of entries, for each list that a value may represent, since only its hashes are
-- known. Only contracts of private functions cite `AddsHashes`.
use Rattle.std.specs.Prelude.{◌≡◌, ℕ, ◌+◌, ◌<◌, ◌≤◌, List, ◌++◌, length}
use Rattle.tlog_hash.specs.Tree.{mth}
use Rattle.tlog_hash.specs.Rows.{part}

module _ (lists : List (List ℕ) → Type 0) (start len : ℕ) where
  -- each list has the range, and this is the tree hash of the range
  abbrev pub HashesRange : (List ℕ → List ℕ) → List ℕ → Type 0
  HashesRange digest hash =
      (entries : List (List ℕ)) → lists entries →
      (start + len ≤ length entries) × (hash ≡ mth digest (part start len entries))

  -- each list ends before the range does
  abbrev pub LacksRange : Type 0
  LacksRange = (entries : List (List ℕ)) → lists entries → length entries < start + len

  -- for each list that has the range, the new hashes are the old ones followed by those made from
  -- the range
  abbrev pub AddsHashes :
      (List (List ℕ) → List (List ℕ)) → List (List ℕ) → List (List ℕ) → Type 0
  AddsHashes made old new =
      (entries : List (List ℕ)) → lists entries → start + len ≤ length entries →
      new ≡ old ++ made (part start len entries)
