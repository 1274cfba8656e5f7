-- Ranges of a list of entries, and the hashes of a level of tiles (C2SP tlog-tiles, "Merkle Tree").
use Rattle.std.specs.Prelude.{ℕ, zero, suc, ◌+◌, ◌*◌, ◌^◌, List, [], ◌∷◌, take, drop, map}
use Rattle.tlog_hash.specs.Tree.{mth}

-- the len items from start on: E[start .. start + len]
abbrev pub part : {A : Type 0} → ℕ → ℕ → List A → List A
part start len entries = take len (drop start entries)

-- consecutive ranges of b entries each: count ranges, from the range with the number first on
abbrev pub ranges : {A : Type 0} → ℕ → ℕ → ℕ → List A → List (List A)
ranges b first zero entries = []
ranges b first (suc count) entries = part (first * b) b entries ∷ ranges b (first + 1) count entries

module _ (digest : List ℕ → List ℕ) where
  -- width hashes of a level, from the hash with the number first on; each hash covers 256^level
  -- entries
  abbrev pub level_row : List (List ℕ) → ℕ → ℕ → ℕ → List (List ℕ)
  level_row entries level first width = map (mth digest) (ranges (256 ^ level) first width entries)
