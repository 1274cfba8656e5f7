-- The nodes of a tree whose hashes are in a proof (RFC 6962, section 2.1). Only the contracts of private functions cite these.
use Rattle.std.specs.Prelude.{◌≡◌, ◌⊎◌, ℕ, zero, suc, ◌+◌, ◌%◌, ◌<◌, ◌≤◌, List, [], ◌∷◌, ◌++◌, length, get_or, take, drop, Bool, Option, Some, None}
use Rattle.tlog_shape.specs.Split.{IsPowerOfTwo}
use Rattle.tlog_hash.specs.Tree.{fold_of, mth}
use Rattle.tlog_proof.specs.Consistency.{subproof_of}
use Rattle.log_reader.specs.EdgeRows.{Edge, row_at}

-- the "len" entries from start on are those of a node of a tree of n entries. They begin at a multiple of a power of two that is at
-- least len. They are a power of two of entries, or the last ones of the tree
pub record IsNodeRange (n start len : ℕ) : Type 0 where
  pub block : ℕ
  pub power : IsPowerOfTwo block
  pub aligned : start % block ≡ 0
  pub upto : len ≤ block
  pub some : 0 < len
  pub within : start + len ≤ n
  pub kind : IsPowerOfTwo len ⊎ (start + len ≡ n)

module _ (digest : List ℕ → List ℕ) where
  -- the hash that a row leads to, with "below" as one more hash at its end. "below" is the hash of the entries after those of the
  -- row, if there are any
  abbrev pub hash_on_top : Option (List ℕ) → List (List ℕ) → Option (List ℕ)
  hash_on_top below [] = below
  hash_on_top None (hash ∷ row) = Some (fold_of digest (hash ∷ row))
  hash_on_top (Some value) (hash ∷ row) = Some (fold_of digest ((hash ∷ row) ++ value ∷ []))

  -- the hash that the rows of an edge below a level lead to. None if there are none
  unfoldable pub hash_below : Edge → ℕ → Option (List ℕ)
  hash_below edge zero = None
  hash_below edge (suc level) = hash_on_top (hash_below edge level) (row_at edge level)

  -- for each level from 0 on, the hash that the rows below it lead to
  pub record AreBelow (edge : Edge) (count : ℕ) (hashes : List (Option (List ℕ))) : Type 0 where
    pub long : length hashes ≡ count
    pub each : (level : ℕ) → level < count → get_or hashes level None ≡ hash_below edge level

  -- the tree hash of the entries from "start" on. None if there are none
  abbrev pub IsHashFrom : List (List ℕ) → ℕ → Option (List ℕ) → Type 0
  IsHashFrom entries start None = start ≡ length entries
  IsHashFrom entries start (Some hash) = (start < length entries) × (hash ≡ mth digest (drop start entries))

  -- the path from the first entries of a node to all its entries was added, and the hash is that of these first entries
  pub record IsSubproofAdded (node : List (List ℕ)) (first : ℕ) (held : Bool) (old new : List (List ℕ)) (hash : List ℕ)
      : Type 0 where
    pub path_is : new ≡ old ++ subproof_of digest first node held
    pub hash_is : hash ≡ mth digest (take first node)
