-- A copy has the files that an export of the same log puts (C2SP tlog-tiles).
use Rattle.std.specs.Prelude.{◌≡◌, ◌≢◌, ◌⊎◌, ℕ, List, ◌++◌, length, Contains}
use Rattle.std.specs.FinSet as set
use Rattle.tlog_hash.specs.Tree.{mth, strings}
use Rattle.tlog_tiles.specs.declared.paths.Path.{Path}
use Rattle.tlog_tiles.specs.declared.paths.Path.TheVariants.{Checkpoint}
use Rattle.node_store.specs.Strings.{NoClash}
use Rattle.mirror_model.specs.Strings.{IsDigest}
use Rattle.mirror_folders.specs.Shelf.{Put, Stands}
use Rattle.mirror_folders.specs.Files.{paths_of, served_bytes}
use Rattle.copy_follow.specs.Pruned.{HasGivenWay, IsPrunedCopy}

module _ (digest : List ℕ → List ℕ) where
  -- each tile and bundle that an export of these entries puts is on the shelf with its bytes. A partial file may have been replaced
  -- by its full one, which begins with them
  abbrev pub HoldsExported : List ℕ → List (List ℕ) → List Put → Type 0
  HoldsExported note entries puts =
      (path : Path) → path ≢ Checkpoint → Contains (paths_of (length entries)) path →
      Stands puts path (served_bytes digest note entries path) ⊎ HasGivenWay digest entries puts path

-- a copy has the files that an export of a state puts, if the state serves entries of the copy's size and root. The checkpoint's note
-- may be another. Premise: no two different strings of the two trees share a digest
abbrev pub CopiesAreExported : Type 0
CopiesAreExported =
    (digest : List ℕ → List ℕ) → IsDigest digest → (origin note : List ℕ) (entries : List (List ℕ)) (puts : List Put) →
    IsPrunedCopy digest origin note entries puts → (state_note : List ℕ) (served : List (List ℕ)) →
    length served ≡ length entries → mth digest served ≡ mth digest entries →
    NoClash digest (set.from_list (strings digest entries ++ strings digest served)) →
    HoldsExported digest state_note served puts

-- where two copies of one size and root both have a file, except the checkpoint, it has the same bytes. Premise as above
abbrev pub PrunedCopiesAreSame : Type 0
PrunedCopiesAreSame =
    (digest : List ℕ → List ℕ) → IsDigest digest → (origin first_note second_note : List ℕ)
    (first second : List (List ℕ)) (first_puts second_puts : List Put) →
    IsPrunedCopy digest origin first_note first first_puts → IsPrunedCopy digest origin second_note second second_puts →
    length first ≡ length second → mth digest first ≡ mth digest second →
    NoClash digest (set.from_list (strings digest first ++ strings digest second)) →
    (path : Path) → path ≢ Checkpoint → Contains (paths_of (length first)) path → (one other : List ℕ) →
    Stands first_puts path one → Stands second_puts path other → one ≡ other
