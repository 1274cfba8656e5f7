-- A copy of a log: a folder that any web server can serve as the log.
use Rattle.std.specs.Prelude.{◌≡◌, ◌≢◌, ◌⊎◌, ◌↔◌, ◌<◌, ◌≤◌, ◌^◌, ℕ, List, [], ◌++◌, length, map, Contains}
use Rattle.std.specs.Prelude.{Option, Some}
use Rattle.std.specs.FinSet as set
use Rattle.tlog_hash.specs.Tree.{mth, strings}
use Rattle.tlog_tiles.specs.declared.paths.Path.{Path}
use Rattle.tlog_tiles.specs.declared.paths.Path.TheVariants.{Checkpoint}
use Rattle.node_store.specs.Strings.{NoClash}
use Rattle.mirror_model.specs.Edge.{edge_levels, edge_root}
use Rattle.mirror_model.specs.Heads.{IsHead}
use Rattle.mirror_model.specs.Strings.{IsDigest}
use Rattle.mirror_model.specs.TrueLaws.{AreShort}
use Rattle.mirror_folders.specs.Shelf.{Put, Stands}
use Rattle.mirror_folders.specs.Files.{paths_of}
use Rattle.mirror_folders.specs.Holding.{IsMoment}
use Rattle.mirror_folders.specs.Holding.{HoldsFiles, HoldsLog}
use Rattle.copy_follow.specs.Growing.{Obtains, IsKnown, Tip, empty_tip}
use Rattle.log_reader.specs.EdgeRows.{Edge, row_at}
use Rattle.copy_follow.specs.Edges.{IsCopyBrought}

module _ (digest : List ℕ → List ℕ) where
  -- the puts are a copy of the entries under the note. Each file of a log of these entries is on the shelf with its true bytes.
  -- The checkpoint is the note, whose size is the number of entries and whose root is their tree hash
  pub record IsCopy (origin note : List ℕ) (entries : List (List ℕ)) (puts : List Put) : Type 0 where
    pub short : AreShort entries
    pub is_head : IsHead note origin (length entries) (mth digest entries)
    pub holds : HoldsLog digest note entries puts

-- at each moment, if only new files were put, the copy is unchanged
abbrev pub NewFilesKeepCopies : Type 0
NewFilesKeepCopies =
    (digest : List ℕ → List ℕ) (origin note : List ℕ) (entries next : List (List ℕ)) (old new now : List Put) →
    IsCopy digest origin note entries old →
    Obtains digest (length entries) entries next (Some old) (Some new) →
    IsMoment old new now → IsCopy digest origin note entries now

-- a copy of the first entries was brought to an edge, under a note that is a checkpoint of all entries then known.
-- At each moment the old copy or the new copy is on the shelf
abbrev pub BringingStaysCopy : Type 0
BringingStaysCopy =
    (digest : List ℕ → List ℕ) (origin old_note note : List ℕ) (tip : Tip) (edge : Edge) (known : List (List ℕ))
    (old new now : List Put) →
    IsCopy digest origin old_note known old → length known ≡ tip.size → tip.size ≤ edge.size →
    (b : IsCopyBrought digest tip edge note known (Some old) (Some new)) →
    IsHead note origin (length b.next) (mth digest b.next) → IsMoment old new now →
    IsCopy digest origin old_note known now ⊎ IsCopy digest origin note b.next now

-- the same without a checkpoint before the call: a copy is on the shelf at the end
abbrev pub BringingMakesCopy : Type 0
BringingMakesCopy =
    (digest : List ℕ → List ℕ) (origin note : List ℕ) (tip : Tip) (edge : Edge) (known : List (List ℕ))
    (old new : List Put) →
    AreShort known → HoldsFiles digest known old → length known ≡ tip.size → tip.size ≤ edge.size →
    (b : IsCopyBrought digest tip edge note known (Some old) (Some new)) →
    IsHead note origin (length b.next) (mth digest b.next) → IsCopy digest origin note b.next new

-- the edge rows of a brought copy lead to the tree hash of its entries
abbrev pub BroughtRowsLeadToRoot : Type 0
BroughtRowsLeadToRoot =
    (digest : List ℕ → List ℕ) (tip : Tip) (edge : Edge) (note : List ℕ) (known : List (List ℕ))
    (old new : Option (List Put)) → edge.size < 2 ^ 63 →
    (b : IsCopyBrought digest tip edge note known old new) →
    edge_root digest (map (row_at edge) (edge_levels edge.size)) ≡ mth digest b.next

-- on an empty shelf, the call begins with the empty tip and without entries
abbrev pub BringingBeginsEmpty : Type 0
BringingBeginsEmpty =
    (digest : List ℕ → List ℕ) → IsKnown digest empty_tip 0 []

-- two copies of one size and root have the same files, except the checkpoint. Premise: no two different strings of their trees
-- share a digest
abbrev pub CopiesAreSame : Type 0
CopiesAreSame =
    (digest : List ℕ → List ℕ) → IsDigest digest → (origin first_note second_note : List ℕ)
    (first second : List (List ℕ)) (first_puts second_puts : List Put) →
    IsCopy digest origin first_note first first_puts → IsCopy digest origin second_note second second_puts →
    length first ≡ length second → mth digest first ≡ mth digest second →
    NoClash digest (set.from_list (strings digest first ++ strings digest second)) →
    (path : Path) → path ≢ Checkpoint → Contains (paths_of (length first)) path → (bytes : List ℕ) →
    Stands first_puts path bytes ↔ Stands second_puts path bytes
