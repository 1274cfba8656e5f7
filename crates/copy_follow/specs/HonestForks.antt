-- One place that may give nothing but the files of a log suffices for a larger candidate that contradicts the copy.
use Rattle.std.specs.Prelude.{ℕ, ◌<◌, List, ◌++◌, length, take, Option}
use Rattle.std.specs.FinSet as set
use Rattle.tlog_hash.specs.Tree.{strings}
use Rattle.tlog_tiles.specs.declared.paths.Path.{Path}
use Rattle.tlog_tiles.specs.Tiles.{IsWithin}
use Rattle.node_store.specs.Strings.{NoClash}
use Rattle.mirror_model.specs.Forks.{IsPrefix, Point}
use Rattle.mirror_model.specs.TrueLaws.{AreShort}
use Rattle.mirror_sources.specs.Source.{File}
use Rattle.copy_places.specs.Answered.{IsSound, MustGive}
use Rattle.copy_places.specs.Forks.{HasPoint}
use Rattle.copy_places.specs.declared.places.Places.{Places}
use Rattle.copy_follow.specs.LargerForks.{IsContradicted}
use Rattle.copy_follow.specs.LogScripts.{HasLogScript, MayByScript}

-- one of the places may give nothing but the true file for each path of a log of the entries, and did not fail
pub record HasWholePlace (digest : List ℕ → List ℕ) (entries : List (List ℕ)) {S : Type 0}
    (may : S → Path → Option (List ℕ) → Type 0) (old new : Places S) : Type 0 where
  pub index : ℕ
  pub listed : index < length old.list.items
  pub must : (path : Path) → IsWithin (length entries) path → MustGive may old new digest entries index path

-- a larger candidate of a list of entries is contradicted, as the law of larger forks wants it, if one place is such a place, whatever the
-- others may answer. Premises: the smaller list is no prefix of the entries, and no two different strings of its tree, and of that of
-- as many of the entries, share a digest
abbrev pub WholePlacesContradict : {S : Type 0} → (S → Path → Option (List ℕ) → Type 0) → (S → ℕ) → (S → Option (List Path)) → Type 0
WholePlacesContradict {S} may failed asked =
    (digest : List ℕ → List ℕ) (old new : Places S) (small large : Point) (first entries : List (List ℕ)) →
    HasPoint digest small first → AreShort entries → HasPoint digest large entries → ¬ IsPrefix first entries →
    NoClash digest (set.from_list (strings digest first ++ strings digest (take small.size entries))) →
    HasWholePlace digest entries may old new → IsContradicted digest may failed asked old new small large first entries

-- a place with the script of the log that never failed is such a place
abbrev pub LogScriptPlacesAreWhole : Type 0
LogScriptPlacesAreWhole =
    (digest : List ℕ → List ℕ) (entries : List (List ℕ)) (old new : Places (List File)) →
    (log : HasLogScript digest entries old new) → IsSound MayByScript old new log.index → HasWholePlace digest entries MayByScript old new
