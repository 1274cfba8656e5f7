-- A copy with all its files is whole, also if partial files were replaced by full ones.
use Rattle.std.proofs.Common.{◌≡◌, ◌≢◌, ◌⊎◌, ℕ, ◌+◌, ◌*◌, ◌/◌, ◌^◌, ◌<◌, ◌≤◌, List, length, Option, Some, None, sym, subst, arith}
use Rattle.std.proofs.Common.{inl, inr}
use Rattle.std.proofs.Math.Nat.{le-div_iff_mul-le}
use Rattle.tlog_shape.specs.Edge.{edge_index_of, IsTile, width_of}
use Rattle.tlog_shape.proofs.Levels.{level_positive}
use Rattle.tlog_hash.specs.Tree.{mth}
use Rattle.tlog_tiles.specs.declared.paths.Path.{Path}
use Rattle.tlog_tiles.specs.declared.paths.Path.TheVariants.{Checkpoint, Tile, Entries}
use Rattle.mirror_model.specs.Heads.{IsHead}
use Rattle.mirror_model.specs.TrueLaws.{AreShort}
use Rattle.mirror_sources.specs.Files.{full_of}
use Rattle.mirror_sources.specs.Honest.{true_bytes}
use Rattle.mirror_folders.specs.Shelf.{Put, Stands, RecordsRead}
use Rattle.mirror_folders.specs.FileLaws.{IsWidestIn}
use Rattle.mirror_folders.specs.Holding.{HoldsLog}
use Rattle.mirror_folders.proofs.AllFiles.{files_are_all, full_widest, partial_widest}
use Rattle.mirror_folders.proofs.FoundOnce.{read_once}
use Rattle.log_reader.specs.Holding.{GoesOn, IsFullAnswer, IsHeldAnswer, IsTreeFile}
use Rattle.copy_reader.specs.WholeCopies.{CopiesAreWhole, EachFileStands, HasFilesOf, HasGivenWay, IsWholeCopy}

-- ---- files of a tree are those of a log

full_index : (n level index : ℕ) → (index + 1) * 256 ^ (level + 1) ≤ n → index < edge_index_of n level
full_index n level index fits =
    let le : index + 1 ≤ n / 256 ^ (level + 1) = (le-div_iff_mul-le (level_positive (level + 1))).1 fits in
    omega (arith, le)

not_zero : (w v : ℕ) → 0 < w → w ≡ v → v ≢ 0
not_zero w v some is none = omega (arith, some, is, none)

pub tile_widest : (n level index width : ℕ) → level ≤ 7 → IsTile n level index width → IsWidestIn n level index width
tile_widest n level index width low (inl full) =
    subst (λ w. IsWidestIn n level index w) (sym full.width_is)
    (full_widest n level index low (full_index n level index full.fits))
tile_widest n level index width low (inr part) =
    subst (λ w. IsWidestIn n level index w) (sym part.width_is)
    (subst (λ i. IsWidestIn n level i (width_of n level)) (sym part.index_is)
    (partial_widest n level low (not_zero width (width_of n level) part.some part.width_is)))

module _ (digest : List ℕ → List ℕ) (note : List ℕ) (entries : List (List ℕ)) (puts : List Put)
    (holds : HoldsLog digest note entries puts) where
  abbrev n : ℕ
  n = length entries

  pub log_stands : (path : Path) → IsTreeFile n path → Stands puts path (true_bytes digest entries path)
  log_stands Checkpoint file = absurd file
  log_stands (Tile level index width) file =
      holds (Tile level index width)
      ((files_are_all n (Tile level index width)).1 (tile_widest n level index width file.0 file.1))
  log_stands (Entries index width) file =
      holds (Entries index width)
      ((files_are_all n (Entries index width)).1 (tile_widest n 0 index width (omega arith) file))

  note_stands : Stands puts Checkpoint note
  note_stands = holds Checkpoint ((files_are_all n Checkpoint).1 tt)

-- ---- reads of files on the shelf

module _ (digest : List ℕ → List ℕ) (entries : List (List ℕ)) (puts : List Put) where
  full_answer : (path : Path) (answer : Option (List ℕ)) → HasGivenWay digest entries puts path →
      RecordsRead (Some puts) (full_of path) answer → IsFullAnswer digest entries path answer
  full_answer path None g recorded =
      let e : None ≡ Some g.full = read_once puts (full_of path) None (Some g.full) recorded g.stands in absurd cc
  full_answer path (Some bytes) g recorded =
      let e : Some bytes ≡ Some g.full = read_once puts (full_of path) (Some bytes) (Some g.full) recorded g.stands in
      let same : g.full ≡ bytes = cc in
      subst (λ b. GoesOn path (true_bytes digest entries path) b) same g.begins

  file_answer : (path : Path) (answer : Option (List ℕ)) →
      Stands puts path (true_bytes digest entries path) ⊎ HasGivenWay digest entries puts path →
      RecordsRead (Some puts) path answer → IsHeldAnswer digest entries (RecordsRead (Some puts)) path answer
  file_answer path None (inl s) recorded =
      let e : None ≡ Some (true_bytes digest entries path) =
      read_once puts path None (Some (true_bytes digest entries path)) recorded s in absurd cc
  file_answer path (Some bytes) (inl s) recorded =
      let e : Some bytes ≡ Some (true_bytes digest entries path) =
      read_once puts path (Some bytes) (Some (true_bytes digest entries path)) recorded s in cc
  file_answer path None (inr g) recorded =
      record { partial = g.partial; full = λ answer may. full_answer path answer g may }
  file_answer path (Some bytes) (inr g) recorded =
      let e : Some bytes ≡ None = read_once puts path (Some bytes) None recorded g.gone in absurd cc

  files_of : AreShort entries → EachFileStands digest entries puts → HasFilesOf digest entries (Some puts)
  files_of short each = record {
    short = short;
    files = λ path file answer recorded. file_answer path answer (each path file) recorded;
  }

  whole_of : (origin note : List ℕ) → AreShort entries → IsHead note origin (length entries) (mth digest entries) →
      Stands puts Checkpoint note → EachFileStands digest entries puts → IsWholeCopy digest origin note entries (Some puts)
  whole_of origin note short head stands each = record {
    is_head = head;
    checkpoint = λ answer recorded. read_once puts Checkpoint answer (Some note) recorded stands;
    files = files_of short each;
  }

pub copies_are_whole : CopiesAreWhole
copies_are_whole digest origin note entries puts short head = record {
  each = whole_of digest entries puts origin note short head;
  all = λ holds. whole_of digest entries puts origin note short head (note_stands digest note entries puts holds)
      (λ path file. inl (log_stands digest note entries puts holds path file));
}
