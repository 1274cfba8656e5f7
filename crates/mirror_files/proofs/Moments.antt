-- A shelf at each moment of an export: the checkpoint comes last.
use Rattle.std.proofs.Common.{◌≡◌, ◌≢◌, ℕ, zero, suc, ◌+◌, ◌<◌, ◌≤◌, List, [], ◌∷◌, ◌++◌, length, map, take, drop}
use Rattle.std.proofs.Common.{get_or, Option, Some, None, Result, Ok, Err, refl, sym, ap, subst, ◌∙◌, append_assoc}
use Rattle.std.proofs.Common.{length-append, inl, inr, arith}
use Rattle.std.specs.List.{All, Contains}
use Rattle.std.proofs.Math.ListN.{get_or-append}
use Rattle.std.proofs.Math.Seq.{drop-cons}
use Rattle.std.proofs.lemmas.Bool.{cases_lt}
use Rattle.std.proofs.lemmas.List.{append-nil, append_cancel_left, get_or-map, get_or-take, length-map, length-take}
use Rattle.std.proofs.lemmas.List.{map-append, nil_from_length, take-append-drop, take_all}
use Rattle.std.proofs.lemmas.List.Elements.{All-append, All-cons, All-map, All-nil, All-contains}
use Rattle.tlog_tiles.specs.declared.paths.Path.{Path}
use Rattle.tlog_tiles.specs.declared.paths.Path.TheVariants.{Checkpoint}
use Rattle.mirror_sources.specs.Recorded.{AddsToRecord, KeepsRecord}
use Rattle.mirror_model.specs.View.{View}
use Rattle.mirror_folders.specs.Shelf.{Put, HasPut, Stands}
use Rattle.mirror_folders.specs.Files.{served_bytes, file_at, full_paths, kind_paths, partial_path, kind_path, paths_of}
use Rattle.mirror_folders.specs.Files.{tile_paths, tiles_below}
use Rattle.mirror_files.specs.Exports.{CheckpointIsLast, Exports, IsServedFiles, StandsWhole}
use Rattle.mirror_folders.specs.Holding.{IsMoment}
use Rattle.mirror_files.specs.declared.export_fault.ExportFault.{ExportFault}
use Rattle.mirror_files.specs.declared.export_fault.ExportFault.TheVariants.{NothingComplete, ShelfInUse, ShelfFault}
use Rattle.mirror_files.specs.declared.export_fault.ExportFault.TheVariants.{OutOfMemory}
use Rattle.mirror_folders.specs.declared.kind.FileKind.{FileKind}
use Rattle.mirror_folders.specs.declared.kind.FileKind.TheVariants.{Tiles, Bundles}
use Rattle.mirror_folders.proofs.FilePaths.{partial_cases}
use Rattle.mirror_folders.proofs.Standing.{has_after}

-- ---- no tile and no bundle is the checkpoint

abbrev IsFile : Path → Type 0
IsFile path = path ≢ Checkpoint

kind_file : (kind : FileKind) (index width : ℕ) → IsFile (kind_path kind index width)
kind_file (Tiles level) index width e = cc
kind_file Bundles index width e = cc

kind_files : (n : ℕ) (kind : FileKind) → All IsFile (kind_paths n kind)
kind_files n kind =
    All-append IsFile (full_paths n kind) (partial_path n kind)
    (All-map IsFile (λ index. kind_path kind index 256) _ (λ k d lt. kind_file kind _ 256))
    (elim (partial_cases n kind) [
      | inl e ↦ subst (All IsFile) (sym e) (All-nil IsFile)
      | inr e ↦ subst (All IsFile) (sym e) (All-cons IsFile _ [] (kind_file kind _ _) (All-nil IsFile))
    ])

tile_files : (n levels : ℕ) → All IsFile (tiles_below n levels)
tile_files n zero = All-nil IsFile
tile_files n (suc level) = All-append IsFile (tiles_below n level) (kind_paths n (Tiles level)) (tile_files n level)
    (kind_files n (Tiles level))

pub front_files : (n : ℕ) → All IsFile (tile_paths n ++ kind_paths n Bundles)
unfolding tile_paths
front_files n = All-append IsFile (tile_paths n) (kind_paths n Bundles) (tile_files n 8) (kind_files n Bundles)

-- ---- some files were put; only the last of all files is the checkpoint

module _ (front : List Put) (last : Put) (no : All (λ (put : Put). put.0 ≢ Checkpoint) front) where
  abbrev files : List Put
  files = front ++ last ∷ []

  pub short_has_none : (so_far later : List Put) (count : ℕ) → so_far ++ later ≡ take count files →
      length so_far ≤ length front → HasPut so_far Checkpoint → ⊥
  short_has_none so_far later count e le h =
      let j = h.0 in
      let within : j < length so_far = omega (arith, h.1, length-map so_far (λ (put : Put). put.0)) in
      let upto : length so_far ≤ count =
      omega (arith, ap length e, length-append so_far later, length-take count files) in
      let at : get_or so_far j last ≡ get_or front j last =
      sym (get_or-append so_far later last j within) ∙ (ap (λ (l : List Put). get_or l j last) e
      ∙ (get_or-take count files j last (omega arith) ∙ get_or-append front (last ∷ []) last j (omega arith)))
      in
      no j last (omega arith) (sym (ap (λ (put : Put). put.0) at)
      ∙ (sym (get_or-map (λ (put : Put). put.0) so_far j last Checkpoint within) ∙ h.2))

  pub long_is_all : (so_far later : List Put) (count : ℕ) → so_far ++ later ≡ take count files →
      length front < length so_far → so_far ≡ files
  long_is_all so_far later count e lt =
      let sizes = length-append so_far later in
      let cut = length-take count files in
      let whole : length files ≡ length front + 1 = length-append front (last ∷ []) in
      let none : length later ≡ 0 = omega (arith, ap length e, sizes, cut, whole) in
      let upto : length files ≤ count = omega (arith, ap length e, sizes, cut, whole) in
      sym (append-nil so_far)
      ∙ (ap (λ (l : List Put). so_far ++ l) (sym (nil_from_length later none)) ∙ (e ∙ take_all count files upto))

  pub has_last : (so_far later : List Put) (count : ℕ) → so_far ++ later ≡ take count files → HasPut so_far Checkpoint →
      so_far ≡ files
  has_last so_far later count e h = elim (cases_lt (length front) (length so_far)) [
    | inl long ↦ long_is_all so_far later count e long
    | inr short ↦ absurd (short_has_none so_far later count e short h)
  ]

-- ---- the files that were put are on the shelf

module _ (digest : List ℕ → List ℕ) (note : List ℕ) (entries : List (List ℕ)) where
  abbrev file : Path → Put
  file = file_at digest note entries

  file_once : (paths : List Path) (path : Path) (bytes : List ℕ) → Contains (map file paths) (path, bytes) →
      bytes ≡ served_bytes digest note entries path
  file_once paths path bytes h =
      All-contains (λ (put : Put). put.1 ≡ served_bytes digest note entries put.0) (map file paths) (path, bytes)
      (All-map (λ (put : Put). put.1 ≡ served_bytes digest note entries put.0) file paths (λ k d lt. refl)) h

  pub stands_at : (old : List Put) (paths : List Path) (path : Path) → Contains paths path →
      Stands (old ++ map file paths) path (served_bytes digest note entries path)
  stands_at old paths path h =
      let k = h.0 in
      let rest : drop k paths ≡ path ∷ drop (suc k) paths = drop-cons paths k path h.1
      ∙ ap (λ (x : Path). x ∷ drop (suc k) paths) h.2 in
      let split : paths ≡ take k paths ++ path ∷ drop (suc k) paths = sym (take-append-drop k paths)
      ∙ ap (λ (l : List Path). take k paths ++ l) rest in
      let put : map file paths ≡ map file (take k paths) ++ file path ∷ map file (drop (suc k) paths) =
      ap (map file) split ∙ map-append file (take k paths) (path ∷ drop (suc k) paths) in
      record {
        before = old ++ map file (take k paths);
        after = map file (drop (suc k) paths);
        puts_are = ap (λ (l : List Put). old ++ l) put
            ∙ sym (append_assoc old (map file (take k paths)) (file path ∷ map file (drop (suc k) paths)));
        kept = λ other has. file_once (drop (suc k) paths) path other has;
      }

-- ---- each moment

module _ (digest : List ℕ → List ℕ) (v : View) where
  moment_whole : (old new files : List Put) (count : ℕ) → IsServedFiles digest v files → new ≡ old ++ take count files →
      (HasPut old Checkpoint → ⊥) → (now : List Put) → IsMoment old new now → HasPut now Checkpoint →
      StandsWhole digest v now
  moment_whole old new files count is e none now at h =
      let file = file_at digest is.note is.entries in
      let front = tile_paths is.size ++ kind_paths is.size Bundles in
      let checkpoint : Put = (Checkpoint, is.note) in
      let files_are : files ≡ map file front ++ checkpoint ∷ [] =
      is.files_are ∙ map-append file front (Checkpoint ∷ []) in
      let no : All (λ (put : Put). put.0 ≢ Checkpoint) (map file front) =
      All-map (λ (put : Put). put.0 ≢ Checkpoint) file front (front_files is.size) in
      let same : old ++ (at.so_far ++ at.later) ≡ old ++ take count files = sym (append_assoc old at.so_far at.later)
      ∙ (ap (λ (l : List Put). l ++ at.later) (sym at.now_is) ∙ (sym at.new_is ∙ e)) in
      let cut : at.so_far ++ at.later ≡ take count (map file front ++ checkpoint ∷ []) =
      append_cancel_left old (at.so_far ++ at.later) (take count files) same ∙ ap (take count) files_are in
      let has = has_after old at.so_far Checkpoint none (subst (λ (l : List Put). HasPut l Checkpoint) at.now_is h) in
      let whole : at.so_far ≡ files = has_last (map file front) checkpoint no at.so_far at.later count cut has
      ∙ sym files_are in
      let now_is : old ++ map file (paths_of is.size) ≡ now =
      ap (λ (l : List Put). old ++ l) (sym is.files_are ∙ sym whole) ∙ sym at.now_is in
      record {
        note = is.note;
        size = is.size;
        root = is.root;
        entries = is.entries;
        served = is.served;
        stands = λ path listed. subst (λ (l : List Put). Stands l path (served_bytes digest is.note is.entries path))
            now_is (stands_at digest is.note is.entries old (paths_of is.size) path listed);
      }

  -- nothing was put
  pub kept_last : (old new : Option (List Put)) → KeepsRecord old new → CheckpointIsLast digest v old new
  kept_last None new k = tt
  kept_last (Some xs) None k = absurd k
  kept_last (Some xs) (Some ys) k = λ none now at h.
      let same : xs ++ (at.so_far ++ at.later) ≡ xs ++ [] = sym (append_assoc xs at.so_far at.later)
      ∙ (ap (λ (l : List Put). l ++ at.later) (sym at.now_is) ∙ (sym at.new_is ∙ (k ∙ sym (append-nil xs)))) in
      let empty : length at.so_far ≡ 0 = omega (
        arith,
        ap length (append_cancel_left xs (at.so_far ++ at.later) [] same),
        length-append at.so_far at.later,
      ) in
      let now_is : now ≡ xs = at.now_is
      ∙ (ap (λ (l : List Put). xs ++ l) (nil_from_length at.so_far empty) ∙ append-nil xs) in
      absurd (none (subst (λ (l : List Put). HasPut l Checkpoint) now_is h))

  put_last : (old new : Option (List Put)) (files : List Put) (count : ℕ) → IsServedFiles digest v files →
      AddsToRecord old new (take count files) → CheckpointIsLast digest v old new
  put_last None new puts count is p = tt
  put_last (Some xs) None puts count is p = absurd p
  put_last (Some xs) (Some ys) puts count is p = moment_whole xs ys puts count is p

  pub checkpoint_last : {T : Type 0} (old new : Option (List Put)) (r : Result T ExportFault) →
      Exports digest v old new r → CheckpointIsLast digest v old new
  checkpoint_last old new (Ok x) p =
      put_last old new p.files (length p.files) p.are_served
      (subst (λ (l : List Put). AddsToRecord old new l) (sym (take_all (length p.files) p.files (omega arith))) p.recorded)
  checkpoint_last old new (Err NothingComplete) p = kept_last old new p
  checkpoint_last old new (Err ShelfInUse) p = kept_last old new p.0
  checkpoint_last old new (Err ShelfFault) p = put_last old new p.files p.front.count p.are_served p.front.recorded
  checkpoint_last old new (Err OutOfMemory) p = put_last old new p.files p.front.count p.are_served p.front.recorded
