-- A folder at each moment of an update.
use Rattle.std.proofs.Common.{◌≡◌, ◌≢◌, ◌⊎◌, ℕ, ◌≤◌, List, [], ◌∷◌, ◌++◌, length, map, take, Bool, true, false}
use Rattle.std.proofs.Common.{Option, Some, None, refl, sym, ap, subst, ◌∙◌, append_assoc, length-take, inl, inr, arith}
use Rattle.std.specs.List.{All, Contains, filter}
use Rattle.std.proofs.lemmas.Bool.{cases_lt}
use Rattle.std.proofs.lemmas.List.{append-nil, append_cancel_left, map-append, take_all}
use Rattle.std.proofs.lemmas.List.Elements.{All-contains, All-contains_itself, All-filter, All-map, All-take, All-weaker}
use Rattle.std.proofs.lemmas.List.Elements.{Contains-append_left, filter-append}
use Rattle.tlog_tiles.specs.declared.paths.Path.{Path}
use Rattle.tlog_tiles.specs.declared.paths.Path.TheVariants.{Checkpoint, Tile, Entries}
use Rattle.mirror_model.proofs.TrueItems.{prefixes_serve_same}
use Rattle.mirror_folders.specs.Shelf.{Put, HasPut, Stands, RecordsRead}
use Rattle.mirror_folders.specs.Files.{file_at, kind_paths, paths_of, served_bytes, tile_paths}
use Rattle.mirror_folders.specs.FileLaws.{IsFileOf}
use Rattle.mirror_folders.specs.Holding.{IsMoment}
use Rattle.mirror_folders.specs.Since.{files_since, is_new, since_paths}
use Rattle.mirror_folders.specs.Holding.{HoldsFiles, HoldsLog}
use Rattle.mirror_files.specs.UpdateLaws.{HoldsFound, IsWholeAt, UpdatesStayWhole}
use Rattle.mirror_folders.specs.declared.kind.FileKind.TheVariants.{Bundles}
use Rattle.mirror_folders.proofs.AllFiles.{files_are_all}
use Rattle.mirror_folders.proofs.Filters.{filter_has}
use Rattle.mirror_folders.proofs.FoundOnce.{read_more}
use Rattle.mirror_files.proofs.Moments.{front_files, long_is_all, short_has_none, stands_at}
use Rattle.mirror_folders.proofs.NewFiles.{files_since_are_new, old_is}
use Rattle.mirror_folders.proofs.Standing.{stands_more}

-- a checkpoint and the files of its entries are a log
pub log_of : (digest : List ℕ → List ℕ) (entries : List (List ℕ)) (checkpoint : List ℕ) (puts : List Put) →
    HoldsFiles digest entries puts → Stands puts Checkpoint checkpoint → HoldsLog digest checkpoint entries puts
log_of digest entries checkpoint puts files stands Checkpoint listed = stands
log_of digest entries checkpoint puts files stands (Tile level index width) listed =
    files (Tile level index width) (λ e. cc e) listed
log_of digest entries checkpoint puts files stands (Entries index width) listed =
    files (Entries index width) (λ e. cc e) listed

-- the checkpoint that was found is still there
found_stands : (digest : List ℕ → List ℕ) (entries : List (List ℕ)) (found : Option (List ℕ)) (puts : List Put) →
    HoldsFiles digest entries puts → RecordsRead (Some puts) Checkpoint found → HoldsFound digest found entries puts
found_stands digest entries None puts files read = read
found_stands digest entries (Some checkpoint) puts files read = log_of digest entries checkpoint puts files read

module _ (digest : List ℕ → List ℕ) (note : List ℕ) (entries : List (List ℕ)) (m : ℕ) (le : m ≤ length entries) where
  abbrev n : ℕ
  n = length entries

  abbrev file : Path → Put
  file = file_at digest note entries

  abbrev since : List Path
  since = since_paths m n

  abbrev front : List Path
  front = filter (is_new m) (tile_paths n ++ kind_paths n Bundles)

  abbrev checkpoint : Put
  checkpoint = (Checkpoint, note)

  -- true bytes at a path that is put
  abbrev IsNewFile : Put → Type 0
  IsNewFile put = (put.1 ≡ served_bytes digest note entries put.0) × Contains since put.0

  files_are : map file since ≡ map file front ++ checkpoint ∷ []
  files_are = ap (map file) (filter-append (is_new m) (tile_paths n ++ kind_paths n Bundles) (Checkpoint ∷ []))
      ∙ map-append file front (Checkpoint ∷ [])

  no : All (λ (put : Put). put.0 ≢ Checkpoint) (map file front)
  no = All-map (λ (put : Put). put.0 ≢ Checkpoint) file front
      (All-filter (is_new m) (λ (path : Path). path ≢ Checkpoint) (tile_paths n ++ kind_paths n Bundles)
      (front_files n))

  all_new : All IsNewFile (map file since)
  all_new = All-map IsNewFile file since
      (All-weaker (λ (path : Path). Contains since path) (λ (path : Path). IsNewFile (file path))
      (λ path h. (refl, h)) since (All-contains_itself since))

  -- the first entries have the same bytes at their paths
  same_bytes : (path : Path) → path ≢ Checkpoint → IsFileOf m path →
      served_bytes digest [] (take m entries) path ≡ served_bytes digest note entries path
  same_bytes Checkpoint other h = absurd (other refl)
  same_bytes (Tile level index width) other h =
      (prefixes_serve_same digest entries m le).tile level index width h.within
  same_bytes (Entries index width) other h = (prefixes_serve_same digest entries m le).bundle index width h.within

  long : length (take m entries) ≡ m
  long = omega (arith, length-take m entries, le)

  module _ (count : ℕ) (old new now : List Put) (holds : HoldsFiles digest (take m entries) old)
      (e : new ≡ old ++ take count (map file since)) (at : IsMoment old new now) where
    cut : at.so_far ++ at.later ≡ take count (map file since)
    cut = append_cancel_left old (at.so_far ++ at.later) (take count (map file since))
        (sym (append_assoc old at.so_far at.later)
        ∙ (ap (λ (l : List Put). l ++ at.later) (sym at.now_is) ∙ (sym at.new_is ∙ e)))

    put_new : (put : Put) → Contains at.so_far put → IsNewFile put
    put_new put h = All-contains IsNewFile (take count (map file since)) put
        (All-take IsNewFile count (map file since) all_new)
        (subst (λ (l : List Put). Contains l put) cut (Contains-append_left at.so_far at.later put h))

    kept : (path : Path) (bytes : List ℕ) → path ≢ Checkpoint → Stands old path bytes →
        (bytes ≡ served_bytes digest note entries path) ⊎ (Contains since path → ⊥) → Stands now path bytes
    kept path bytes other stands why =
        subst (λ (l : List Put). Stands l path bytes) (sym at.now_is)
        (stands_more old at.so_far path bytes stands (λ more has. elim why [
          | inl true_bytes ↦ (put_new (path, more) has).0 ∙ sym true_bytes
          | inr not_put ↦ absurd (not_put (put_new (path, more) has).1)
        ]))

    not_since : (path : Path) → path ≢ Checkpoint → Contains (paths_of m) path → Contains since path → ⊥
    not_since path other listed h = other ((((files_since_are_new m n).new path).0 h).1 listed)

    first : HoldsFiles digest (take m entries) now
    first path other listed =
        kept path (served_bytes digest [] (take m entries) path) other (holds path other listed)
        (inr (not_since path other (subst (λ k. Contains (paths_of k) path) long listed)))

    -- all files were put
    whole : at.so_far ≡ map file since → HoldsLog digest note entries now
    whole all path listed = by (is_new m path) refl
      where
        by : (t : Bool) → is_new m path ≡ t → Stands now path (served_bytes digest note entries path)
        by true new_path = subst (λ (l : List Put). Stands l path (served_bytes digest note entries path))
            (ap (λ (l : List Put). old ++ l) (sym all) ∙ sym at.now_is)
            (stands_at digest note entries old since path (filter_has (is_new m) (paths_of n) path listed new_path))
        by false old_path =
            let is = old_is m n path old_path ((files_are_all n path).0 listed) in
            subst (λ (bytes : List ℕ). Stands now path bytes) (same_bytes path is.1 is.0)
            (first path is.1 (subst (λ k. Contains (paths_of k) path) (sym long) ((files_are_all m path).1 is.0)))

    -- the checkpoint was not put
    before : (found : Option (List ℕ)) → RecordsRead (Some old) Checkpoint found → (HasPut at.so_far Checkpoint → ⊥) →
        HoldsFound digest found (take m entries) now
    before found read none =
        found_stands digest (take m entries) found now first
        (subst (λ (l : List Put). RecordsRead (Some l) Checkpoint found) (sym at.now_is)
        (read_more old Checkpoint at.so_far found none read))

    moment : (found : Option (List ℕ)) → RecordsRead (Some old) Checkpoint found →
        IsWholeAt digest note entries found m old now
    moment found read =
        let parts : at.so_far ++ at.later ≡ take count (map file front ++ checkpoint ∷ []) =
        cut ∙ ap (take count) files_are in
        record {
          first = first;
          whole = elim (cases_lt (length (map file front)) (length at.so_far)) [
            | inl past ↦ inl (whole
                (long_is_all (map file front) checkpoint no at.so_far at.later count parts past ∙ sym files_are))
            | inr upto ↦ inr (before found read
                (short_has_none (map file front) checkpoint no at.so_far at.later count parts upto))
          ];
          kept = kept;
        }

pub updates_stay_whole : UpdatesStayWhole
updates_stay_whole digest note entries found m count le old new now read holds e at =
    moment digest note entries m le count old new now holds e at found read

-- all files were put
pub all_stand : (digest : List ℕ → List ℕ) (note : List ℕ) (entries : List (List ℕ)) (m : ℕ) → m ≤ length entries →
    (old new : List Put) → HoldsFiles digest (take m entries) old →
    new ≡ old ++ files_since digest note entries m (length entries) → HoldsLog digest note entries new
all_stand digest note entries m le old new holds e =
    let files = files_since digest note entries m (length entries) in
    let same : take (length files) files ≡ files = take_all (length files) files (omega arith) in
    let at : IsMoment old new new = record { so_far = files; later = []; now_is = e; new_is = sym (append-nil new) } in
    whole digest note entries m le (length files) old new new holds
    (e ∙ ap (λ (l : List Put). old ++ l) (sym same)) at refl
