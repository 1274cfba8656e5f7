-- The files that an export puts, by the answers of its parts.
use Rattle.std.proofs.Common.{◌≡◌, ℕ, ◌-◌, ◌^◌, ◌<◌, List, [], ◌∷◌, ◌++◌, length, Option, Some, None, Result, Ok, Err}
use Rattle.std.proofs.Common.{true, false, refl, sym, ap, subst, inl, inr, arith, length-append}
use Rattle.std.proofs.lemmas.Bool.{false≢true, cases_lt}
use Rattle.std.proofs.lemmas.List.{length-map}
use Rattle.tlog_tiles.specs.declared.paths.Path.{Path}
use Rattle.tlog_tiles.specs.declared.paths.Path.TheVariants.{Checkpoint}
use Rattle.mirror_sources.specs.Recorded.{AddsToRecord, KeepsRecord, Rose, one_more}
use Rattle.mirror_model.specs.View.{View}
use Rattle.mirror_model.specs.Reports.{SaysServed}
use Rattle.mirror_trees.specs.Tops.{Top, IsServedTop}
use Rattle.mirror_folders.specs.Shelf.{CountsFailures, Put, RecordsHas, RecordsNone, RecordsSome}
use Rattle.mirror_files.specs.Faults.{of_shelf}
use Rattle.mirror_folders.specs.Files.{file_at, files_at, kind_paths, paths_of, tile_paths}
use Rattle.mirror_files.specs.Exports.{AddsPrefix, CountsExport, Exports, IsServedFiles, PutsPrefix}
use Rattle.mirror_folders.specs.declared.shelf.ShelfError.{ShelfError}
use Rattle.mirror_folders.specs.declared.shelf.ShelfError.TheVariants.{Failed, OutOfMemory}
use Rattle.mirror_files.specs.declared.export_fault.ExportFault.{ExportFault}
use Rattle.mirror_files.specs.declared.export_fault.ExportFault.TheVariants.{NothingComplete}
use Rattle.mirror_folders.specs.declared.kind.FileKind.TheVariants.{Bundles}
use Rattle.mirror_folders.specs.Since.{files_since}
use Rattle.mirror_folders.proofs.NewFiles.{all_since_none}
use Rattle.mirror_files.proofs.Prefixes.{adds_kept, adds_then, front_then}

-- ---- the answers of a shelf

pub records_none : (old : Option (List Put)) (path : Path) → RecordsHas old path false → RecordsNone old path
records_none None path h = tt
records_none (Some puts) path h = λ has. false≢true (h.1 has)

pub records_some : (old : Option (List Put)) (path : Path) → RecordsHas old path true → RecordsSome old path
records_some None path h = tt
records_some (Some puts) path h = h.0 refl

pub same_recorded : (old : Option (List Put)) → KeepsRecord old old
same_recorded None = tt
same_recorded (Some puts) = refl

-- ---- the count of failures

pub one_more_rose : (old : ℕ) → Rose old (one_more old)
one_more_rose old = elim (cases_lt old (2 ^ 64 - 1)) [ inl room ↦ inl (omega arith) | inr full ↦ inr (omega arith) ]

pub count_of : (S T : Type 0) (old new : ℕ) (e : ShelfError) → CountsFailures {T = S} old new (Err e) →
    CountsExport {T = T} old new (Err (of_shelf e))
count_of S T old new Failed p = subst (λ n. Rose old n) (sym p) (one_more_rose old)
count_of S T old new OutOfMemory p = p

-- ---- the files that were put

abbrev pub answer_of : (T : Type 0) → ExportFault → Result T ExportFault
answer_of T fault = Err fault

module _ (digest : List ℕ → List ℕ) (v : View) (top : Top) (is : IsServedTop digest v top) where
  abbrev files : List Put
  files = files_at digest top.note is.served.entries (paths_of top.size)

  are_served : IsServedFiles digest v files
  are_served = record {
    note = top.note;
    size = top.size;
    root = top.root;
    entries = is.served.entries;
    served = is.served.served;
    files_are = refl;
  }

  -- there is a checkpoint among the files
  some : 0 < length files
  some =
      let front = tile_paths top.size ++ kind_paths top.size Bundles in
      omega (
        arith,
        length-map (paths_of top.size) (file_at digest top.note is.served.entries),
        length-append front (Checkpoint ∷ []),
      )

  -- since no entries all files are new
  abbrev new_files : List Put
  new_files = files_since digest top.note is.served.entries 0 top.size

  all_new : new_files ≡ files
  all_new = ap (files_at digest top.note is.served.entries) (all_since_none top.size)

  pub all_put : {T : Type 0} (old middle new : Option (List Put)) (x : T) → KeepsRecord old middle →
      RecordsNone old Checkpoint → AddsToRecord middle new (files_since digest top.note is.served.entries 0 top.size) →
      Exports digest v old new (Ok x)
  all_put old middle new x kept free p = record {
    files = files;
    are_served = are_served;
    free = free;
    recorded = adds_then old middle new [] files (adds_kept old middle kept)
        (subst (λ (l : List Put). AddsToRecord middle new l) all_new p);
  }

  some_put : (old middle new : Option (List Put)) → KeepsRecord old middle → RecordsNone old Checkpoint →
      AddsPrefix middle new files → PutsPrefix digest v old new
  some_put old middle new kept free p =
      record {
        files = files;
        are_served = are_served;
        front = front_then old middle new [] files (adds_kept old middle kept) p;
        free = λ _. free;
      }

  none_put : (old new : Option (List Put)) → KeepsRecord old new → PutsPrefix digest v old new
  none_put old new kept = record {
    files = files;
    are_served = are_served;
    front = record { count = 0; short = some; recorded = adds_kept old new kept };
    free = λ lt. absurd (omega arith);
  }

  pub cut_put : (T : Type 0) (old middle new : Option (List Put)) (e : ShelfError) → KeepsRecord old middle →
      RecordsNone old Checkpoint → AddsPrefix middle new (files_since digest top.note is.served.entries 0 top.size) →
      Exports digest v old new (answer_of T (of_shelf e))
  cut_put T old middle new Failed kept free p =
      some_put old middle new kept free (subst (λ (l : List Put). AddsPrefix middle new l) all_new p)
  cut_put T old middle new OutOfMemory kept free p =
      some_put old middle new kept free (subst (λ (l : List Put). AddsPrefix middle new l) all_new p)

  pub not_put : (T : Type 0) (old new : Option (List Put)) (e : ShelfError) → KeepsRecord old new →
      Exports digest v old new (answer_of T (of_shelf e))
  not_put T old new Failed kept = none_put old new kept
  not_put T old new OutOfMemory kept = none_put old new kept

  pub not_nothing : SaysServed digest v None → ⊥
  not_nothing nothing = nothing top.note top.size top.root is.served.entries is.served.served

pub other_fault : (T : Type 0) (e : ShelfError) → answer_of T (of_shelf e) ≡ answer_of T NothingComplete → ⊥
other_fault T Failed p = cc
other_fault T OutOfMemory p = cc
