-- The files of a log of entries, and the results of putting them.
use Rattle.std.proofs.Common.{◌≡◌, ℕ, List, [], ◌∷◌, length, Contains, ap, subst, sym, refl, arith, inl, inr, Option, Some, None, Ok, Err}
use Rattle.std.proofs.lemmas.List.{take_all}
use Rattle.signed_note.specs.Keys.{Key}
use Rattle.tlog_hash.specs.Tree.{mth}
use Rattle.mirror_model.specs.Heads.{IsOpenHead}
use Rattle.mirror_model.specs.View.{View, nothing}
use Rattle.mirror_model.specs.Refusals.{ReadsHead}
use Rattle.mirror_model.specs.declared.fault.TakeFault.{TakeFault}
use Rattle.mirror_pull.specs.Answering.{of_take}
use Rattle.mirror_model.proofs.HeadNotes.{head_of, head_once}
use Rattle.mirror_pull.proofs.HeadsRead.{read_fault}
use Rattle.mirror_pull.specs.ListSource.{IsHonestAnywhere}
use Rattle.mirror_sources.specs.Recorded.{KeepsRecord}
use Rattle.mirror_pull.specs.declared.fault.PullFault.{PullFault}
use Rattle.mirror_pull.specs.declared.fault.PullFault.TheVariants as pull
use Rattle.mirror_folders.specs.Shelf.{Put}
use Rattle.mirror_folders.specs.Files.{files_at, paths_of}
use Rattle.mirror_files.specs.declared.export_fault.ExportFault.{ExportFault}
use Rattle.mirror_files.specs.declared.export_fault.ExportFault.TheVariants as export
use Rattle.state_commands.specs.Building.{IsLogNote, OpensUnder, AreFilesUnder, BuildsLogUnder, PutsFiles}
use Rattle.state_commands.specs.BuildFaults.{of_export, of_pull}

at_first : (key : Key) → Contains (key ∷ []) key
at_first key = (0, omega arith, refl)

-- an unchanged record keeps its calls
kept : (recorded : Option (List Put)) → KeepsRecord recorded recorded
kept None = tt
kept (Some puts) = refl

-- a note that is an open tree head is refused only if memory is refused
pub note_refused : (note held origin : List ℕ) (keys : List Key) (f : TakeFault) → note ≡ held →
    ReadsHead note origin keys (Err f) → (size : ℕ) (root : List ℕ) → IsOpenHead held origin keys size root →
    of_take f ≡ pull.OutOfMemory
note_refused note held origin keys f is reads size root opens =
    ap of_take
    (read_fault note origin keys size root (subst (λ n. IsOpenHead n origin keys size root) (sym is) opens) f reads)

-- a note that was read is an open tree head
pub note_opens : (note held origin : List ℕ) (keys : List Key) (size : ℕ) (root : List ℕ) → note ≡ held →
    IsOpenHead note origin keys size root → OpensUnder held origin keys
note_opens note held origin keys size root is opens = subst (λ n. OpensUnder n origin keys) is (size, root, opens)

module _ (digest : List ℕ → List ℕ) (origin : List ℕ) (key : Key) (entries listed : List (List ℕ)) (note : List ℕ)
    (listed_are : listed ≡ entries) (honest : IsHonestAnywhere digest listed origin key note) where
  -- the note of the source is that of the log
  log_note : IsLogNote digest origin key entries note
  log_note =
      subst (λ xs. IsLogNote digest origin key xs note) listed_are
      (λ others has. subst (λ xs. IsOpenHead note origin others (length listed) (mth digest xs))
      (take_all (length listed) listed (omega arith)) (honest others has).is_head)

  -- it opens for an empty mirror
  pub log_opens : (keys : List Key) (v : View) → v ≡ nothing origin → Contains keys key →
      IsOpenHead note v.origin keys (length entries) (mth digest entries)
  log_opens keys v empty has =
      subst (λ o. IsOpenHead note o keys (length entries) (mth digest entries))
      (sym (ap (λ (w : View). w.origin) empty)) (log_note keys has)

  -- if the note was read for an empty mirror, the files of the source are those of the log under these keys
  module _ (keys : List Key) (v : View) (empty : v ≡ nothing origin) (opened : OpensUnder note v.origin keys) where
    log_head : IsOpenHead note origin keys (length entries) (mth digest entries)
    log_head =
        let h = subst (λ o. OpensUnder note o keys) (ap (λ (w : View). w.origin) empty) opened in
        let s = head_once note origin origin h.0 (length entries) h.1 (mth digest entries)
        (head_of note origin keys h.0 h.1 h.2)
        (head_of note origin (key ∷ []) (length entries) (mth digest entries) (log_note (key ∷ []) (at_first key))) in
        subst (λ n. IsOpenHead note origin keys n (mth digest entries)) s.size_is
        (subst (λ r. IsOpenHead note origin keys h.0 r) s.root_is h.2)

    log_files : AreFilesUnder digest origin key entries keys
        (files_at digest note listed (paths_of (length listed)))
    log_files = record {
      are = record {
        note = note;
        is_note = log_note;
        files_are = ap (λ xs. files_at digest note xs (paths_of (length xs))) listed_are;
      };
      opens = log_head;
    }

    module _ (old new : Option (List Put)) where
      -- all files were put
      pub log_put : (T U : Type 0) (x : T) (y : U) → PutsFiles digest note listed {T = T} old new (Ok x) →
          BuildsLogUnder digest origin key entries {T = U} keys old new (Ok y)
      log_put T U x y p = (files_at digest note listed (paths_of (length listed)), log_files, p.0, p.1)

      -- putting ended early
      pub log_ended : (T U : Type 0) (f : ExportFault) → PutsFiles digest note listed {T = T} old new (Err f) →
          BuildsLogUnder digest origin key entries {T = U} keys old new (Err (of_export f))
      log_ended T U export.NothingComplete h = absurd h
      log_ended T U export.ShelfInUse h = h
      log_ended T U export.ShelfFault h = (files_at digest note listed (paths_of (length listed)), log_files, h)
      log_ended T U export.OutOfMemory h =
          inr (files_at digest note listed (paths_of (length listed)), log_files, h)

-- the note was refused, and nothing was put
pub log_refused : (digest : List ℕ → List ℕ) (origin : List ℕ) (key : Key) (entries : List (List ℕ)) (keys : List Key)
    (old : Option (List Put)) (U : Type 0) (f : PullFault) → (Contains keys key → f ≡ pull.OutOfMemory) →
    BuildsLogUnder digest origin key entries {T = U} keys old old (Err (of_pull f))
log_refused digest origin key entries keys old U pull.NoCheckpoint h = (λ has. cc (h has), kept old)
log_refused digest origin key entries keys old U pull.NoEdge h = (λ has. cc (h has), kept old)
log_refused digest origin key entries keys old U (pull.Head f) h = (λ has. cc (h has), kept old)
log_refused digest origin key entries keys old U pull.Source h = (λ has. cc (h has), kept old)
log_refused digest origin key entries keys old U pull.Collision h = (λ has. cc (h has), kept old)
log_refused digest origin key entries keys old U pull.OutOfMemory h = inl (kept old)
