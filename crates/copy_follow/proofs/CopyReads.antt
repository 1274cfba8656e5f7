-- Reads of a copy: if the shelf has a whole copy, no read ends by CopyDamaged.
use Rattle.std.proofs.Common.{◌≡◌, ℕ, ◌++◌, List, length, Option, None, Some, Ok, Err, sym, subst, inl, inr}
use Rattle.std.specs.Prelude.{⊤}
use Rattle.tlog_hash.specs.Tree.{mth}
use Rattle.tlog_tiles.specs.declared.paths.Path.TheVariants.{Checkpoint}
use Rattle.mirror_model.specs.Heads.{IsHead}
use Rattle.mirror_sources.specs.Recorded.{KeepsRecord}
use Rattle.mirror_folders.specs.Shelf.{Put, RecordsRead, RecordsSome, Stands}
use Rattle.log_reader.specs.Holding.{IsReaderOf}
use Rattle.log_reader.specs.Ways.{Reader}
use Rattle.copy_reader.specs.Faults.{CountsRead}
use Rattle.copy_reader.specs.WholeCopies.{HasFilesOf, IsShelfFailure, IsWholeCopy, ReadsCopyLog, ReadsCopyOf}
use Rattle.copy_reader.specs.declared.fault.CopyFault.{CopyFault}
use Rattle.copy_reader.specs.declared.fault.CopyFault.TheVariants as reading
use Rattle.copy_reader.proofs.WholeCopies.{files_later, whole_read}
use Rattle.copy_reader.proofs.WholeLaws.{copies_are_whole}
use Rattle.copy_follow.specs.Pruned.{IsPrunedCopy}
use Rattle.copy_follow.proofs.PrunedFiles.{copies_are_pruned}
use Rattle.copy_follow.proofs.TipReads.{stands_has, stands_one}
use Rattle.copy_places.specs.Candidates.{note_of}
use Rattle.copy_places.specs.declared.candidate.Candidate.{Candidate}
use Rattle.copy_follow.specs.Blame.{CountsFollowFault, by_copy}
use Rattle.copy_follow.specs.Ending.{EndsRun}
use Rattle.copy_follow.specs.RunStanding.{HasStanding, HoldsNoCopy, LacksLog}

-- ---- faults of a read

-- the count of failures at such a fault
pub fault_counts : (T : Type 0) (a b : ℕ) (e : CopyFault) → CountsRead {T = T} a b (Err e) → CountsFollowFault a b (by_copy e)
fault_counts T a b reading.BadOrigin h = absurd h
fault_counts T a b (reading.Head f) h = absurd h
fault_counts T a b (reading.CopyDamaged path) h = h
fault_counts T a b reading.ShelfFault h = h
fault_counts T a b reading.OutOfMemory h = h

-- a fault that ends a run by CopyDamaged is no failure of the shelf
pub fault_ends : (T : Type 0) (A : Type 0) (a b : ℕ) (e : CopyFault) → CountsRead {T = T} a b (Err e) →
    ((IsShelfFailure e → ⊥) → A) → EndsRun A ⊥ (by_copy e)
fault_ends T A a b reading.BadOrigin h so = absurd h
fault_ends T A a b (reading.Head f) h so = absurd h
fault_ends T A a b (reading.CopyDamaged path) h so = so (λ no. no)
fault_ends T A a b reading.ShelfFault h so = tt
fault_ends T A a b reading.OutOfMemory h so = tt

module _ (digest : List ℕ → List ℕ) where
  -- after such a read, the shelf lacks the files of each such log
  pub lacks_log : (T : Type 0) (copy : Candidate) (x : Option (List Put)) (e : CopyFault) →
      ReadsCopyLog {T = T} digest copy.size.0 copy.root x (Err e) (λ _ _. ⊤) → (IsShelfFailure e → ⊥) →
      LacksLog digest copy x
  lacks_log T copy x e reads other = λ entries size root files. other (reads entries size root files)

-- ---- a second read

module _ (T U : Type 0) (digest : List ℕ → List ℕ) (size : ℕ) (root : List ℕ) (reader new : Reader)
    (claim : List (List ℕ) → T → Type 0) where
  abbrev Opened : List (List ℕ) → Reader → Type 0
  Opened entries r = IsReaderOf digest entries r

  -- a read of a shelf
  pub read_copy : (x y : Option (List Put)) → KeepsRecord x y → (e : CopyFault) →
      ReadsCopyLog digest size root x (Ok reader) Opened → ReadsCopyOf IsShelfFailure digest reader new y (Err e) claim →
      ReadsCopyLog {T = U} digest size root x (Err e) (λ _ _. ⊤)
  read_copy x y kept e opened reads entries size_is root_is files =
      (reads entries (opened entries size_is root_is files) (files_later digest x y kept entries files)).answer

-- ---- copies

module _ (digest : List ℕ → List ℕ) (origin : List ℕ) where
  whole : (note : List ℕ) (entries : List (List ℕ)) (held : List Put) → IsPrunedCopy digest origin note entries held →
      IsWholeCopy digest origin note entries (Some held)
  whole note entries held copy =
      (copies_are_whole digest origin note entries held copy.short copy.is_head).each copy.note_stands
      (λ path file. elim (copy.files path file) [
        | inl there ↦ inl there
        | inr g ↦ inr (record {
          partial = g.partial;
          gone = g.gone;
          full = g.full;
          stands = g.stands;
          begins = g.begins;
        })
      ])

  -- the shelf does not have the copy of a run if it lacks the copy's files
  pub none_lacks : (copy : Candidate) (x : Option (List Put)) → LacksLog digest copy x →
      HasStanding digest origin (Some copy) x → ⊥
  none_lacks copy x lacks s =
      let entries = s.entries ++ s.under.more in
      let w = whole (note_of copy) entries s.held s.under.copy in
      lacks entries (sym s.under.size_is) (sym s.under.root_is)
      (subst (λ p. HasFilesOf digest entries p) (sym s.puts_are) w.files)

  module _ (x y : Option (List Put)) (found : List ℕ) (stands : RecordsRead x Checkpoint (Some found)) where
    read_at : (held : List Put) → x ≡ Some held → Stands held Checkpoint found
    read_at held is = subst (λ p. RecordsRead p Checkpoint (Some found)) is stands

    no_copies : ((held : List Put) → x ≡ Some held → (note : List ℕ) (entries : List (List ℕ)) →
        IsPrunedCopy digest origin note entries held → ⊥) → HoldsNoCopy digest origin x
    no_copies none = record {
      no_copy = λ held is note entries copy.
          none held is note entries (copies_are_pruned digest origin note entries held copy);
      no_pruned = none;
      not_none = λ r. r.none (stands_has r.held Checkpoint found (read_at r.held r.is));
    }

    -- the checkpoint of a copy on the shelf is one of the origin
    pub no_head : ((size : ℕ) (root : List ℕ) → IsHead found origin size root → ⊥) → HoldsNoCopy digest origin x
    no_head none =
        no_copies (λ held is note entries copy.
        let one : found ≡ note = stands_one held Checkpoint found note (read_at held is) copy.note_stands in
        none (length entries) (mth digest entries)
        (subst (λ b. IsHead b origin (length entries) (mth digest entries)) (sym one) copy.is_head))

    -- the edge of a copy on the shelf is read
    pub no_edge : (T : Type 0) (size : ℕ) (root : List ℕ) → IsHead found origin size root → KeepsRecord x y →
        (e : CopyFault) → ReadsCopyLog {T = T} digest size root y (Err e) (λ _ _. ⊤) → (IsShelfFailure e → ⊥) →
        HoldsNoCopy digest origin x
    no_edge T size root head kept e reads other =
        no_copies (λ held is note entries copy.
        other (whole_read digest origin x y kept found size root stands head {T = T} (Err e) (λ _ _. ⊤) reads note entries
        (subst (λ p. IsWholeCopy digest origin note entries p) (sym is) (whole note entries held copy))))

-- a checkpoint that was read was put
pub read_some : (x : Option (List Put)) (note : List ℕ) → RecordsRead x Checkpoint (Some note) → RecordsSome x Checkpoint
read_some None note h = tt
read_some (Some held) note h = stands_has held Checkpoint note h
