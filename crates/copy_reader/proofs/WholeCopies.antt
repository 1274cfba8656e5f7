-- Reads of a whole copy are true, and never end by CopyDamaged.
use Rattle.std.proofs.Common.{◌≡◌, ℕ, List, length, Option, Some, None, Result, Ok, Err, inl, inr, sym, ap, subst, arith}
use Rattle.std.specs.Result.{IsErr, IsErrAnd}
use Rattle.std.proofs.lemmas.Bool.{false≢true}
use Rattle.signed_note.specs.Keys.{Key}
use Rattle.tlog_hash.specs.Tree.{mth}
use Rattle.tlog_tiles.specs.declared.paths.Path.{Path}
use Rattle.tlog_tiles.specs.declared.paths.Path.TheVariants.{Checkpoint, Tile, Entries}
use Rattle.mirror_sources.specs.Files.{full_of, width_named}
use Rattle.mirror_sources.specs.Source.{StaysWithin}
use Rattle.mirror_sources.specs.Recorded.{KeepsRecord}
use Rattle.mirror_folders.specs.Shelf.{Put, RecordsRead}
use Rattle.mirror_model.specs.Heads.{IsHead}
use Rattle.mirror_model.proofs.HeadNotes.{head_once}
use Rattle.log_reader.specs.Faults.{IsFailure}
use Rattle.log_reader.specs.Holding.{IsHeldAnswer, IsSourceOf, IsTreeFile, ReadsLog, ReadsOf}
use Rattle.log_reader.specs.Ways.{Reader}
use Rattle.log_reader.specs.declared.fault.ReadFault.{ReadFault}
use Rattle.log_reader.specs.declared.fault.ReadFault.TheVariants as reading
use Rattle.log_reader.proofs.TrueReads.{source_later}
use Rattle.copy_reader.specs.Copies.{IsRefused, OpensCopy}
use Rattle.copy_reader.specs.Faults.{by_read, CountsRead}
use Rattle.copy_reader.specs.ShelfSources.{ShelfMayAnswer}
use Rattle.copy_reader.specs.WholeCopies.{GivesOr, HasFilesOf, IsOfShelf, IsShelfFailure, IsWholeCopy, ReadsCopyLog, ReadsCopyOf}
use Rattle.copy_reader.specs.declared.fault.CopyFault.{CopyFault}
use Rattle.copy_reader.specs.declared.fault.CopyFault.TheVariants as copy
use Rattle.copy_reader.proofs.ShelfSources.{recorded_before}

-- ---- a source over a shelf

no_tile_of_none : (n : ℕ) (path : Path) → IsTreeFile n path → path ≡ Tile 0 0 0 → ⊥
no_tile_of_none n Checkpoint file e = absurd file
no_tile_of_none n (Tile level index width) (low, inl full) e =
    let w : width ≡ 0 = ap (λ (p : Path). width_named p) e in omega (arith, w, full.width_is)
no_tile_of_none n (Tile level index width) (low, inr part) e =
    let w : width ≡ 0 = ap (λ (p : Path). width_named p) e in omega (arith, w, part.some)
no_tile_of_none n (Entries index width) file e = absurd cc

no_full_of_none : (n : ℕ) (path : Path) → IsTreeFile n path → full_of path ≡ Tile 0 0 0 → ⊥
no_full_of_none n Checkpoint file e = absurd file
no_full_of_none n (Tile level index width) file e =
    let w : 256 ≡ 0 = ap (λ (p : Path). width_named p) e in omega (arith, w)
no_full_of_none n (Entries index width) file e = absurd cc

module _ (digest : List ℕ → List ℕ) (entries : List (List ℕ)) (name : ℕ) (held : Option (List Put)) where
  full_recorded : (path : Path) (answer : Option (List ℕ)) → IsTreeFile (length entries) path →
      ShelfMayAnswer name held (full_of path) answer → RecordsRead held (full_of path) answer
  full_recorded path answer file (inl recorded) = recorded.1
  full_recorded path answer file (inr named) = absurd (no_full_of_none (length entries) path file named.0)

  recorded : (path : Path) (answer : Option (List ℕ)) → IsTreeFile (length entries) path → ShelfMayAnswer name held path answer →
      RecordsRead held path answer
  recorded path answer file (inl t) = t.1
  recorded path answer file (inr named) = absurd (no_tile_of_none (length entries) path file named.0)

  held_answer : (path : Path) (answer : Option (List ℕ)) → IsTreeFile (length entries) path →
      IsHeldAnswer digest entries (RecordsRead held) path answer → IsHeldAnswer digest entries (ShelfMayAnswer name held) path answer
  held_answer path (Some bytes) file h = h
  held_answer path None file h =
      record { partial = h.partial; full = λ answer may. h.full answer (full_recorded path answer file may) }

  -- the source has the files of the log that the shelf has
  pub shelf_is_source : HasFilesOf digest entries held → IsSourceOf digest entries (ShelfMayAnswer name held)
  shelf_is_source s = record {
    short = s.short;
    files = λ path file answer may. held_answer path answer file (s.files path file answer (recorded path answer file may));
  }

-- ---- reads

pub shelf_failed : (fault : ReadFault) → IsFailure fault → IsShelfFailure (by_read fault)
shelf_failed (reading.NoFile path) h = absurd h
shelf_failed (reading.FalseFile path) h = absurd h
shelf_failed reading.Collision h = absurd h
shelf_failed reading.Source h = tt
shelf_failed reading.OutOfMemory h = tt

module _ {T : Type 0} (digest : List ℕ → List ℕ) (name : ℕ) (before held : Option (List Put)) (same : before ≡ held)
    (claim : List (List ℕ) → T → Type 0) where
  source_is : (entries : List (List ℕ)) → HasFilesOf digest entries held → IsSourceOf digest entries (ShelfMayAnswer name before)
  source_is entries files =
      shelf_is_source digest entries name before (subst (λ h. HasFilesOf digest entries h) (sym same) files)

  -- a read of the source is one of the shelf
  pub read_ok : (old new : Reader) (x : T) → ReadsOf digest old new (ShelfMayAnswer name before) (Ok x) claim →
      ReadsCopyOf {E = CopyFault} IsShelfFailure digest old new held (Ok x) claim
  read_ok old new x reads entries is files =
      let r = reads entries is (source_is entries files) in record { reader_is = r.reader_is; answer = r.answer }

  err_given : (fault : ReadFault) (result : Result T CopyFault) (entries : List (List ℕ)) → IsFailure fault →
      IsErr result × IsErrAnd result (λ f. f ≡ by_read fault) → GivesOr IsShelfFailure result (claim entries)
  err_given fault (Ok x) entries h is = absurd (false≢true is.0)
  err_given fault (Err f) entries h is = subst IsShelfFailure (sym is.1) (shelf_failed fault h)

  pub read_err : (old new : Reader) (fault : ReadFault) (result : Result T CopyFault) →
      IsErr result × IsErrAnd result (λ f. f ≡ by_read fault) → ReadsOf digest old new (ShelfMayAnswer name before) (Err fault) claim →
      ReadsCopyOf IsShelfFailure digest old new held result claim
  read_err old new fault result is reads entries reader files =
      let r = reads entries reader (source_is entries files) in
      record { reader_is = r.reader_is; answer = err_given fault result entries r.answer is }

  -- the opening of a log from the source is one from the shelf
  pub log_ok : (size : ℕ) (root : List ℕ) (x : T) → ReadsLog digest size root (ShelfMayAnswer name before) (Ok x) claim →
      ReadsCopyLog digest size root held (Ok x) claim
  log_ok size root x reads entries size_is root_is files = reads entries size_is root_is (source_is entries files)

  pub log_err : (size : ℕ) (root : List ℕ) (fault : ReadFault) (result : Result T CopyFault) →
      IsErr result × IsErrAnd result (λ f. f ≡ by_read fault) → ReadsLog digest size root (ShelfMayAnswer name before) (Err fault) claim →
      ReadsCopyLog digest size root held result claim
  log_err size root fault result is reads entries size_is root_is files =
      err_given fault result entries (reads entries size_is root_is (source_is entries files)) is

pub of_shelf : (T : Type 0) (a b : ℕ) (fault : CopyFault) → CountsRead {T = T} a b (Err fault) → IsOfShelf fault
of_shelf T a b copy.BadOrigin counts = absurd counts
of_shelf T a b (copy.Head f) counts = absurd counts
of_shelf T a b (copy.CopyDamaged path) counts = tt
of_shelf T a b copy.ShelfFault counts = tt
of_shelf T a b copy.OutOfMemory counts = tt

-- ---- after later calls

module _ (digest : List ℕ → List ℕ) (x y : Option (List Put)) (kept : KeepsRecord x y) where
  -- while the puts are kept, the files stay on the shelf
  pub files_later : (entries : List (List ℕ)) → HasFilesOf digest entries x → HasFilesOf digest entries y
  files_later entries =
      let within : StaysWithin (RecordsRead x) (RecordsRead y) =
      record { stays = λ path answer. recorded_before x y path answer kept } in
      source_later digest entries (RecordsRead x) (RecordsRead y) within

  -- while the puts are kept, a whole copy stays whole
  pub whole_later : (origin note : List ℕ) (entries : List (List ℕ)) → IsWholeCopy digest origin note entries x →
      IsWholeCopy digest origin note entries y
  whole_later origin note entries w = record {
    is_head = w.is_head;
    checkpoint = λ answer t. w.checkpoint answer (recorded_before x y Checkpoint answer kept t);
    files = files_later entries w.files;
  }

-- ---- the opened checkpoint

module _ (digest : List ℕ → List ℕ) (origin : List ℕ) (held after : Option (List Put)) (kept : KeepsRecord held after)
    (found : List ℕ) (size : ℕ) (root : List ℕ) (stands : RecordsRead held Checkpoint (Some found))
    (head : IsHead found origin size root) where
  -- the log of each whole copy was opened, unless the shelf failed or memory was refused
  pub whole_read : {T : Type 0} (result : Result T CopyFault) (claim : List (List ℕ) → T → Type 0) →
      ReadsCopyLog digest size root after result claim → (note : List ℕ) (entries : List (List ℕ)) →
      IsWholeCopy digest origin note entries held → GivesOr IsShelfFailure result (claim entries)
  whole_read result claim reads note entries whole =
      let same : Some found ≡ Some note = whole.checkpoint (Some found) stands in
      let one : found ≡ note = cc in
      let once = head_once note origin origin size (length entries) root (mth digest entries)
      (subst (λ b. IsHead b origin size root) one head) whole.is_head in
      reads entries (sym once.size_is) (sym once.root_is) (files_later digest held after kept entries whole.files)

  -- if the log was not opened, the reason is one of these
  pub whole_refused : {T : Type 0} (keys : List Key) (claim : List (List ℕ) → T → Type 0) (a b : ℕ) (fault : CopyFault) →
      CountsRead {T = T} a b (Err fault) → ReadsCopyLog digest size root after (Err fault) claim →
      IsRefused digest origin keys held fault
  whole_refused keys claim a b copy.BadOrigin counts reads = absurd counts
  whole_refused keys claim a b (copy.Head f) counts reads = absurd counts
  whole_refused keys claim a b (copy.CopyDamaged path) counts reads =
      λ note entries whole. whole_read (Err (copy.CopyDamaged path)) claim reads note entries whole
  whole_refused keys claim a b copy.ShelfFault counts reads = tt
  whole_refused keys claim a b copy.OutOfMemory counts reads = tt

-- if the opening ended by that fault, this is the reason
pub opens_refused : (digest : List ℕ → List ℕ) (origin : List ℕ) (keys : List Key) (held : Option (List Put)) (fault : CopyFault)
    (result : Result (Option Reader) CopyFault) → IsErr result × IsErrAnd result (λ f. f ≡ fault) →
    IsRefused digest origin keys held fault → OpensCopy digest origin keys held result
opens_refused digest origin keys held fault (Ok x) is h = absurd (false≢true is.0)
opens_refused digest origin keys held fault (Err f) is h = subst (IsRefused digest origin keys held) (sym is.1) h
