-- CopyDamaged never comes for a whole copy.
use Rattle.std.proofs.Common.{◌≡◌, ℕ, List, length, Option, Some, None, inr, sym, subst}
use Rattle.tlog_hash.specs.Tree.{mth}
use Rattle.tlog_tiles.specs.declared.paths.Path.{Path}
use Rattle.tlog_tiles.specs.declared.paths.Path.TheVariants.{Checkpoint}
use Rattle.signed_note.specs.declared.key_line.KeyLine.{KeyLine}
use Rattle.mirror_model.specs.Heads.{IsHead}
use Rattle.mirror_model.proofs.HeadNotes.{head_once}
use Rattle.mirror_http.specs.declared.fault.HttpFault.TheVariants.{ReadFault, WriteFault, OutOfMemory}
use Rattle.mirror_http.specs.declared.request.Request.TheVariants.{Get}
use Rattle.mirror_http.specs.declared.resource.Resource.{Resource}
use Rattle.mirror_sources.specs.Recorded.{KeepsRecord}
use Rattle.mirror_folders.specs.Shelf.{Put, RecordsRead}
use Rattle.copy_reader.specs.WholeCopies.{IsDamaged}
use Rattle.copy_reader.proofs.WholeCopies.{files_later}
use Rattle.program_copies.specs.CopyAnswers.{BlamesAnswer, BlamesBody}
use Rattle.program_copies.specs.CopyHeads.{CopyHead, IsCopyHead}
use Rattle.program_copies.specs.Damages.{IsDamagedAt, IsDamagedBy}
use Rattle.program_copies.specs.declared.keys.KeysFault.{KeysFault}
use Rattle.program_copies.specs.declared.reply_fault.CopyAnswerFault.{CopyAnswerFault}
use Rattle.program_copies.specs.declared.reply_fault.CopyAnswerFault.TheVariants.{Http, CopyDamaged, ShelfFault, Head, KeyFile}
use Rattle.program_copies.proofs.Damages.{for_before}

-- no whole copy has a checkpoint that is not one of the origin
pub bad_head : (digest : List ℕ → List ℕ) (origin : List ℕ) (held : Option (List Put)) (found : List ℕ) →
    RecordsRead held Checkpoint (Some found) → ((size : ℕ) (root : List ℕ) → IsHead found origin size root → ⊥) →
    IsDamaged digest origin held
bad_head digest origin held found stands none note entries w =
    let same : Some found ≡ Some note = w.checkpoint (Some found) stands in
    let one : note ≡ found = cc in
    none (length entries) (mth digest entries)
    (subst (λ b. IsHead b origin (length entries) (mth digest entries)) one w.is_head)

module _ (digest : List ℕ → List ℕ) (AreKeys : List KeyLine → Type 0) (last : Option (List ℕ)) (origin : List ℕ)
    (held after : Option (List Put)) (kept : KeepsRecord held after) (r : Resource) where
  -- a whole copy has each needed file
  damaged : (head : Option CopyHead) → IsCopyHead AreKeys origin last held head →
      (path : Path) → BlamesBody digest after head r (CopyDamaged path) → IsDamaged digest origin held
  damaged None is path blames = absurd blames.1
  damaged (Some head) is path blames = λ note entries w.
      let same : Some head.note ≡ Some note = w.checkpoint (Some head.note) is.0 in
      let one : head.note ≡ note = cc in
      let once = head_once note origin origin head.size (length entries) head.root (mth digest entries)
      (subst (λ b. IsHead b origin head.size head.root) one is.1) w.is_head in
      blames.0 entries (record {
        size_is = sym once.size_is;
        root_is = sym once.root_is;
        small = is.1.is_checkpoint.in_range;
        files = files_later digest held after kept entries w.files;
      })

  -- and the named one is damaged
  named : (head : Option CopyHead) → IsCopyHead AreKeys origin last held head →
      (path : Path) → IsDamagedAt digest after head r path → IsDamagedBy digest origin held (Get r) path
  named None is path bad = absurd bad
  named (Some head) is path bad = inr (record {
    head = head;
    stands = is.0;
    is_head = is.1;
    damaged = for_before digest head.size head.root held after kept r path bad;
  })

  pub blames_before : (Lacks : KeysFault → Type 0) (head : Option CopyHead) → IsCopyHead AreKeys origin last held head →
      (fault : CopyAnswerFault) → BlamesBody digest after head r fault →
      BlamesAnswer digest AreKeys Lacks origin held (Get r) fault
  blames_before Lacks head is (Http ReadFault) h = absurd h
  blames_before Lacks head is (Http WriteFault) h = absurd h
  blames_before Lacks head is (Http OutOfMemory) h = tt
  blames_before Lacks head is (CopyDamaged path) h = (damaged head is path h, named head is path h.1)
  blames_before Lacks head is ShelfFault h = tt
  blames_before Lacks head is (Head fault) h = absurd h
  blames_before Lacks head is (KeyFile fault) h = absurd h
