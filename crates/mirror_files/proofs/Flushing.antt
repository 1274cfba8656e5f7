-- The files that a shelf has to flush, in an export and in an update.
use Rattle.std.proofs.Common.{◌≡◌, ℕ, List, [], ◌∷◌, Option, Result, Ok, Err, OnOk, inl, refl}
use Rattle.tlog_tiles.specs.declared.paths.Path.TheVariants.{Checkpoint}
use Rattle.mirror_sources.specs.Recorded.{KeepsRecord}
use Rattle.mirror_folders.specs.Shelf.{Put, RecordsPut}
use Rattle.mirror_folders.specs.declared.shelf.ShelfError.{ShelfError}
use Rattle.mirror_folders.specs.Flushes.{Flushes, FlushesAll, FlushesAtOk, SecuresAtOk, SecuresPuts}
use Rattle.mirror_folders.proofs.Securing.{put_secures, puts_kept, puts_last, puts_then}
use Rattle.mirror_files.specs.declared.export_fault.UpdateFault.{UpdateFault}
use Rattle.mirror_files.specs.declared.export_fault.UpdateFault.TheVariants.{NothingComplete, OtherLog}
use Rattle.mirror_files.specs.declared.export_fault.UpdateFault.TheVariants.{ShelfFault, OutOfMemory}
use Rattle.mirror_files.specs.Exports.{FlushesExport}
use Rattle.mirror_files.specs.Updates.{FlushesUpdate}
use Rattle.mirror_files.specs.Beginnings.{PutsLast}

module _ (a b c : Option (List Put)) (x y z : Option Flushes) (first : SecuresPuts a b x y) where
  -- an export puts the checkpoint last
  pub export_last : {T : Type 0} (note : List ℕ) (r : Result T ShelfError) → RecordsPut b c (Checkpoint, note) r →
      SecuresAtOk (λ p. p ≡ Checkpoint) y z r → OnOk r (Checkpoint ≡ Checkpoint → FlushesAll y z) →
      FlushesExport a c x z r
  export_last {T} note (Ok v) put secured flushed = puts_last note a b c x y z first put (flushed refl)
  export_last {T} note (Err e) put secured flushed =
      puts_then a b c x y z first (put_secures {T = T} Checkpoint note b c y z (Err e) put secured)

  -- an update puts the checkpoint last, if the one that was found is still there
  pub update_last : {T : Type 0} (found : Option (List ℕ)) (note : List ℕ) (r : Result T UpdateFault) →
      PutsLast b c found note r → FlushesAtOk y z r → FlushesUpdate a c x z r
  update_last found note (Ok v) put flushed = inl (puts_last note a b c x y z first put.1 flushed)
  update_last found note (Err OtherLog) put flushed =
      puts_then a b c x y z first (puts_kept b c y z put.0 flushed)
  update_last found note (Err ShelfFault) put flushed = puts_then a b c x y z first (puts_kept b c y z put flushed)
  update_last found note (Err OutOfMemory) put flushed = puts_then a b c x y z first (puts_kept b c y z put flushed)
  update_last found note (Err NothingComplete) put flushed = absurd put
