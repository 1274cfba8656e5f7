-- A second read of a source.
use Rattle.std.proofs.Common.{ℕ, List, Option, Result, Ok}
use Rattle.tlog_tiles.specs.declared.paths.Path.{Path}
use Rattle.mirror_sources.specs.Source.{StaysWithin}
use Rattle.log_reader.specs.Holding.{IsReaderOf, ReadsLog, ReadsTilesOf}
use Rattle.log_reader.specs.Ways.{Reader}
use Rattle.log_reader.specs.declared.fault.ReadFault.{ReadFault}
use Rattle.log_reader.proofs.FullTiles.{source_tiles}
use Rattle.log_reader.proofs.TrueReads.{source_later}

module _ (T : Type 0) (digest : List ℕ → List ℕ) (size : ℕ) (root : List ℕ) (reader new : Reader)
    (claim : List (List ℕ) → T → Type 0) where
  -- a read of a source
  pub read_log : (may later : Path → Option (List ℕ) → Type 0) → StaysWithin may later → (result : Result T ReadFault) →
      ReadsLog digest size root may (Ok reader) (IsReaderOf digest) → ReadsTilesOf digest reader new later result claim →
      ReadsLog digest size root may result claim
  read_log may later stays result opened reads entries size_is root_is source =
      (reads entries (opened entries size_is root_is source)
      (source_tiles digest entries later (source_later digest entries may later stays source))).answer
