-- Partial files of a source, as it is now, as it was, and as one that has the files of a log.
use Rattle.std.proofs.Common.{◌≡◌, ◌≢◌, ℕ, ◌*◌, List, length, Option, Some, None, inl, inr, ap, ◌∙◌, arith}
use Rattle.tlog_shape.specs.Edge.{IsTile}
use Rattle.tlog_hash.specs.Rows.{level_row, part}
use Rattle.tlog_tiles.specs.Cut.{IsFileCut, full_of}
use Rattle.tlog_tiles.specs.Tiles.{IsTileWithin}
use Rattle.tlog_tiles.specs.declared.paths.Path.{Path}
use Rattle.tlog_tiles.specs.declared.paths.Path.TheVariants.{Checkpoint, Tile, Entries}
use Rattle.tlog_tiles.proofs.Cuts.{cuts_are_first}
use Rattle.tlog_tiles.proofs.EdgeLemmas.{hashes_of}
use Rattle.tlog_tiles.proofs.RowLemmas.{length-row_text}
use Rattle.tlog_tiles.proofs.TileLemmas.{served_is_read}
use Rattle.mirror_model.specs.Strings.{IsDigest}
use Rattle.mirror_model.specs.TrueLaws.{AreShort}
use Rattle.mirror_sources.specs.Honest.{true_bytes}
use Rattle.mirror_sources.specs.Source.{StaysWithin}
use Rattle.log_reader.specs.Faults.{IsFailure, NamesFile}
use Rattle.log_reader.specs.Holding.{GoesOn, IsSourceOf, IsTreeFile}
use Rattle.log_reader.specs.Parts.{IsFalseAt, IsPartGiven, LacksPart}
use Rattle.log_reader.specs.declared.fault.ReadFault.{ReadFault}
use Rattle.log_reader.proofs.Exits.{names_more}

-- ---- another source, with these answers

module _ (old new : Path → Option (List ℕ) → Type 0)
    (gives : (path : Path) → path ≢ Tile 0 0 0 → (answer : Option (List ℕ)) → new path answer → old path answer) (path : Path)
    (some : path ≢ Tile 0 0 0) (full : full_of path ≢ Tile 0 0 0) where
  pub bytes_given : (bytes : List ℕ) → IsPartGiven new path bytes → IsPartGiven old path bytes
  bytes_given bytes (inl own) = inl (gives path some (Some bytes) own)
  bytes_given bytes (inr (none, (file, given, cut))) =
      inr (gives path some None none, (file, gives (full_of path) full (Some file) given, cut))

  lacks_given : (named : Path) → LacksPart new path named → LacksPart old path named
  lacks_given named (none, (answer, given, wrong)) =
      (gives path some None none, (answer, gives (full_of path) full answer given, wrong))

  pub false_at_given : (Is : List ℕ → Type 0) (named : Path) → IsFalseAt new path Is named → IsFalseAt old path Is named
  false_at_given Is named (inl lacks) = inl (lacks_given named lacks)
  false_at_given Is named (inr (at, bytes, given, other)) = inr (at, bytes, bytes_given bytes given, other)

-- ---- bundles

module _ (old new : Path → Option (List ℕ) → Type 0)
    (gives : (path : Path) → path ≢ Tile 0 0 0 → (answer : Option (List ℕ)) → new path answer → old path answer) where
  pub bundle_from : (index width : ℕ) (bytes : List ℕ) → IsPartGiven new (Entries index width) bytes →
      IsPartGiven old (Entries index width) bytes
  bundle_from index width bytes h =
      bytes_given old new gives (Entries index width) (λ e. absurd (cc e)) (λ e. absurd (cc e)) bytes h

-- an earlier state of the source
pub bundle_before : (old new : Path → Option (List ℕ) → Type 0) → StaysWithin old new → (index width : ℕ) (bytes : List ℕ) →
    IsPartGiven new (Entries index width) bytes → IsPartGiven old (Entries index width) bytes
bundle_before old new stays index width bytes h =
    bundle_from old new (λ path some answer given. stays.stays path answer given) index width bytes h

-- ---- a source that has the files of a log

tile_within : (n index width : ℕ) → IsTile n 0 index width → IsTileWithin n 0 index width
tile_within n index width (inl full) = record {
  level_fits = omega arith;
  some = omega (arith, full.width_is);
  upto = omega (arith, full.width_is);
  within = omega (arith, full.width_is, full.fits);
}
tile_within n index width (inr end) =
    let sum = hashes_of n 0 in
    record {
      level_fits = omega arith;
      some = omega (arith, end.some);
      upto = omega (arith, end.width_is);
      within = omega (arith, sum, end.index_is, end.width_is);
    }

module _ (digest : List ℕ → List ℕ) (hash : IsDigest digest) (entries : List (List ℕ)) where
  -- true bytes that a full file begins with are its cut
  true_cut : AreShort entries → (path : Path) (whole : List ℕ) → IsTreeFile (length entries) path →
      GoesOn path (true_bytes digest entries path) whole → IsFileCut path 256 whole (true_bytes digest entries path)
  true_cut short Checkpoint whole file goes = absurd file
  true_cut short (Tile level index width) whole file goes =
      let row = (served_is_read digest hash entries short).tile level index width in
      record {
        whole = goes.whole;
        own = length-row_text (level_row digest entries level (256 * index) width) row.sizes ∙ ap (λ n. 32 * n) row.count;
        rest = goes.rest;
        parts = goes.bytes_are;
      }
  true_cut short (Entries index width) whole file goes = record {
    whole = goes.whole;
    own = (
      part (256 * index) width entries,
      (served_is_read digest hash entries short).bundle index width (tile_within (length entries) index width file),
    );
    rest = goes.rest;
    parts = goes.bytes_are;
  }

  module _ (may : Path → Option (List ℕ) → Type 0) (s : IsSourceOf digest entries may) (path : Path)
      (file : IsTreeFile (length entries) path) where
    cut : (whole : List ℕ) → may path None → may (full_of path) (Some whole) →
        IsFileCut path 256 whole (true_bytes digest entries path)
    cut whole none given = true_cut s.short path whole file ((s.files path file None none).full (Some whole) given)

    pub part_true : (bytes : List ℕ) → IsPartGiven may path bytes → bytes ≡ true_bytes digest entries path
    part_true bytes (inl own) = s.files path file (Some bytes) own
    part_true bytes (inr (none, (whole, given, is))) =
        cuts_are_first.one path 256 whole bytes (true_bytes digest entries path) is (cut whole none given)

    cut_there : (named : Path) → LacksPart may path named → ⊥
    cut_there named (none, (None, given, wrong)) = (s.files path file None none).full None given
    cut_there named (none, (Some whole, given, wrong)) = wrong.1 (true_bytes digest entries path) (cut whole none given)

    pub part_there : (fault : ReadFault) → NamesFile (LacksPart may path) fault → IsFailure fault
    part_there fault h = names_more (LacksPart may path) (λ named. ⊥) cut_there fault h
