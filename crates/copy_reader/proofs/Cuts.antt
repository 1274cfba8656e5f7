-- A partial file, cut from its full one.
use Rattle.std.proofs.Common.{◌≡◌, ℕ, ◌*◌, List, [], ◌∷◌, length, take, Option, Some, inl, inr, sym, ap, subst, ◌∙◌, arith}
use Rattle.std.proofs.Math.Seq.{take-append_seam}
use Rattle.tlog_shape.specs.Edge.{IsTile}
use Rattle.tlog_hash.specs.Rows.{level_row, part}
use Rattle.tlog_tiles.specs.Cut.{IsFileCut}
use Rattle.tlog_tiles.specs.Tiles.{IsTileWithin}
use Rattle.tlog_tiles.specs.declared.paths.Path.{Path}
use Rattle.tlog_tiles.specs.declared.paths.Path.TheVariants.{Checkpoint, Tile, Entries}
use Rattle.tlog_tiles.proofs.Cuts.{cuts_are_first}
use Rattle.tlog_tiles.proofs.EdgeLemmas.{hashes_of}
use Rattle.tlog_tiles.proofs.RowLemmas.{length-row_text}
use Rattle.tlog_tiles.proofs.TileLemmas.{served_is_read}
use Rattle.mirror_model.specs.Strings.{IsDigest}
use Rattle.mirror_model.specs.TrueLaws.{AreShort}
use Rattle.mirror_sources.specs.Files.{full_of}
use Rattle.mirror_sources.specs.Honest.{true_bytes}
use Rattle.mirror_sources.specs.Replies.{reply}
use Rattle.log_reader.specs.Holding.{GoesOn, IsTreeFile}
use Rattle.copy_reader.specs.Answering.{AreGiven}
use Rattle.copy_reader.specs.Edges.{IsFullGiven}
use Rattle.copy_reader.specs.Stops.{IsFullFalse, IsFullRead}

tile_within : (n index width : ℕ) → IsTile n 0 index width → IsTileWithin n 0 index width
tile_within n index width (inl full) =
    record { level_fits = omega arith; some = omega (arith, full.width_is); upto = omega (arith, full.width_is); within = omega (arith, full.width_is, full.fits) }
tile_within n index width (inr end) =
    let sum = hashes_of n 0 in
    record {
      level_fits = omega arith;
      some = omega (arith, end.some);
      upto = omega (arith, end.width_is);
      within = omega (arith, sum, end.index_is, end.width_is);
    }

-- a full file begins with its cut
pub cut_goes : (path : Path) (whole cut : List ℕ) → IsFileCut path 256 whole cut → GoesOn path cut whole
cut_goes Checkpoint whole cut is = absurd is
cut_goes (Tile level index width) whole cut is = record { rest = is.rest; bytes_are = is.parts; whole = is.whole }
cut_goes (Entries index width) whole cut is = record { rest = is.rest; bytes_are = is.parts; whole = is.whole }

-- true bytes that a full file begins with are its cut
pub true_cut : (digest : List ℕ → List ℕ) → IsDigest digest → (entries : List (List ℕ)) → AreShort entries → (path : Path)
    (whole : List ℕ) → IsTreeFile (length entries) path → GoesOn path (true_bytes digest entries path) whole →
    IsFileCut path 256 whole (true_bytes digest entries path)
true_cut digest hash entries short Checkpoint whole file goes = absurd file
true_cut digest hash entries short (Tile level index width) whole file goes =
    let row = (served_is_read digest hash entries short).tile level index width in
    record {
      whole = goes.whole;
      own = length-row_text (level_row digest entries level (256 * index) width) row.sizes ∙ ap (λ n. 32 * n) row.count;
      rest = goes.rest;
      parts = goes.bytes_are;
    }
true_cut digest hash entries short (Entries index width) whole file goes = record {
  whole = goes.whole;
  own = (
    part (256 * index) width entries,
    (served_is_read digest hash entries short).bundle index width (tile_within (length entries) index width file),
  );
  rest = goes.rest;
  parts = goes.bytes_are;
}

cut_taken : (path : Path) (whole cut bytes : List ℕ) → IsFileCut path 256 whole cut → bytes ≡ take (length cut) whole → bytes ≡ cut
cut_taken path whole cut bytes is taken =
    let goes = cut_goes path whole cut is in
    taken ∙ (ap (take (length cut)) goes.bytes_are ∙ take-append_seam cut goes.rest)

-- so the bytes of the cut are the true ones
pub cut_true : (digest : List ℕ → List ℕ) → IsDigest digest → (entries : List (List ℕ)) → AreShort entries → (path : Path)
    (whole cut bytes : List ℕ) → IsFileCut path 256 whole cut → bytes ≡ take (length cut) whole →
    IsTreeFile (length entries) path → GoesOn path (true_bytes digest entries path) whole → bytes ≡ true_bytes digest entries path
cut_true digest hash entries short path whole cut bytes is taken file goes =
    cut_taken path whole cut bytes is taken
    ∙ cuts_are_first.one path 256 whole cut (true_bytes digest entries path) is
    (true_cut digest hash entries short path whole file goes)

module _ (path : Path) (whole : List ℕ) (a b : Path → Option (List ℕ) → Type 0) (x y : Option (List Path))
    (given : AreGiven a b x y (reply (full_of path) (Some whole) ∷ [])) where
  pub full_read : (cut bytes : List ℕ) → IsFileCut path 256 whole cut → bytes ≡ take (length cut) whole →
      IsFullRead path bytes a b x y
  full_read cut bytes is taken = record {
    whole = whole;
    given = given;
    begins = subst (λ (l : List ℕ). GoesOn path l whole) (sym (cut_taken path whole cut bytes is taken)) (cut_goes path whole cut is);
    is_true = λ digest entries hash short file partial goes.
        cut_true digest hash entries short path whole cut bytes is taken file goes;
  }

  pub full_false : ((cut : List ℕ) → IsFileCut path 256 whole cut → ⊥) → IsFullFalse path [] a b x y
  full_false none = record {
    whole = whole;
    given = given;
    wrong = λ digest entries hash short file partial goes.
        none (true_bytes digest entries path) (true_cut digest hash entries short path whole file goes);
  }

-- the bytes are the start of the file that was given
pub full_given : (path : Path) (bytes : List ℕ) (a b : Path → Option (List ℕ) → Type 0) (x y : Option (List Path)) →
    IsFullRead path bytes a b x y → IsFullGiven path bytes a b x y
full_given path bytes a b x y read = record {
  rest = read.begins.rest;
  given = subst (λ w. AreGiven a b x y (reply (full_of path) (Some w) ∷ [])) read.begins.bytes_are read.given;
}
