-- One place that may give nothing but the files of a log.
use Rattle.std.proofs.Common.{inl, ℕ, ◌≤◌, List, length, Option, refl, sym, ap, ◌∙◌, subst, arith}
use Rattle.std.proofs.Math.Nat.{le-div_iff_mul-le}
use Rattle.std.proofs.lemmas.List.{get_or_default}
use Rattle.tlog_shape.specs.Edge.{edge_index_of, width_of}
use Rattle.tlog_shape.proofs.Levels.{level_positive}
use Rattle.tlog_tiles.specs.declared.paths.Path.{Path}
use Rattle.tlog_tiles.specs.declared.paths.Path.TheVariants.{Tile}
use Rattle.tlog_tiles.specs.Tiles.{IsTileWithin, IsWithin}
use Rattle.tlog_tiles.proofs.EdgeLemmas.{hashes_of}
use Rattle.mirror_sources.specs.Source.{File}
use Rattle.copy_places.specs.Answered.{IsPartAnswer, MustGive, MustGivePart}
use Rattle.copy_places.specs.Nobodys.{AreGiven, IsWanted}
use Rattle.copy_places.specs.declared.place.Place.{Place}
use Rattle.copy_places.specs.declared.places.Places.{Places}
use Rattle.copy_follow.specs.HonestForks.{HasWholePlace, LogScriptPlacesAreWhole, WholePlacesContradict}
use Rattle.copy_follow.specs.LogScripts.{MayByScript}
use Rattle.copy_follow.proofs.LogScripts.{answers_true}

-- the partial tile of a level is within the entries
edge_within : (n level : ℕ) → level ≤ 7 → 1 ≤ width_of n level → IsTileWithin n level (edge_index_of n level) (width_of n level)
edge_within n level low some =
    let hashes = hashes_of n level in
    record {
      level_fits = low;
      some = some;
      upto = omega arith;
      within = (le-div_iff_mul-le (level_positive level)).0 (omega (arith, hashes));
    }

-- so is the full tile in which a shorter list ends
full_within : (first n level : ℕ) → IsWanted first n level → IsTileWithin n level (edge_index_of first level) 256
full_within first n level wanted =
    let hashes = hashes_of n level in
    let full = wanted.is_full in
    let low = wanted.low in
    record {
      level_fits = omega (arith, low);
      some = omega arith;
      upto = omega arith;
      within = (le-div_iff_mul-le (level_positive level)).0 (omega (arith, hashes, full));
    }

module _ {S : Type 0} (may : S → Path → Option (List ℕ) → Type 0) (digest : List ℕ → List ℕ) (old new : Places S)
    (entries : List (List ℕ)) (whole : HasWholePlace digest entries may old new) where
  -- a place that may give nothing but the partial file gives its part
  part_given : (path : Path) → IsWithin (length entries) path → MustGivePart may old new digest entries whole.index path
  part_given path within =
      let must = whole.must path within in (
        must.0,
        λ d answer m. subst (IsPartAnswer may old new digest entries whole.index path) (sym (must.1 d answer m)) refl,
      )

  all_given : (first : ℕ) →
      AreGiven entries (MustGive may old new digest entries) (MustGivePart may old new digest entries) (length old.list.items) first
  all_given first = record {
    edge = record {
      one = whole.index;
      other = whole.index;
      one_listed = whole.listed;
      other_listed = whole.listed;
      each = λ level low some. inl (part_given _ (edge_within (length entries) level low some));
    };
    rows = λ level wanted. inl (record {
      place = whole.index;
      listed = whole.listed;
      gives = whole.must (Tile level (edge_index_of first level) 256) (full_within first (length entries) level wanted);
    });
  }

pub whole_places_contradict : {S : Type 0} → (may : S → Path → Option (List ℕ) → Type 0) (failed : S → ℕ)
    (asked : S → Option (List Path)) → WholePlacesContradict may failed asked
whole_places_contradict may failed asked digest old new small large first entries first_point short point apart clear whole = record {
  first_point = first_point;
  short = short;
  point = point;
  apart = apart;
  given = all_given may digest old new entries whole small.size;
  clear = clear;
}

pub log_script_places_are_whole : LogScriptPlacesAreWhole
log_script_places_are_whole digest entries old new log sound = record {
  index = log.index;
  listed = log.listed;
  must = λ path within. (
    sound,
    λ d answer m.
        answers_true digest entries log.note path within answer
        (subst (λ (script : List File). MayByScript script path answer)
        (ap (λ (place : Place (List File)). place.source) (get_or_default old.list.items log.index d log.none log.listed) ∙ log.script) m),
  );
}
