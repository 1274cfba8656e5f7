-- A place that lies beside an honest one, for a log of one entry, under the test digest.
use Rattle.std.specs.Prelude.{◌≡◌, ◌≢◌, List, ℕ, [], ◌∷◌}
use Rattle.tlog_hash.specs.Sum.{sum_digest}
use Rattle.tlog_tiles.specs.declared.paths.Path.TheVariants.{Tile, Entries}
use Rattle.mirror_sources.specs.Honest.{true_bytes}
use Rattle.mirror_sources.specs.Source.{File}
use Rattle.copy_places.specs.declared.place.Place.{Place}
use Rattle.copy_places.specs.declared.places.Places.{Places}
use Rattle.copy_follow.specs.LogScripts.{MayByScript, script_of_log}
use Rattle.copy_follow.specs.Scripted.{IsHonestAndClear}

-- the log has one entry, which is empty
abbrev pub empty_entry : List (List ℕ)
empty_entry = [] ∷ []

-- the place gives the files of another log, whose entry is 07
abbrev pub lying_files : List File
lying_files = (Entries 0 1, 0 ∷ 1 ∷ 7 ∷ []) ∷ (Tile 0 0 1, sum_digest (0 ∷ 7 ∷ [])) ∷ []

-- its files are false. Beside it, a place with the script of the log is honest, and nothing that may be taken clashes
pub record LiarsAreAllowed : Type 0 where
  pub false_bundle : 0 ∷ 1 ∷ 7 ∷ [] ≢ true_bytes sum_digest empty_entry (Entries 0 1)
  pub false_tile : sum_digest (0 ∷ 7 ∷ []) ≢ true_bytes sum_digest empty_entry (Tile 0 0 1)
  pub allowed :
      (note : List ℕ) (honest liar : Place (List File)) (places : Places (List File)) → places.list.items ≡ honest ∷ liar ∷ [] →
      honest.source ≡ script_of_log sum_digest empty_entry note → honest.failures ≡ 0 → liar.source ≡ lying_files →
      IsHonestAndClear sum_digest MayByScript [] places places empty_entry 1
