-- Repeated pulls of one log, from a source that may fail: fetched files are kept, and are not
-- fetched again.
use Rattle.std.specs.Prelude.{◌≡◌, ◌≢◌, ◌⊎◌, ℕ, ◌≤◌, List, [], ◌∷◌, ◌++◌, length, take, sum_by, AllPairs, Contains}
use Rattle.std.specs.Prelude.{Option, Some, Result, IfErr}
use Rattle.signed_note.specs.Keys.{Key}
use Rattle.tlog_tiles.specs.declared.paths.Path.{Path}
use Rattle.tlog_tiles.specs.declared.paths.Path.TheVariants.{Checkpoint}
use Rattle.tlog_tiles.specs.Edge.{edge_of}
use Rattle.tlog_tiles.specs.Tiles.{IsWithin}
use Rattle.node_store.specs.Strings.{HasAll}
use Rattle.mirror_model.specs.View.{View, IsSubview}
use Rattle.mirror_model.specs.Rounds.{true_strings}
use Rattle.mirror_model.specs.TrueLaws.{IsWidest}
use Rattle.mirror_sources.specs.Replies.{Reply, reply, asked_paths}
use Rattle.mirror_sources.specs.Recorded.{AddsToRecord}
use Rattle.mirror_sources.specs.Honest.{Gets, IsHonest}
use Rattle.mirror_pull.specs.Honest.{NoClashAmong}
use Rattle.mirror_pull.specs.declared.pulling.Pulled.{Pulled}
use Rattle.mirror_pull.specs.declared.fault.PullFault.{PullFault}
use Rattle.mirror_pull.specs.declared.fault.PullFault.TheVariants.{Source}

module _ (digest : List ℕ → List ℕ) (entries : List (List ℕ)) where
  -- different files of the log were fetched: a string of each was missing before, and all its
  -- strings are held after
  pub record FetchesFiles (v w : View) (files : List Path) : Type 0 where
    pub grows : IsSubview v w
    pub within : (path : Path) → Contains files path → IsWithin (length entries) path
    pub widest : (path : Path) → Contains files path → IsWidest (length entries) path
    pub apart : AllPairs (λ a b. a ≢ b) files
    pub lacked :
        (path : Path) → Contains files path → ¬ HasAll v.strings (true_strings digest entries path)
    pub held :
        (path : Path) → Contains files path → HasAll w.strings (true_strings digest entries path)

  -- several pulls, in order, fetched these files and kept what was held
  abbrev pub FetchInTurn : View → List (List Path) → View → Type 0
  FetchInTurn v [] w = IsSubview v w
  FetchInTurn v (files ∷ lists) w =
      (x : View) × (y : View) × IsSubview v x × FetchesFiles x y files × FetchInTurn y lists w

-- several pulls together fetch at most as many files as the log has
abbrev pub PullsFetchFilesOnce : Type 0
PullsFetchFilesOnce =
    (digest : List ℕ → List ℕ) (entries : List (List ℕ)) (v w : View) (lists : List (List Path))
    (all : List Path) →
    FetchInTurn digest entries v lists w →
    ((path : Path) → IsWithin (length entries) path → IsWidest (length entries) path →
    Contains all path) →
    sum_by (λ files. length files) lists ≤ length all

-- a pull from a source that is honest for the entries, until the source failed. After the right
-- edge, gets for these files of the first entries were answered, and the pull kept all of them. At
-- most two more gets were recorded: perhaps one of a partial path, and the one that failed
pub record KeepsFound (digest : List ℕ → List ℕ) (entries : List (List ℕ)) (note : List ℕ)
    (size : ℕ) (v w : View) (old new : Option (List Path)) : Type 0 where
  pub edge : List Reply
  pub edge_founds : List Path
  pub edge_gets : Gets (length entries) (edge_of size) edge edge_founds
  pub files : List Path
  pub founds : List Path
  pub replies : List Reply
  pub gets : Gets (length entries) files replies founds
  pub fetches : FetchesFiles digest (take size entries) v w files
  pub last : List Path
  pub last_few : length last ≤ 2
  pub recorded : AddsToRecord old new
      (asked_paths (reply Checkpoint (Some note) ∷ edge ++ replies) ++ last)

-- a pull that ends as Source leaves the view unchanged, or keeps each file that was answered. This
-- holds for each list of entries for which the source is honest, if nothing collides
abbrev pub KeepsHonestly : (List ℕ → List ℕ) → List Key → View → View →
    (Path → Option (List ℕ) → Type 0) → Option (List Path) → Option (List Path) →
    Result Pulled PullFault → Type 0
KeepsHonestly digest keys v w may old new result =
    (entries : List (List ℕ)) (note : List ℕ) (size : ℕ) →
    IsHonest digest entries v.origin keys note size may →
    NoClashAmong digest entries v size →
    IfErr result (λ e. e ≡ Source → (w ≡ v) ⊎ KeepsFound digest entries note size v w old new)
