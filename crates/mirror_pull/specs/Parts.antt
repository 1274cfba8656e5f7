-- Parts of a pull from an honest source. Only contracts of private functions cite these
-- definitions.
use Rattle.std.specs.Prelude.{◌≡◌, ◌⊎◌, ℕ, ◌≤◌, ◌<◌, ◌^◌, List, [], ◌∷◌, length, map}
use Rattle.std.specs.Prelude.{take, Option, Contains, Bool, false, Result, MatchResult}
use Rattle.tlog_hash.specs.Tree.{mth, strings}
use Rattle.tlog_tiles.specs.declared.paths.Path.{Path}
use Rattle.tlog_tiles.specs.declared.paths.Path.TheVariants.{Checkpoint, Tile, Entries}
use Rattle.tlog_tiles.specs.Edge.{edge_of}
use Rattle.tlog_tiles.specs.Tiles.{IsWithin}
use Rattle.node_store.specs.Strings.{Has, HasAll}
use Rattle.mirror_model.specs.View.{View}
use Rattle.mirror_model.specs.Strings.{IsDigest}
use Rattle.mirror_model.specs.Heads.{HasHead}
use Rattle.mirror_model.specs.Edge.{edge_rows, edge_strings}
use Rattle.mirror_model.specs.Rounds.{true_strings}
use Rattle.mirror_model.specs.TrueLaws.{AreShort, IsWidest}
use Rattle.mirror_sources.specs.Files.{full_of}
use Rattle.mirror_sources.specs.Replies.{Reply, MayReply}
use Rattle.mirror_sources.specs.Honest.{Gets, true_bytes, IsTrueAnswer}
use Rattle.mirror_pull.specs.Asking.{AreFresh, IsFresh}
use Rattle.mirror_pull.specs.Honest.{NoClashAmong, AreFrontRounds, with_true}
use Rattle.mirror_pull.specs.Replying.{with_replies}
use Rattle.mirror_pull.specs.declared.fault.PullFault.{PullFault}
use Rattle.mirror_pull.specs.declared.fault.PullFault.TheVariants.{Source, OutOfMemory}

-- the fault comes from outside: memory was refused, or the source failed
abbrev pub IsOutside : PullFault → Type 0
IsOutside fault = (fault ≡ OutOfMemory) ⊎ (fault ≡ Source)

-- the path is that of a tile within n entries
abbrev pub IsTilePath : ℕ → Path → Type 0
IsTilePath n Checkpoint = ⊥
IsTilePath n (Tile level index width) = IsWithin n (Tile level index width)
IsTilePath n (Entries index width) = ⊥

-- the possible replies to the gets of these paths, and the paths that the list of requests grew by
pub record GetsAll (n : ℕ) (may : Path → Option (List ℕ) → Type 0) (paths before after : List Path)
    : Type 0 where
  pub replies : List Reply
  pub founds : List Path
  pub are : Gets n paths replies founds
  pub may_reply : MayReply may replies
  pub list : after ≡ with_replies before replies

module _ (digest : List ℕ → List ℕ) (entries : List (List ℕ)) where
  -- a source with these answers gives a true answer for each path within the entries
  pub record IsTrueSource (may : Path → Option (List ℕ) → Type 0) : Type 0 where
    pub hash : IsDigest digest
    pub short : AreShort entries
    pub parts :
        (path : Path) → IsWithin (length entries) path → (answer : Option (List ℕ)) →
        may path answer →
        IsTrueAnswer digest entries path answer

  -- the bytes of a tile of the right edge are its true bytes
  pub record IsTrueRow (may : Path → Option (List ℕ) → Type 0) (path : Path)
      (before after : List Path) (bytes : List ℕ) : Type 0 where
    pub bytes_are : bytes ≡ true_bytes digest entries path
    pub gets : GetsAll (length entries) may (path ∷ []) before after

  -- the bytes of several tiles of the right edge are their true bytes
  pub record AreTrueRows (may : Path → Option (List ℕ) → Type 0) (paths before after : List Path)
      (rows : List (List ℕ)) : Type 0 where
    pub rows_are : rows ≡ map (true_bytes digest entries) paths
    pub gets : GetsAll (length entries) may paths before after

  -- the paths were requested, and the true bytes that were found were taken
  pub record TakesTrue (may : Path → Option (List ℕ) → Type 0) (paths before after : List Path)
      (v w : View) : Type 0 where
    pub gets : GetsAll (length entries) may paths before after
    pub taken : w ≡ with_true digest entries v gets.founds

  -- a round can succeed: each path is within the first entries, is the widest with its level and
  -- index, and was not requested before
  pub record MayTake (size : ℕ) (may : Path → Option (List ℕ) → Type 0) (v : View)
      (asked paths : List Path) : Type 0 where
    pub source : IsTrueSource may
    pub within : size ≤ length entries
    pub clean : NoClashAmong digest entries v size
    pub paths_are : (path : Path) → Contains paths path → IsWithin size path × IsWidest size path
    pub fresh : AreFresh asked paths

  -- the requested file was fetched. For each path with the same level and index, if it is within
  -- the first entries and the widest such path, the strings of its true bytes are held
  abbrev pub IsFetched : ℕ → View → Path → Type 0
  IsFetched size v before =
      (path : Path) → full_of before ≡ full_of path → IsWithin size path → IsWidest size path →
      HasAll v.strings (true_strings digest (take size entries) path)

  -- the rounds can succeed: the tree head and the strings of its right edge are held, and each
  -- requested file was fetched
  pub record MayWork (size : ℕ) (root : List ℕ) (may : Path → Option (List ℕ) → Type 0) (v : View)
      (asked : List Path) : Type 0 where
    pub source : IsTrueSource may
    pub within : size ≤ length entries
    pub small : size < 256 ^ 8
    pub clean : NoClashAmong digest entries v size
    pub root_is : root ≡ mth digest (take size entries)
    pub head : HasHead v size root
    pub edge : HasAll v.strings (edge_strings digest (edge_rows digest (take size entries)))
    pub fetched : (before : Path) → Contains asked before → IsFetched size v before

  -- the rounds were worked: all strings of the tree of the first entries are held, and only strings
  -- of the two trees were gained
  pub record HasWorked (size : ℕ) (may : Path → Option (List ℕ) → Type 0) (rounds : ℕ) (v w : View)
      (before after : List Path) : Type 0 where
    pub lists : List (List Path)
    pub replies : List Reply
    pub count : length lists ≡ rounds
    pub worked : AreFrontRounds digest entries size v w lists replies
    pub may_reply : MayReply may replies
    pub list : after ≡ with_replies before replies
    pub whole : HasAll w.strings (strings digest (take size entries))
    pub strings :
        (y : List ℕ) → Has w.strings y →
        Has v.strings y ⊎
        (Contains (strings digest entries) y ⊎ Contains (strings digest (take size entries)) y)

-- ---- answers of parts of a pull from a source that is true for some entries: they succeed, unless
-- memory was refused or the source failed

module _ (may : Path → Option (List ℕ) → Type 0) (before after : List Path) where
  -- the row of a tile that was not requested before is its true bytes
  abbrev pub FindsRowHonestly : Path → Result (List ℕ) PullFault → Type 0
  FindsRowHonestly path result =
      (digest : List ℕ → List ℕ) (entries : List (List ℕ)) → IsTrueSource digest entries may →
      IsTilePath (length entries) path → IsFresh before path →
      MatchResult result (λ row. IsTrueRow digest entries may path before after row) IsOutside

  -- the rows of the right edge of a size are their true bytes
  abbrev pub FindsRowsHonestly : ℕ → Result (List (List ℕ)) PullFault → Type 0
  FindsRowsHonestly size result =
      (digest : List ℕ → List ℕ) (entries : List (List ℕ)) → IsTrueSource digest entries may →
      size ≤ length entries → AreFresh before (edge_of size) →
      MatchResult result (λ rows. AreTrueRows digest entries may (edge_of size) before after rows)
      IsOutside

  -- the true bytes at a path are found and taken
  abbrev pub TakesPathHonestly : (List ℕ → List ℕ) → View → Path → View → Result Bool PullFault →
      Type 0
  TakesPathHonestly digest v path w result =
      (entries : List (List ℕ)) (size : ℕ) → MayTake digest entries size may v before (path ∷ []) →
      MatchResult result
      (λ refused. (refused ≡ false) × TakesTrue digest entries may (path ∷ []) before after v w)
      IsOutside

  -- the true bytes at several paths are found and taken
  abbrev pub TakesPathsHonestly : (List ℕ → List ℕ) → View → List Path → View →
      Result ℕ PullFault → Type 0
  TakesPathsHonestly digest v paths w result =
      (entries : List (List ℕ)) (size : ℕ) → MayTake digest entries size may v before paths →
      MatchResult result
      (λ refused. (refused ≡ 0) × TakesTrue digest entries may paths before after v w) IsOutside

  -- the rounds fetch all strings of the tree of the first entries, and refuse nothing
  abbrev pub WorksHonestly : (List ℕ → List ℕ) → ℕ → List ℕ → View → View →
      Result (ℕ × ℕ) PullFault → Type 0
  WorksHonestly digest size root v w result =
      (entries : List (List ℕ)) → MayWork digest entries size root may v before →
      MatchResult result
      (λ r. (r.1 ≡ 0) × HasWorked digest entries size may r.0 v w before after) IsOutside
