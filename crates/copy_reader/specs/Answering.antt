-- The replies of a source, and the files of a log (C2SP tlog-tiles, "Merkle Tree", "Log Entries" and "Partial Tiles").
use Rattle.std.specs.Prelude.{◌⊎◌, ℕ, ◌<◌, ◌≤◌, List, ◌++◌, Contains, Option, Some, None}
use Rattle.tlog_shape.specs.Edge.{IsTile}
use Rattle.tlog_tiles.specs.declared.paths.Path.{Path}
use Rattle.tlog_tiles.specs.declared.paths.Path.TheVariants.{Checkpoint, Tile, Entries}
use Rattle.mirror_sources.specs.Files.{full_of, width_named}
use Rattle.mirror_sources.specs.Replies.{Reply, reply, asked_paths, MayReply}
use Rattle.mirror_sources.specs.Source.{StaysWithin}
use Rattle.mirror_sources.specs.Recorded.{AddsToRecord}

-- a tree of n entries has the tile or the bundle: a full one, or the partial one of its level
abbrev pub IsTreeFile : ℕ → Path → Type 0
IsTreeFile n Checkpoint = ⊥
IsTreeFile n (Tile level index width) = (level ≤ 7) × IsTile n level index width
IsTreeFile n (Entries index width) = IsTile n 0 index width

-- the reply to a partial path was None, and the reply to its full path begins with these bytes
pub record GaveWay (replies : List Reply) (path : Path) (bytes : List ℕ) : Type 0 where
  pub partial : width_named path < 256
  pub rest : List ℕ
  pub none : Contains replies (reply path None)
  pub full : Contains replies (reply (full_of path) (Some (bytes ++ rest)))

-- these bytes were the reply to the path. Or the path is partial, and its full file replaces it
abbrev pub IsHad : List Reply → Path → List ℕ → Type 0
IsHad replies path bytes = Contains replies (reply path (Some bytes)) ⊎ GaveWay replies path bytes

-- the requests to the source were for the paths of these replies, and it may have given each of them
pub record AreGiven (may later : Path → Option (List ℕ) → Type 0) (old new : Option (List Path)) (replies : List Reply)
    : Type 0 where
  pub stays : StaysWithin may later
  pub may_reply : MayReply may replies
  pub recorded : AddsToRecord old new (asked_paths replies)
