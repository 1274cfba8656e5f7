-- The replies of a source, one for each get.
use Rattle.std.specs.Prelude.{ℕ, List, [], ◌∷◌, map, Option, ⊤}
use Rattle.tlog_tiles.specs.declared.paths.Path.{Path}

-- a get of a path, and the bytes that were found there, or None
pub record Reply : Type 0 where
  pub path : Path
  pub found : Option (List ℕ)

-- the reply to a get of that path
abbrev pub reply : Path → Option (List ℕ) → Reply
reply path found = record { path = path; found = found }

-- the paths that were requested
abbrev pub asked_paths : List Reply → List Path
asked_paths replies = map (λ r. r.path) replies

-- the source may give each of these replies
abbrev pub MayReply : (Path → Option (List ℕ) → Type 0) → List Reply → Type 0
MayReply may [] = ⊤
MayReply may (r ∷ rs) = may r.path r.found × MayReply may rs
