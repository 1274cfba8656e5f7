-- Sets of sizes with hashes.
use Rattle.std.specs.Prelude.{ℕ, List, map}
use Rattle.std.specs.FinSet.{from_list}
use Rattle.mirror_model.specs.Forks.{Point}
use Rattle.mirror_model.specs.Marks.{Points}

-- a size and a hash, from a pair of the code
abbrev pub point_of : ℕ × List ℕ → Point
point_of p = record { size = p.0; root = p.1 }

-- the set of these sizes and hashes
abbrev pub points_of : List (ℕ × List ℕ) → Points
points_of keys = from_list (map point_of keys)
