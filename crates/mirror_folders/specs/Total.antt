-- The number of files that are put, level by level, for a log that had m entries and has n. Only private functions cite
-- these words: the number in all is the length of the list of these files.
use Rattle.std.specs.Prelude.{ℕ, zero, suc, ◌+◌, ◌-◌, ◌==◌, if◌then◌else◌}
use Rattle.tlog_shape.specs.Edge.{width_of, edge_index_of}
use Rattle.mirror_folders.specs.Since.{width_at}

-- the number of new partial files of a level, 0 or 1
abbrev pub new_partial : ℕ → ℕ → ℕ → ℕ
new_partial m n level =
    if width_of n level == 0 then 0
    else if width_of n level == width_at m level (edge_index_of n level) then 0 else 1

-- the number of new files of a level, full ones and the partial one
abbrev pub new_at : ℕ → ℕ → ℕ → ℕ
new_at m n level = (edge_index_of n level - edge_index_of m level) + new_partial m n level

-- the number of new files of the levels below a level
abbrev pub new_below : ℕ → ℕ → ℕ → ℕ
new_below m n zero = 0
new_below m n (suc level) = new_below m n level + new_at m n level
