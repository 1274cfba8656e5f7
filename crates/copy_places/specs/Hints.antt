-- Which files a hint names.
use Rattle.std.specs.Prelude.{◌≡◌, ◌≤◌}
use Rattle.tlog_tiles.specs.declared.paths.Path.{Path}
use Rattle.tlog_tiles.specs.declared.paths.Path.TheVariants.{Checkpoint, Entries, Tile}

-- a full bundle, or a full tile above level 0: those of level 0 are made from bundles
abbrev pub IsHinted : Path → Type 0
IsHinted Checkpoint = ⊥
IsHinted (Entries index width) = width ≡ 256
IsHinted (Tile level index width) = (1 ≤ level) × (width ≡ 256)
