-- Paths of files in a tiled log (C2SP tlog-tiles, "Parameters"): words of `tlog_tiles` that many
-- contracts above cite.
pub use Rattle.tlog_tiles.specs.Cut.{full_of, width_named}
