-- The second segment of a path.
use Rattle.std.specs.Prelude.{◌≡◌, ℕ, ◌+◌, ◌≤◌, List, [], ◌∷◌, codes}
use Rattle.tlog_tiles.specs.declared.paths.reading.Kind.{Kind}
use Rattle.tlog_tiles.specs.declared.paths.reading.Kind.TheVariants.{Hashes, Bundles}

-- the second segment is the name of that kind of file
abbrev pub IsOfKind : List ℕ → Kind → Type 0
IsOfKind second (Hashes level) = (level ≤ 7) × (second ≡ (48 + level) ∷ [])
IsOfKind second Bundles = second ≡ codes "entries"
