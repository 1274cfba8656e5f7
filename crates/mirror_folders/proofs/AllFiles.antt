-- The list of a log's files has all of them.
use Rattle.std.proofs.Common.{◌≡◌, ◌≢◌, ℕ, zero, suc, ◌+◌, ◌*◌, ◌/◌, ◌^◌, ◌<◌, ◌≤◌, List, [], ◌∷◌, ◌++◌}
use Rattle.std.proofs.Common.{length, sym, subst, ◌∙◌, zero-add, inl, inr, arith}
use Rattle.std.specs.List.{Contains}
use Rattle.std.proofs.Math.Nat.{le-div_iff_mul-le}
use Rattle.std.proofs.lemmas.Bool.{cases_lt}
use Rattle.std.proofs.lemmas.Bool.Decides.{eqb_tells}
use Rattle.std.proofs.lemmas.List.Elements.{Contains-append_cases, Contains-append_left, Contains-append_right}
use Rattle.std.proofs.lemmas.List.Elements.{Contains-push, Contains-push_cases}
use Rattle.std.proofs.lemmas.List.FromFn.{get_or-map-range_with_len, length-map-range_with_len}
use Rattle.tlog_shape.specs.Edge.{width_of, edge_index_of}
use Rattle.tlog_shape.proofs.Levels.{level_positive}
use Rattle.tlog_tiles.specs.declared.paths.Path.{Path}
use Rattle.tlog_tiles.specs.declared.paths.Path.TheVariants.{Checkpoint, Tile, Entries}
use Rattle.tlog_tiles.specs.Tiles.{IsTileWithin}
use Rattle.mirror_folders.specs.Files.{full_paths, kind_level, kind_path, kind_paths, partial_path, paths_of}
use Rattle.mirror_folders.specs.Files.{tile_paths, tiles_below}
use Rattle.mirror_folders.specs.FileLaws.{FilesAreAll, IsFileOf, IsWidestIn}
use Rattle.mirror_folders.specs.declared.kind.FileKind.{FileKind}
use Rattle.mirror_folders.specs.declared.kind.FileKind.TheVariants.{Tiles, Bundles}
use Rattle.mirror_folders.proofs.FilePaths.{full_tile, partial_none, partial_some, partial_tile, tile_within}
use Rattle.tlog_tiles.proofs.EdgeLemmas.{hashes_of, contains_none, contains_one}

-- ---- levels and indices

pub upto_hashes : (n level index width : ℕ) → IsTileWithin n level index width → 256 * index + width ≤ n / 256 ^ level
upto_hashes n level index width h = (le-div_iff_mul-le (level_positive level)).1 h.within

pub full_widest : (n level index : ℕ) → level ≤ 7 → index < edge_index_of n level → IsWidestIn n level index 256
full_widest n level index fits lt =
    record { within = full_tile n level index fits lt; widest = λ wider more h. absurd (omega (arith, h.upto)) }

pub partial_widest : (n level : ℕ) → level ≤ 7 → width_of n level ≢ 0 →
    IsWidestIn n level (edge_index_of n level) (width_of n level)
partial_widest n level fits some =
    let hashes = hashes_of n level in
    record {
      within = partial_tile n level fits some;
      widest = λ wider more h. absurd (omega (arith, hashes, upto_hashes n level (edge_index_of n level) wider h));
    }

pub record IsPartial (n level index width : ℕ) : Type 0 where
  pub index_is : index ≡ edge_index_of n level
  pub width_is : width ≡ width_of n level
  pub some : width_of n level ≢ 0

pub record IsFull (n level index width : ℕ) : Type 0 where
  pub below : index < edge_index_of n level
  pub width_is : width ≡ 256

pub widest_before : (n level index width : ℕ) → IsWidestIn n level index width → index < edge_index_of n level →
    IsFull n level index width
widest_before n level index width h lt =
    let upto = h.within.upto in
    elim (cases_lt width 256) [
      | inl narrow ↦ absurd (h.widest 256 narrow (full_tile n level index h.within.level_fits lt))
      | inr wide ↦ record { below = lt; width_is = omega arith }
    ]

pub widest_last : (n level index width : ℕ) → IsWidestIn n level index width → edge_index_of n level ≤ index →
    IsPartial n level index width
widest_last n level index width h ge =
    let hashes = hashes_of n level in
    let upto = upto_hashes n level index width h.within in
    let some = h.within.some in
    let narrow : width_of n level < 256 = omega arith in
    let at : index ≡ edge_index_of n level = omega arith in
    let least : width ≤ width_of n level = omega arith in
    let within : IsTileWithin n level index (width_of n level) =
    tile_within n level index (width_of n level) h.within.level_fits (omega arith) (omega arith) (omega arith) in
    elim (cases_lt width (width_of n level)) [
      | inl less ↦ absurd (h.widest (width_of n level) less within)
      | inr most ↦ record { index_is = at; width_is = omega arith; some = λ none. absurd (omega arith) }
    ]

-- ---- the files of a kind

file_by : (n : ℕ) (kind : FileKind) (index width : ℕ) → IsWidestIn n (kind_level kind) index width →
    IsFileOf n (kind_path kind index width)
file_by n (Tiles level) index width h = h
file_by n Bundles index width h = h

full_is : (n : ℕ) (kind : FileKind) (path : Path) → kind_level kind ≤ 7 → Contains (full_paths n kind) path →
    IsFileOf n path
full_is n kind path fits h =
    let at : ℕ → Path = λ index. kind_path kind index 256 in
    let count = edge_index_of n (kind_level kind) in
    let k = h.0 in
    let within : k < count = subst (λ m. k < m) (length-map-range_with_len at 0 count) h.1 in
    let e : at k ≡ path = sym (get_or-map-range_with_len at 0 count k k path within (zero-add k)) ∙ h.2 in
    subst (IsFileOf n) e (file_by n kind k 256 (full_widest n (kind_level kind) k fits within))

partial_is : (n : ℕ) (kind : FileKind) (path : Path) → kind_level kind ≤ 7 → Contains (partial_path n kind) path →
    IsFileOf n path
partial_is n kind path fits h = elim (eqb_tells (width_of n (kind_level kind)) 0) [
  | inl none ↦ absurd (contains_none path (subst (λ (xs : List Path). Contains xs path) (partial_none n kind none.1) h))
  | inr some ↦ subst (IsFileOf n)
      (contains_one _ path (subst (λ (xs : List Path). Contains xs path) (partial_some n kind some.1) h))
      (file_by n kind _ _ (partial_widest n (kind_level kind) fits some.1))
]

kind_is : (n : ℕ) (kind : FileKind) (path : Path) → kind_level kind ≤ 7 → Contains (kind_paths n kind) path →
    IsFileOf n path
kind_is n kind path fits h =
    elim (Contains-append_cases (full_paths n kind) (partial_path n kind) path h)
    [ inl full ↦ full_is n kind path fits full | inr last ↦ partial_is n kind path fits last ]

full_has : (n : ℕ) (kind : FileKind) (index : ℕ) → index < edge_index_of n (kind_level kind) →
    Contains (full_paths n kind) (kind_path kind index 256)
full_has n kind index lt =
    let at : ℕ → Path = λ i. kind_path kind i 256 in
    let count = edge_index_of n (kind_level kind) in
    let within : index < length (full_paths n kind) =
    subst (λ m. index < m) (sym (length-map-range_with_len at 0 count)) lt in
    (index, within, get_or-map-range_with_len at 0 count index index (at index) lt (zero-add index))

partial_has : (n : ℕ) (kind : FileKind) → width_of n (kind_level kind) ≢ 0 →
    Contains (partial_path n kind) (kind_path kind (edge_index_of n (kind_level kind)) (width_of n (kind_level kind)))
partial_has n kind some =
    subst (λ (xs : List Path). Contains xs
    (kind_path kind (edge_index_of n (kind_level kind)) (width_of n (kind_level kind))))
    (sym (partial_some n kind some))
    (Contains-push [] (kind_path kind (edge_index_of n (kind_level kind)) (width_of n (kind_level kind))))

kind_has : (n : ℕ) (kind : FileKind) (index width : ℕ) → IsWidestIn n (kind_level kind) index width →
    Contains (kind_paths n kind) (kind_path kind index width)
kind_has n kind index width h = elim (cases_lt index (edge_index_of n (kind_level kind))) [
  | inl before ↦ (let full = widest_before n (kind_level kind) index width h before in
      Contains-append_left (full_paths n kind) (partial_path n kind) (kind_path kind index width)
      (subst (λ w. Contains (full_paths n kind) (kind_path kind index w)) (sym full.width_is)
      (full_has n kind index before)))
  | inr after ↦ (let last = widest_last n (kind_level kind) index width h after in
      let same : kind_path kind (edge_index_of n (kind_level kind)) (width_of n (kind_level kind))
      ≡ kind_path kind index width = λ i. kind_path kind (sym last.index_is i) (sym last.width_is i) in
      Contains-append_right (full_paths n kind) (partial_path n kind) (kind_path kind index width)
      (subst (λ (path : Path). Contains (partial_path n kind) path) same (partial_has n kind last.some)))
]

-- ---- all files

below_is : (n levels : ℕ) (path : Path) → levels ≤ 8 → Contains (tiles_below n levels) path → IsFileOf n path
below_is n zero path fits h = absurd (contains_none path h)
below_is n (suc level) path fits h =
    elim (Contains-append_cases (tiles_below n level) (kind_paths n (Tiles level)) path h) [
      | inl lower ↦ below_is n level path (omega arith) lower
      | inr at ↦ kind_is n (Tiles level) path (omega arith) at
    ]

below_has : (n level levels : ℕ) (path : Path) → level < levels → Contains (kind_paths n (Tiles level)) path →
    Contains (tiles_below n levels) path
below_has n level zero path p h = absurd (omega arith)
below_has n level (suc top) path p h = elim (eqb_tells level top) [
  | inl same ↦ Contains-append_right (tiles_below n top) (kind_paths n (Tiles top)) path
      (subst (λ k. Contains (kind_paths n (Tiles k)) path) same.1 h)
  | inr other ↦ Contains-append_left (tiles_below n top) (kind_paths n (Tiles top)) path
      (below_has n level top path (let apart = other.1 in omega arith) h)
]

all_are : (n : ℕ) (path : Path) → Contains (paths_of n) path → IsFileOf n path
unfolding tile_paths
all_are n path h = elim (Contains-push_cases (tile_paths n ++ kind_paths n Bundles) Checkpoint path h) [
  | inl files ↦ elim (Contains-append_cases (tile_paths n) (kind_paths n Bundles) path files)
      [ inl tile ↦ below_is n 8 path (omega arith) tile | inr bundle ↦ kind_is n Bundles path (omega arith) bundle ]
  | inr last ↦ subst (IsFileOf n) last tt
]

all_has : (n : ℕ) (path : Path) → IsFileOf n path → Contains (paths_of n) path
unfolding tile_paths
all_has n Checkpoint h = Contains-push (tile_paths n ++ kind_paths n Bundles) Checkpoint
all_has n (Tile level index width) h =
    let fits : level < 8 = omega (arith, h.within.level_fits) in
    Contains-append_left (tile_paths n ++ kind_paths n Bundles) (Checkpoint ∷ []) (Tile level index width)
    (Contains-append_left (tile_paths n) (kind_paths n Bundles) (Tile level index width)
    (below_has n level 8 (Tile level index width) fits (kind_has n (Tiles level) index width h)))
all_has n (Entries index width) h =
    Contains-append_left (tile_paths n ++ kind_paths n Bundles) (Checkpoint ∷ []) (Entries index width)
    (Contains-append_right (tile_paths n) (kind_paths n Bundles) (Entries index width)
    (kind_has n Bundles index width h))

pub files_are_all : FilesAreAll
files_are_all n path = (all_are n path, all_has n path)
