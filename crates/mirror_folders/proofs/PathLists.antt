-- The paths of a log's files, listed step by step.
use Rattle.std.proofs.Common.{◌≡◌, ℕ, ◌+◌, List, [], ◌∷◌, ◌++◌, map, sym, ap, ◌∙◌, append_assoc, zero-add}
use Rattle.std.proofs.lemmas.List.{append-nil}
use Rattle.tlog_shape.specs.Edge.{edge_index_of}
use Rattle.std.specs.List.{range_with_len}
use Rattle.std.proofs.lemmas.List.FromFn.{map-range_with_len_more}
use Rattle.tlog_tiles.specs.declared.paths.Path.{Path}
use Rattle.tlog_tiles.specs.declared.paths.Path.TheVariants.{Checkpoint}
use Rattle.mirror_folders.specs.Files.{full_paths, kind_level, kind_path, kind_paths, partial_path, paths_of}
use Rattle.mirror_folders.specs.Files.{tiles_below, tile_paths}
use Rattle.mirror_folders.specs.declared.kind.FileKind.{FileKind}
use Rattle.mirror_folders.specs.declared.kind.FileKind.TheVariants.{Bundles}

-- one more full file
pub full_more : (before now : List Path) (kind : FileKind) (index : ℕ) →
    now ≡ before ++ map (λ i. kind_path kind i 256) (range_with_len 0 index) →
    now ++ kind_path kind index 256 ∷ [] ≡ before ++ map (λ i. kind_path kind i 256) (range_with_len 0 (index + 1))
full_more before now kind index e =
    let at : ℕ → Path = λ i. kind_path kind i 256 in
    ap (λ (xs : List Path). xs ++ at index ∷ []) e
    ∙ append_assoc before (map at (range_with_len 0 index)) (at index ∷ [])
    ∙ ap (λ (xs : List Path). before ++ xs) (sym (map-range_with_len_more at 0 index index (zero-add index)))

-- all full files of a kind, and the partial one, if there is one
module _ (n : ℕ) (kind : FileKind) (index : ℕ) (before now : List Path) (is_edge : index ≡ edge_index_of n (kind_level kind))
    (is_now : now ≡ before ++ map (λ i. kind_path kind i 256) (range_with_len 0 index)) where
  full_listed : now ≡ before ++ full_paths n kind
  full_listed = is_now ∙ ap (λ m. before ++ map (λ i. kind_path kind i 256) (range_with_len 0 m)) is_edge

  pub kind_listed : (path : Path) (all : List Path) → partial_path n kind ≡ path ∷ [] → all ≡ now ++ path ∷ [] →
      all ≡ before ++ kind_paths n kind
  kind_listed path all is_partial e =
      e ∙ (ap (λ (xs : List Path). xs ++ path ∷ []) full_listed
      ∙ (append_assoc before (full_paths n kind) (path ∷ [])
      ∙ ap (λ (xs : List Path). before ++ (full_paths n kind ++ xs)) (sym is_partial)))

  pub kind_full : partial_path n kind ≡ [] → now ≡ before ++ kind_paths n kind
  kind_full none =
      full_listed ∙ ap (λ (xs : List Path). before ++ xs)
      (sym (append-nil (full_paths n kind)) ∙ ap (λ (xs : List Path). full_paths n kind ++ xs) (sym none))

all_levels : (n level : ℕ) → level ≡ 8 → tiles_below n level ≡ tile_paths n
unfolding tile_paths
all_levels n level e = ap (tiles_below n) e

-- every level, the bundles and the checkpoint are all files
pub all_listed : (n level : ℕ) (tiles files all : List Path) → level ≡ 8 → tiles ≡ tiles_below n level →
    files ≡ tiles ++ kind_paths n Bundles → all ≡ files ++ Checkpoint ∷ [] → all ≡ paths_of n
all_listed n level tiles files all e p q r =
    r ∙ ap (λ (xs : List Path). xs ++ Checkpoint ∷ [])
    (q ∙ ap (λ (xs : List Path). xs ++ kind_paths n Bundles) (p ∙ all_levels n level e))
