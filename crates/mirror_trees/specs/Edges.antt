-- Answers about the edge rows of a tree head. Only the contracts of private functions cite these words, apart from
-- `JudgesEdge`.
use Rattle.std.specs.Prelude.{◌≡◌, ◌≢◌, ℕ, ◌*◌, List, length, map, Result, Ok, Err, ⊤}
use Rattle.mirror_model.specs.Edge.{edge_root}
use Rattle.mirror_model.specs.Item.{row_of, HasEdgeRows}
use Rattle.mirror_model.specs.Refusals.{HasEdgeCount, HasEdgeLengths}
use Rattle.mirror_model.specs.declared.fault.TakeFault.{TakeFault}
use Rattle.mirror_model.specs.declared.fault.TakeFault.TheVariants as taking

-- each row has 32 bytes for each hash of its width
abbrev pub HaveWidths : List ℕ → List (List ℕ) → Type 0
HaveWidths widths rows = map length rows ≡ map (λ width. 32 * width) widths

-- each answer of a reader of rows with those widths is right: the rows have the widths and these hashes, or they do not
-- have the widths
abbrev pub ReadsRows : List ℕ → List (List ℕ) → Result (List (List (List ℕ))) TakeFault → Type 0
ReadsRows widths rows (Ok hashes) = HaveWidths widths rows × (hashes ≡ map row_of rows)
ReadsRows widths rows (Err (taking.Note fault)) = ⊥
ReadsRows widths rows (Err (taking.Checkpoint fault)) = ⊥
ReadsRows widths rows (Err taking.OtherOrigin) = ⊥
ReadsRows widths rows (Err taking.NoTrustedSignature) = ⊥
ReadsRows widths rows (Err taking.EdgeCount) = ⊥
ReadsRows widths rows (Err taking.EdgeLength) = ¬ HaveWidths widths rows
ReadsRows widths rows (Err taking.EdgeMismatch) = ⊥
ReadsRows widths rows (Err taking.RowLength) = ⊥
ReadsRows widths rows (Err taking.BundleShort) = ⊥
ReadsRows widths rows (Err taking.BundleLong) = ⊥
ReadsRows widths rows (Err taking.Collision) = ⊥
ReadsRows widths rows (Err taking.OutOfMemory) = ⊤

-- each answer of a reader of edge rows is right: there are as many rows as the size has partial tiles, with their
-- widths
abbrev pub ReadsEdge : ℕ → List (List ℕ) → Result (List (List (List ℕ))) TakeFault → Type 0
ReadsEdge size rows (Ok hashes) = HasEdgeLengths size rows × (hashes ≡ map row_of rows)
ReadsEdge size rows (Err (taking.Note fault)) = ⊥
ReadsEdge size rows (Err (taking.Checkpoint fault)) = ⊥
ReadsEdge size rows (Err taking.OtherOrigin) = ⊥
ReadsEdge size rows (Err taking.NoTrustedSignature) = ⊥
ReadsEdge size rows (Err taking.EdgeCount) = ¬ HasEdgeCount size rows
ReadsEdge size rows (Err taking.EdgeLength) =
    HasEdgeCount size rows × (¬ HasEdgeLengths size rows)
ReadsEdge size rows (Err taking.EdgeMismatch) = ⊥
ReadsEdge size rows (Err taking.RowLength) = ⊥
ReadsEdge size rows (Err taking.BundleShort) = ⊥
ReadsEdge size rows (Err taking.BundleLong) = ⊥
ReadsEdge size rows (Err taking.Collision) = ⊥
ReadsEdge size rows (Err taking.OutOfMemory) = ⊤

-- each answer of taking edge rows is right: the rows have the lengths for the size, and lead to the root. Only such
-- rows give a collision
abbrev pub JudgesEdge : (List ℕ → List ℕ) → ℕ → List ℕ → List (List ℕ) →
    Result (Unit {0}) TakeFault → Type 0
JudgesEdge digest size root rows (Ok done) = HasEdgeRows digest size root rows
JudgesEdge digest size root rows (Err (taking.Note fault)) = ⊥
JudgesEdge digest size root rows (Err (taking.Checkpoint fault)) = ⊥
JudgesEdge digest size root rows (Err taking.OtherOrigin) = ⊥
JudgesEdge digest size root rows (Err taking.NoTrustedSignature) = ⊥
JudgesEdge digest size root rows (Err taking.EdgeCount) = ¬ HasEdgeCount size rows
JudgesEdge digest size root rows (Err taking.EdgeLength) =
    HasEdgeCount size rows × (¬ HasEdgeLengths size rows)
JudgesEdge digest size root rows (Err taking.EdgeMismatch) =
    HasEdgeLengths size rows × (edge_root digest (map row_of rows) ≢ root)
JudgesEdge digest size root rows (Err taking.RowLength) = ⊥
JudgesEdge digest size root rows (Err taking.BundleShort) = ⊥
JudgesEdge digest size root rows (Err taking.BundleLong) = ⊥
JudgesEdge digest size root rows (Err taking.Collision) = HasEdgeRows digest size root rows
JudgesEdge digest size root rows (Err taking.OutOfMemory) = ⊤
