-- The files of a tree are within it.
use Rattle.std.proofs.Common.{◌≡◌, ◌≢◌, ◌⊎◌, ℕ, ◌+◌, ◌*◌, ◌/◌, ◌^◌, ◌<◌, ◌≤◌, [], ◌∷◌, Bool, true, false, nat_eq}
use Rattle.std.proofs.Common.{if◌then◌else◌, ap, ◌∙◌, inl, inr, arith}
use Rattle.std.proofs.lemmas.Bool.{eq-eqb}
use Rattle.std.proofs.lemmas.Bool.Decides.{eqb_tells}
use Rattle.std.proofs.Math.Nat.{le-div_iff_mul-le}
use Rattle.tlog_shape.specs.Edge.{width_of, edge_index_of}
use Rattle.tlog_shape.proofs.Levels.{level_positive, shift_level}
use Rattle.tlog_tiles.specs.declared.paths.Path.{Path}
use Rattle.tlog_tiles.specs.Tiles.{IsTileWithin, IsWithin}
use Rattle.mirror_folders.specs.Files.{kind_path, kind_level, partial_path}
use Rattle.mirror_folders.specs.declared.kind.FileKind.{FileKind}
use Rattle.mirror_folders.specs.declared.kind.FileKind.TheVariants.{Tiles, Bundles}

pub tile_within : (n level index width : ℕ) → level ≤ 7 → 0 < width → width ≤ 256 →
    256 * index + width ≤ n / 256 ^ level → IsTileWithin n level index width
tile_within n level index width fits some upto h =
    record {
      level_fits = fits;
      some = omega arith;
      upto = upto;
      within = (le-div_iff_mul-le (level_positive level)).0 h;
    }

pub full_tile : (n level index : ℕ) → level ≤ 7 → index < edge_index_of n level → IsTileWithin n level index 256
full_tile n level index fits lt =
    let shift = shift_level n level in tile_within n level index 256 fits (omega arith) (omega arith) (omega arith)

pub partial_tile : (n level : ℕ) → level ≤ 7 → width_of n level ≢ 0 →
    IsTileWithin n level (edge_index_of n level) (width_of n level)
partial_tile n level fits some =
    let shift = shift_level n level in
    let below : width_of n level < 256 = omega arith in
    tile_within n level (edge_index_of n level) (width_of n level) fits (omega arith) (omega arith) (omega arith)

pub full_within : (n : ℕ) (kind : FileKind) (index : ℕ) → kind_level kind ≤ 7 →
    index < edge_index_of n (kind_level kind) → IsWithin n (kind_path kind index 256)
full_within n (Tiles level) index fits lt = full_tile n level index fits lt
full_within n Bundles index fits lt = full_tile n 0 index fits lt

pub partial_within : (n : ℕ) (kind : FileKind) → kind_level kind ≤ 7 → width_of n (kind_level kind) ≢ 0 →
    IsWithin n (kind_path kind (edge_index_of n (kind_level kind)) (width_of n (kind_level kind)))
partial_within n (Tiles level) fits some = partial_tile n level fits some
partial_within n Bundles fits some = partial_tile n 0 fits some

partial_by : (n : ℕ) (kind : FileKind) (b : Bool) → nat_eq (width_of n (kind_level kind)) 0 ≡ b → partial_path n kind
    ≡ (if b then [] else kind_path kind (edge_index_of n (kind_level kind)) (width_of n (kind_level kind)) ∷ [])
partial_by n kind b e = ap (λ (t : Bool). if t then [] else kind_path kind (edge_index_of n (kind_level kind))
    (width_of n (kind_level kind)) ∷ []) e

pub partial_none : (n : ℕ) (kind : FileKind) → width_of n (kind_level kind) ≡ 0 → partial_path n kind ≡ []
partial_none n kind e = partial_by n kind true (eq-eqb (width_of n (kind_level kind)) 0 e)

pub partial_some : (n : ℕ) (kind : FileKind) → width_of n (kind_level kind) ≢ 0 →
    partial_path n kind ≡ kind_path kind (edge_index_of n (kind_level kind)) (width_of n (kind_level kind)) ∷ []
partial_some n kind some = elim (eqb_tells (width_of n (kind_level kind)) 0)
    [ inl none ↦ absurd (some none.1) | inr found ↦ partial_by n kind false found.0 ]

-- the path that is put last of a kind, by the numbers of the code
pub path_is : (n size : ℕ) (kind : FileKind) (level index width : ℕ) (path : Path) → size ≡ n →
    level ≡ kind_level kind →
    index ≡ edge_index_of size level → width ≡ width_of size level → path ≡ kind_path kind index width →
    path ≡ kind_path kind (edge_index_of n (kind_level kind)) (width_of n (kind_level kind))
path_is n size kind level index width path at_size at_level at_index at_width e =
    let i : index ≡ edge_index_of n (kind_level kind) =
    at_index ∙ (ap (λ s. edge_index_of s level) at_size ∙ ap (edge_index_of n) at_level) in
    let w : width ≡ width_of n (kind_level kind) =
    at_width ∙ (ap (λ s. width_of s level) at_size ∙ ap (width_of n) at_level) in
    e ∙ (λ k. kind_path kind (i k) (w k))

pub index_is : (n size : ℕ) (kind : FileKind) (level index : ℕ) → size ≡ n → level ≡ kind_level kind →
    index ≡ edge_index_of size level → index ≡ edge_index_of n (kind_level kind)
index_is n size kind level index at_size at_level at_index =
    at_index ∙ (ap (λ s. edge_index_of s level) at_size ∙ ap (edge_index_of n) at_level)

pub width_is : (n size : ℕ) (kind : FileKind) (level width : ℕ) → size ≡ n → level ≡ kind_level kind →
    width ≡ width_of size level → width ≡ width_of n (kind_level kind)
width_is n size kind level width at_size at_level at_width =
    at_width ∙ (ap (λ s. width_of s level) at_size ∙ ap (width_of n) at_level)

pub partial_cases : (n : ℕ) (kind : FileKind) → (partial_path n kind ≡ [])
    ⊎ (partial_path n kind ≡ kind_path kind (edge_index_of n (kind_level kind)) (width_of n (kind_level kind)) ∷ [])
partial_cases n kind = elim (eqb_tells (width_of n (kind_level kind)) 0)
    [ inl none ↦ inl (partial_by n kind true none.0) | inr found ↦ inr (partial_by n kind false found.0) ]
