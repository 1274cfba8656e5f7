-- The files of a log in their order, and prefixes of that list.
use Rattle.std.proofs.Common.{◌≡◌, ℕ, zero, suc, ◌+◌, ◌<◌, ◌≤◌, Bool, List, [], ◌∷◌, ◌++◌, map, drop, Option, refl, sym, ap}
use Rattle.std.proofs.Common.{subst, ◌∙◌, append_assoc, zero-add, add-one, inl, inr, arith}
use Rattle.std.specs.List.{filter, range_with_len}
use Rattle.std.proofs.lemmas.Bool.{cases_lt}
use Rattle.std.proofs.lemmas.List.{append-nil, take-append-drop}
use Rattle.std.proofs.lemmas.List.FromFn.{take-map-range_with_len, map-range_with_len_more}
use Rattle.tlog_tiles.specs.declared.paths.Path.{Path}
use Rattle.mirror_sources.specs.Recorded.{AddsToRecord}
use Rattle.mirror_folders.specs.Shelf.{Put}
use Rattle.mirror_files.specs.Exports.{AddsPrefix}
use Rattle.tlog_shape.specs.Edge.{edge_index_of}
use Rattle.mirror_folders.specs.Files.{full_paths, kind_level, kind_path, kind_paths, tiles_below, tile_paths}
use Rattle.mirror_folders.specs.declared.kind.FileKind.{FileKind}
use Rattle.mirror_folders.specs.declared.kind.FileKind.TheVariants.{Tiles}
use Rattle.mirror_files.proofs.Prefixes.{files_then, files_more, files_front}

-- the first list is a prefix of the second
pub record IsPrefixOf (xs ys : List Path) : Type 0 where
  pub rest : List Path
  pub is : ys ≡ xs ++ rest

-- the paths of the first indices
abbrev pub first_paths : (ℕ → Path) → ℕ → List Path
first_paths at count = map at (range_with_len 0 count)

first_more : (at : ℕ → Path) (i : ℕ) → first_paths at (i + 1) ≡ first_paths at i ++ at i ∷ []
first_more at i = map-range_with_len_more at 0 i i (zero-add i)

first_front : (at : ℕ → Path) (low high : ℕ) → low ≤ high → IsPrefixOf (first_paths at low) (first_paths at high)
first_front at low high le = record {
  rest = drop low (first_paths at high);
  is = sym (take-append-drop low (first_paths at high))
      ∙ ap (λ (xs : List Path). xs ++ drop low (first_paths at high)) (take-map-range_with_len at 0 high low le);
}

-- the tiles of fewer levels are a prefix of those of more
tiles_front : (n low high : ℕ) → low ≤ high → IsPrefixOf (tiles_below n low) (tiles_below n high)
tiles_front n low zero le = let none : low ≡ 0 = omega arith in
    record { rest = []; is = ap (tiles_below n) (sym none) ∙ sym (append-nil (tiles_below n low)) }
tiles_front n low (suc high) le = elim (cases_lt high low) [
  | inr within ↦ (let before = tiles_front n low high within in record {
    rest = before.rest ++ kind_paths n (Tiles high);
    is = ap (λ (xs : List Path). xs ++ kind_paths n (Tiles high)) before.is
        ∙ append_assoc (tiles_below n low) before.rest (kind_paths n (Tiles high));
  })
  | inl past ↦ (let same : low ≡ suc high = omega arith in
      record { rest = []; is = ap (tiles_below n) (sym same) ∙ sym (append-nil (tiles_below n low)) })
]

tiles_are : (n : ℕ) → tile_paths n ≡ tiles_below n 8
unfolding tile_paths
tiles_are n = refl

module _ (file : Path → Put) (keep : Path → Bool) (a b c : Option (List Put)) where
  extends : (xs ys : List Path) → IsPrefixOf xs ys → AddsPrefix a c (map file (filter keep xs)) → AddsPrefix a c (map file (filter keep ys))
  extends xs ys front f =
      subst (λ (l : List Path). AddsPrefix a c (map file (filter keep l))) (sym front.is) (files_more file keep a c xs front.rest f)

  pub first_put : (at : ℕ → Path) (i : ℕ) (path : Path) → path ≡ at i → AddsToRecord a b (map file (filter keep (first_paths at i))) →
      AddsToRecord b c (map file (filter keep (path ∷ []))) → AddsToRecord a c (map file (filter keep (first_paths at (i + 1))))
  first_put at i path e p q =
      let next : AddsToRecord b c (map file (filter keep (at i ∷ []))) = subst (λ (x : Path). AddsToRecord b c (map file (filter keep (x ∷ [])))) e q in
      subst (λ (l : List Path). AddsToRecord a c (map file (filter keep l))) (sym (first_more at i))
      (files_then file keep a b c (first_paths at i) (at i ∷ []) p next)

  pub first_cut : (at : ℕ → Path) (i count : ℕ) (path : Path) →
      path ≡ at i → i < count → AddsToRecord a b (map file (filter keep (first_paths at i))) → AddsPrefix b c (map file (filter keep (path ∷ []))) →
      AddsPrefix a c (map file (filter keep (first_paths at count)))
  first_cut at i count path e lt p f =
      let next : AddsPrefix b c (map file (filter keep (at i ∷ []))) = subst (λ (x : Path). AddsPrefix b c (map file (filter keep (x ∷ [])))) e f in
      let upto : i + 1 ≤ count = omega arith in
      extends (first_paths at (i + 1)) (first_paths at count) (first_front at (i + 1) count upto)
      (subst (λ (l : List Path). AddsPrefix a c (map file (filter keep l))) (sym (first_more at i))
      (files_front file keep a b c (first_paths at i) (at i ∷ []) p next))

  pub level_put : (n level : ℕ) → AddsToRecord a b (map file (filter keep (tiles_below n level))) →
      AddsToRecord b c (map file (filter keep (kind_paths n (Tiles level)))) → AddsToRecord a c (map file (filter keep (tiles_below n (level + 1))))
  level_put n level p q =
      subst (λ k. AddsToRecord a c (map file (filter keep (tiles_below n k)))) (sym (add-one level))
      (files_then file keep a b c (tiles_below n level) (kind_paths n (Tiles level)) p q)

  pub level_cut : (n level : ℕ) → level < 8 → AddsToRecord a b (map file (filter keep (tiles_below n level))) →
      AddsPrefix b c (map file (filter keep (kind_paths n (Tiles level)))) → AddsPrefix a c (map file (filter keep (tile_paths n)))
  level_cut n level lt p f =
      let upto : suc level ≤ 8 = omega arith in
      subst (λ (l : List Path). AddsPrefix a c (map file (filter keep l))) (sym (tiles_are n))
      (extends (tiles_below n (suc level)) (tiles_below n 8) (tiles_front n (suc level) 8 upto)
      (files_front file keep a b c (tiles_below n level) (kind_paths n (Tiles level)) p f))

module _ (file : Path → Put) (keep : Path → Bool) (a b : Option (List Put)) where
  pub all_levels_put : (n level : ℕ) → level ≡ 8 → AddsToRecord a b (map file (filter keep (tiles_below n level))) →
      AddsToRecord a b (map file (filter keep (tile_paths n)))
  all_levels_put n level e p =
      subst (λ (l : List Path). AddsToRecord a b (map file (filter keep l))) (ap (tiles_below n) e ∙ sym (tiles_are n)) p

  pub full_put : (n : ℕ) (kind : FileKind) (index : ℕ) → index ≡ edge_index_of n (kind_level kind) →
      AddsToRecord a b (map file (filter keep (first_paths (λ i. kind_path kind i 256) index))) →
      AddsToRecord a b (map file (filter keep (full_paths n kind)))
  full_put n kind index e p =
      subst (λ m. AddsToRecord a b (map file (filter keep (first_paths (λ i. kind_path kind i 256) m)))) e p
