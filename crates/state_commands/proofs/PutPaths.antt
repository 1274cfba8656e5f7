-- Files that are put in the order of their paths, until one is not put.
use Rattle.std.proofs.Common.{◌≡◌, ℕ, ◌+◌, ◌<◌, List, [], ◌∷◌, ◌++◌, length, map, take, drop, get_or, Option, sym, ap, subst}
use Rattle.std.proofs.Common.{◌∙◌, Contains, add-one, arith}
use Rattle.std.proofs.Math.Seq.{take-suc}
use Rattle.std.proofs.lemmas.List.{length-map, map-append, take-append-drop}
use Rattle.tlog_tiles.specs.declared.paths.Path.TheVariants.{Checkpoint}
use Rattle.mirror_folders.specs.Files.{paths_of}
use Rattle.mirror_folders.specs.FileLaws.{FilesAreAll}
use Rattle.tlog_tiles.specs.declared.paths.Path.{Path}
use Rattle.mirror_sources.specs.Recorded.{AddsToRecord}
use Rattle.mirror_folders.specs.Shelf.{Put}
use Rattle.mirror_files.specs.Exports.{AddsPrefix}
use Rattle.mirror_files.proofs.Prefixes.{adds_then, front_more, front_then}

module _ (file : Path → Put) (a b c : Option (List Put)) (paths : List Path) (i : ℕ) (d : Path)
    (lt : i < length paths) where
  next : map file (take i paths) ++ map file (get_or paths i d ∷ []) ≡ map file (take (i + 1) paths)
  next =
      sym (map-append file (take i paths) (get_or paths i d ∷ []))
      ∙ ap (map file) (sym (ap (λ n. take n paths) (add-one i) ∙ take-suc paths i d lt))

  -- one more file was put
  pub path_put : AddsToRecord a b (map file (take i paths)) → AddsToRecord b c (map file (get_or paths i d ∷ [])) →
      AddsToRecord a c (map file (take (i + 1) paths))
  path_put p q = subst (λ (l : List Put). AddsToRecord a c l) next
      (adds_then a b c (map file (take i paths)) (map file (get_or paths i d ∷ [])) p q)

  -- the next file was not put
  pub path_cut : AddsToRecord a b (map file (take i paths)) → AddsPrefix b c (map file (get_or paths i d ∷ [])) →
      AddsPrefix a c (map file paths)
  path_cut p f =
      let front : AddsPrefix a c (map file (take (i + 1) paths)) =
      subst (λ (l : List Put). AddsPrefix a c l) next
      (front_then a b c (map file (take i paths)) (map file (get_or paths i d ∷ [])) p f) in
      subst (λ (l : List Put). AddsPrefix a c l)
      (sym (map-append file (take (i + 1) paths) (drop (i + 1) paths)) ∙ ap (map file) (take-append-drop (i + 1) paths))
      (front_more a c (map file (take (i + 1) paths)) (map file (drop (i + 1) paths)) front)

-- the files include a checkpoint
pub some_files : FilesAreAll → (file : Path → Put) (n : ℕ) → 0 < length (map file (paths_of n))
some_files all file n =
    let has : Contains (paths_of n) Checkpoint = (all n Checkpoint).1 tt in
    omega (arith, length-map (paths_of n) file, has.1)
