-- Files that are put in order, all of them or a prefix.
use Rattle.std.proofs.Common.{◌≡◌, ◌+◌, ◌<◌, ◌≤◌, List, [], ◌∷◌, ◌++◌, length, map, take, Option, Some, None, Result, Ok}
use Rattle.std.proofs.Common.{Err, Bool, true, false, cond, sym, ap, subst, ◌∙◌, append_assoc, length-append, arith}
use Rattle.std.specs.List.{filter}
use Rattle.std.proofs.lemmas.List.Elements.{filter-append}
use Rattle.std.proofs.lemmas.List.{append-nil, take-append-le, map-append}
use Rattle.std.proofs.Math.Seq.{take-append-add}
use Rattle.tlog_tiles.specs.declared.paths.Path.{Path}
use Rattle.mirror_sources.specs.Recorded.{AddsToRecord, KeepsRecord}
use Rattle.mirror_folders.specs.Shelf.{Put, RecordsPut}
use Rattle.mirror_folders.specs.declared.shelf.ShelfError.{ShelfError}
use Rattle.mirror_files.specs.Exports.{AddsFiles, AddsPrefix}

pub adds_none : (a : Option (List Put)) → AddsToRecord a a []
adds_none None = tt
adds_none (Some xs) = sym (append-nil xs)

pub adds_kept : (a b : Option (List Put)) → KeepsRecord a b → AddsToRecord a b []
adds_kept None b k = tt
adds_kept (Some xs) None k = absurd k
adds_kept (Some xs) (Some ys) k = k ∙ sym (append-nil xs)

pub adds_then : (a b c : Option (List Put)) (xs ys : List Put) → AddsToRecord a b xs → AddsToRecord b c ys →
    AddsToRecord a c (xs ++ ys)
adds_then None b c xs ys p q = tt
adds_then (Some us) None c xs ys p q = absurd p
adds_then (Some us) (Some vs) None xs ys p q = absurd q
adds_then (Some us) (Some vs) (Some ws) xs ys p q = q ∙ (ap (λ (l : List Put). l ++ ys) p ∙ append_assoc us xs ys)

-- no file was put yet
pub front_none : (a b : Option (List Put)) (files : List Put) → 0 < length files → KeepsRecord a b → AddsPrefix a b files
front_none a b files some kept = record { count = 0; short = some; recorded = adds_kept a b kept }

pub front_more : (a b : Option (List Put)) (xs ys : List Put) → AddsPrefix a b xs → AddsPrefix a b (xs ++ ys)
front_more a b xs ys f =
    let short = f.short in
    let upto : f.count ≤ length xs = omega arith in
    record {
      count = f.count;
      short = omega (arith, length-append xs ys);
      recorded = subst (λ (l : List Put). AddsToRecord a b l) (sym (take-append-le f.count xs ys upto)) f.recorded;
    }

pub front_then : (a b c : Option (List Put)) (xs ys : List Put) → AddsToRecord a b xs → AddsPrefix b c ys →
    AddsPrefix a c (xs ++ ys)
front_then a b c xs ys p f =
    let short = f.short in
    record {
      count = length xs + f.count;
      short = omega (arith, length-append xs ys);
      recorded = subst (λ (l : List Put). AddsToRecord a c l) (sym (take-append-add xs ys f.count))
          (adds_then a b c xs (take f.count ys) p f.recorded);
    }

-- ---- the files of the paths that are put

module _ (file : Path → Put) (keep : Path → Bool) where
  abbrev files : List Path → List Put
  files paths = map file (filter keep paths)

  files_split : (xs ys : List Path) → files (xs ++ ys) ≡ files xs ++ files ys
  files_split xs ys = ap (map file) (filter-append keep xs ys) ∙ map-append file (filter keep xs) (filter keep ys)

  pub files_then : (a b c : Option (List Put)) (xs ys : List Path) → AddsToRecord a b (map file (filter keep xs)) →
      AddsToRecord b c (map file (filter keep ys)) → AddsToRecord a c (map file (filter keep (xs ++ ys)))
  files_then a b c xs ys p q = subst (λ (l : List Put). AddsToRecord a c l) (sym (files_split xs ys))
      (adds_then a b c (files xs) (files ys) p q)

  pub files_more : (a b : Option (List Put)) (xs ys : List Path) → AddsPrefix a b (map file (filter keep xs)) →
      AddsPrefix a b (map file (filter keep (xs ++ ys)))
  files_more a b xs ys f = subst (λ (l : List Put). AddsPrefix a b l) (sym (files_split xs ys))
      (front_more a b (files xs) (files ys) f)

  pub files_front : (a b c : Option (List Put)) (xs ys : List Path) → AddsToRecord a b (map file (filter keep xs)) →
      AddsPrefix b c (map file (filter keep ys)) → AddsPrefix a c (map file (filter keep (xs ++ ys)))
  files_front a b c xs ys p f = subst (λ (l : List Put). AddsPrefix a c l) (sym (files_split xs ys))
      (front_then a b c (files xs) (files ys) p f)

  -- a second part, for each answer
  pub files_result : {T E : Type 0} (a b c : Option (List Put)) (xs ys : List Path) (r : Result T E) →
      AddsToRecord a b (map file (filter keep xs)) → AddsFiles b c (map file (filter keep ys)) r →
      AddsFiles a c (map file (filter keep (xs ++ ys))) r
  files_result a b c xs ys (Ok x) p q = files_then a b c xs ys p q
  files_result a b c xs ys (Err e) p q = files_front a b c xs ys p q

-- a file was not put
pub file_refused : (file : Path → Put) (a b : Option (List Put)) (path : Path) → KeepsRecord a b →
    AddsPrefix a b (map file (path ∷ []))
file_refused file a b path kept = front_none a b (map file (path ∷ [])) (omega arith) kept

-- a file was put, or not
pub put_result : {T : Type 0} (file : Path → Put) (a b : Option (List Put)) (path : Path) (r : Result T ShelfError) →
    RecordsPut a b (file path) r → AddsFiles a b (map file (path ∷ [])) r
put_result file a b path (Ok x) p = p
put_result file a b path (Err e) p = file_refused file a b path p

-- a file is put only if the filter keeps it
module _ (file : Path → Put) (keep : Path → Bool) (a b : Option (List Put)) (path : Path) where
  pub none_kept : keep path ≡ false → AddsToRecord a a (map file (filter keep (path ∷ [])))
  none_kept e = subst (λ (t : Bool). AddsToRecord a a (map file (cond t (path ∷ []) []))) (sym e) (adds_none a)

  pub one_kept : {T E : Type 0} (r : Result T E) → keep path ≡ true → AddsFiles a b (map file (path ∷ [])) r →
      AddsFiles a b (map file (filter keep (path ∷ []))) r
  one_kept r e p = subst (λ (t : Bool). AddsFiles a b (map file (cond t (path ∷ []) [])) r) (sym e) p
