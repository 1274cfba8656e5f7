-- The search for a digest among sorted ones.
use Rattle.std.proofs.Common.{◌≡◌, ⊎_elim, ℕ, List, length, slice_index_or, sym, ap, ◌∙◌, arith}
use Rattle.std.specs.Prelude.{Result, Ok, Err}
use Rattle.std.specs.Cmp.Lexicographic.{slice_cmp}
use Rattle.std.specs.List.{list_any}
use Rattle.std.specs.List.Sorted.{IsBinarySearchResult, IsSearchInRange, IsSorted}
use Rattle.std.specs.Ordering.{nat_cmp, is_eq}
use Rattle.std.specs.Result.{is_ok}
use Rattle.std.specs.Str.{bytes_eq}
use Rattle.std.proofs.lemmas.Bool.{cases_lt}
use Rattle.std.proofs.lemmas.Cmp.{nat_list_cmp_total}
use Rattle.std.proofs.lemmas.List.Folds.{list_any_at, list_any_none}
use Rattle.std.proofs.lemmas.List.Sorted.{searchable_from_sorted}
use Rattle.std.proofs.lemmas.Map.Text.{is_eq-slice_cmp}

pub is_listed : (ds : List (List ℕ)) (x : List ℕ) (r : Result ℕ ℕ) → IsSorted (slice_cmp nat_cmp) ds →
    IsSearchInRange r (length ds) → IsBinarySearchResult (λ y. slice_cmp nat_cmp y x) ds r →
    is_ok r ≡ list_any (λ d. bytes_eq d x) ds
is_listed ds x (Ok i) up within found =
    sym (list_any_at (λ d. bytes_eq d x) ds i x within
    (sym (is_eq-slice_cmp (slice_index_or ds i x) x) ∙ ap is_eq (found x)))
is_listed ds x (Err i) up within found =
    let parts = found (searchable_from_sorted nat_list_cmp_total (λ d. d) ds x up) in
    sym (list_any_none (λ d. bytes_eq d x) ds (λ k d l.
    ⊎_elim (λ below. sym (is_eq-slice_cmp (slice_index_or ds k d) x) ∙ ap is_eq (parts.0 k d (omega arith) below))
    (λ above. sym (is_eq-slice_cmp (slice_index_or ds k d) x) ∙ ap is_eq (parts.1 k d above l)) (cases_lt k i)))
