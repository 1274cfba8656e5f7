-- Lists of rows that are read one after another.
use Rattle.std.proofs.Common.{◌≡◌, ℕ, ◌+◌, ◌<◌, List, [], ◌∷◌, ◌++◌, length, map, get_or, Vec, Global}
use Rattle.std.proofs.Common.{sym, ap, subst, ◌∙◌, arith, inl, inr}
use Rattle.std.proofs.Math.Seq.{get_or-append_seam}
use Rattle.std.proofs.lemmas.Bool.{cases_lt}
use Rattle.std.proofs.lemmas.List.{get_or_append_left, length-append, length-map, map-append}

abbrev pub items_of : List (Vec (List ℕ) Global) → List (List (List ℕ))
items_of rows = map (λ row. row.items) rows

-- a fact about the rows so far and about the next one
pub rows_more : (P : ℕ → List (List ℕ) → Type 0) (vs more : List (Vec (List ℕ) Global)) (v : Vec (List ℕ) Global)
    (n : ℕ) → more ≡ vs ++ v ∷ [] → length vs ≡ n → ((k : ℕ) → k < n → P k (get_or (items_of vs) k [])) →
    P n v.items → (k : ℕ) → k < n + 1 → P k (get_or (items_of more) k [])
rows_more P vs more v n is count all one k lt =
    let rows = items_of vs in
    let all_is : items_of more ≡ rows ++ v.items ∷ [] =
    ap items_of is ∙ map-append (λ (row : Vec (List ℕ) Global). row.items) vs (v ∷ []) in
    let long : length rows ≡ n = length-map vs (λ (row : Vec (List ℕ) Global). row.items) ∙ count in
    elim (cases_lt k n) [
      | inl below ↦
          let at : get_or rows k [] ≡ get_or (items_of more) k [] =
          sym (get_or_append_left rows (v.items ∷ []) [] k (omega (arith, long)))
          ∙ ap (λ (l : List (List (List ℕ))). get_or l k []) (sym all_is) in
          subst (P k) at (all k below)
      | inr there ↦
          let same : n ≡ k = omega arith in
          let at : v.items ≡ get_or (items_of more) n [] =
          sym (get_or-append_seam rows v.items [] [])
          ∙ (ap (λ (j : ℕ). get_or (rows ++ v.items ∷ []) j []) long
          ∙ ap (λ (l : List (List (List ℕ))). get_or l n []) (sym all_is)) in
          subst (λ j. P j (get_or (items_of more) j [])) same (subst (P n) at one)
    ]

pub count_more : (vs more : List (Vec (List ℕ) Global)) (v : Vec (List ℕ) Global) (n : ℕ) → more ≡ vs ++ v ∷ [] →
    length vs ≡ n → length more ≡ n + 1
count_more vs more v n is count = omega (arith, ap length is, length-append vs (v ∷ []), count)
