-- The hash that the rows of an edge lead to, row after row.
use Rattle.std.proofs.Common.{◌≡◌, ◌≢◌, ℕ, zero, suc, ◌+◌, ◌<◌, ◌≤◌, Bool, true, false, cond, List, [], ◌∷◌, ◌++◌, get_or, length, map}
use Rattle.std.proofs.Common.{Option, Some, None, refl, sym, ap, subst, ◌∙◌, inl, inr, arith, length-append, if◌then◌else◌}
use Rattle.std.specs.Prelude.{not, ◌==◌}
use Rattle.std.specs.List.{filter}
use Rattle.std.proofs.Math.Numerals.{add-one}
use Rattle.std.proofs.Math.Seq.{get_or-append_seam}
use Rattle.std.proofs.lemmas.Bool.{cases_lt}
use Rattle.std.proofs.lemmas.Bool.Decides.{nat_tests}
use Rattle.std.proofs.lemmas.List.{append-nil, get_or_append_left, get_or_read_under, map-append}
use Rattle.std.proofs.lemmas.List.Elements.{filter-append}
use Rattle.tlog_shape.specs.Edge.{width_of}
use Rattle.tlog_hash.specs.Tree.{fold_of}
use Rattle.mirror_model.specs.Edge.{edge_levels, edge_root, root_from}
use Rattle.log_reader.specs.EdgeRows.{Edge, HasWidths, IsHashOfRows, hash_of_edge, row_at}
use Rattle.log_reader.specs.Nodes.{AreBelow, hash_below, hash_on_top}

-- ---- one more row

module _ (digest : List ℕ → List ℕ) (row : List (List ℕ)) where
  from_more : (value : List ℕ) (rows : List (List (List ℕ))) →
      root_from digest value (rows ++ row ∷ []) ≡ fold_of digest (row ++ root_from digest value rows ∷ [])
  from_more value [] = refl
  from_more value (r ∷ rows) = from_more (fold_of digest (r ++ value ∷ [])) rows

  root_more : (rows : List (List (List ℕ))) → rows ≢ [] →
      edge_root digest (rows ++ row ∷ []) ≡ fold_of digest (row ++ edge_root digest rows ∷ [])
  root_more [] some = absurd (some refl)
  root_more (r ∷ rows) some = from_more (fold_of digest r) rows

  not_empty : (rows : List (List (List ℕ))) → rows ++ row ∷ [] ≢ []
  not_empty [] e = absurd (cc e)
  not_empty (r ∷ rows) e = absurd (cc e)

  first_row : (rows : List (List (List ℕ))) (hash : List ℕ) → hash ≡ fold_of digest row →
      IsHashOfRows digest rows None → IsHashOfRows digest (rows ++ row ∷ []) (Some hash)
  first_row rows hash is none = (
    not_empty rows,
    ap (λ (l : List (List (List ℕ))). edge_root digest (l ++ row ∷ [])) none ∙ sym is,
  )

  row_above : (rows : List (List (List ℕ))) (value hash : List ℕ) → hash ≡ fold_of digest (row ++ value ∷ []) →
      IsHashOfRows digest rows (Some value) → IsHashOfRows digest (rows ++ row ∷ []) (Some hash)
  row_above rows value hash is below = (
    not_empty rows,
    root_more rows below.0 ∙ (ap (λ (v : List ℕ). fold_of digest (row ++ v ∷ [])) below.1 ∙ sym is),
  )

-- ---- the rows of the levels below a number of levels

abbrev rows_below : Edge → ℕ → List (List (List ℕ))
rows_below edge zero = []
rows_below edge (suc level) =
    rows_below edge level ++ (if width_of edge.size level == 0 then [] else row_at edge level ∷ [])

abbrev levels_below : ℕ → List ℕ
levels_below zero = []
levels_below (suc level) = levels_below level ++ level ∷ []

module _ (edge : Edge) where
  abbrev has_some : ℕ → Bool
  has_some level = not (width_of edge.size level == 0)

  one_row : (level : ℕ) (b : Bool) →
      cond b [] (row_at edge level ∷ []) ≡ map (row_at edge) (cond (not b) (level ∷ []) [])
  one_row level true = refl
  one_row level false = refl

  rows_filtered : (k : ℕ) → rows_below edge k ≡ map (row_at edge) (filter has_some (levels_below k))
  rows_filtered zero = refl
  rows_filtered (suc k) =
      (λ i. rows_filtered k i ++ one_row k (width_of edge.size k == 0) i)
      ∙ sym (map-append (row_at edge) (filter has_some (levels_below k)) (filter has_some (k ∷ [])))
      ∙ ap (map (row_at edge)) (sym (filter-append has_some (levels_below k) (k ∷ [])))

  rows_below_all : rows_below edge 8 ≡ map (row_at edge) (edge_levels edge.size)
  unfolding edge_levels
  rows_below_all = rows_filtered 8

  zero_is : (w : ℕ) → w ≡ 0 → (w == 0) ≡ true
  zero_is w e = grind (arith, nat_tests)

  some_is : (w : ℕ) → 0 < w → (w == 0) ≡ false
  some_is w e = grind (arith, nat_tests)

  no_row : (level : ℕ) → width_of edge.size level ≡ 0 → rows_below edge (level + 1) ≡ rows_below edge level
  no_row level none =
      ap (rows_below edge) (add-one level)
      ∙ ap (λ (b : Bool). rows_below edge level ++ cond b [] (row_at edge level ∷ [])) (zero_is (width_of edge.size level) none)
      ∙ append-nil (rows_below edge level)

  one_more_row : (level : ℕ) → 0 < width_of edge.size level →
      rows_below edge (level + 1) ≡ rows_below edge level ++ row_at edge level ∷ []
  one_more_row level some =
      ap (rows_below edge) (add-one level)
      ∙ ap (λ (b : Bool). rows_below edge level ++ cond b [] (row_at edge level ∷ [])) (some_is (width_of edge.size level) some)

-- ---- the hash below each level

module _ (digest : List ℕ → List ℕ) where
  pub top_empty : (below : Option (List ℕ)) (row : List (List ℕ)) → length row ≡ 0 → hash_on_top digest below row ≡ below
  top_empty below [] none = refl
  top_empty below (hash ∷ row) none = absurd (omega (arith, none))

  pub top_none : (row : List (List ℕ)) → 0 < length row → hash_on_top digest None row ≡ Some (fold_of digest row)
  top_none [] some = absurd (omega (arith, some))
  top_none (hash ∷ row) some = refl

  pub top_some : (value : List ℕ) (row : List (List ℕ)) → 0 < length row →
      hash_on_top digest (Some value) row ≡ Some (fold_of digest (row ++ value ∷ []))
  top_some value [] some = absurd (omega (arith, some))
  top_some value (hash ∷ row) some = refl

  module _ (edge : Edge) where
    pub below_none : hash_below digest edge 0 ≡ None
    unfolding hash_below
    below_none = refl

    pub below_next : (level : ℕ) →
        hash_below digest edge (level + 1) ≡ hash_on_top digest (hash_below digest edge level) (row_at edge level)
    unfolding hash_below
    below_next level = ap (hash_below digest edge) (add-one level)

    pub none_below : AreBelow digest edge 0 []
    none_below = record { long = refl; each = λ level before. absurd (omega (arith, before)) }

    pub more_below : (count : ℕ) (hashes : List (Option (List ℕ))) (hash : Option (List ℕ)) →
        AreBelow digest edge count hashes → hash ≡ hash_below digest edge count →
        AreBelow digest edge (count + 1) (hashes ++ hash ∷ [])
    more_below count hashes hash are is = record {
      long = omega (arith, length-append hashes (hash ∷ []), are.long);
      each = λ level before. elim (cases_lt level count) [
        | inl old ↦ get_or_append_left hashes (hash ∷ []) None level (omega (arith, old, are.long)) ∙ are.each level old
        | inr le ↦
            let at : level ≡ length hashes = omega (arith, le, before, are.long) in
            let same : count ≡ level = omega (arith, at, are.long) in
            ap (λ l. get_or (hashes ++ hash ∷ []) l None) at
            ∙ (get_or-append_seam hashes hash [] None ∙ (is ∙ ap (hash_below digest edge) same))
      ];
    }

    -- a hash that was read from the list
    pub below_at : (count level : ℕ) (hashes : List (Option (List ℕ))) (hash : Option (List ℕ)) →
        AreBelow digest edge count hashes → level < count → hash ≡ get_or hashes level hash → hash ≡ hash_below digest edge level
    below_at count level hashes hash are before is =
        get_or_read_under hashes level (length hashes) hash None is (omega (arith, before, are.long)) refl ∙ are.each level before

    top_leads : (below : Option (List ℕ)) (row : List (List ℕ)) (rows : List (List (List ℕ))) → 0 < length row →
        IsHashOfRows digest rows below → IsHashOfRows digest (rows ++ row ∷ []) (hash_on_top digest below row)
    top_leads None row rows some is =
        subst (IsHashOfRows digest (rows ++ row ∷ [])) (sym (top_none row some))
        (first_row digest row rows (fold_of digest row) refl is)
    top_leads (Some value) row rows some is =
        subst (IsHashOfRows digest (rows ++ row ∷ [])) (sym (top_some value row some))
        (row_above digest row rows value (fold_of digest (row ++ value ∷ [])) refl is)

    module _ (widths : HasWidths edge) where
      next_leads : (level : ℕ) → level ≤ 7 → IsHashOfRows digest (rows_below edge level) (hash_below digest edge level) →
          IsHashOfRows digest (rows_below edge (level + 1)) (hash_below digest edge (level + 1))
      next_leads level low is =
          let row = row_at edge level in
          let below = hash_below digest edge level in
          let wide = widths level low in
          subst (IsHashOfRows digest (rows_below edge (level + 1))) (sym (below_next level))
          (elim (cases_lt 0 (width_of edge.size level)) [
            | inl some ↦
                subst (λ rows. IsHashOfRows digest rows (hash_on_top digest below row)) (sym (one_more_row edge level some))
                (top_leads below row (rows_below edge level) (omega (arith, some, wide)) is)
            | inr none ↦
                let empty : width_of edge.size level ≡ 0 = omega (arith, none) in
                subst (IsHashOfRows digest (rows_below edge (level + 1))) (sym (top_empty below row (omega (arith, empty, wide))))
                (subst (λ rows. IsHashOfRows digest rows below) (sym (no_row edge level empty)) is)
          ])

      leads : (level : ℕ) → level ≤ 8 → IsHashOfRows digest (rows_below edge level) (hash_below digest edge level)
      leads zero low = subst (IsHashOfRows digest []) (sym below_none) refl
      leads (suc level) low =
          subst (λ l. IsHashOfRows digest (rows_below edge l) (hash_below digest edge l)) (add-one level)
          (next_leads level (omega (arith, low)) (leads level (omega (arith, low))))

      all_lead : IsHashOfRows digest (map (row_at edge) (edge_levels edge.size)) (hash_below digest edge 8)
      all_lead = subst (λ rows. IsHashOfRows digest rows (hash_below digest edge 8)) (rows_below_all edge) (leads 8 (omega arith))

      -- the last hash is that of all rows
      pub last_some : (hash : List ℕ) → hash_below digest edge 8 ≡ Some hash → hash ≡ hash_of_edge digest edge
      last_some hash is =
          let led = subst (IsHashOfRows digest (map (row_at edge) (edge_levels edge.size))) is all_lead in
          sym led.1

      pub last_none : hash_below digest edge 8 ≡ None → digest [] ≡ hash_of_edge digest edge
      last_none is =
          let none = subst (IsHashOfRows digest (map (row_at edge) (edge_levels edge.size))) is all_lead in
          sym (ap (edge_root digest) none)
