-- Mixes of the edge rows of two places, and the hash that they lead to.
use Rattle.std.proofs.Common.{◌≡◌, ◌⊎◌, inl, inr, ℕ, zero, suc, ◌+◌, ◌<◌, ◌≤◌, List, [], ◌∷◌, length, get_or, Option, Some, None}
use Rattle.std.proofs.Common.{◌++◌, refl, sym, ap, subst, ◌∙◌, arith, add-zero, zero-add}
use Rattle.std.proofs.lemmas.Bool.{cases_lt}
use Rattle.std.proofs.lemmas.List.{get_or_append_left, get_or_at, get_or_default}
use Rattle.std.specs.Prelude.{IfSome}
use Rattle.tlog_shape.specs.Edge.{width_of}
use Rattle.log_reader.specs.EdgeRows.{Edge, HasWidths, LeadsTo, hash_of_edge, row_at}
use Rattle.log_reader.specs.Nodes.{hash_below, hash_on_top}
use Rattle.log_reader.proofs.EdgeHashes.{below_next, below_none, last_none, last_some}
use Rattle.copy_places.specs.Mixes.{AreTwoAt, HaveNoMix, HaveWidths, IsMix, IsMixAmong, IsMixOf, IsMixTo, IsOfEither, climb, given_at, value_of}
use Rattle.copy_places.specs.declared.mix.GivenRows.{GivenRows}
use Rattle.copy_places.specs.declared.mix.TwoRows.{TwoRows}

-- ---- the values of a function as rows

abbrev pub table : (ℕ → List (List ℕ)) → ℕ → ℕ → List (List (List ℕ))
table f k zero = []
table f k (suc n) = f k ∷ table f (k + 1) n

pub table_get : (f : ℕ → List (List ℕ)) (k n i : ℕ) → i < n → get_or (table f k n) i [] ≡ f (k + i)
table_get f k zero i lt = absurd (omega (arith, lt))
table_get f k (suc n) zero lt = ap f (sym (add-zero k))
table_get f k (suc n) (suc i) lt =
    let same : k + 1 + i ≡ k + suc i = omega arith in
    table_get f (k + 1) n i (omega (arith, lt)) ∙ ap f same

pub table_long : (f : ℕ → List (List ℕ)) (k n : ℕ) → length (table f k n) ≡ n
table_long f k zero = refl
table_long f k (suc n) = ap suc (table_long f (k + 1) n)

-- ---- mixes, level by level

mix_long : (levels : List TwoRows) (rows : List (List (List ℕ))) → IsMix levels rows → length rows ≡ length levels
mix_long [] [] mix = refl
mix_long [] (row ∷ rows) mix = absurd mix
mix_long (level ∷ levels) [] mix = absurd mix
mix_long (level ∷ levels) (row ∷ rows) mix = ap suc (mix_long levels rows mix.1)

mix_at : (levels : List TwoRows) (rows : List (List (List ℕ))) → IsMix levels rows → (k : ℕ) (d : TwoRows) →
    k < length levels →
    (get_or rows k [] ≡ (get_or levels k d).first.items) ⊎ (get_or rows k [] ≡ (get_or levels k d).second.items)
mix_at [] rows mix k d lt = absurd (omega (arith, lt))
mix_at (level ∷ levels) [] mix k d lt = absurd mix
mix_at (level ∷ levels) (row ∷ rows) mix zero d lt = mix.0
mix_at (level ∷ levels) (row ∷ rows) mix (suc k) d lt = mix_at levels rows mix.1 k d (omega (arith, lt))

mix_of : (levels : List TwoRows) (rows : List (List (List ℕ))) → length rows ≡ length levels →
    ((k : ℕ) (d : TwoRows) → k < length levels →
    (get_or rows k [] ≡ (get_or levels k d).first.items) ⊎ (get_or rows k [] ≡ (get_or levels k d).second.items)) →
    IsMix levels rows
mix_of [] [] long at = tt
mix_of [] (row ∷ rows) long at = absurd (omega (arith, long))
mix_of (level ∷ levels) [] long at = absurd (omega (arith, long))
mix_of (level ∷ levels) (row ∷ rows) long at = (
  at 0 level (omega arith),
  mix_of levels rows (omega (arith, long)) (λ k d lt. at (suc k) d (omega (arith, lt))),
)

some_two : (levels : List TwoRows) → 0 < length levels → TwoRows
some_two [] lt = absurd (omega (arith, lt))
some_two (level ∷ levels) lt = level

-- ---- the search, one level at a time

module _ (digest : List ℕ → List ℕ) (root : List ℕ) where
  abbrev pub Leads : List TwoRows → Option (List ℕ) → List (List (List ℕ)) → Type 0
  Leads levels below rows = IsMixTo digest levels below root rows

  pub end_none : (levels : List TwoRows) (below : Option (List ℕ)) → length levels ≡ 0 → (value_of digest below ≡ root → ⊥) →
      (rows : List (List (List ℕ))) → Leads levels below rows → ⊥
  end_none [] below none other [] m = other m.leads
  end_none [] below none other (row ∷ rows) m = absurd m.mix
  end_none (level ∷ levels) below none other rows m = absurd (omega (arith, none))

  abbrev pub NoneLeads : List TwoRows → Option (List ℕ) → Type 0
  NoneLeads levels below = (rows : List (List (List ℕ))) → Leads levels below rows → ⊥

  none_in : (rest : List TwoRows) (level : TwoRows) (below : Option (List ℕ)) →
      NoneLeads rest (hash_on_top digest below level.first.items) →
      NoneLeads rest (hash_on_top digest below level.second.items) → NoneLeads (level ∷ rest) below
  none_in rest level below p q [] m = absurd m.mix
  none_in rest level below p q (row ∷ rows) m = elim m.mix.0 [
    | inl is ↦ p rows (record {
      mix = m.mix.1;
      leads = subst (λ r. value_of digest (climb digest (hash_on_top digest below r) rows) ≡ root) is m.leads;
    })
    | inr is ↦ q rows (record {
      mix = m.mix.1;
      leads = subst (λ r. value_of digest (climb digest (hash_on_top digest below r) rows) ≡ root) is m.leads;
    })
  ]

-- ---- the mix of all levels

module _ (digest : List ℕ → List ℕ) (edge : Edge) where
  climb_is : (k : ℕ) (rows : List (List (List ℕ))) → ((i : ℕ) → i < length rows → get_or rows i [] ≡ row_at edge (k + i)) →
      climb digest (hash_below digest edge k) rows ≡ hash_below digest edge (k + length rows)
  climb_is k [] at = ap (hash_below digest edge) (sym (add-zero k))
  climb_is k (row ∷ rows) at =
      let here : row ≡ row_at edge k = at 0 (omega arith) ∙ ap (row_at edge) (add-zero k) in
      let next : hash_on_top digest (hash_below digest edge k) row ≡ hash_below digest edge (k + 1) =
      ap (hash_on_top digest (hash_below digest edge k)) here ∙ sym (below_next digest edge k) in
      let end : k + 1 + length rows ≡ k + length (row ∷ rows) = omega arith in
      ap (λ below. climb digest below rows) next
      ∙ (climb_is (k + 1) rows (λ i lt.
      let same : k + suc i ≡ k + 1 + i = omega arith in
      at (suc i) (omega (arith, lt)) ∙ ap (row_at edge) same)
      ∙ ap (hash_below digest edge) end)

  value_is : HasWidths edge → (o : Option (List ℕ)) → hash_below digest edge 8 ≡ o → value_of digest o ≡ hash_of_edge digest edge
  value_is widths None is = last_none digest edge widths is
  value_is widths (Some value) is = last_some digest edge widths value is

  -- eight rows lead to the hash of the edge
  all_lead : HasWidths edge → (rows : List (List (List ℕ))) → length rows ≡ 8 →
      ((i : ℕ) → i < length rows → get_or rows i [] ≡ row_at edge i) →
      value_of digest (climb digest None rows) ≡ hash_of_edge digest edge
  all_lead widths rows long at =
      let led : climb digest None rows ≡ hash_below digest edge (length rows) =
      ap (λ below. climb digest below rows) (sym (below_none digest edge))
      ∙ (climb_is 0 rows (λ i lt. at i lt ∙ ap (row_at edge) (sym (zero-add i)))
      ∙ ap (hash_below digest edge) (zero-add (length rows))) in
      ap (value_of digest) (led ∙ ap (hash_below digest edge) long) ∙ value_is widths (hash_below digest edge 8) refl

module _ (digest : List ℕ → List ℕ) (n : ℕ) (root : List ℕ) (first second : GivenRows) where
  width_there : (given : GivenRows) (level : ℕ) (row : List (List ℕ)) → HaveWidths n given → level ≤ 7 →
      given_at given level ≡ Some row → length row ≡ width_of n level
  width_there given level row widths low is =
      let there = widths level low in
      let at : IfSome (Some row) (λ r. length r ≡ width_of n level) =
      subst (λ o. IfSome o (λ r. length r ≡ width_of n level)) is there in at

  width_of_either : HaveWidths n first → HaveWidths n second → (level : ℕ) (row : List (List ℕ)) → level ≤ 7 →
      IsOfEither first second level row → length row ≡ width_of n level
  width_of_either one two level row low (inl is) = width_there first level row one low is
  width_of_either one two level row low (inr is) = width_there second level row two low is

  module _ (levels : List TwoRows) (long : length levels ≡ 8)
      (each : (level : ℕ) (d : TwoRows) → level ≤ 7 → AreTwoAt first second level (get_or levels level d)) where
    -- a mix that was found
    mix_either : (rows : List (List (List ℕ))) → IsMix levels rows → (level : ℕ) → level ≤ 7 →
        IsOfEither first second level (get_or rows level [])
    mix_either rows mix level low =
        let d = some_two levels (omega (arith, long)) in
        let two = each level d low in
        elim (mix_at levels rows mix level d (omega (arith, long, low))) [
          | inl is ↦ subst (IsOfEither first second level) (sym is) two.first_is
          | inr is ↦ subst (IsOfEither first second level) (sym is) two.second_is
        ]

    pub is_mix : (rows : List (List (List ℕ))) (edge : Edge) → IsMixTo digest levels None root rows → edge.rows ≡ rows →
        IsMixOf first second edge
    is_mix rows edge m rows_is level low =
        subst (λ (rs : List (List (List ℕ))). IsOfEither first second level (get_or rs level [])) (sym rows_is)
        (mix_either rows m.mix level low)

    pub mix_leads : (rows : List (List (List ℕ))) (edge : Edge) → HaveWidths n first → HaveWidths n second →
        IsMixTo digest levels None root rows → edge.size ≡ n → edge.rows ≡ rows → LeadsTo digest n root edge
    mix_leads rows edge one two m size_is rows_is =
        let widths : HasWidths edge = λ level low.
        width_of_either one two level (row_at edge level) low (is_mix rows edge m rows_is level low)
        ∙ ap (λ k. width_of k level) (sym size_is) in
        record {
          is_edge = record { size_is = size_is; widths = widths };
          root_is = sym (all_lead digest edge widths rows (mix_long levels rows m.mix ∙ long) (λ i lt.
              ap (λ (rs : List (List (List ℕ))). get_or rs i []) (sym rows_is)))
              ∙ m.leads;
        }

    -- no mix was found
    pub mix_none : ((rows : List (List (List ℕ))) → IsMixTo digest levels None root rows → ⊥) →
        HaveNoMix digest n root first second
    mix_none none = record {
      none = λ edge size_is widths mix is.
          let rows = table (row_at edge) 0 8 in
          let rows_long : length rows ≡ 8 = table_long (row_at edge) 0 8 in
          let at = λ (i : ℕ) (lt : i < 8). table_get (row_at edge) 0 8 i lt ∙ ap (row_at edge) (zero-add i) in
          none rows (record {
            mix = mix_of levels rows (rows_long ∙ sym long) (λ k d lt.
                let low : k < 8 = omega (arith, lt, long) in
                let two = each k d (omega (arith, low)) in
                let there : get_or rows k [] ≡ row_at edge k = at k low in
                elim (two.all (row_at edge k) (mix k (omega (arith, low)))) [
                  | inl first_is ↦ inl (there ∙ first_is)
                  | inr second_is ↦ inr (there ∙ second_is)
                ]);
            leads = all_lead digest edge widths rows rows_long (λ i lt. at i (omega (arith, lt, rows_long))) ∙ is;
          });
    }

  -- neither place has a row of some level
  pub lacks_mix : (level : ℕ) → level ≤ 7 → given_at first level ≡ None → given_at second level ≡ None →
      HaveNoMix digest n root first second
  lacks_mix level low one two = record {
    none = λ edge size_is widths mix is. elim (mix level low) [
      | inl given ↦ absurd (cc (given, one))
      | inr given ↦ absurd (cc (given, two))
    ];
  }

-- ---- more levels, and more places

-- a fact about the items so far and about the next one
pub items_more : {X : Type 0} (P : ℕ → X → Type 0) (xs more : List X) (x : X) (n : ℕ) → more ≡ xs ++ x ∷ [] → length xs ≡ n →
    ((k : ℕ) (d : X) → k < n → P k (get_or xs k d)) → P n x → (k : ℕ) (d : X) → k < n + 1 → P k (get_or more k d)
items_more P xs more x n is long all one k d lt =
    subst (λ l. P k (get_or l k d)) (sym is)
    (elim (cases_lt k n) [
      | inl below ↦ subst (P k) (sym (get_or_append_left xs (x ∷ []) d k (omega (arith, below, long)))) (all k d below)
      | inr there ↦
          let same : n ≡ k = omega (arith, lt, there) in
          let at : length xs ≡ k = long ∙ same in
          subst (P k) (sym (get_or_at xs x [] d k at)) (subst (λ j. P j x) same one)
    ])

-- the rows that were read from the list are those at the index
module _ (digest : List ℕ → List ℕ) (n : ℕ) (root : List ℕ) (given : List GivenRows) (j : ℕ) (within : j < length given) where
  pub mix_among : (i : ℕ) → i < length given → (first second : GivenRows) → first ≡ get_or given i first →
      second ≡ get_or given j second → (edge : Edge) → IsMixOf first second edge → IsMixAmong given edge
  mix_among i lt first second first_is second_is edge mix = record {
    i = i;
    j = j;
    i_listed = lt;
    j_listed = within;
    mix = λ d. subst (λ a. IsMixOf a (get_or given j d) edge) (first_is ∙ get_or_default given i first d lt)
        (subst (λ b. IsMixOf first b edge) (second_is ∙ get_or_default given j second d within) mix);
  }

  pub none_more : (i : ℕ) → i < length given → (first second : GivenRows) → first ≡ get_or given i first →
      second ≡ get_or given j second → HaveNoMix digest n root first second →
      ((k : ℕ) (d : GivenRows) → k < i → HaveNoMix digest n root (get_or given k d) (get_or given j d)) →
      (k : ℕ) (d : GivenRows) → k < i + 1 → HaveNoMix digest n root (get_or given k d) (get_or given j d)
  none_more i lt first second first_is second_is none before k d less = elim (cases_lt k i) [
    | inl below ↦ before k d below
    | inr there ↦
        let same : i ≡ k = omega (arith, less, there) in
        subst (λ m. HaveNoMix digest n root (get_or given m d) (get_or given j d)) same
        (subst (λ a. HaveNoMix digest n root a (get_or given j d)) (first_is ∙ get_or_default given i first d lt)
        (subst (λ b. HaveNoMix digest n root first b) (second_is ∙ get_or_default given j second d within) none))
  ]

pub pairs_more : (digest : List ℕ → List ℕ) (n : ℕ) (root : List ℕ) (given : List GivenRows) (j : ℕ) →
    ((i k : ℕ) (d : GivenRows) → i < k → k < j → HaveNoMix digest n root (get_or given i d) (get_or given k d)) →
    ((i : ℕ) (d : GivenRows) → i < j → HaveNoMix digest n root (get_or given i d) (get_or given j d)) →
    (i k : ℕ) (d : GivenRows) → i < k → k < j + 1 → HaveNoMix digest n root (get_or given i d) (get_or given k d)
pairs_more digest n root given j before last i k d less lt = elim (cases_lt k j) [
  | inl below ↦ before i k d less below
  | inr there ↦
      let same : j ≡ k = omega (arith, lt, there) in
      subst (λ m. HaveNoMix digest n root (get_or given i d) (get_or given m d)) same (last i d (omega (arith, less, same)))
]

-- the same where the default is given
pub items_next : {X : Type 0} (none : X) (P : ℕ → X → Type 0) (xs more : List X) (x : X) (n : ℕ) → more ≡ xs ++ x ∷ [] →
    length xs ≡ n → ((k : ℕ) → k < n → P k (get_or xs k none)) → P n x → (k : ℕ) → k < n + 1 → P k (get_or more k none)
items_next none P xs more x n is long all one k lt =
    items_more P xs more x n is long
    (λ j d less. subst (P j) (get_or_default xs j none d (omega (arith, less, long))) (all j less)) one k none lt
