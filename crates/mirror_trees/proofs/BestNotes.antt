-- The best kept note, and the first one with a size and root.
use Rattle.std.proofs.Common.{◌≡◌, ◌≢◌, ℕ, ◌+◌, ◌-◌, ◌<◌, ◌≤◌, List, ◌∷◌, length, drop}
use Rattle.std.proofs.Common.{slice_index_or, Option, Some, None, Bool, true, false, sym, refl, ap, subst, ◌∙◌, ◌⊎◌}
use Rattle.std.proofs.Common.{inl, inr, arith, nat_eq}
use Rattle.std.specs.Ordering.{ordering_reverse, is_gt}
use Rattle.std.specs.declared.cmp.Ordering.{Ordering}
use Rattle.std.specs.declared.cmp.Ordering.TheVariants.{Less, Equal, Greater}
use Rattle.std.specs.Cmp.{IsTotalOrder, nat_cmp_total, on_total, then_total, back_total}
use Rattle.std.specs.Cmp.Lexicographic.{nat_list_cmp_total, pointwise}
use Rattle.std.proofs.lemmas.Cmp.{upto, tied_itself}
use Rattle.std.proofs.lemmas.List.{drop_more}
use Rattle.std.proofs.lemmas.Bool.{cases_lt}
use Rattle.std.proofs.lemmas.Slice.Eq.{slice_eq-Decides}
use Rattle.std.proofs.lemmas.Bool.Decides.{Decides-eqb}
use Rattle.node_store.specs.Strings.{Strings}
use Rattle.mirror_model.specs.Forks.{Point}
use Rattle.mirror_trees.specs.Marked.{point_of}
use Rattle.mirror_trees.specs.Best.{served_cmp, kept_point, IsAhead, HasKept, IsBuiltAt, IsBestOf}
use Rattle.mirror_trees.specs.Best.{IsFirstWith}
use Rattle.std.proofs.lemmas.List.{get_or_default}
use Rattle.mirror_trees.specs.declared.held_note.HeldNote.{HeldNote}
use Rattle.mirror_model.proofs.Listing.{head_or, later, here}

pub served_total : IsTotalOrder served_cmp
served_total =
    then_total (on_total (λ (p : Point). p.size) (back_total nat_cmp_total))
    (on_total (λ (p : Point). p.root) nat_list_cmp_total)

-- ---- the best so far

module _ (digest : List ℕ → List ℕ) (held : Strings) where
  abbrev Built : Point → Type 0
  Built point = IsBuiltAt digest held point

  not_before : (p q : Point) → (served_cmp p q ≡ Less → ⊥) → is_gt (served_cmp q p) ≡ false
  not_before p q no_less = at (served_cmp p q) (served_cmp q p) (served_total.antisymm q p) no_less
    where
      at : (o back : Ordering) → back ≡ ordering_reverse o → (o ≡ Less → ⊥) → is_gt back ≡ false
      at Less back e n = absurd (n refl)
      at Equal back e n = ap is_gt e
      at Greater back e n = ap is_gt e

  module _ (one : HeldNote) (rest : List HeldNote) where
    itself : (other : HeldNote) → one ≡ other → is_gt (served_cmp (kept_point one) (kept_point other)) ≡ false
    itself other same =
        ap (λ (k : HeldNote). is_gt (served_cmp (kept_point one) (kept_point k))) (sym same) ∙
        ap is_gt (tied_itself served_total (kept_point one))

    -- the next note is better
    better : (found : Option (ℕ × List ℕ)) → IsBestOf digest held rest found → IsAhead (kept_point one) found →
        Built (kept_point one) → IsBestOf digest held (one ∷ rest) (Some (one.size, one.root))
    better None h ahead built = record {
      has = record { one = one; is_kept = here one rest; is = refl };
      built = built;
      first = λ other c b. elim
          (head_or one rest other c) [ inl same ↦ itself other same | inr there ↦ absurd (h other there b) ];
    }
    better (Some q) h ahead built = record {
      has = record { one = one; is_kept = here one rest; is = refl };
      built = built;
      first = λ other c b. elim (head_or one rest other c) [
        | inl same ↦ itself other same
        | inr there ↦ upto served_total (kept_point one) (point_of q) (kept_point other) (ap is_gt ahead)
            (h.first other there b)
      ];
    }

    -- the next note is not better, or its tree is not held
    no_better : (found : Option (ℕ × List ℕ)) → IsBestOf digest held rest found →
        (IsAhead (kept_point one) found → ⊥) ⊎ (Built (kept_point one) → ⊥) → IsBestOf digest held (one ∷ rest) found
    no_better None h not = λ other c b. elim (head_or one rest other c) [
      | inl same ↦ elim not [
        | inl behind ↦ behind tt
        | inr not_built ↦ not_built
            (subst (λ (k : HeldNote). Built (kept_point k)) (sym same) b)
      ]
      | inr there ↦ h other there b
    ]
    no_better (Some q) h not = record {
      has = record { one = h.has.one; is_kept = later one rest h.has.one h.has.is_kept; is = h.has.is };
      built = h.built;
      first = λ other c b. elim (head_or one rest other c) [
        | inl same ↦ elim not [
          | inl behind ↦ ap (λ (k : HeldNote). is_gt (served_cmp (point_of q) (kept_point k))) (sym same) ∙
              not_before (kept_point one) (point_of q) behind
          | inr not_built ↦ absurd (not_built (subst (λ (k : HeldNote). Built (kept_point k)) (sym same) b))
        ]
        | inr there ↦ h.first other there b
      ];
    }

  module _ (kept : List HeldNote) (at : ℕ) (one : HeldNote) (some : 0 < at) (fits : at ≤ length kept)
      (is : one ≡ slice_index_or kept (at - 1) one) where
    step : drop (at - 1) kept ≡ one ∷ drop at kept
    step =
        let next : at - 1 + 1 ≡ at = omega (arith, some) in
        drop_more kept (at - 1) one (omega (arith, some, fits)) ∙ (λ i. sym is i ∷ drop (next i) kept)

    pub better_at : (found : Option (ℕ × List ℕ)) → IsBestOf digest held (drop at kept) found →
        IsAhead (kept_point one) found → Built (kept_point one) →
        IsBestOf digest held (drop (at - 1) kept) (Some (one.size, one.root))
    better_at found h ahead built =
        subst (λ xs. IsBestOf digest held xs (Some (one.size, one.root))) (sym step)
        (better one (drop at kept) found h ahead built)

    pub no_better_at : (found : Option (ℕ × List ℕ)) → IsBestOf digest held (drop at kept) found →
        (IsAhead (kept_point one) found → ⊥) ⊎ (Built (kept_point one) → ⊥) →
        IsBestOf digest held (drop (at - 1) kept) found
    no_better_at found h not =
        subst (λ xs. IsBestOf digest held xs found) (sym step) (no_better one (drop at kept) found h not)

  pub best_of_all : (kept : List HeldNote) (at : ℕ) (found : Option (ℕ × List ℕ)) → at ≤ 0 →
      IsBestOf digest held (drop at kept) found → IsBestOf digest held kept found
  best_of_all kept at found zero_at h =
      let none : at ≡ 0 = omega (arith, zero_at) in subst (λ n. IsBestOf digest held (drop n kept) found) none h

-- ---- the first note with a size and root

module _ (kept : List HeldNote) (size : ℕ) (root : List ℕ) where
  abbrev point : Point
  point = record { size = size; root = root }

  abbrev pub NoneBefore : ℕ → Type 0
  NoneBefore n = (k : ℕ) (other : HeldNote) → k < n → slice_index_or kept k other ≡ other → kept_point other ≡ point → ⊥

  pub none_more : (at : ℕ) (one : HeldNote) → at < length kept → one ≡ slice_index_or kept at one → NoneBefore at →
      (kept_point one ≡ point → ⊥) → NoneBefore (at + 1)
  none_more at one fits is before differ k other lt there same =
      elim (cases_lt k at) [
        | inl less ↦ before k other less there same
        | inr more ↦
            let k_is : k ≡ at = omega (arith, lt, more) in
            let read : slice_index_or kept at other ≡ other =
            subst (λ n. slice_index_or kept n other ≡ other) k_is there in
            let one_is : one ≡ other = is ∙ get_or_default kept at one other fits ∙ read in
            differ (ap kept_point one_is ∙ same)
      ]

  pub none_at_all : (at : ℕ) → length kept ≤ at → NoneBefore at → HasKept kept point → ⊥
  none_at_all at all before has = before has.is_kept.0 has.one (omega (arith, has.is_kept.1, all)) has.is_kept.2 has.is

  pub first_at : (at : ℕ) (one : HeldNote) → at < length kept → one ≡ slice_index_or kept at one → NoneBefore at →
      one.size ≡ size → one.root ≡ root → IsFirstWith kept point one
  first_at at one fits is before s r = record {
    at = at;
    within = fits;
    is_there = sym is;
    is = λ i. record { size = s i; root = r i };
    none = before;
  }

  pub other_size : (one : HeldNote) → one.size ≢ size → kept_point one ≡ point → ⊥
  other_size one differ same = differ (ap (λ (p : Point). p.size) same)

  pub other_root : (one : HeldNote) (b : Bool) → b ≡ pointwise nat_eq one.root root → b ≡ false →
      kept_point one ≡ point → ⊥
  other_root one b is differs same =
      let equal : b ≡ true = (slice_eq-Decides Decides-eqb one.root root b is).1 (ap (λ (p : Point). p.root) same) in
      cc (equal, differs)

pub same_root : (a b : List ℕ) (t : Bool) → t ≡ pointwise nat_eq a b → t ≡ true → a ≡ b
same_root a b t is equal = (slice_eq-Decides Decides-eqb a b t is).0 equal
