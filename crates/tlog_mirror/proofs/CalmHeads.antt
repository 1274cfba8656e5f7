-- Calm tree heads.
use Rattle.std.proofs.Common.{◌≡◌, ◌≢◌, ℕ, ◌+◌, ◌-◌, ◌<◌, ◌≤◌, List, ◌∙◌, length, map, get_or, set, Bool, false, sym, ap}
use Rattle.std.proofs.Common.{subst, inl, inr, arith, get_or-set_other, get_or-set_same}
use Rattle.std.specs.Prelude.{IsTrue}
use Rattle.std.specs.List.Sorted.{IsStrictlySortedBy}
use Rattle.std.proofs.lemmas.Bool.{cases_lt}
use Rattle.tlog_mirror.specs.Points.{by_point}
use Rattle.tlog_mirror.specs.Branches.{AreCalmTwo}
use Rattle.tlog_mirror.specs.declared.branches.Branch.{Branch}
use Rattle.std.proofs.lemmas.List.{get_or_default}
use Rattle.tlog_mirror.proofs.BranchSteps.{head_of, less_size, rising}

module _ (branches : List Branch) where
  -- no branch from a place on whose tree is held has a lesser `after`
  abbrev pub IsLeast : ℕ → ℕ → Type 0
  IsLeast from least =
      (k : ℕ) (b : Branch) → from ≤ k → k < length branches → get_or branches k b ≡ b → IsTrue b.whole → least ≤ b.after

  -- the flags from a place on are right
  abbrev pub IsDecidedFrom : ℕ → List Bool → Type 0
  IsDecidedFrom from calm =
      (p k : ℕ) (a b : Branch) → from ≤ p → IsTrue (get_or calm p false) → p < k → k < length branches →
      get_or branches p a ≡ a → get_or branches k b ≡ b → AreCalmTwo p a b

  module _ (sorted : IsStrictlySortedBy by_point (map head_of branches)) (at : ℕ) (some : 0 < at)
      (fits : at ≤ length branches) (least : ℕ) (is_least : IsLeast at least) where
    pub least_more : (one : Branch) → one ≡ get_or branches (at - 1) one → (less : ℕ) → less ≤ least →
        (IsTrue one.whole → less ≤ one.after) → IsLeast (at - 1) less
    least_more one is less le mine k b from lt there whole =
        elim (cases_lt k at) [
          | inl before ↦
              let place : k ≡ at - 1 = omega (arith, before, from) in
              let same : one ≡ b =
              is ∙ get_or_default branches (at - 1) one b (omega (arith, some, fits)) ∙
              ap (λ n. get_or branches n b) (sym place) ∙ there in
              subst (λ (o : Branch). less ≤ o.after) same (mine (ap (λ (o : Branch). o.whole) same ∙ whole))
          | inr behind ↦ let old = is_least k b behind lt there whole in omega (arith, old, le)
        ]

    module _ (calm : List Bool) (len : length calm ≡ length branches) (v : Bool) (past : IsTrue v → at - 1 < least)
        (sizes : (a b : Branch) → IsTrue v → at - 1 + 1 < length branches → get_or branches (at - 1) a ≡ a →
        get_or branches (at - 1 + 1) b ≡ b → a.head.0 ≢ b.head.0) where
      this : (k : ℕ) (a b : Branch) → IsTrue v → at - 1 < k → k < length branches → get_or branches (at - 1) a ≡ a →
          get_or branches k b ≡ b → AreCalmTwo (at - 1) a b
      this k a b yes_calm lt fits_k p q = record {
        sizes =
            let next_lt : at - 1 + 1 < length branches = omega (arith, lt, fits_k) in
            let n : Branch = get_or branches (at - 1 + 1) b in
            let is_n : get_or branches (at - 1 + 1) (get_or branches (at - 1 + 1) b) ≡ get_or branches (at - 1 + 1) b =
            get_or_default branches (at - 1 + 1) (get_or branches (at - 1 + 1) b) b next_lt in
            let other : a.head.0 ≢ (get_or branches (at - 1 + 1) b).head.0 =
            sizes a (get_or branches (at - 1 + 1) b) yes_calm next_lt p is_n in
            let up : a.head.0 ≤ (get_or branches (at - 1 + 1) b).head.0 =
            less_size a.head (get_or branches (at - 1 + 1) b).head
            (rising branches sorted (at - 1) (at - 1 + 1) a (get_or branches (at - 1 + 1) b) (omega arith) next_lt p is_n) in
            elim (cases_lt (at - 1 + 1) k) [
              | inl more ↦
                  let further : (get_or branches (at - 1 + 1) b).head.0 ≤ b.head.0 =
                  less_size (get_or branches (at - 1 + 1) b).head b.head
                  (rising branches sorted (at - 1 + 1) k (get_or branches (at - 1 + 1) b) b more fits_k is_n q) in
                  λ e. other (omega (arith, up, further, e))
              | inr le ↦
                  let place : at - 1 + 1 ≡ k = omega (arith, lt, le) in
                  let same : get_or branches (at - 1 + 1) b ≡ b = ap (λ m. get_or branches m b) place ∙ q in
                  λ e. other (e ∙ ap (λ (o : Branch). o.head.0) (sym same))
            ];
        begun = λ whole.
            let old = is_least k b (omega (arith, lt, some)) fits_k q whole in
            let own = past yes_calm in omega (arith, old, own);
      }

      pub recorded_more : IsDecidedFrom at calm → IsDecidedFrom (at - 1) (set calm (at - 1) v)
      recorded_more old p k a b from yes_calm lt fits_k is_a is_b =
          elim (cases_lt p at) [
            | inl before ↦
                let place : p ≡ at - 1 = omega (arith, before, from) in
                let read : get_or (set calm (at - 1) v) p false ≡ v =
                ap (λ m. get_or (set calm (at - 1) v) m false) place
                ∙ get_or-set_same calm (at - 1) v false (omega (arith, len, some, fits)) in
                subst (λ m. AreCalmTwo m a b) (sym place)
                (this k a b (sym read ∙ yes_calm) (subst (λ m. m < k) place lt) fits_k
                (subst (λ m. get_or branches m a ≡ a) place is_a) is_b)
            | inr behind ↦
                let ne : p ≢ at - 1 = omega (arith, behind, some) in
                old p k a b behind (sym (get_or-set_other calm (at - 1) p v false ne) ∙ yes_calm) lt fits_k is_a is_b
          ]
