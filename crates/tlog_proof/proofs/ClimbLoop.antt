-- The loop that reads a proof from the leaf up, for values of any type.
use Rattle.std.proofs.Common.{Bool, true, false, inl, inr, ◌≡◌, ℕ, suc, ◌+◌, ◌*◌, ◌/◌, ◌%◌, ◌^◌, ◌<◌, ◌≤◌, List, []}
use Rattle.std.proofs.Common.{◌∷◌, ◌++◌, reverse, Option, Some, None, sym, refl, ap, ◌∙◌, arith, eqb}
use Rattle.std.proofs.lemmas.List.{reverse-append}
use Rattle.std.proofs.lemmas.Bool.Decides.{Decides-eqb}
use Rattle.std.proofs.lemmas.Slice.Eq.{slice_eq-Decides}
use Rattle.std.proofs.lemmas.Nat.{pow_pos, mul-le}
use Rattle.std.proofs.Math.Nat.{pow-succ'}
use Rattle.std.specs.Cmp.Lexicographic.{pointwise}
use Rattle.std.specs.Prelude.{◌↔◌, IsTrue}
use Rattle.tlog_proof.specs.Climb.{climb}
use Rattle.tlog_hash.specs.Shape.{shape}
use Rattle.tlog_proof.specs.Consistency.{both_right, both_left, cons}
use Rattle.tlog_proof.specs.Steps.{HasBlocks}
use Rattle.tlog_hash.proofs.Shapes.{shape-one}
use Rattle.tlog_proof.proofs.Climbing.{pair_up, lone_up, none_more, none_empty}
use Rattle.tlog_proof.proofs.Consistencies.{IsStart, cons_climbs, none_at}

turned : (p : List ℕ) (rest : List (List ℕ)) → reverse (p ∷ rest) ≡ reverse rest ++ p ∷ []
turned p rest = reverse-append (p ∷ []) rest

module _ {V : Type 0} (on_right on_left : List ℕ → V → V) where
  abbrev Keeps : ℕ → ℕ → ℕ → ℕ → Type 0
  Keeps i s j t =
      (value : V) (path : List (List ℕ)) →
      climb on_right on_left (shape (s + 1)) i value path ≡ climb on_right on_left (shape (t + 1)) j value path

  pub keeps_more : (i s f t : ℕ) → f % 2 ≡ 0 → f ≡ t → Keeps i s f t → Keeps i s (f / 2) (t / 2)
  keeps_more i s f t even alone keeps h rq =
      let c = f / 2 in
      let ef : f ≡ 2 * c = omega arith in
      let et : t + 1 ≡ 2 * c + 1 = omega arith in
      let ec : c + 1 ≡ t / 2 + 1 = omega arith in
      keeps h rq ∙ (λ j. climb on_right on_left (shape (et j)) (ef j) h rq) ∙
      lone_up on_right on_left c c h (omega arith) rq ∙ (λ j. climb on_right on_left (shape (ec j)) c h rq)

  -- a hash joins from the left
  pub left_joins : (f s f' s' : ℕ) (r : V) (p : List ℕ) (new : V) (rest : List (List ℕ)) → f' % 2 ≡ 1 → f' ≤ s' →
      Keeps f s f' s' → new ≡ on_left p r →
      climb on_right on_left (shape (s' / 2 + 1)) (f' / 2) new (reverse rest)
      ≡ climb on_right on_left (shape (s + 1)) f r (reverse (p ∷ rest))
  left_joins f s f' s' r p new rest odd within keeps is =
      let c = f' / 2 in
      let e : 2 * c + 1 ≡ f' = omega arith in
      sym (ap (climb on_right on_left (shape (s + 1)) f r) (turned p rest)
      ∙ keeps r (reverse rest ++ p ∷ [])
      ∙ ap (λ i. climb on_right on_left (shape (s' + 1)) i r (reverse rest ++ p ∷ [])) (sym e)
      ∙ pair_up on_right on_left 1 r p new (inr (refl, sym is)) (omega arith) (s' + 1) (s' + 1) (s' / 2 + 1) c
      (omega arith) (omega arith) (record { upto = omega arith; above = omega arith }) (omega arith) (reverse rest))

  -- a hash joins from the right
  pub right_joins : (f s : ℕ) (r : V) (p : List ℕ) (new : V) (rest : List (List ℕ)) → f % 2 ≡ 0 → f < s →
      new ≡ on_right p r →
      climb on_right on_left (shape (s / 2 + 1)) (f / 2) new (reverse rest)
      ≡ climb on_right on_left (shape (s + 1)) f r (reverse (p ∷ rest))
  right_joins f s r p new rest even within is =
      let c = f / 2 in
      let e : 2 * c + 0 ≡ f = omega arith in
      sym (ap (climb on_right on_left (shape (s + 1)) f r) (turned p rest)
      ∙ ap (λ i. climb on_right on_left (shape (s + 1)) i r (reverse rest ++ p ∷ [])) (sym e)
      ∙ pair_up on_right on_left 0 r p new (inl (refl, sym is)) (omega arith) (s + 1) (s + 1) (s / 2 + 1) c
      (omega arith) (omega arith) (record { upto = omega arith; above = omega arith }) (omega arith) (reverse rest))

  -- the path has a hash too many
  pub too_many : (f s : ℕ) (r : V) (p : List ℕ) (rest : List (List ℕ)) → s ≡ 0 →
      climb on_right on_left (shape (s + 1)) f r (reverse (p ∷ rest)) ≡ None
  too_many f s r p rest z =
      let one : s + 1 ≡ 1 =
      omega arith in (λ j. climb on_right on_left ((ap shape one ∙ shape-one) j) f r (turned p rest j)) ∙
      none_more on_right on_left f r p (reverse rest)

  -- the path has too few hashes
  pub too_few : (f s : ℕ) (r : V) → (s ≡ 0 → ⊥) → climb on_right on_left (shape (s + 1)) f r [] ≡ None
  too_few f s r some = none_empty on_right on_left (s + 1) f r (omega arith)

  pub at_root : (f s : ℕ) (r : V) → s ≡ 0 → climb on_right on_left (shape (s + 1)) f r [] ≡ Some r
  at_root f s r z =
      let one : s + 1 ≡ 1 = omega arith in ap (λ t. climb on_right on_left t f r []) (ap shape one ∙ shape-one)

-- ---- the blocks of the first tree

pub blocks_more : (n m f s : ℕ) → f % 2 ≡ 1 → HasBlocks n m f s → HasBlocks n m (f / 2) (s / 2)
blocks_more n m f s odd h =
    let j = h.exponent in
    let b = 2 ^ j in
    let c = f / 2 in
    let t = s / 2 in
    let twice : 2 ^ suc j ≡ 2 * b = pow-succ' 2 j in
    let some : 0 < b = pow_pos j in
    let ef : f + 1 ≡ 2 * (c + 1) = omega arith in
    let first : (f + 1) * b ≡ (c + 1) * (2 * b) = ap (λ x. x * b) ef ∙ omega arith in
    let low : (s + 1) * b ≤ (2 * (t + 1)) * b = mul-le _ _ _ _ (omega arith) (omega arith) in
    let high : (2 * (t + 1)) * b ≤ ((s + 1) + 1) * b = mul-le _ _ _ _ (omega arith) (omega arith) in
    let e : (t + 1) * 2 ^ suc j ≡ (2 * (t + 1)) * b = ap (λ x. (t + 1) * x) twice ∙ omega arith in
    let e1 : ((s + 1) + 1) * b ≡ (s + 1) * b + b = omega arith in
    record {
      exponent =
          suc j;
      upto =
          omega (arith, h.upto, low, e);
      above =
          omega (arith, h.above, high, e, e1, twice);
      first_is = h.first_is ∙ first ∙ sym (ap (λ x. (c + 1) * x) twice);
    }

pub blocks_first : (i s : ℕ) → HasBlocks (s + 1) (i + 1) i s
blocks_first i s = record { exponent = 0; upto = omega arith; above = omega arith; first_is = omega arith }

pub climbs : (digest : List ℕ → List ℕ) (n m f s : ℕ) → f % 2 ≡ 0 → HasBlocks n m f s → m < n →
    (g v : List ℕ) (rest path : List (List ℕ)) → IsStart f g v rest path →
    cons digest m n true g path ≡ climb (both_right digest) (both_left digest) (shape (s + 1)) f (v, v) (reverse rest)
climbs digest n m f s even h lt g v rest path start =
    cons_climbs digest h.exponent n (s + 1) m f
    (record { upto = h.upto; above = h.above; first_is = h.first_is; even = even }) lt g v rest path start

pub empty_path : (digest : List ℕ → List ℕ) (n m : ℕ) (g : List ℕ) (path : List (List ℕ)) → 0 < m → m < n → path ≡ [] →
    cons digest m n true g path ≡ None
unfolding cons
empty_path digest n m g path some lt is =
    ap (cons digest m n true g) is ∙ none_at digest n m true g (omega arith) (omega arith) (inr lt)

-- ---- the answers

-- a refused path leads to no value
pub refused : {X : Type 0} (o : Option X) (value : X) (b : Bool) → b ≡ false → o ≡ None → IsTrue b ↔ (o ≡ Some value)
refused o value b is none = (λ h. absurd (let e : b ≡ true = h in cc (e, is)), λ h. absurd (cc (h, none)))

pub refused_inside : {X : Type 0} (inside : Type 0) (o : Option X) (value : X) (b : Bool) → b ≡ false → o ≡ None →
    IsTrue b ↔ (inside × (o ≡ Some value))
refused_inside inside o value b is none =
    (λ h. absurd (let e : b ≡ true = h in cc (e, is)), λ h. absurd (let e : o ≡ Some value = h.1 in cc (e, none)))

pub answered_inside : (index size : ℕ) (o : Option (List ℕ)) (r root : List ℕ) (b : Bool) → index < size →
    b ≡ pointwise eqb r root → o ≡ Some r → IsTrue b ↔ ((index < size) × (o ≡ Some root))
answered_inside index size o r root b inside is some =
    let d = slice_eq-Decides Decides-eqb r root b is in (
      λ h. (inside, some ∙ ap Some (d.0 h)),
      λ h. d.1 (let e : o ≡ Some root = h.1 in let same : r ≡ root = cc (e, some) in same),
    )

-- the first root is right
pub answered : (o : Option (List ℕ × List ℕ)) (r roots : List ℕ × List ℕ) (a b : Bool) → a ≡ pointwise eqb r.0 roots.0 →
    a ≡ true → b ≡ pointwise eqb r.1 roots.1 → o ≡ Some r → IsTrue b ↔ (o ≡ Some roots)
answered o r roots a b a_is yes_a b_is some =
    let da = slice_eq-Decides Decides-eqb r.0 roots.0 a a_is in
    let d = slice_eq-Decides Decides-eqb r.1 roots.1 b b_is in (
      λ h. some ∙ (λ i. Some (da.0 yes_a i, d.0 h i)),
      λ h. d.1 (let e : Some r ≡ Some roots = sym some ∙ h in let same : r ≡ roots = cc e in ap (λ x. x.1) same),
    )

-- the first root is wrong
pub first_wrong : (o : Option (List ℕ × List ℕ)) (r roots : List ℕ × List ℕ) (a b : Bool) →
    a ≡ pointwise eqb r.0 roots.0 → a ≡ false → b ≡ false → o ≡ Some r → IsTrue b ↔ (o ≡ Some roots)
first_wrong o r roots a b a_is wrong b_is some =
    let da = slice_eq-Decides Decides-eqb r.0 roots.0 a a_is in (
      λ h. absurd (let e : b ≡ true = h in cc (e, b_is)),
      λ h. absurd
          (let e : Some r ≡ Some roots =
          sym some ∙ h in let same : r ≡ roots = cc e in let t : a ≡ true = da.1 (ap (λ x. x.0) same) in cc (t, wrong)),
    )
