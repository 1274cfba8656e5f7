-- Sets without some of their strings, and the notes of added strings.
use Rattle.std.proofs.Common.{◌≡◌, ℕ, List, [], ◌∷◌, ◌++◌, Result, Ok, Err, sym, ap, ◌∙◌, subst, inl, inr, arith}
use Rattle.std.specs.Prelude.{OnOk, OnErr}
use Rattle.std.specs.List.{Contains}
use Rattle.std.specs.FinSet.{insert}
use Rattle.std.proofs.lemmas.List.Elements.{Contains-append_left, Contains-append_right, Contains-push, Contains-push_cases}
use Rattle.node_store.specs.Strings.{Strings, Has, IsWithout, NoClash, AllTagged}
use Rattle.node_store.proofs.Sets.{Has-insert, Has-insert_other, same_strings}

module _ (digest : List ℕ → List ℕ) where
  -- if there are no digests, the rest is the set itself
  pub rest_none : (v : Strings) → IsWithout digest v [] v
  rest_none v = record { within = λ s h. h; apart = λ s h c. omega (arith, c.1); kept = λ s h not. h }

  -- the strings of one more digest are removed
  pub rest_more : (u v w : Strings) (ds : List (List ℕ)) (k : List ℕ) → IsWithout digest u ds v →
      IsWithout digest v (k ∷ []) w → IsWithout digest u (ds ++ k ∷ []) w
  rest_more u v w ds k p q = record {
    within = λ s h. p.within s (q.within s h);
    apart = λ s h c. elim (Contains-push_cases ds k (digest s) c) [
      | inl a ↦ p.apart s (q.within s h) a
      | inr e ↦ q.apart s h (subst (Contains (k ∷ [])) e (Contains-push [] k))
    ];
    kept = λ s h not. q.kept s (p.kept s h (λ c. not (Contains-append_left ds (k ∷ []) (digest s) c)))
        (λ c. not (Contains-append_right ds (k ∷ []) (digest s) c));
  }

  -- the rest is unique
  pub same_rest : (u v w : Strings) (ds : List (List ℕ)) → IsWithout digest u ds v → IsWithout digest u ds w → v ≡ w
  same_rest u v w ds p q =
      same_strings v w (λ s h. q.kept s (p.within s h) (p.apart s h)) (λ s h. p.kept s (q.within s h) (q.apart s h))

  pub rest_no_clash : (u v : Strings) (ds : List (List ℕ)) → NoClash digest u → IsWithout digest u ds v →
      NoClash digest v
  rest_no_clash u v ds clean p =
      record { same = λ x y hx hy e. clean.same x y (p.within x hx) (p.within y hy) e }

  pub rest_tagged : (u v : Strings) (ds : List (List ℕ)) → AllTagged u → IsWithout digest u ds v → AllTagged v
  rest_tagged u v ds tagged p = λ s h. tagged s (p.within s h)

  -- a string with a new digest is added, or not, and its digest is noted
  module _ (u v before : Strings) (ds : List (List ℕ)) (k x : List ℕ) (key : k ≡ digest x)
      (fresh : (s : List ℕ) → Has u s → digest s ≡ k → ⊥) (p : IsWithout digest u ds before) where
    still_apart : (s : List ℕ) → Has before s → Contains (ds ++ k ∷ []) (digest s) → ⊥
    still_apart s h c = elim (Contains-push_cases ds k (digest s) c) [
      | inl a ↦ p.apart s h a
      | inr e ↦ fresh s (p.within s h) (sym e)
    ]

    noted_new : v ≡ insert u x → IsWithout digest v (ds ++ k ∷ []) before
    noted_new is = record {
      within = λ s h. subst (λ (z : Strings). Has z s) (sym is) (Has-insert_other u x s (p.within s h));
      apart = still_apart;
      kept = λ s h not. elim (Has-insert u x s (subst (λ (z : Strings). Has z s) is h)) [
        | inl e ↦ absurd (not (subst (Contains (ds ++ k ∷ [])) (key ∙ ap digest (sym e)) (Contains-push ds k)))
        | inr m ↦ p.kept s m (λ c. not (Contains-append_left ds (k ∷ []) (digest s) c))
      ];
    }

    noted_only : v ≡ u → IsWithout digest v (ds ++ k ∷ []) before
    noted_only is = subst (λ (z : Strings). IsWithout digest z (ds ++ k ∷ []) before) (sym is) (record {
      within = p.within;
      apart = still_apart;
      kept = λ s h not. p.kept s h (λ c. not (Contains-append_left ds (k ∷ []) (digest s) c));
    })

    pub noted_either : {X E : Type 0} (r : Result X E) → OnOk r (v ≡ insert u x) → OnErr r (v ≡ u) →
        IsWithout digest v (ds ++ k ∷ []) before
    noted_either (Ok done) is same = noted_new is
    noted_either (Err e) is same = noted_only same
