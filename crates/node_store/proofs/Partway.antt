-- A set to which another one is being added, string by string.
use Rattle.std.proofs.Common.{◌≡◌, ℕ, List, sym, subst, ◌⊎◌, inl, inr}
use Rattle.std.specs.FinSet.{insert, empty, union}
use Rattle.node_store.specs.Strings.{Strings, Has, Clashes, ClashesWith, NoClash}
use Rattle.node_store.proofs.Sets.{Has-insert, Has-insert_same, Has-insert_other, Has-empty, Has-union_left}
use Rattle.node_store.proofs.Sets.{Has-union_right, Has-union_cases, same_strings}

-- `now` is `old` with all strings of `other`, except some of `rest`
pub record IsPartway (old other now rest : Strings) : Type 0 where
  pub grows : (s : List ℕ) → Has old s → Has now s
  pub within : (s : List ℕ) → Has now s → Has (union old other) s
  pub left : (s : List ℕ) → Has rest s → Has other s
  pub covers : (s : List ℕ) → Has other s → Has now s ⊎ Has rest s

pub partway_start : (old other rest : Strings) → rest ≡ other → IsPartway old other old rest
partway_start old other rest e = record {
  grows = λ s h. h;
  within = λ s h. Has-union_left old other s h;
  left = λ s h. subst (λ v. Has v s) e h;
  covers = λ s h. inr (subst (λ v. Has v s) (sym e) h);
}

pub partway_more : (old other now rest now' rest' : Strings) (x : List ℕ) → rest ≡ insert rest' x →
    now' ≡ insert now x → IsPartway old other now rest → IsPartway old other now' rest'
partway_more old other now rest now' rest' x r n p = record {
  grows = λ s h. there s (Has-insert_other now x s (p.grows s h));
  within = λ s h. elim (Has-insert now x s (subst (λ v. Has v s) n h)) [
    | inl is ↦ Has-union_right old other s
        (p.left s (subst (λ v. Has v s) (sym r) (subst (Has (insert rest' x)) (sym is) (Has-insert_same rest' x))))
    | inr m ↦ p.within s m
  ];
  left = λ s h. p.left s (subst (λ v. Has v s) (sym r) (Has-insert_other rest' x s h));
  covers = λ s h. elim (p.covers s h) [
    | inl m ↦ inl (there s (Has-insert_other now x s m))
    | inr m ↦ elim (Has-insert rest' x s (subst (λ v. Has v s) r m)) [
      | inl is ↦ inl (there s (subst (Has (insert now x)) (sym is) (Has-insert_same now x)))
      | inr k ↦ inr k
    ]
  ];
}
  where
    there : (s : List ℕ) → Has (insert now x) s → Has now' s
    there s h = subst (λ v. Has v s) (sym n) h

pub partway_end : (old other now rest : Strings) → rest ≡ empty → IsPartway old other now rest → now ≡ union old other
partway_end old other now rest none p =
    same_strings _ _ p.within
    (λ s h. elim (Has-union_cases old other s h) [
      | inl m ↦ p.grows s m
      | inr m ↦ elim (p.covers s m) [ inl k ↦ k | inr k ↦ absurd (Has-empty s (subst (λ v. Has v s) none k)) ]
    ])

-- no string of `rest` collides with the strings so far
pub partway_clash : (digest : List ℕ → List ℕ) (old other now rest : Strings) (x : List ℕ) → NoClash digest other →
    (ClashesWith digest old other → ⊥) → IsPartway old other now rest → Has rest x → Clashes digest now x → ⊥
partway_clash digest old other now rest x clean apart p in_rest c =
    let in_other = p.left x in_rest in
    elim (Has-union_cases old other c.other (p.within c.other c.is_held)) [
      | inl m ↦ apart
          (record {
            first =
                c.other;
            second =
                x;
            first_held = m;
            second_held = in_other;
            same_digest = c.same_digest;
            differ = c.differs;
          })
      | inr m ↦ c.differs (clean.same c.other x m in_other c.same_digest)
    ]

-- ---- the search for a collision

-- no string of `other` outside `rest` collides
pub record IsPassed (digest : List ℕ → List ℕ) (now other rest : Strings) : Type 0 where
  pub left : (s : List ℕ) → Has rest s → Has other s
  pub passed : (s : List ℕ) → Has other s → (Clashes digest now s → ⊥) ⊎ Has rest s

pub passed_more : (digest : List ℕ → List ℕ) (now other rest rest' : Strings) (x : List ℕ) → rest ≡ insert rest' x →
    (Clashes digest now x → ⊥) → IsPassed digest now other rest → IsPassed digest now other rest'
passed_more digest now other rest rest' x r not_x p = record {
  left = λ s h. p.left s (subst (λ v. Has v s) (sym r) (Has-insert_other rest' x s h));
  passed = λ s h. elim (p.passed s h) [
    | inl m ↦ inl m
    | inr m ↦ elim (Has-insert rest' x s (subst (λ v. Has v s) r m)) [
      | inl is ↦ inl (λ c. not_x (subst (Clashes digest now) is c))
      | inr k ↦ inr k
    ]
  ];
}

pub passed_end : (digest : List ℕ → List ℕ) (now other rest : Strings) → rest ≡ empty → IsPassed digest now other rest →
    ClashesWith digest now other → ⊥
passed_end digest now other rest none p c =
    elim (p.passed c.second c.second_held) [
      | inl not_second ↦ not_second
          (record { other = c.first; is_held = c.first_held; same_digest = c.same_digest; differs = c.differ })
      | inr k ↦ Has-empty c.second (subst (λ v. Has v c.second) none k)
    ]

pub passed_clash : (digest : List ℕ → List ℕ) (now other rest rest' : Strings) (x : List ℕ) → rest ≡ insert rest' x →
    IsPassed digest now other rest → Clashes digest now x → ClashesWith digest now other
passed_clash digest now other rest rest' x r p c =
    record {
      first = c.other;
      second = x;
      first_held = c.is_held;
      second_held = p.left x (subst (λ v. Has v x) (sym r) (Has-insert_same rest' x));
      same_digest = c.same_digest;
      differ = c.differs;
    }
