-- The puts onto a shelf in memory, as the loops visit them.
use Rattle.std.proofs.Common.{◌≡◌, ℕ, ◌+◌, ◌<◌, ◌≤◌, List, [], ◌∷◌, ◌++◌, length, map, take, get_or, refl, sym, ap}
use Rattle.std.proofs.Common.{Option, Some, None, subst, ◌∙◌, append_assoc, inl, inr, arith}
use Rattle.std.specs.List.{Contains}
use Rattle.std.proofs.lemmas.List.{take_more, take_all, map-append, get_or-map, length-map}
use Rattle.std.proofs.lemmas.List.Elements.{Contains-push_cases}
use Rattle.tlog_tiles.specs.declared.paths.Path.{Path}
use Rattle.mirror_folders.specs.Shelf.{Put, HasPut, Stands, RecordsRead}

module _ {X : Type 0} (seen : X → Put) (xs : List X) (path : Path) where
  -- the path of an item, as it is seen
  abbrev place : X → Path
  place x = (seen x).0

  abbrev fst : Put → Path
  fst put = put.0

  fst-seen : (ys : List X) → map fst (map seen ys) ≡ map place ys
  fst-seen [] = refl
  fst-seen (y ∷ ys) = ap (λ (l : List Path). place y ∷ l) (fst-seen ys)

  pub held_none : HasPut (map seen (take 0 xs)) path → ⊥
  held_none h = let none = h.1 in omega arith

  pub held_more : (i : ℕ) (x : X) → i < length xs → x ≡ get_or xs i x → (place x ≡ path → ⊥) →
      (HasPut (map seen (take i xs)) path → ⊥) → HasPut (map seen (take (i + 1) xs)) path → ⊥
  held_more i x lt e other before h =
      let more : take (i + 1) xs ≡ take i xs ++ x ∷ [] =
      take_more xs i x lt ∙ ap (λ (y : X). take i xs ++ y ∷ []) (sym e) in
      let all : map fst (map seen (take (i + 1) xs)) ≡ map fst (map seen (take i xs)) ++ place x ∷ [] =
      ap (λ (l : List X). map fst (map seen l)) more
      ∙ (ap (map fst) (map-append seen (take i xs) (x ∷ [])) ∙ map-append fst (map seen (take i xs)) (seen x ∷ []))
      in
      elim (Contains-push_cases (map fst (map seen (take i xs))) (place x) path
      (subst (λ (l : List Path). Contains l path) all h)) [ inl earlier ↦ before earlier | inr here ↦ other here ]

  pub held_all : (i : ℕ) → length xs ≤ i → (HasPut (map seen (take i xs)) path → ⊥) → HasPut (map seen xs) path → ⊥
  held_all i le none h = none (subst (λ (l : List X). HasPut (map seen l) path) (sym (take_all i xs le)) h)

  pub held_here : (i : ℕ) (x : X) → i < length xs → x ≡ get_or xs i x → place x ≡ path → HasPut (map seen xs) path
  held_here i x lt e same =
      let at : get_or (map place xs) i path ≡ path = get_or-map place xs i x path lt ∙ (ap place (sym e) ∙ same) in
      let within : i < length (map place xs) = omega (arith, length-map xs place) in
      subst (λ (l : List Path). Contains l path) (sym (fst-seen xs)) (i, within, at)

  -- ---- the bytes at the path

  more_is : (i : ℕ) (x : X) → i < length xs → x ≡ get_or xs i x →
      map seen (take i xs) ++ seen x ∷ [] ≡ map seen (take (i + 1) xs)
  more_is i x lt e = sym (ap (map seen) (take_more xs i x lt ∙ ap (λ (y : X). take i xs ++ y ∷ []) (sym e))
      ∙ map-append seen (take i xs) (x ∷ []))

  stands_last : (puts : List Put) (x : X) → place x ≡ path → Stands (puts ++ seen x ∷ []) path (seen x).1
  stands_last puts x same = record {
    before = puts;
    after = [];
    puts_are = ap (λ (p : Path). puts ++ (p, (seen x).1) ∷ []) same;
    kept = λ other has. let none = has.1 in absurd (omega (arith, none));
  }

  stands_past : (puts : List Put) (x : X) (bytes : List ℕ) → (place x ≡ path → ⊥) → Stands puts path bytes →
      Stands (puts ++ seen x ∷ []) path bytes
  stands_past puts x bytes differs s = record {
    before = s.before;
    after = s.after ++ seen x ∷ [];
    puts_are = ap (λ (l : List Put). l ++ seen x ∷ []) s.puts_are
        ∙ append_assoc s.before ((path, bytes) ∷ s.after) (seen x ∷ []);
    kept = λ other has. elim (Contains-push_cases s.after (seen x) (path, other) has)
        [ inl earlier ↦ s.kept other earlier | inr here ↦ absurd (differs (ap (λ (put : Put). put.0) here)) ];
  }

  module _ (i : ℕ) (x : X) (lt : i < length xs) (e : x ≡ get_or xs i x) (found : Option (List ℕ)) where
    pub read_here : place x ≡ path → found ≡ Some (seen x).1 → RecordsRead (Some (map seen (take (i + 1) xs))) path found
    read_here same is =
        subst (λ (f : Option (List ℕ)). RecordsRead (Some (map seen (take (i + 1) xs))) path f) (sym is)
        (subst (λ (l : List Put). Stands l path (seen x).1) (more_is i x lt e)
        (stands_last (map seen (take i xs)) x same))

    pub read_other : (place x ≡ path → ⊥) → (before : Option (List ℕ)) → found ≡ before →
        RecordsRead (Some (map seen (take i xs))) path before → RecordsRead (Some (map seen (take (i + 1) xs))) path found
    read_other differs before is h =
        subst (λ (f : Option (List ℕ)). RecordsRead (Some (map seen (take (i + 1) xs))) path f) (sym is) (by before h)
      where
        by : (b : Option (List ℕ)) → RecordsRead (Some (map seen (take i xs))) path b →
            RecordsRead (Some (map seen (take (i + 1) xs))) path b
        by None h = held_more i x lt e differs h
        by (Some bytes) h = subst (λ (l : List Put). Stands l path bytes) (more_is i x lt e)
            (stands_past (map seen (take i xs)) x bytes differs h)

  pub read_all : (i : ℕ) → length xs ≤ i → (found : Option (List ℕ)) →
      RecordsRead (Some (map seen (take i xs))) path found → RecordsRead (Some (map seen xs)) path found
  read_all i le found h =
      subst (λ (l : List X). RecordsRead (Some (map seen l)) path found) (take_all i xs le) h
