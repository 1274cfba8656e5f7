-- No place gets two requests for one path, call after call.
use Rattle.std.proofs.Common.{◌≡◌, ◌≢◌, inl, inr, ℕ, ◌+◌, ◌-◌, ◌<◌, ◌≤◌, List, [], ◌∷◌, ◌++◌, length, get_or, Option, All, AllPairs}
use Rattle.std.proofs.Common.{refl, sym, subst, ◌∙◌, arith}
use Rattle.std.specs.Prelude.{⊤}
use Rattle.std.proofs.Math.ListN.{set}
use Rattle.std.proofs.lemmas.Bool.{cases_lt, cases_order}
use Rattle.std.proofs.lemmas.List.{length-append, get_or_default, get_or_append_left, get_or-append_right, get_or-set_same, get_or-set_other}
use Rattle.std.proofs.lemmas.List.Elements.{All-nil, All-cons, All-append, All-weaker}
use Rattle.tlog_tiles.specs.declared.paths.Path.{Path}
use Rattle.mirror_sources.specs.Files.{full_of}
use Rattle.mirror_sources.specs.Recorded.{AddsToRecord}
use Rattle.copy_places.specs.Asked.{IsAskedInTurn, IsPathOrFull}
use Rattle.copy_places.specs.AskedOnce.{AsksEachOnce, AsksMore, AsksOnce, IsAskedOnce, IsAtPlace, IsBeforeTurn}
use Rattle.copy_places.specs.EndTiles.{IsEndTile, IsHeard, IsKept, KeepsAnswers}
use Rattle.copy_places.specs.PlaceGets.{AsksPlaces}
use Rattle.copy_places.specs.declared.place.Place.{Place}
use Rattle.copy_places.specs.declared.places.Places.{Places}
use Rattle.copy_places.proofs.Asking.{recorded_same, recorded_then, still_same, still_then}

-- paths that do not differ from each other, and then others
pairs_append : (so also : Path → Type 0) → ((path : Path) → so path → also path → ⊥) → (xs ys : List Path) → All so xs →
    All also ys → AllPairs (λ a b. a ≢ b) xs → AllPairs (λ a b. a ≢ b) ys → AllPairs (λ a b. a ≢ b) (xs ++ ys)
pairs_append so also apart xs ys f g p q i j d lt within e =
    let long = length-append xs ys in
    let left = λ (k : ℕ) (l : k < length xs). get_or_append_left xs ys d k l in
    let right = λ (k : ℕ) (l : length xs ≤ k). get_or-append_right xs ys (length xs) k d refl l in
    elim (cases_lt j (length xs)) [
      | inl jl ↦ p i j d lt jl (sym (left i (omega (arith, lt, jl))) ∙ (e ∙ left j jl))
      | inr jr ↦ elim (cases_lt i (length xs)) [
        | inl il ↦
            let same : get_or xs i d ≡ get_or ys (j - length xs) d = sym (left i il) ∙ (e ∙ right j jr) in
            apart (get_or xs i d) (f i d il)
            (subst (λ p. also p) (sym same) (g (j - length xs) d (omega (arith, within, long, jr))))
        | inr ir ↦ q (i - length xs) (j - length xs) d (omega (arith, lt, ir)) (omega (arith, within, long, jr))
            (sym (right i ir) ∙ (e ∙ right j jr))
      ]
    ]

pairs_none : (xs : List Path) → All (λ path. ⊥) xs → AllPairs (λ a b. a ≢ b) xs
pairs_none xs none i j d lt within e = none j d within

pairs_one : (path : Path) → AllPairs (λ a b. a ≢ b) (path ∷ [])
pairs_one path i j d lt within e = absurd (omega (arith, lt, within))

-- no place has two turns
turn_before : (first turn earlier k : ℕ) → earlier < turn → IsAskedInTurn first earlier k → IsAskedInTurn first turn k → ⊥
turn_before first turn earlier k lt p q = grind arith

module _ {S : Type 0} (asked : S → Option (List Path)) where
  place_same : (so : Path → Type 0) (a : Place S) → IsAskedOnce asked so a a
  place_same so a = record {
    paths = [];
    recorded = recorded_same (asked a.source);
    are_so = All-nil so;
    once = λ i j d lt within e. absurd (omega (arith, within));
  }

  place_weaker : (so also : Path → Type 0) → ((path : Path) → so path → also path) → (a b : Place S) →
      IsAskedOnce asked so a b → IsAskedOnce asked also a b
  place_weaker so also f a b p = record {
    paths = p.paths;
    recorded = p.recorded;
    are_so = All-weaker so also f p.paths p.are_so;
    once = p.once;
  }

  place_then : (so also more : Path → Type 0) → ((path : Path) → so path → also path → ⊥) →
      ((path : Path) → so path → more path) → ((path : Path) → also path → more path) → (a b c : Place S) →
      IsAskedOnce asked so a b → IsAskedOnce asked also b c → IsAskedOnce asked more a c
  place_then so also more apart f g a b c p q = record {
    paths = p.paths ++ q.paths;
    recorded = recorded_then (asked a.source) (asked b.source) (asked c.source) p.paths q.paths p.recorded q.recorded;
    are_so = All-append more p.paths q.paths (All-weaker so more f p.paths p.are_so) (All-weaker also more g q.paths q.are_so);
    once = pairs_append so also apart p.paths q.paths p.are_so q.are_so p.once q.once;
  }

  -- a place got one request
  pub place_one : (path : Path) (a b : Place S) → AddsToRecord (asked a.source) (asked b.source) (path ∷ []) →
      IsAskedOnce asked (λ p. p ≡ path) a b
  place_one path a b recorded = record {
    paths = path ∷ [];
    recorded = recorded;
    are_so = All-cons (λ p. p ≡ path) path [] refl (All-nil (λ p. p ≡ path));
    once = pairs_one path;
  }

  -- ---- the places, and what is kept of their answers

  -- a path whose answer is kept still has it after a later call
  kept_later : (x y : Places S) → KeepsAnswers x.ends y.ends → (k : ℕ) (path : Path) → IsKept x k path → IsKept y k path
  kept_later x y still k path kept = λ end. still.heard k path (kept (subst (λ n. IsEndTile n path) still.sizes_are end))

  -- the places got no request
  each_same : (so : ℕ → Path → Type 0) (x y : Places S) → y.list.items ≡ x.list.items → AsksEachOnce asked so x y
  each_same so x y e = record {
    each = λ k d. subst (λ (ys : List (Place S)). IsAskedOnce asked (so k) (get_or x.list.items k d) (get_or ys k d)) (sym e)
        (place_same (so k) (get_or x.list.items k d));
  }

  pub each_weaker : (so also : ℕ → Path → Type 0) → ((k : ℕ) (path : Path) → so k path → also k path) → (x y : Places S) →
      AsksEachOnce asked so x y → AsksEachOnce asked also x y
  each_weaker so also f x y p = record {
    each = λ k d. place_weaker (so k) (also k) (f k) (get_or x.list.items k d) (get_or y.list.items k d) (p.each k d);
  }

  -- two calls that ask a place for different paths
  each_then : (so also more : ℕ → Path → Type 0) → ((k : ℕ) (path : Path) → so k path → also k path → ⊥) →
      ((k : ℕ) (path : Path) → so k path → more k path) → ((k : ℕ) (path : Path) → also k path → more k path) →
      (x y z : Places S) → AsksEachOnce asked so x y → AsksEachOnce asked also y z → AsksEachOnce asked more x z
  each_then so also more apart f g x y z p q = record {
    each = λ k d. place_then (so k) (also k) (more k) (apart k) (f k) (g k) (get_or x.list.items k d) (get_or y.list.items k d)
        (get_or z.list.items k d) (p.each k d) (q.each k d);
  }

  pub once_same : (so : ℕ → Path → Type 0) (x : Places S) → AsksOnce asked so x x
  once_same so x = record { asks = each_same (λ k path. so k path × IsKept x k path) x x refl; still = still_same x.ends }

  pub once_begun : (so : ℕ → Path → Type 0) (x y : Places S) → y.list.items ≡ x.list.items → AsksEachOnce asked so x y
  once_begun so x y e = each_same so x y e

  pub begun_once : (so : ℕ → Path → Type 0) (x y z : Places S) → y.list.items ≡ x.list.items → AsksOnce asked so y z →
      AsksEachOnce asked (IsKept z) x z
  begun_once so x y z e p = record {
    each = λ k d. subst (λ (xs : List (Place S)). IsAskedOnce asked (IsKept z k) (get_or xs k d) (get_or z.list.items k d)) e
        (place_weaker (λ path. so k path × IsKept z k path) (IsKept z k) (λ path h. h.1) (get_or y.list.items k d)
        (get_or z.list.items k d) (p.asks.each k d));
  }

  pub once_weaker : (so also : ℕ → Path → Type 0) → ((k : ℕ) (path : Path) → so k path → also k path) → (x y : Places S) →
      AsksOnce asked so x y → AsksOnce asked also x y
  once_weaker so also f x y p = record {
    asks = each_weaker (λ k path. so k path × IsKept y k path) (λ k path. also k path × IsKept y k path)
        (λ k path h. (f k path h.0, h.1)) x y p.asks;
    still = p.still;
  }

  -- two calls that ask a place for different paths
  pub once_then : (so also more : ℕ → Path → Type 0) → ((k : ℕ) (path : Path) → so k path → also k path → ⊥) →
      ((k : ℕ) (path : Path) → so k path → more k path) → ((k : ℕ) (path : Path) → also k path → more k path) →
      (x y z : Places S) → AsksOnce asked so x y → AsksOnce asked also y z → AsksOnce asked more x z
  once_then so also more apart f g x y z p q = record {
    asks = each_then (λ k path. so k path × IsKept y k path) (λ k path. also k path × IsKept z k path)
        (λ k path. more k path × IsKept z k path) (λ k path a b. apart k path a.0 b.0)
        (λ k path a. (f k path a.0, kept_later y z q.still k path a.1)) (λ k path b. (g k path b.0, b.1)) x y z p.asks q.asks;
    still = still_then x.ends y.ends z.ends p.still q.still;
  }

  -- a call that requests nothing
  once_none : (may : S → Path → Option (List ℕ) → Type 0) (failed : S → ℕ) (x y : Places S) →
      AsksPlaces may failed asked (λ path. ⊥) x y → AsksOnce asked (λ k path. ⊥) x y
  once_none may failed x y q = record {
    asks = record {
      each = λ k d. let a = q.each k d in record {
        paths = a.paths;
        recorded = a.recorded;
        are_so = All-weaker (λ path. ⊥) (λ path. ⊥ × IsKept y k path) (λ path none. absurd none) a.paths a.are_so;
        once = pairs_none a.paths a.are_so;
      };
    };
    still = q.still;
  }

  -- the record after the call
  pub once_noted : (may : S → Path → Option (List ℕ) → Type 0) (failed : S → ℕ) (so : ℕ → Path → Type 0) (x y z : Places S) →
      AsksOnce asked so x y → AsksPlaces may failed asked (λ path. ⊥) y z → AsksOnce asked so x z
  once_noted may failed so x y z p q = once_then so (λ k path. ⊥) so (λ k path h none. none) (λ k path h. h)
      (λ k path none. absurd none) x y z p (once_none may failed y z q)

  -- a hint before the call
  pub noted_once : (may : S → Path → Option (List ℕ) → Type 0) (failed : S → ℕ) (so : ℕ → Path → Type 0) (x y z : Places S) →
      AsksPlaces may failed asked (λ path. ⊥) x y → AsksOnce asked so y z → AsksOnce asked so x z
  noted_once may failed so x y z p q = once_then (λ k path. ⊥) so so (λ k path none h. none) (λ k path none. absurd none)
      (λ k path h. h) x y z (once_none may failed x y p) q

  -- one place got a request
  pub each_at : (so : Path → Type 0) (x y : Places S) (i : ℕ) (old new : Place S) → i < length x.list.items →
      y.list.items ≡ set x.list.items i new → old ≡ get_or x.list.items i old → IsAskedOnce asked so old new →
      AsksEachOnce asked (IsAtPlace i so) x y
  each_at so x y i old new lt list is h = record {
    each = λ k d. subst (λ (ys : List (Place S)). IsAskedOnce asked (IsAtPlace i so k) (get_or x.list.items k d) (get_or ys k d)) (sym list)
        (elim (cases_order k i) [
          | inl e ↦ subst (λ (n : ℕ). IsAskedOnce asked (IsAtPlace i so n) (get_or x.list.items n d) (get_or (set x.list.items i new) n d)) (sym e)
              (subst (λ (p : Place S). IsAskedOnce asked (IsAtPlace i so i) (get_or x.list.items i d) p) (sym (get_or-set_same x.list.items i new d lt))
              (subst (λ (p : Place S). IsAskedOnce asked (IsAtPlace i so i) p new) (is ∙ get_or_default x.list.items i old d lt)
              (place_weaker so (IsAtPlace i so i) (λ path s. (refl, s)) old new h)))
          | inr o ↦
              let ne : k ≢ i = λ e. elim o [ inl less ↦ absurd (omega arith) | inr more ↦ absurd (omega arith) ] in
              subst (λ (p : Place S). IsAskedOnce asked (IsAtPlace i so k) (get_or x.list.items k d) p)
              (sym (get_or-set_other x.list.items i k new d ne)) (place_same (IsAtPlace i so k) (get_or x.list.items k d))
        ]);
  }

  -- the place was only recorded as one that will be asked
  pub once_listed : (so : ℕ → Path → Type 0) (x y : Places S) → y.list.items ≡ x.list.items → KeepsAnswers x.ends y.ends → AsksOnce asked so x y
  once_listed so x y e still = record { asks = each_same (λ k path. so k path × IsKept y k path) x y e; still = still }

  -- a place was recorded as one that will be asked for a path, then asked, and then its answer was kept
  pub once_got : (index : ℕ) (path : Path) (x w y z : Places S) → w.list.items ≡ x.list.items → z.list.items ≡ y.list.items →
      KeepsAnswers x.ends z.ends → (IsEndTile z.ends.sizes path → IsHeard z.ends.tiles.items index path) →
      AsksEachOnce asked (IsAtPlace index (λ p. p ≡ path)) w y → AsksOnce asked (IsAtPlace index (λ p. p ≡ path)) x z
  once_got index path x w y z first last still kept p = record {
    asks = record {
      each = λ k d. subst (λ (zs : List (Place S)). IsAskedOnce asked (λ p. IsAtPlace index (λ q. q ≡ path) k p × IsKept z k p)
          (get_or x.list.items k d) (get_or zs k d)) (sym last)
          (subst (λ (xs : List (Place S)). IsAskedOnce asked (λ p. IsAtPlace index (λ q. q ≡ path) k p × IsKept z k p)
          (get_or xs k d) (get_or y.list.items k d)) first
          (place_weaker (IsAtPlace index (λ q. q ≡ path) k) (λ p. IsAtPlace index (λ q. q ≡ path) k p × IsKept z k p)
          (λ p h. (h, subst (λ n. IsKept z n p) (sym h.0) (subst (λ q. IsKept z index q) (sym h.1) kept)))
          (get_or w.list.items k d) (get_or y.list.items k d) (p.each k d)));
    };
    still = still;
  }

  -- ---- the requests after the call, for paths whose answer was not kept

  pub more_same : (x : Places S) → AsksMore asked x x
  more_same x = record {
    asks = each_same (λ k path. IsEndTile x.ends.sizes path × (¬ IsHeard x.ends.tiles.items k path)
        × IsHeard x.ends.tiles.items k path) x x refl;
    still = still_same x.ends;
  }

  -- a call that requests nothing
  pub more_none : (may : S → Path → Option (List ℕ) → Type 0) (failed : S → ℕ) (x y : Places S) →
      AsksPlaces may failed asked (λ path. ⊥) x y → AsksMore asked x y
  more_none may failed x y q = record {
    asks = each_weaker (λ k path. ⊥ × IsKept y k path) (λ k path. IsEndTile y.ends.sizes path
        × (¬ IsHeard x.ends.tiles.items k path) × IsHeard y.ends.tiles.items k path) (λ k path h. absurd h.0) x y
        (once_none may failed x y q).asks;
    still = q.still;
  }

  -- one place got a request
  pub more_one : (index : ℕ) (path : Path) (x y : Places S) → IsEndTile x.ends.sizes path →
      (¬ IsHeard x.ends.tiles.items index path) → AsksOnce asked (IsAtPlace index (λ p. p ≡ path)) x y → AsksMore asked x y
  more_one index path x y end none p = record {
    asks = each_weaker (λ k p. IsAtPlace index (λ q. q ≡ path) k p × IsKept y k p)
        (λ k p. IsEndTile y.ends.sizes p × (¬ IsHeard x.ends.tiles.items k p) × IsHeard y.ends.tiles.items k p)
        (λ k other h.
        let now : IsEndTile y.ends.sizes other = subst (λ q. IsEndTile y.ends.sizes q) (sym h.0.1)
        (subst (λ n. IsEndTile n path) (sym p.still.sizes_are) end) in
        let not : ¬ IsHeard x.ends.tiles.items k other = subst (λ n. ¬ IsHeard x.ends.tiles.items n other) (sym h.0.0)
        (subst (λ q. ¬ IsHeard x.ends.tiles.items index q) (sym h.0.1) none) in
        (now, not, h.1 now)) x y p.asks;
    still = p.still;
  }

  pub more_then : (x y z : Places S) → AsksMore asked x y → AsksMore asked y z → AsksMore asked x z
  more_then x y z p q = record {
    asks = each_then
        (λ k p. IsEndTile y.ends.sizes p × (¬ IsHeard x.ends.tiles.items k p) × IsHeard y.ends.tiles.items k p)
        (λ k p. IsEndTile z.ends.sizes p × (¬ IsHeard y.ends.tiles.items k p) × IsHeard z.ends.tiles.items k p)
        (λ k p. IsEndTile z.ends.sizes p × (¬ IsHeard x.ends.tiles.items k p) × IsHeard z.ends.tiles.items k p)
        (λ k p a b. b.1 a.2)
        (λ k p a. (subst (λ n. IsEndTile n p) (sym q.still.sizes_are) a.0, a.1, q.still.heard k p a.2))
        (λ k path b. (b.0, (λ heard. b.1 (p.still.heard k path heard)), b.2)) x y z p.asks q.asks;
    still = still_then x.ends y.ends z.ends p.still q.still;
  }

  -- the requests of the call, and then those
  pub once_more : (x y z : Places S) → AsksEachOnce asked (IsKept y) x y → AsksMore asked y z →
      AsksEachOnce asked (λ k path. ⊤) x z
  once_more x y z p q = each_then (IsKept y)
      (λ k p. IsEndTile z.ends.sizes p × (¬ IsHeard y.ends.tiles.items k p) × IsHeard z.ends.tiles.items k p) (λ k path. ⊤)
      (λ k p kept b. b.1 (kept (subst (λ n. IsEndTile n p) q.still.sizes_are b.0))) (λ k p a. tt) (λ k p b. tt) x y z p q.asks

  -- a place had its turn, after those of the earlier turns
  pub once_turn : (so : Path → Type 0) (first turn index : ℕ) → IsAskedInTurn first turn index → (x y z : Places S) →
      AsksOnce asked (IsBeforeTurn first turn so) x y → AsksOnce asked (IsAtPlace index so) y z →
      AsksOnce asked (IsBeforeTurn first (turn + 1) so) x z
  once_turn so first turn index at = once_then (IsBeforeTurn first turn so) (IsAtPlace index so)
      (IsBeforeTurn first (turn + 1) so)
      (λ k path before now.
      turn_before first turn before.0.0 k before.0.1 before.0.2 (subst (λ n. IsAskedInTurn first turn n) (sym now.0) at))
      (λ k path before. ((before.0.0, let lt = before.0.1 in omega (arith, lt), before.0.2), before.1))
      (λ k path now. ((turn, omega arith, subst (λ n. IsAskedInTurn first turn n) (sym now.0) at), now.1))

  -- after some turns
  pub once_turns : (so : Path → Type 0) (first turn : ℕ) (x y : Places S) → AsksOnce asked (IsBeforeTurn first turn so) x y →
      AsksOnce asked (λ k. so) x y
  once_turns so first turn = once_weaker (IsBeforeTurn first turn so) (λ k. so) (λ k path before. before.1)

  -- the last turn
  pub once_last : (so : Path → Type 0) (first turn index : ℕ) → IsAskedInTurn first turn index → (x y z : Places S) →
      AsksOnce asked (IsBeforeTurn first turn so) x y → AsksOnce asked (IsAtPlace index so) y z → AsksOnce asked (λ k. so) x z
  once_last so first turn index at x y z p q =
      once_turns so first (turn + 1) x z (once_turn so first turn index at x y z p q)

  -- a partial file was requested, and then its full one
  pub once_part : (path : Path) (index : ℕ) → path ≢ full_of path → (x y z : Places S) →
      AsksOnce asked (IsAtPlace index (λ p. p ≡ path)) x y → AsksOnce asked (IsAtPlace index (λ p. p ≡ full_of path)) y z →
      AsksOnce asked (IsAtPlace index (IsPathOrFull path)) x z
  once_part path index differ = once_then (IsAtPlace index (λ p. p ≡ path)) (IsAtPlace index (λ p. p ≡ full_of path))
      (IsAtPlace index (IsPathOrFull path)) (λ k p one two. differ (sym one.1 ∙ two.1)) (λ k p one. (one.0, inl one.1))
      (λ k p two. (two.0, inr two.1))

  -- the place of an index was asked, after those before it
  pub index_then : (so : Path → Type 0) (i : ℕ) (x y z : Places S) → AsksOnce asked (λ k path. (k < i) × so path) x y →
      AsksOnce asked (IsAtPlace i so) y z → AsksOnce asked (λ k path. (k < i + 1) × so path) x z
  index_then so i = once_then (λ k path. (k < i) × so path) (IsAtPlace i so) (λ k path. (k < i + 1) × so path)
      (λ k path before now. let lt = before.0 in let is = now.0 in omega (arith, lt, is))
      (λ k path before. (let lt = before.0 in omega (arith, lt), before.1))
      (λ k path now. (let is = now.0 in omega (arith, is), now.1))

  -- after some of the places
  pub index_all : (so : Path → Type 0) (i : ℕ) (x y : Places S) → AsksOnce asked (λ k path. (k < i) × so path) x y →
      AsksEachOnce asked (λ k. so) x y
  index_all so i x y p =
      each_weaker (λ k path. ((k < i) × so path) × IsKept y k path) (λ k. so) (λ k path h. h.0.1) x y p.asks
