-- The requests to places, call after call.
use Rattle.std.proofs.Common.{◌≡◌, ◌≢◌, ◌⊎◌, inl, inr, ℕ, ◌+◌, ◌-◌, ◌^◌, ◌<◌, ◌≤◌, min, List, [], ◌++◌, length, get_or, Option, Some, None}
use Rattle.std.proofs.Common.{IsTrue, IsFalse, IsSome, Bool, true, false, refl, sym, subst, ap, ◌∙◌, arith, append_assoc}
use Rattle.std.specs.Prelude.{IfNone, is_some}
use Rattle.std.proofs.Math.ListN.{set}
use Rattle.std.proofs.lemmas.Bool.{cases_lt, cases_order}
use Rattle.std.proofs.lemmas.List.{append-nil, get_or_default, length-set, get_or-set_same, get_or-set_other}
use Rattle.std.proofs.lemmas.List.Elements.{All-nil, All-append, All-weaker}
use Rattle.tlog_tiles.specs.declared.paths.Path.{Path}
use Rattle.mirror_sources.specs.Source.{StaysWithin}
use Rattle.mirror_sources.specs.Recorded.{AddsToRecord}
use Rattle.copy_places.specs.declared.place.Place.{Place}
use Rattle.copy_places.specs.declared.place.Wrong.{Wrong}
use Rattle.copy_places.specs.declared.place.WrongFile.{WrongFile}
use Rattle.copy_places.specs.declared.end_tiles.EndTiles.{EndTiles}
use Rattle.copy_places.specs.declared.places.Places.{Places}
use Rattle.copy_places.specs.Asked.{IsAskedInVain, IsAskedInTurn}
use Rattle.copy_places.specs.EndTiles.{HasNoNew, IsKeptAnswer, KeepsAnswers, said}
use Rattle.copy_places.specs.PlaceGets.{AddsAnswers, IsSaidBy, RoseTimes, with_first, AreBlamed, IsAskedFor, IsBlamed, APlaceFailed, AsksPlaces}

pub recorded_same : {X : Type 0} (a : Option (List X)) → AddsToRecord a a []
recorded_same None = tt
recorded_same (Some xs) = sym (append-nil xs)

pub recorded_then : {X : Type 0} (a b c : Option (List X)) (xs ys : List X) → AddsToRecord a b xs → AddsToRecord b c ys →
    AddsToRecord a c (xs ++ ys)
recorded_then None b c xs ys p q = tt
recorded_then (Some us) None c xs ys p q = absurd p
recorded_then (Some us) (Some vs) None xs ys p q = absurd q
recorded_then {X} (Some us) (Some vs) (Some ws) xs ys p q = q ∙ (ap (λ (l : List X). l ++ ys) p ∙ append_assoc us xs ys)

some_same : {X : Type 0} (a b : Option X) → b ≡ a → IsSome a → IsSome b
some_same a b e h = subst (λ o. IsSome o) (sym e) h

rose_then : (m n a b c : ℕ) → RoseTimes m a b → RoseTimes n b c → RoseTimes (m + n) a c
rose_then m n a b c p q =
    let p0 : m ≡ 0 → b ≡ a = p.0 in
    let p1 : 1 ≤ m → b ≡ min (a + m) (2 ^ 64 - 1) = p.1 in
    let q0 : n ≡ 0 → c ≡ b = q.0 in
    let q1 : 1 ≤ n → c ≡ min (b + n) (2 ^ 64 - 1) = q.1 in
    (λ none. grind arith, λ some. grind arith)

first_kept : (file : Option WrongFile) (path : Path) (wrong : Wrong) (tried : Option (ℕ × List ℕ)) → IsSome file →
    with_first file path wrong tried ≡ file
first_kept None path wrong tried some = absurd (cc some)
first_kept (Some file) path wrong tried some = refl

-- the answers that are kept

pub still_same : (e : EndTiles) → KeepsAnswers e e
still_same e = record { sizes_are = refl; heard = λ k path h. h; answers = λ k path answer some h. h }

pub still_is : (a b : EndTiles) → b ≡ a → KeepsAnswers a b
still_is a b e = subst (λ t. KeepsAnswers a t) (sym e) (still_same a)

pub still_then : (a b c : EndTiles) → KeepsAnswers a b → KeepsAnswers b c → KeepsAnswers a c
still_then a b c p q = record {
  sizes_are = q.sizes_are ∙ p.sizes_are;
  heard = λ k path h. q.heard k path (p.heard k path h);
  answers = λ k path answer some h. q.answers k path answer some (p.answers k path answer some h);
}

module _ {S : Type 0} (may : S → Path → Option (List ℕ) → Type 0) (failed : S → ℕ) (asked : S → Option (List Path)) where
  pub asked_same : (so : Path → Type 0) (a : Place S) → IsAskedFor may failed asked so a a
  asked_same so a = record {
    later = record { stays = λ path answer h. h };
    paths = [];
    recorded = recorded_same (asked a.source);
    are_so = All-nil so;
    more = omega arith;
    counted = (λ none. refl, λ some. absurd (omega arith));
    given_up = λ given. refl;
    first = λ some. refl;
    noted = λ rose. absurd (omega (arith, rose));
  }

  pub asked_then : (so : Path → Type 0) (a b c : Place S) → IsAskedFor may failed asked so a b →
      IsAskedFor may failed asked so b c → IsAskedFor may failed asked so a c
  asked_then so a b c p q = record {
    later = record { stays = λ path answer h. p.later.stays path answer (q.later.stays path answer h) };
    paths = p.paths ++ q.paths;
    recorded = recorded_then (asked a.source) (asked b.source) (asked c.source) p.paths q.paths p.recorded q.recorded;
    are_so = All-append so p.paths q.paths p.are_so q.are_so;
    more = let m = p.more in let n = q.more in omega arith;
    counted = subst (λ (n : ℕ). RoseTimes n (failed a.source) (failed c.source))
        (let m = p.more in let n = q.more in
        let e : b.failures - a.failures + (c.failures - b.failures) ≡ c.failures - a.failures = omega arith in e)
        (rose_then (b.failures - a.failures) (c.failures - b.failures) (failed a.source) (failed b.source) (failed c.source)
        p.counted q.counted);
    given_up = λ given. let m = p.more in q.given_up (omega arith) ∙ p.given_up given;
    first = λ some. q.first (some_same a.first_wrong b.first_wrong (p.first some) some) ∙ p.first some;
    noted = λ rose. elim (cases_lt b.failures c.failures) [
      | inl more ↦ q.noted more
      | inr less ↦ let was = p.noted (omega (arith, rose, less)) in some_same b.first_wrong c.first_wrong (q.first was) was
    ];
  }

  pub asked_weaker : (so also : Path → Type 0) → ((path : Path) → so path → also path) → (a b : Place S) →
      IsAskedFor may failed asked so a b → IsAskedFor may failed asked also a b
  asked_weaker so also f a b p = record {
    later = p.later;
    paths = p.paths;
    recorded = p.recorded;
    are_so = All-weaker so also f p.paths p.are_so;
    more = p.more;
    counted = p.counted;
    given_up = p.given_up;
    first = p.first;
    noted = p.noted;
  }

  -- a place got a hint
  pub asked_hint : (so : Path → Type 0) (a b : Place S) → StaysWithin (may a.source) (may b.source) →
      asked b.source ≡ asked a.source → failed b.source ≡ failed a.source → b.failures ≡ a.failures →
      b.first_wrong ≡ a.first_wrong → (8 ≤ a.failures → b.source ≡ a.source) → IsAskedFor may failed asked so a b
  asked_hint so a b later recorded counted same first given = record {
    later = later;
    paths = [];
    recorded = subst (λ o. AddsToRecord (asked a.source) o []) (sym recorded) (recorded_same (asked a.source));
    are_so = All-nil so;
    more = omega (arith, same);
    counted = (λ none. counted, λ some. absurd (omega (arith, same, some)));
    given_up = given;
    first = λ some. first;
    noted = λ rose. absurd (omega (arith, same, rose));
  }

  -- a wrong file was recorded, without a request
  pub asked_noted : (so : Path → Type 0) (a b : Place S) (path : Path) (wrong : Wrong) (tried : Option (ℕ × List ℕ)) →
      b.source ≡ a.source → b.failures ≡ a.failures → b.first_wrong ≡ with_first a.first_wrong path wrong tried →
      IsAskedFor may failed asked so a b
  asked_noted so a b path wrong tried is same noted = record {
    later = record { stays = λ path answer h. subst (λ s. may s path answer) is h };
    paths = [];
    recorded = subst (λ s. AddsToRecord (asked a.source) (asked s) []) (sym is) (recorded_same (asked a.source));
    are_so = All-nil so;
    more = omega (arith, same);
    counted = (λ none. ap failed is, λ some. absurd (omega (arith, same, some)));
    given_up = λ given. is;
    first = λ some. noted ∙ first_kept a.first_wrong path wrong tried some;
    noted = λ rose. absurd (omega (arith, same, rose));
  }

  -- what was said at a place may be said at it before
  pub said_within : (a b : Path → Option (List ℕ) → Type 0) (m n : ℕ) → StaysWithin a b → m ≤ n → (path : Path)
      (s : Option (Option (List ℕ))) → IsSaidBy b m path s → IsSaidBy a n path s
  said_within a b m n within le path None h = omega (arith, h, le)
  said_within a b m n within le path (Some answer) h = within.stays path answer h

  -- no answer is new
  pub answers_none : (x y : Places S) → HasNoNew x.ends.tiles.items y.ends.tiles.items → AddsAnswers may x y
  answers_none x y none = record { each = λ k path answer d h. inl (none k path answer h) }

  pub answers_is : (x y : Places S) → y.ends ≡ x.ends → AddsAnswers may x y
  answers_is x y ends = answers_none x y (λ k path answer h. subst (λ (e : EndTiles). IsKeptAnswer e.tiles.items k path answer) ends h)

  answers_two : (so : Path → Type 0) (x y z : Places S) →
      ((k : ℕ) (d : Place S) → IsAskedFor may failed asked so (get_or x.list.items k d) (get_or y.list.items k d)) →
      ((k : ℕ) (d : Place S) → IsAskedFor may failed asked so (get_or y.list.items k d) (get_or z.list.items k d)) →
      AddsAnswers may x y → AddsAnswers may y z → AddsAnswers may x z
  answers_two so x y z f g p q = record {
    each = λ k path answer d h.
        let at : Places S → Place S = λ w. get_or w.list.items k d in
        elim (q.each k path answer d h) [
          | inl before ↦ elim (p.each k path answer d before) [
            | inl first ↦ inl first
            | inr said_is ↦ inr (said_within (may (at x).source) (may (at x).source) (at y).failures (at z).failures
                (record { stays = λ path answer h. h }) (g k d).more path (said answer) said_is)
          ]
          | inr said_is ↦ inr (said_within (may (at x).source) (may (at y).source) (at z).failures (at z).failures
              (f k d).later (omega arith) path (said answer) said_is)
        ];
  }

  pub asks_same : (so : Path → Type 0) (x : Places S) → AsksPlaces may failed asked so x x
  asks_same so x = record {
    count = refl;
    each = λ k d. asked_same so (get_or x.list.items k d);
    kept = λ has. has;
    blames = λ has none. cc;
    spares = λ none k d. refl;
    still = still_same x.ends;
    answered = answers_is x x refl;
  }

  -- the places got no request, and none of them failed
  pub asks_listed : (so : Path → Type 0) (x y : Places S) → y.list.items ≡ x.list.items → y.has_failed ≡ x.has_failed →
      KeepsAnswers x.ends y.ends → AddsAnswers may x y → AsksPlaces may failed asked so x y
  asks_listed so x y list has still answered = record {
    count = ap length list;
    each = λ k d. subst (λ (ys : List (Place S)). IsAskedFor may failed asked so (get_or x.list.items k d) (get_or ys k d)) (sym list)
        (asked_same so (get_or x.list.items k d));
    kept = λ was. subst (λ b. IsTrue b) (sym has) was;
    blames = λ now none. cc;
    spares = λ none k d. ap (λ (ys : List (Place S)). (get_or ys k d).failures) list;
    still = still;
    answered = answered;
  }

  pub failed_then : (so : Path → Type 0) (x y z : Places S) → AsksPlaces may failed asked so x y → APlaceFailed may failed asked y z →
      APlaceFailed may failed asked x z
  failed_then so x y z p f = record {
    index = f.index;
    none = f.none;
    rose = let m = (p.each f.index f.none).more in let r = f.rose in omega arith;
  }

  pub then_failed : (so : Path → Type 0) (x y z : Places S) → APlaceFailed may failed asked x y → AsksPlaces may failed asked so y z →
      APlaceFailed may failed asked x z
  then_failed so x y z f p = record {
    index = f.index;
    none = f.none;
    rose = let m = (p.each f.index f.none).more in let r = f.rose in omega arith;
  }

  blames_then : (so : Path → Type 0) (x y z : Places S) (b : Bool) → y.has_failed ≡ b → AsksPlaces may failed asked so x y →
      AsksPlaces may failed asked so y z → IsTrue z.has_failed → IsFalse x.has_failed → APlaceFailed may failed asked x z
  blames_then so x y z true e p q has none =
      then_failed so x y z (p.blames (subst (λ v. IsTrue v) (sym e) refl) none) q
  blames_then so x y z false e p q has none =
      failed_then so x y z p (q.blames has e)

  not_kept : (so : Path → Type 0) (y z : Places S) (b : Bool) → y.has_failed ≡ b → AsksPlaces may failed asked so y z →
      IsFalse z.has_failed → IsFalse y.has_failed
  not_kept so y z true e q none =
      let has = q.kept (subst (λ v. IsTrue v) (sym e) refl) in cc
  not_kept so y z false e q none = e

  pub asks_then : (so : Path → Type 0) (x y z : Places S) → AsksPlaces may failed asked so x y →
      AsksPlaces may failed asked so y z → AsksPlaces may failed asked so x z
  asks_then so x y z p q = record {
    count = q.count ∙ p.count;
    each = λ k d. asked_then so (get_or x.list.items k d) (get_or y.list.items k d) (get_or z.list.items k d) (p.each k d)
        (q.each k d);
    kept = λ has. q.kept (p.kept has);
    blames = blames_then so x y z y.has_failed refl p q;
    spares = λ none k d. q.spares none k d ∙ p.spares (not_kept so y z y.has_failed refl q none) k d;
    still = still_then x.ends y.ends z.ends p.still q.still;
    answered = answers_two so x y z p.each q.each p.answered q.answered;
  }

  pub asks_weaker : (so also : Path → Type 0) → ((path : Path) → so path → also path) → (x y : Places S) →
      AsksPlaces may failed asked so x y → AsksPlaces may failed asked also x y
  asks_weaker so also f x y p = record {
    count = p.count;
    each = λ k d. asked_weaker so also f (get_or x.list.items k d) (get_or y.list.items k d) (p.each k d);
    kept = p.kept;
    blames = p.blames;
    spares = p.spares;
    still = p.still;
    answered = p.answered;
  }

  -- one place got a request

  one_at : (so : Path → Type 0) (xs : List (Place S)) (i : ℕ) (old new : Place S) → i < length xs →
      old ≡ get_or xs i old → IsAskedFor may failed asked so old new → (k : ℕ) (d : Place S) →
      IsAskedFor may failed asked so (get_or xs k d) (get_or (set xs i new) k d)
  one_at so xs i old new lt is h k d = elim (cases_order k i) [
    | inl e ↦ subst (λ (n : ℕ). IsAskedFor may failed asked so (get_or xs n d) (get_or (set xs i new) n d)) (sym e)
        (subst (λ (p : Place S). IsAskedFor may failed asked so (get_or xs i d) p) (sym (get_or-set_same xs i new d lt))
        (subst (λ (p : Place S). IsAskedFor may failed asked so p new) (is ∙ get_or_default xs i old d lt) h))
    | inr o ↦
        let ne : k ≢ i = λ e. elim o [ inl less ↦ absurd (omega arith) | inr more ↦ absurd (omega arith) ] in
        subst (λ (p : Place S). IsAskedFor may failed asked so (get_or xs k d) p) (sym (get_or-set_other xs i k new d ne))
        (asked_same so (get_or xs k d))
  ]

  same_at : (xs : List (Place S)) (i : ℕ) (old new : Place S) → i < length xs →
      old ≡ get_or xs i old → new.failures ≡ old.failures → (k : ℕ) (d : Place S) →
      (get_or (set xs i new) k d).failures ≡ (get_or xs k d).failures
  same_at xs i old new lt is h k d = elim (cases_order k i) [
    | inl e ↦ subst (λ (n : ℕ). (get_or (set xs i new) n d).failures ≡ (get_or xs n d).failures) (sym e)
        (ap (λ (p : Place S). p.failures) (get_or-set_same xs i new d lt)
        ∙ (h ∙ ap (λ (p : Place S). p.failures) (is ∙ get_or_default xs i old d lt)))
    | inr o ↦
        let ne : k ≢ i = λ e. elim o [ inl less ↦ absurd (omega arith) | inr more ↦ absurd (omega arith) ] in
        ap (λ (p : Place S). p.failures) (get_or-set_other xs i k new d ne)
  ]

  -- the get failed
  pub asks_failed : (so : Path → Type 0) (x y : Places S) (i : ℕ) (old new : Place S) → i < length x.list.items →
      y.list.items ≡ set x.list.items i new → y.ends ≡ x.ends → y.has_failed ≡ true →
      old ≡ get_or x.list.items i old → IsAskedFor may failed asked so old new → old.failures < new.failures →
      AsksPlaces may failed asked so x y
  asks_failed so x y i old new lt list ends has is h rose = record {
    count = ap length list ∙ length-set x.list.items i new;
    each = λ k d. subst (λ (ys : List (Place S)). IsAskedFor may failed asked so (get_or x.list.items k d) (get_or ys k d)) (sym list)
        (one_at so x.list.items i old new lt is h k d);
    kept = λ was. has;
    blames = λ now none. record {
      index = i;
      none = old;
      rose = subst (λ (ys : List (Place S)). (get_or x.list.items i old).failures < (get_or ys i old).failures) (sym list)
          (subst (λ (p : Place S). (get_or x.list.items i old).failures < p.failures) (sym (get_or-set_same x.list.items i new old lt))
          (subst (λ (p : Place S). p.failures < new.failures) is rose));
    };
    spares = λ none k d. cc;
    still = still_is x.ends y.ends ends;
    answered = answers_is x y ends;
  }

  -- the get did not fail
  pub asks_well : (so : Path → Type 0) (x y : Places S) (i : ℕ) (old new : Place S) → i < length x.list.items →
      y.list.items ≡ set x.list.items i new → y.ends ≡ x.ends → y.has_failed ≡ x.has_failed →
      old ≡ get_or x.list.items i old → IsAskedFor may failed asked so old new → new.failures ≡ old.failures →
      AsksPlaces may failed asked so x y
  asks_well so x y i old new lt list ends has is h same = record {
    count = ap length list ∙ length-set x.list.items i new;
    each = λ k d. subst (λ (ys : List (Place S)). IsAskedFor may failed asked so (get_or x.list.items k d) (get_or ys k d)) (sym list)
        (one_at so x.list.items i old new lt is h k d);
    kept = λ was. subst (λ b. IsTrue b) (sym has) was;
    blames = λ now none. cc;
    spares = λ none k d. subst (λ (ys : List (Place S)). (get_or ys k d).failures ≡ (get_or x.list.items k d).failures) (sym list)
        (same_at x.list.items i old new lt is same k d);
    still = still_is x.ends y.ends ends;
    answered = answers_is x y ends;
  }

  -- the record after the call
  pub asks_noted : (so : Path → Type 0) (x y z : Places S) → AsksPlaces may failed asked so x y →
      AsksPlaces may failed asked (λ path. ⊥) y z → AsksPlaces may failed asked so x z
  asks_noted so x y z p q = asks_then so x y z p (asks_weaker (λ path. ⊥) so (λ path none. absurd none) y z q)

  -- a hint before the call
  pub noted_asks : (so : Path → Type 0) (x y z : Places S) → AsksPlaces may failed asked (λ path. ⊥) x y →
      AsksPlaces may failed asked so y z → AsksPlaces may failed asked so x z
  noted_asks so x y z p q = asks_then so x y z (asks_weaker (λ path. ⊥) so (λ path none. absurd none) x y p) q

-- ---- places without a good answer

-- the request came before the later calls, or after the earlier ones
pub vain_between : (before may : Path → Option (List ℕ) → Type 0) → StaysWithin before may →
    (first old new last : ℕ) → first ≤ old → old ≤ new → new ≤ last → (path : Path) (good : List ℕ → Type 0) →
    IsAskedInVain may old new path good → IsAskedInVain before first last path good
vain_between before may within first old new last a b c path good (inl (inl rose)) = inl (inl (omega arith))
vain_between before may within first old new last a b c path good (inl (inr many)) = inl (elim (cases_lt first last) [
  | inl rose ↦ inl rose
  | inr same ↦ inr (omega arith)
])
vain_between before may within first old new last a b c path good (inr (answer, may_be, vain)) =
    inr (answer, within.stays path answer may_be, vain)

-- ---- turns

-- at most one place has a turn
pub turn_one : (first turn j k : ℕ) → IsAskedInTurn first turn j → IsAskedInTurn first turn k → j ≡ k
turn_one first turn j k p q = grind arith

-- each place has a turn
pub turn_of : (first k n : ℕ) → k < n → first < n → (turn : ℕ) × (turn < n) × IsAskedInTurn first turn k
turn_of first k n lt within = elim (cases_order k first) [
  | inl same ↦ (0, omega arith, inl (refl, same))
  | inr (inl less) ↦ (k + 1, omega arith, inr (inl (omega arith, omega arith, omega arith)))
  | inr (inr more) ↦ (k, omega arith, inr (inr (more, refl)))
]

-- ---- first wrong files

pub none_given : {T : Type 0} (o : Option T) (P : Type 0) → P → IfNone o P
none_given None P p = p
none_given (Some x) P p = tt

pub some_found : {T : Type 0} (o : Option T) (P : Type 0) → is_some o ≡ true → IfNone o P
some_found None P is = absurd (cc is)
some_found (Some x) P is = tt

module _ {S : Type 0} (may : S → Path → Option (List ℕ) → Type 0) (failed : S → ℕ) (asked : S → Option (List Path)) where
  -- a place that has a first wrong file keeps it
  pub blamed_still : (so : Path → Type 0) (x y : Places S) → AsksPlaces may failed asked so x y → (k : ℕ) (d : Place S) →
      IsSome (get_or x.list.items k d).first_wrong → IsSome (get_or y.list.items k d).first_wrong
  blamed_still so x y p k d some = some_same (get_or x.list.items k d).first_wrong (get_or y.list.items k d).first_wrong
      ((p.each k d).first some) some

  -- a place that failed in the calls before has one too
  pub blamed_then : (so also : Path → Type 0) (x y z : Places S) → AsksPlaces may failed asked so x y →
      AsksPlaces may failed asked also y z → (k : ℕ) → IsBlamed y z k → IsBlamed x z k
  blamed_then so also x y z p q k blamed = λ d few. elim (cases_lt (get_or x.list.items k d).failures (get_or y.list.items k d).failures) [
    | inl rose ↦ blamed_still also y z q k d ((p.each k d).noted rose)
    | inr same ↦ blamed d (omega (arith, few, same))
  ]

  -- a place that failed in a get, or had failed 8 times before it
  pub blamed_failed : (so : Path → Type 0) (x y : Places S) → AsksPlaces may failed asked so x y → (k : ℕ) →
      ((d : Place S) → ((get_or x.list.items k d).failures < (get_or y.list.items k d).failures)
      ⊎ (8 ≤ (get_or x.list.items k d).failures)) → IsBlamed x y k
  blamed_failed so x y p k h = λ d few. elim (h d) [
    | inl rose ↦ (p.each k d).noted rose
    | inr many ↦ absurd (omega (arith, few, many))
  ]

  -- the places of the turns so far, and the next one
  pub blamed_turn : (so also : Path → Type 0) (x y z : Places S) → AsksPlaces may failed asked so x y →
      AsksPlaces may failed asked also y z → (first turn index : ℕ) → IsAskedInTurn first turn index →
      ((t k : ℕ) → t < turn → IsAskedInTurn first t k → IsBlamed x y k) → IsBlamed y z index →
      (t k : ℕ) → t < turn + 1 → IsAskedInTurn first t k → IsBlamed x z k
  blamed_turn so also x y z p q first turn index this each blamed t k lt is = elim (cases_lt t turn) [
    | inl less ↦ λ d few. blamed_still also y z q k d (each t k less is d few)
    | inr more ↦
        let same : t ≡ turn = omega (arith, lt, more) in
        let at : index ≡ k = turn_one first turn index k this (subst (λ u. IsAskedInTurn first u k) same is) in
        blamed_then so also x y z p q k (subst (λ j. IsBlamed y z j) at blamed)
  ]

  -- all places had a turn
  pub blamed_all : (so : Path → Type 0) (x y z : Places S) → AsksPlaces may failed asked so y z → (first turn : ℕ) →
      (0 < length x.list.items → first < length x.list.items) → length x.list.items ≤ turn →
      ((t k : ℕ) → t < turn → IsAskedInTurn first t k → IsBlamed x y k) → AreBlamed x z
  blamed_all so x y z q first turn within past each = λ k lt d few.
      let at = turn_of first k (length x.list.items) lt (within (omega (arith, lt))) in
      let before = at.1 in
      blamed_still so y z q k d (each at.0 k (omega (arith, before, past)) at.2 d few)
