-- Sets to which the strings of a tree are added, part by part.
use Rattle.std.proofs.Common.{get_or, ◌≡◌, ℕ, ◌-◌, ◌<◌, ◌≤◌, List, [], ◌∷◌, ◌++◌, length, take, drop, map, sym}
use Rattle.std.proofs.Common.{refl, ap, subst, ◌∙◌, ◌⊎◌, inl, inr, arith}
use Rattle.std.specs.Prelude.{◌↔◌}
use Rattle.std.specs.List.{Contains}
use Rattle.std.specs.FinSet as set
use Rattle.std.proofs.lemmas.List.{take-map, drop-map, length-map}
use denote.Bor.{Bor}
use Rattle.tlog_shape.specs.Split.{split_of}
use Rattle.tlog_hash.specs.Tree.{fold_of, mth, joined, pairs_of, joins, strings}
use Rattle.tlog_hash.specs.Nodes.{IsJoin}
use Rattle.tlog_hash.proofs.Trees.{tree_of-join, pairs_of-one, mth-join, rest_of, row_of_one}
use Rattle.tlog_hash.proofs.NodeStrings.{from_joins, to_joins, strings_join}
use Rattle.node_store.specs.Strings.{Strings, Has, Clashes}
use Rattle.std.proofs.lemmas.List.Elements.{Contains-append_left, Contains-append_right, Contains-append_cases}
use Rattle.mirror_model.specs.Edge.{root_from, strings_from}
use Rattle.mirror_model.specs.Strings.{HasClash}
use Rattle.node_store.proofs.Sets.{Has-empty, Has-insert, Has-insert_same, Has-insert_other, Has-union_left}
use Rattle.node_store.proofs.Sets.{Has-union_right, Has-union_cases, same_strings}
use Rattle.mirror_model.proofs.StringSets.{listed_from_has, has_from_listed, clash_within}

-- the list has the items of the two others, and one string more
abbrev pub IsBoth : (left right all : List (List ℕ)) (last : List ℕ) → Type 0
IsBoth left right all last = (y : List ℕ) → Contains all y ↔ (Contains left y ⊎ (Contains right y ⊎ (y ≡ last)))

-- strings that are added part by part are all added
pub added_parts : (v : Strings) (left right all : List (List ℕ)) (last : List ℕ) → IsBoth left right all last →
    set.insert (set.union (set.union v (set.from_list left)) (set.from_list right)) last
    ≡ set.union v (set.from_list all)
added_parts v left right all last both = same_strings _ _ to from
  where
    to : (q : List ℕ) → Has (set.insert (set.union (set.union v (set.from_list left)) (set.from_list right)) last) q →
        Has (set.union v (set.from_list all)) q
    to q h =
        elim (Has-insert (set.union (set.union v (set.from_list left)) (set.from_list right)) last q h) [
          | inl is ↦ Has-union_right v (set.from_list all) q (has_from_listed all q ((both q).1 (inr (inr is))))
          | inr m ↦ elim (Has-union_cases (set.union v (set.from_list left)) (set.from_list right) q m) [
            | inl n ↦ elim (Has-union_cases v (set.from_list left) q n) [
              | inl o ↦ Has-union_left v (set.from_list all) q o
              | inr o ↦ Has-union_right v (set.from_list all) q
                  (has_from_listed all q ((both q).1 (inl (listed_from_has left q o))))
            ]
            | inr n ↦ Has-union_right v (set.from_list all) q
                (has_from_listed all q ((both q).1 (inr (inl (listed_from_has right q n)))))
          ]
        ]

    from : (q : List ℕ) → Has (set.union v (set.from_list all)) q →
        Has (set.insert (set.union (set.union v (set.from_list left)) (set.from_list right)) last) q
    from q h =
        let u = set.union v (set.from_list left) in
        let w = set.union u (set.from_list right) in
        elim (Has-union_cases v (set.from_list all) q h) [
          | inl m ↦ Has-insert_other w last q
              (Has-union_left u (set.from_list right) q (Has-union_left v (set.from_list left) q m))
          | inr m ↦ elim ((both q).0 (listed_from_has all q m)) [
            | inl n ↦ Has-insert_other w last q
                (Has-union_left u (set.from_list right) q
                (Has-union_right v (set.from_list left) q (has_from_listed left q n)))
            | inr (inl n) ↦ Has-insert_other w last q
                (Has-union_right u (set.from_list right) q (has_from_listed right q n))
            | inr (inr is) ↦ subst (Has (set.insert w last)) (sym is) (Has-insert_same w last)
          ]
        ]

-- nothing is added
pub added_none : (v : Strings) → v ≡ set.union v (set.from_list [])
added_none v =
    same_strings _ _ (λ q h. Has-union_left v (set.from_list []) q h)
    (λ q h. elim (Has-union_cases v (set.from_list []) q h) [ inl m ↦ m | inr m ↦ absurd (Has-empty q m) ])

-- one string is added
pub added_one : (v : Strings) (s : List ℕ) → set.insert v s ≡ set.union v (set.from_list (s ∷ []))
added_one v s = same_strings _ _
    (λ q h. elim (Has-insert v s q h) [
      | inl is ↦ Has-union_right v (set.from_list (s ∷ [])) q
          (subst (Has (set.from_list (s ∷ []))) (sym is) (Has-insert_same (set.from_list []) s))
      | inr m ↦ Has-union_left v (set.from_list (s ∷ [])) q m
    ])
    (λ q h. elim (Has-union_cases v (set.from_list (s ∷ [])) q h) [
      | inl m ↦ Has-insert_other v s q m
      | inr m ↦ elim
          (Has-insert (set.from_list []) s q m) [
            | inl is ↦ subst (Has (set.insert v s)) (sym is)
                (Has-insert_same v s)
            | inr n ↦ absurd (Has-empty q n)
          ]
    ])

-- ---- collisions

module _ (digest : List ℕ → List ℕ) where
  pub clash_inserted : (v : Strings) (s : List ℕ) → Clashes digest v s → HasClash digest (set.insert v s)
  clash_inserted v s c =
      record {
        first =
            c.other;
        second =
            s;
        first_held =
            Has-insert_other v s c.other c.is_held;
        second_held =
            Has-insert_same v s;
        same_digest = c.same_digest;
        differ = c.differs;
      }

  module _ (v : Strings) (left right all : List (List ℕ)) (last : List ℕ) (both : IsBoth left right all last) where
    pub clash_left : HasClash digest (set.union v (set.from_list left)) →
        HasClash digest (set.union v (set.from_list all))
    clash_left c =
        let u = set.union v (set.from_list left) in
        let w = set.union u (set.from_list right) in
        subst (HasClash digest) (added_parts v left right all last both)
        (clash_within digest u (set.insert w last)
        (λ q h. Has-insert_other w last q (Has-union_left u (set.from_list right) q h)) c)

    pub clash_right : (u : Strings) → u ≡ set.union v (set.from_list left) →
        HasClash digest (set.union u (set.from_list right)) → HasClash digest (set.union v (set.from_list all))
    clash_right u u_is c =
        let w = set.union (set.union v (set.from_list left)) (set.from_list right) in
        subst (HasClash digest) (added_parts v left right all last both)
        (clash_within digest w (set.insert w last) (λ q h. Has-insert_other w last q h)
        (subst (λ x. HasClash digest (set.union x (set.from_list right))) u_is c))

    pub clash_last : (u w : Strings) → u ≡ set.union v (set.from_list left) → w ≡ set.union u (set.from_list right) →
        Clashes digest w last → HasClash digest (set.union v (set.from_list all))
    clash_last u w u_is w_is c =
        subst (HasClash digest)
        (ap (λ x. set.insert x last) (w_is ∙ ap (λ x. set.union x (set.from_list right)) u_is) ∙
        added_parts v left right all last both) (clash_inserted w last c)

    pub added_last : (u w : Strings) → u ≡ set.union v (set.from_list left) → w ≡ set.union u (set.from_list right) →
        set.insert w last ≡ set.union v (set.from_list all)
    added_last u w u_is w_is =
        ap (λ x. set.insert x last) (w_is ∙ ap (λ x. set.union x (set.from_list right)) u_is) ∙
        added_parts v left right all last both

-- ---- rows

module _ (digest : List ℕ → List ℕ) (row : List (List ℕ)) where
  -- the second part, as a slice gives it
  abbrev pub after : ℕ → List (List ℕ)
  after k = take (length row - k) (drop k row)

  -- the string that joins both parts
  abbrev pub row_last : ℕ → List ℕ
  row_last k = 1 ∷ fold_of digest (take k row) ++ fold_of digest (after k)

  joins_parts : 2 ≤ length row → let k =
      split_of (length row) in IsBoth (joins digest (take k row)) (joins digest (drop k row)) (joins digest row)
      (1 ∷ fold_of digest (take k row) ++ fold_of digest (drop k row))
  unfolding fold_of
  joins_parts two y =
      let k = split_of (length row) in
      let tree = tree_of-join row two in (
        λ c. elim (subst (λ t. IsJoin digest t y) tree (from_joins digest row y c)) [
          | inl is ↦ inr (inr is)
          | inr (inl l) ↦ inl (to_joins digest (take k row) y l)
          | inr (inr r) ↦ inr (inl (to_joins digest (drop k row) y r))
        ],
        λ c. to_joins digest row y (subst (λ t. IsJoin digest t y) (sym tree) (elim c [
          | inl l ↦ inr (inl (from_joins digest (take k row) y l))
          | inr (inl r) ↦ inr (inr (from_joins digest (drop k row) y r))
          | inr (inr is) ↦ inl is
        ])),
      )

  pub row_parts : (k : ℕ) → 2 ≤ length row → k ≡ split_of (length row) →
      IsBoth (joins digest (take k row)) (joins digest (after k)) (joins digest row) (row_last k)
  row_parts k two is =
      subst (λ n. IsBoth (joins digest (take n row)) (joins digest (after n)) (joins digest row) (row_last n)) (sym is)
      (subst (λ xs. IsBoth (joins digest (take (split_of (length row)) row)) (joins digest xs) (joins digest row)
      (1 ∷ fold_of digest (take (split_of (length row)) row) ++ fold_of digest xs))
      (sym (rest_of (split_of (length row)) row)) (joins_parts two))

  -- a row of one hash joins nothing
  pub joins_single : length row ≡ 1 → joins digest row ≡ []
  unfolding joins
  joins_single one =
      ap (λ xs. map joined (pairs_of digest xs)) (row_of_one row one) ∙
      ap (map joined) (pairs_of-one digest (get_or row 0 []))

-- ---- entries

abbrev pub bytes_of : List (Bor (List ℕ)) → List (List ℕ)
bytes_of es = map (λ e. e.now) es

module _ (digest : List ℕ → List ℕ) (es : List (Bor (List ℕ))) where
  abbrev pub rest_after : ℕ → List (Bor (List ℕ))
  rest_after k = take (length es - k) (drop k es)

  abbrev pub entries_last : ℕ → List ℕ
  entries_last k = 1 ∷ mth digest (bytes_of (take k es)) ++ mth digest (bytes_of (rest_after k))

  pub entries_parts : (k : ℕ) → 2 ≤ length es → k ≡ split_of (length es) →
      IsBoth (strings digest (bytes_of (take k es))) (strings digest (bytes_of (rest_after k)))
      (strings digest (bytes_of es)) (entries_last k)
  entries_parts k two is =
      let f : Bor (List ℕ) → List ℕ = λ e. e.now in
      let len : length (map f es) ≡ length es = length-map es f in
      let n = split_of (length (map f es)) in
      let at : n ≡ k = ap split_of len ∙ sym is in
      let l : take n (map f es) ≡ bytes_of (take k es) = ap (λ m. take m (map f es)) at ∙ take-map f k es in
      let r : drop n (map f es) ≡ bytes_of (rest_after k) =
      ap (λ m. drop m (map f es)) at ∙ drop-map f k es ∙ ap bytes_of (sym (rest_of k es)) in
      subst (λ xs. IsBoth (strings digest xs) (strings digest (bytes_of (rest_after k))) (strings digest (bytes_of es))
      (1 ∷ mth digest xs ++ mth digest (bytes_of (rest_after k)))) l
      (subst (λ xs. IsBoth (strings digest (take n (map f es))) (strings digest xs) (strings digest (bytes_of es))
      (1 ∷ mth digest (take n (map f es)) ++ mth digest xs)) r
      (strings_join digest (map f es) (omega (arith, len, two))))

  pub entries_mth : (k : ℕ) → 2 ≤ length es → k ≡ split_of (length es) →
      digest (entries_last k) ≡ mth digest (bytes_of es)
  entries_mth k two is =
      let f : Bor (List ℕ) → List ℕ = λ e. e.now in
      let len : length (map f es) ≡ length es = length-map es f in
      let n = split_of (length (map f es)) in
      let at : n ≡ k = ap split_of len ∙ sym is in
      let l : take n (map f es) ≡ bytes_of (take k es) = ap (λ m. take m (map f es)) at ∙ take-map f k es in
      let r : drop n (map f es) ≡ bytes_of (rest_after k) =
      ap (λ m. drop m (map f es)) at ∙ drop-map f k es ∙ ap bytes_of (sym (rest_of k es)) in
      sym (mth-join digest (map f es) (omega (arith, len, two)) ∙
      (λ i. digest (1 ∷ mth digest (l i) ++ mth digest (r i))))

  pub entries_none : length es < 1 → bytes_of es ≡ []
  entries_none h = at es h
    where
      at : (xs : List (Bor (List ℕ))) → length xs < 1 → bytes_of xs ≡ []
      at [] h = refl
      at (x ∷ xs) h = absurd (omega arith)

pub entries_one : (es : List (Bor (List ℕ))) (d : Bor (List ℕ)) → 1 ≤ length es → length es < 2 →
    bytes_of es ≡ (get_or es 0 d).now ∷ []
entries_one [] d g h = absurd (omega arith)
entries_one (x ∷ []) d g h = refl
entries_one (x ∷ y ∷ es) d g h = absurd (omega arith)

-- ---- rows above a value

-- strings that are added in two parts are all added
pub added_both : (v : Strings) (xs ys : List (List ℕ)) →
    set.union (set.union v (set.from_list xs)) (set.from_list ys) ≡ set.union v (set.from_list (xs ++ ys))
added_both v xs ys = same_strings _ _
    (λ q h. elim (Has-union_cases (set.union v (set.from_list xs)) (set.from_list ys) q h) [
      | inl a ↦ elim (Has-union_cases v (set.from_list xs) q a) [
        | inl b ↦ Has-union_left v (set.from_list (xs ++ ys)) q b
        | inr b ↦ Has-union_right v (set.from_list (xs ++ ys)) q
            (has_from_listed (xs ++ ys) q (Contains-append_left xs ys q (listed_from_has xs q b)))
      ]
      | inr a ↦ Has-union_right v (set.from_list (xs ++ ys)) q
          (has_from_listed (xs ++ ys) q (Contains-append_right xs ys q (listed_from_has ys q a)))
    ])
    (λ q h. elim (Has-union_cases v (set.from_list (xs ++ ys)) q h) [
      | inl a ↦ Has-union_left (set.union v (set.from_list xs)) (set.from_list ys) q
          (Has-union_left v (set.from_list xs) q a)
      | inr a ↦ elim (Contains-append_cases xs ys q (listed_from_has (xs ++ ys) q a)) [
        | inl b ↦ Has-union_left (set.union v (set.from_list xs)) (set.from_list ys) q
            (Has-union_right v (set.from_list xs) q (has_from_listed xs q b))
        | inr b ↦ Has-union_right (set.union v (set.from_list xs)) (set.from_list ys) q (has_from_listed ys q b)
      ]
    ])

module _ (digest : List ℕ → List ℕ) (value hash : List ℕ) (row pushed : List (List ℕ)) (rest : List (List (List ℕ)))
    (pushed_is : pushed ≡ row ++ value ∷ []) where
  pub above_root : hash ≡ fold_of digest pushed → root_from digest hash rest ≡ root_from digest value (row ∷ rest)
  above_root hash_is = ap (λ h. root_from digest h rest) (hash_is ∙ ap (fold_of digest) pushed_is)

  pub above_strings : (v v' : Strings) → hash ≡ fold_of digest pushed →
      v' ≡ set.union v (set.from_list (joins digest pushed)) →
      set.union v' (set.from_list (strings_from digest hash rest))
      ≡ set.union v (set.from_list (strings_from digest value (row ∷ rest)))
  above_strings v v' hash_is v_is =
      (λ i. set.union ((v_is ∙ ap (λ xs. set.union v (set.from_list (joins digest xs))) pushed_is) i)
      (set.from_list (strings_from digest ((hash_is ∙ ap (fold_of digest) pushed_is) i) rest)))
      ∙ added_both v (joins digest (row ++ value ∷ [])) (strings_from digest (fold_of digest (row ++ value ∷ [])) rest)

  pub above_clash : (v : Strings) → HasClash digest (set.union v (set.from_list (joins digest pushed))) →
      HasClash digest (set.union v (set.from_list (strings_from digest value (row ∷ rest))))
  above_clash v c =
      let more = strings_from digest (fold_of digest (row ++ value ∷ [])) rest in
      let u = set.union v (set.from_list (joins digest (row ++ value ∷ []))) in
      subst (HasClash digest) (added_both v (joins digest (row ++ value ∷ [])) more)
      (clash_within digest u (set.union u (set.from_list more)) (λ q h. Has-union_left u (set.from_list more) q h)
      (subst (λ xs. HasClash digest (set.union v (set.from_list (joins digest xs)))) pushed_is c))
