-- Notes that the folder has, under any number.
use Rattle.std.proofs.Common.{◌≡◌, ℕ, zero, suc, ◌+◌, ◌<◌, ◌≤◌, Bool, true, false, cond, List, [], ◌∷◌, length, map, take, get_or, Contains}
use Rattle.std.proofs.Common.{Option, Some, refl, sym, ap, subst, ◌∙◌, inl, inr, arith, slice_get, count_by, IsTrue, IsPermutation}
use Rattle.std.specs.Prelude.{option_map, ◌==◌, ◌&&◌}
use Rattle.std.specs.Str.{bytes_eq}
use Rattle.std.specs.List.{SwappedAt, take-map}
use Rattle.std.specs.Ordering.{nat_cmp, eq_by_cmp, is_eq, ordering_reverse}
use Rattle.std.specs.declared.cmp.Ordering.{Ordering}
use Rattle.std.specs.declared.cmp.Ordering.TheVariants.{Less, Equal, Greater}
use Rattle.std.specs.Cmp.Lexicographic.{slice_cmp, nat_list_cmp_total}
use Rattle.std.proofs.lemmas.Bool.{cases_eq, cases_order, cases_lt, and_parts, and_from, eqb-true, eq-eqb, false≢true}
use Rattle.std.proofs.lemmas.Option.{slice_get-map, slice_get_within, slice_get-get_or, slice_get_past, get_or_from_slice_get, none-some, same_Some}
use Rattle.std.proofs.lemmas.Slice.Eq.{bytes_eq-Decides}
use Rattle.std.proofs.lemmas.List.{get_or-map, length-map}
use Rattle.std.proofs.lemmas.Cmp.{tied_itself}
use Rattle.std.proofs.lemmas.List.Sums.{sum_by-cons}
use Rattle.std.proofs.lemmas.List.Sorted.{Contains-permutation, IsPermutation-sym, IsPermutation-map, All-permutation}
use Rattle.std.proofs.lemmas.Map.Keys.{apart_from_distinct, IsDistinct-IsPermutation, IsDistinct-from_sorted}
use Rattle.mirror_model.specs.Forks.{Point}
use Rattle.mirror_model.specs.View.{View}
use Rattle.program_io.specs.Named.{NamedFile, contents_of}
use Rattle.state_commands.specs.NoteFiles.{HasHeads, HeadNote, IsHeadNote, alike_count, is_alike, note_file_name, point_of}
use Rattle.state_commands.specs.NoteTexts.{IsUnder, KeepsOthers, Stands, note_place}
use Rattle.state_commands.specs.Ordered.{AreHeads, SettlesFirst}
use Rattle.state_commands.proofs.NoteWalks.{count_by-map}

-- ---- elements of a list

same_elements : {X : Type 0} (xs ys : List X) → ((k : ℕ) → slice_get xs k ≡ slice_get ys k) → xs ≡ ys
same_elements [] [] same = refl
same_elements [] (y ∷ ys) same = absurd (none-some y (same 0))
same_elements (x ∷ xs) [] same = absurd (none-some x (sym (same 0)))
same_elements (x ∷ xs) (y ∷ ys) same =
    let first : x ≡ y = same_Some x y (same 0) in
    let rest : xs ≡ ys = same_elements xs ys (λ k. same (suc k)) in
    λ i. first i ∷ rest i

-- a list after an exchange of two elements
pub record Exchanged {X : Type 0} (xs ys : List X) (i j : ℕ) : Type 0 where
  pub first : slice_get ys i ≡ slice_get xs j
  pub second : slice_get ys j ≡ slice_get xs i
  pub others : (k : ℕ) → (k ≡ i → ⊥) → (k ≡ j → ⊥) → slice_get ys k ≡ slice_get xs k

pub exchanged : {X Y : Type 0} (f : X → Y) (xs ys : List X) (i j : ℕ) → i < length xs → j < length xs →
    length ys ≡ length xs → SwappedAt xs ys i j → Exchanged (map f xs) (map f ys) i j
exchanged {X} f xs ys i j below_i below_j size swapped =
    let d : X = get_or_of xs i below_i in
    let at : (k m : ℕ) → k < length ys → m < length xs → get_or ys k d ≡ get_or xs m d →
    slice_get (map f ys) k ≡ slice_get (map f xs) m =
    λ k m in_k in_m same.
    slice_get-map f ys k
    ∙ ap (option_map f) (slice_get-get_or ys k d in_k ∙ (ap Some same ∙ sym (slice_get-get_or xs m d in_m)))
    ∙ sym (slice_get-map f xs m) in
    record {
      first = at i j (omega (arith, size, below_i)) below_j (swapped.0 d);
      second = at j i (omega (arith, size, below_j)) below_i (swapped.1 d);
      others = λ k not_i not_j. elim (cases_lt k (length xs)) [
        | inl lt ↦ at k k (omega (arith, size, lt)) lt (swapped.2 k d not_i not_j)
        | inr ge ↦
            slice_get-map f ys k ∙ ap (option_map f) (slice_get_past ys k (omega (arith, size, ge)) ∙ sym (slice_get_past xs k ge))
            ∙ sym (slice_get-map f xs k)
      ];
    }
  where
    get_or_of : (zs : List X) (k : ℕ) → k < length zs → X
    get_or_of [] k lt = absurd (omega (arith, lt))
    get_or_of (z ∷ zs) k lt = z

pub listed_at : {X : Type 0} (xs : List X) (k : ℕ) (x : X) → slice_get xs k ≡ Some x → Contains xs x
listed_at xs k x at = (k, slice_get_within xs k x at, get_or_from_slice_get xs k x x at)

-- the element with that number among those that pass a test
abbrev pub PassesAt : {X : Type 0} → (X → Bool) → List X → ℕ → Type 0
PassesAt {X} p xs n =
    (k : ℕ) × (x : X) × (slice_get xs k ≡ Some x) × (p x ≡ true) × (count_by p (take k xs) ≡ n)

abbrev counted : Bool → ℕ
counted b = cond b 1 0

count_cons : {X : Type 0} (p : X → Bool) (x : X) (xs : List X) → count_by p (x ∷ xs) ≡ counted (p x) + count_by p xs
count_cons p x xs = sum_by-cons (λ y. counted (p y)) x xs

passes_first : {X : Type 0} (p : X → Bool) (x : X) (xs : List X) → p x ≡ true → PassesAt p (x ∷ xs) 0
passes_first p x xs holds = (0, x, refl, holds, refl)

passes_later : {X : Type 0} (p : X → Bool) (x : X) (xs : List X) (n m : ℕ) → counted (p x) + n ≡ m → PassesAt p xs n →
    PassesAt p (x ∷ xs) m
passes_later p x xs n m total rest =
    let one_more : count_by p (take (suc rest.0) (x ∷ xs)) ≡ counted (p x) + count_by p (take rest.0 xs) =
    count_cons p x (take rest.0 xs) in
    (suc rest.0, rest.1, rest.2, rest.3, omega (arith, one_more, total, rest.4))

pub passing_at : {X : Type 0} (p : X → Bool) (xs : List X) (n : ℕ) → n < count_by p xs → PassesAt p xs n
passing_at p [] n lt = absurd (omega (arith, lt))
passing_at p (x ∷ xs) zero lt = elim (p x) as (λ b. p x ≡ b → PassesAt p (x ∷ xs) 0) [
  | true ↦ λ holds. passes_first p x xs holds
  | false ↦ λ fails.
      let none : counted (p x) ≡ 0 = ap counted fails in
      passes_later p x xs 0 0 (omega (arith, none)) (passing_at p xs 0 (omega (arith, none, lt, count_cons p x xs)))
] refl
passing_at p (x ∷ xs) (suc n) lt = elim (p x) as (λ b. p x ≡ b → PassesAt p (x ∷ xs) (suc n)) [
  | true ↦ λ holds.
      let one : counted (p x) ≡ 1 = ap counted holds in
      passes_later p x xs n (suc n) (omega (arith, one)) (passing_at p xs n (omega (arith, one, lt, count_cons p x xs)))
  | false ↦ λ fails.
      let none : counted (p x) ≡ 0 = ap counted fails in
      passes_later p x xs (suc n) (suc n) (omega (arith, none)) (passing_at p xs (suc n) (omega (arith, none, lt, count_cons p x xs)))
] refl

-- fewer elements pass before one that passes than in all
pub passing_below : {X : Type 0} (p : X → Bool) (xs : List X) (k : ℕ) (x : X) → slice_get xs k ≡ Some x → p x ≡ true →
    count_by p (take k xs) < count_by p xs
passing_below p [] k x at holds = absurd (none-some x at)
passing_below p (y ∷ ys) zero x at holds =
    let one : counted (p y) ≡ 1 = ap counted (ap p (same_Some y x at) ∙ holds) in
    omega (arith, one, count_cons p y ys)
passing_below p (y ∷ ys) (suc k) x at holds =
    let rest = passing_below p ys k x at holds in
    omega (arith, rest, count_cons p y ys, count_cons p y (take k ys))

-- ---- notes of the same size and root

alike_parts : (a b : HeadNote) → IsTrue (is_alike a b) → (a.size ≡ b.size) × (a.root ≡ b.root)
alike_parts a b alike =
    let parts = and_parts (a.size == b.size) (bytes_eq a.root b.root) alike in
    (eqb-true a.size b.size parts.0, (bytes_eq-Decides a.root b.root).0 parts.1)

alike_from : (a b : HeadNote) → (a.size ≡ b.size) × (a.root ≡ b.root) → IsTrue (is_alike a b)
alike_from a b parts =
    and_from (a.size == b.size) (bytes_eq a.root b.root) (eq-eqb a.size b.size parts.0)
    ((bytes_eq-Decides a.root b.root).1 parts.1)

pub alike_sym : (a b : HeadNote) → IsTrue (is_alike a b) → IsTrue (is_alike b a)
alike_sym a b alike = let parts = alike_parts a b alike in alike_from b a (sym parts.0, sym parts.1)

pub alike_trans : (a b c : HeadNote) → IsTrue (is_alike a b) → IsTrue (is_alike b c) → IsTrue (is_alike a c)
alike_trans a b c first second =
    let p = alike_parts a b first in
    let q = alike_parts b c second in
    alike_from a c (p.0 ∙ q.0, p.1 ∙ q.1)

alike_point : (a b : HeadNote) → IsTrue (is_alike a b) → point_of a ≡ point_of b
alike_point a b alike = let p = alike_parts a b alike in λ i. record { size = p.0 i; root = p.1 i }

abbrev pub HavePoints : List HeadNote → List HeadNote → Type 0
HavePoints xs ys = map point_of ys ≡ map point_of xs

-- the path of the note's number after these notes
abbrev pub place_at : List ℕ → List HeadNote → HeadNote → List ℕ
place_at folder before head = note_place folder (note_file_name head.size head.root (alike_count before head))

alike_place : (folder : List ℕ) (before : List HeadNote) (a b : HeadNote) → IsTrue (is_alike a b) →
    place_at folder before a ≡ place_at folder before b
alike_place folder before a b alike =
    let p = alike_point a b alike in
    λ i. note_place folder (note_file_name (p i).size (p i).root
    (count_by (λ other. (other.size == (p i).size) && bytes_eq other.root (p i).root) before))

alike_number : (before : List HeadNote) (a b : HeadNote) → IsTrue (is_alike a b) →
    alike_count before a ≡ alike_count before b
alike_number before a b alike =
    let p = alike_point a b alike in
    λ i. count_by (λ other. (other.size == (p i).size) && bytes_eq other.root (p i).root) before

same_count : (xs ys : List HeadNote) (head : HeadNote) → HavePoints xs ys → alike_count ys head ≡ alike_count xs head
same_count xs ys head points =
    let test : Point → Bool = λ point. (point.size == head.size) && bytes_eq point.root head.root in
    sym (count_by-map test point_of ys) ∙ (ap (count_by test) points ∙ count_by-map test point_of xs)

same_points_before : (xs ys : List HeadNote) (k : ℕ) → HavePoints xs ys → HavePoints (take k xs) (take k ys)
same_points_before xs ys k points = sym (take-map point_of k ys) ∙ (ap (take k) points ∙ take-map point_of k xs)

same_number : (xs ys : List HeadNote) (k : ℕ) (head : HeadNote) → HavePoints xs ys →
    alike_count (take k ys) head ≡ alike_count (take k xs) head
same_number xs ys k head points = same_count (take k xs) (take k ys) head (same_points_before xs ys k points)

-- ---- notes that differ

abbrev is_note_equal : List ℕ → List ℕ → Bool
is_note_equal = eq_by_cmp (slice_cmp nat_cmp)

abbrev note_of : HeadNote → List ℕ
note_of head = head.note

differ_before : (heads : List HeadNote) (i j : ℕ) (a b : HeadNote) → AreHeads heads → slice_get heads i ≡ Some a →
    slice_get heads j ≡ Some b → a.note ≡ b.note → i < j → ⊥
differ_before heads i j a b are at_i at_j same lt =
    let in_j : j < length heads = slice_get_within heads j b at_j in
    let in_i : i < length heads = slice_get_within heads i a at_i in
    let size : length (map note_of heads) ≡ length heads = length-map heads note_of in
    let apart : is_note_equal (get_or (map note_of heads) i a.note) (get_or (map note_of heads) j a.note) ≡ false =
    apart_from_distinct is_note_equal (map note_of heads) i j a.note are.distinct lt (omega (arith, in_j, size)) in
    let left : get_or (map note_of heads) i a.note ≡ a.note =
    get_or-map note_of heads i a a.note in_i ∙ ap note_of (get_or_from_slice_get heads i a a at_i) in
    let right : get_or (map note_of heads) j a.note ≡ a.note =
    get_or-map note_of heads j b a.note in_j ∙ (ap note_of (get_or_from_slice_get heads j b b at_j) ∙ sym same) in
    false≢true (sym apart ∙ (ap (λ x. is_note_equal x (get_or (map note_of heads) j a.note)) left
    ∙ (ap (is_note_equal a.note) right ∙ ap is_eq (tied_itself nat_list_cmp_total a.note))))

pub same_index : (heads : List HeadNote) (i j : ℕ) (a b : HeadNote) → AreHeads heads → slice_get heads i ≡ Some a →
    slice_get heads j ≡ Some b → a.note ≡ b.note → i ≡ j
same_index heads i j a b are at_i at_j same = elim (cases_order i j) [
  | inl is ↦ is
  | inr other ↦ elim other [
    | inl lt ↦ absurd (differ_before heads i j a b are at_i at_j same lt)
    | inr gt ↦ absurd (differ_before heads j i b a are at_j at_i (sym same) gt)
  ]
]

turns : (x y : List ℕ) → is_note_equal x y ≡ is_note_equal y x
turns x y = eq_turns (slice_cmp nat_cmp x y) (slice_cmp nat_cmp y x) (nat_list_cmp_total.antisymm x y)
  where
    eq_turns : (r s : Ordering) → r ≡ ordering_reverse s → is_eq r ≡ is_eq s
    eq_turns r Less is = ap is_eq is
    eq_turns r Equal is = ap is_eq is
    eq_turns r Greater is = ap is_eq is

pub heads_moved : (xs ys : List HeadNote) → IsPermutation xs ys → AreHeads xs → AreHeads ys
heads_moved xs ys moved are = record {
  distinct = IsDistinct-IsPermutation is_note_equal turns (map note_of xs) (map note_of ys)
      (IsPermutation-map note_of xs ys moved) are.distinct;
  are_heads = All-permutation IsHeadNote xs ys moved are.are_heads;
}

-- the notes of a mirror differ, since they are listed once
pub listed_heads : (v : View) (heads : List HeadNote) → HasHeads v heads → AreHeads heads
listed_heads v heads has = record {
  distinct = IsDistinct-from_sorted (slice_cmp nat_cmp) (map note_of heads) has.notes.sorted;
  are_heads = has.are_heads;
}

module _ (xs ys : List HeadNote) (i j : ℕ) (a b : HeadNote) (at_i : slice_get xs i ≡ Some a)
    (at_j : slice_get xs j ≡ Some b) (alike : IsTrue (is_alike b a)) (moved : Exchanged xs ys i j) where
  -- each index keeps its size and root
  pub exchanged_points : HavePoints xs ys
  exchanged_points = same_elements (map point_of ys) (map point_of xs)
      (λ k. slice_get-map point_of ys k ∙ (at k ∙ sym (slice_get-map point_of xs k)))
    where
      point : a ≡ a → option_map point_of (Some b) ≡ option_map point_of (Some a)
      point same = ap Some (alike_point b a alike)

      at : (k : ℕ) → option_map point_of (slice_get ys k) ≡ option_map point_of (slice_get xs k)
      at k = elim (cases_eq k i) [
        | inl is ↦
            ap (λ m. option_map point_of (slice_get ys m)) is ∙ (ap (option_map point_of) (moved.first ∙ at_j)
            ∙ (point refl ∙ sym (ap (λ m. option_map point_of (slice_get xs m)) is ∙ ap (option_map point_of) at_i)))
        | inr not_i ↦ elim (cases_eq k j) [
          | inl is ↦
              ap (λ m. option_map point_of (slice_get ys m)) is ∙ (ap (option_map point_of) (moved.second ∙ at_i)
              ∙ (sym (point refl) ∙ sym (ap (λ m. option_map point_of (slice_get xs m)) is ∙ ap (option_map point_of) at_j)))
          | inr not_j ↦ ap (option_map point_of) (moved.others k not_i not_j)
        ]
      ]

-- ---- one index after another

module _ (puts : List NamedFile) (folder : List ℕ) where
  abbrev bytes_at : List HeadNote → HeadNote → Option (List ℕ)
  bytes_at before head = contents_of puts (place_at folder before head)

  same_bytes : (before : List HeadNote) (a b : HeadNote) → IsTrue (is_alike a b) → bytes_at before a ≡ bytes_at before b
  same_bytes before a b alike = ap (contents_of puts) (alike_place folder before a b alike)

  under_at : (head : HeadNote) (m n : ℕ) → m ≡ n → IsUnder puts folder head m → IsUnder puts folder head n
  under_at head m n same under = subst (IsUnder puts folder head) same under

  -- one more index, after which nothing changed
  pub settled_more : (heads : List HeadNote) (i : ℕ) (a : HeadNote) → slice_get heads i ≡ Some a →
      ((index : ℕ) (head : HeadNote) → slice_get heads index ≡ Some head → IsTrue (is_alike a head) →
      bytes_at (take i heads) a ≡ Some head.note → IsUnder puts folder head (alike_count (take index heads) head)) →
      SettlesFirst puts folder heads i → SettlesFirst puts folder heads (i + 1)
  settled_more heads i a at_i settle before index first head other at_index at_first lt alike under =
      elim (cases_eq first i) [
        | inl is ↦
            let same : other ≡ a =
            same_Some other a (sym at_first ∙ (ap (slice_get heads) is ∙ at_i)) in
            let alike_a : IsTrue (is_alike a head) = subst (λ (o : HeadNote). IsTrue (is_alike o head)) same alike in
            settle index head at_index alike_a
            (same_bytes (take i heads) a head alike_a ∙ under_at head _ _
            (ap (λ k. alike_count (take k heads) head) is) under)
        | inr not ↦ before index first head other at_index at_first (omega (arith, lt, not)) alike under
      ]

  -- the file of that name has the bytes of the note itself, or of no note
  pub settled_same : (heads : List HeadNote) (i : ℕ) (a : HeadNote) → AreHeads heads → slice_get heads i ≡ Some a →
      bytes_at (take i heads) a ≡ Some a.note → SettlesFirst puts folder heads i → SettlesFirst puts folder heads (i + 1)
  settled_same heads i a are at_i stands before = settled_more heads i a at_i
      (λ index head at_index alike is.
      let same : a.note ≡ head.note = same_Some a.note head.note (sym stands ∙ is) in
      let here : i ≡ index = same_index heads i index a head are at_i at_index same in
      under_at head (alike_count (take i heads) head) (alike_count (take index heads) head)
      (ap (λ k. alike_count (take k heads) head) here) (sym (same_bytes (take i heads) a head alike) ∙ is)) before

  pub settled_other : (heads : List HeadNote) (i : ℕ) (a : HeadNote) → slice_get heads i ≡ Some a →
      ((index : ℕ) (head : HeadNote) → slice_get heads index ≡ Some head → IsTrue (is_alike a head) →
      bytes_at (take i heads) a ≡ Some head.note → ⊥) →
      SettlesFirst puts folder heads i → SettlesFirst puts folder heads (i + 1)
  settled_other heads i a at_i none before = settled_more heads i a at_i
      (λ index head at_index alike is. absurd (none index head at_index alike is)) before

  -- it has the bytes of another note, and the two notes were exchanged
  module _ (xs ys : List HeadNote) (i j : ℕ) (a b : HeadNote) (at_i : slice_get xs i ≡ Some a)
      (at_j : slice_get xs j ≡ Some b) (alike : IsTrue (is_alike b a))
      (stands : bytes_at (take i xs) a ≡ Some b.note) (other : b.note ≡ a.note → ⊥) (moved : Exchanged xs ys i j) where
    -- the note at an index that did not change, or one of the two notes
    found_at : {P : Type 0} (k : ℕ) (head : HeadNote) → slice_get ys k ≡ Some head →
        (k ≡ i → head ≡ b → P) → (k ≡ j → (k ≡ i → ⊥) → head ≡ a → P) →
        ((k ≡ i → ⊥) → (k ≡ j → ⊥) → slice_get xs k ≡ Some head → P) → P
    found_at k head at_k first second rest = elim (cases_eq k i) [
      | inl is ↦ first is (same_Some head b (sym at_k ∙ (ap (slice_get ys) is ∙ (moved.first ∙ at_j))))
      | inr not_i ↦ elim (cases_eq k j) [
        | inl is ↦ second is not_i (same_Some head a (sym at_k ∙ (ap (slice_get ys) is ∙ (moved.second ∙ at_i))))
        | inr not_j ↦ rest not_i not_j (sym (moved.others k not_i not_j) ∙ at_k)
      ]
    ]

    number_is : (k : ℕ) (head : HeadNote) → alike_count (take k ys) head ≡ alike_count (take k xs) head
    number_is k head = same_number xs ys k head
        (exchanged_points xs ys i j a b at_i at_j alike moved)

    -- the exchanged note is in the folder under its new number
    stands_there : IsUnder puts folder b (alike_count (take i xs) b)
    stands_there = same_bytes (take i xs) b a alike ∙ stands

    -- a note that the folder has under the number of index `i` is the exchanged note
    is_exchanged : (index : ℕ) (head : HeadNote) → AreHeads xs → slice_get ys index ≡ Some head → IsTrue (is_alike b head) →
        IsUnder puts folder head (alike_count (take i ys) head) → IsUnder puts folder head (alike_count (take index ys) head)
    is_exchanged index head are at_index alike_b under =
        let same : b.note ≡ head.note =
        same_Some b.note head.note (sym stands_there ∙ (same_bytes (take i xs) b head alike_b
        ∙ under_at head (alike_count (take i ys) head) (alike_count (take i xs) head) (number_is i head) under)) in
        found_at index head at_index
        (λ is is_b. under_at head (alike_count (take i ys) head) (alike_count (take index ys) head)
        (ap (λ k. alike_count (take k ys) head) (sym is)) under)
        (λ is not_i is_a. absurd (other (same ∙ ap note_of is_a)))
        (λ not_i not_j at. absurd (not_j (same_index xs index j head b are at at_j (sym same))))

    pub settled_exchanged : AreHeads xs → SettlesFirst puts folder xs i → SettlesFirst puts folder ys (i + 1)
    settled_exchanged are before index first head one at_index at_first lt alike_one under = found_at first one at_first
        (λ is is_b. is_exchanged index head are at_index (subst (λ (o : HeadNote). IsTrue (is_alike o head)) is_b alike_one)
        (under_at head (alike_count (take first ys) head) (alike_count (take i ys) head)
        (ap (λ k. alike_count (take k ys) head) is) under))
        (λ is not_i is_a. earlier b not_i (ap (slice_get xs) is ∙ at_j)
        (alike_trans b a head alike (subst (λ (o : HeadNote). IsTrue (is_alike o head)) is_a alike_one)))
        (λ not_i not_j at. earlier one not_i at alike_one)
      where
        earlier : (o : HeadNote) → (first ≡ i → ⊥) → slice_get xs first ≡ Some o → IsTrue (is_alike o head) →
            IsUnder puts folder head (alike_count (take index ys) head)
        earlier o not_i at_o alike_o =
            let was : IsUnder puts folder head (alike_count (take first xs) head) =
            under_at head (alike_count (take first ys) head) (alike_count (take first xs) head) (number_is first head) under in
            let back : IsUnder puts folder head (alike_count (take index xs) head) →
            IsUnder puts folder head (alike_count (take index ys) head) =
            under_at head (alike_count (take index xs) head) (alike_count (take index ys) head) (sym (number_is index head)) in
            let below : first < i = omega (arith, lt, not_i) in
            found_at index head at_index
            (λ is is_b. back (subst (λ k. IsUnder puts folder head (alike_count (take k xs) head)) (sym is)
            (subst (λ (h : HeadNote). IsUnder puts folder h (alike_count (take i xs) h)) (sym is_b) stands_there)))
            (λ is not_index is_a.
            let of_a : IsUnder puts folder a (alike_count (take i xs) a) =
            before i first a o at_i at_o below (subst (λ (h : HeadNote). IsTrue (is_alike o h)) is_a alike_o)
            (subst (λ (h : HeadNote). IsUnder puts folder h (alike_count (take first xs) h)) is_a was) in
            absurd (other (same_Some b.note a.note (sym stands ∙ of_a))))
            (λ not_index not_j at. back (before index first head o at at_o below alike_o was))

    pub others_exchanged : (old : List HeadNote) → IsPermutation old xs → HavePoints old xs →
        KeepsOthers puts folder old xs → KeepsOthers puts folder old ys
    others_exchanged old was points before index head at_index = elim (before index head at_index) [
      | inr why ↦ inr why
      | inl same ↦ elim (cases_eq index i) [
        | inl is ↦
            let is_a : head ≡ a = same_Some head a (sym same ∙ (ap (slice_get xs) is ∙ at_i)) in
            inr (inr record {
              other = b;
              is_listed = Contains-permutation xs old b (IsPermutation-sym old xs was) (listed_at xs j b at_j);
              alike = subst (λ (h : HeadNote). IsTrue (is_alike b h)) (sym is_a) alike;
              under = subst (λ (h : HeadNote). IsUnder puts folder b (alike_count (take index old) h)) (sym is_a)
                  (subst (λ k. IsUnder puts folder b (alike_count (take k old) a)) (sym is)
                  (under_at b (alike_count (take i xs) b) (alike_count (take i old) a)
                  (alike_number (take i xs) b a alike ∙ same_number old xs i a points) stands_there));
            })
        | inr not_i ↦ elim (cases_eq index j) [
          | inl is ↦
              let is_b : head ≡ b = same_Some head b (sym same ∙ (ap (slice_get xs) is ∙ at_j)) in
              inr (inl (subst (λ (h : HeadNote). Stands puts folder old h) (sym is_b) (
                alike_count (take i xs) b,
                subst (λ n. alike_count (take i xs) b < n) (same_count old xs b points)
                    (passing_below (λ o. is_alike o b) xs i a at_i (alike_sym b a alike)),
                stands_there,
              )))
          | inr not_j ↦ inl (moved.others index not_i not_j ∙ same)
        ]
      ]
    ]

-- ---- all indexes

module _ (puts : List NamedFile) (folder : List ℕ) where
  -- a note that the folder has under any number of its size and root has such a number
  pub settled_all : (old heads : List HeadNote) (count : ℕ) → HavePoints old heads → length heads ≤ count →
      SettlesFirst puts folder heads count → (index : ℕ) (head : HeadNote) → slice_get heads index ≡ Some head →
      Stands puts folder old head → IsUnder puts folder head (alike_count (take index heads) head)
  settled_all old heads count points all settled index head at_index stands =
      let below : stands.0 < alike_count heads head =
      subst (λ n. stands.0 < n) (sym (same_count old heads head points)) stands.1 in
      let passing = passing_at (λ o. is_alike o head) heads stands.0 below in
      let within : passing.0 < length heads = slice_get_within heads passing.0 passing.1 passing.2 in
      settled index passing.0 head passing.1 at_index passing.2 (omega (arith, within, all)) passing.3
      (subst (IsUnder puts folder head) (sym passing.4) stands.2)
