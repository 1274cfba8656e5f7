-- The groups of an index as they are written.
use Rattle.std.proofs.Common.{◌≡◌, ◌≢◌, ℕ, zero, suc, ◌+◌, ◌*◌, ◌/◌, ◌%◌, ◌<◌, ◌≤◌, List, [], ◌∷◌, ◌++◌, All, refl, sym}
use Rattle.std.proofs.Common.{ap, subst, ◌∙◌, append_assoc, arith}
use Rattle.std.specs.List.{flat_map}
use Rattle.std.proofs.lemmas.List.{append-nil}
use Rattle.std.proofs.lemmas.List.Concat.{flat_map-append}
use Rattle.std.proofs.lemmas.List.Elements.{All-nil, All-cons, All-head, All-tail, All-push, All-append, All-same}
use Rattle.tlog_tiles.specs.Path.{three_digits, group_text, groups_within, groups_text, index_text, number_of}
use Rattle.tlog_tiles.specs.Path.{BeginsAboveZero, IsIndex}
use Rattle.tlog_tiles.proofs.IndexLemmas.{group_positive}

-- the first argument of groups_within is only a bound
pub groups_within-bound : (a b number : ℕ) → number ≤ a → number ≤ b → groups_within a number ≡ groups_within b number
groups_within-bound zero zero number p q = refl
groups_within-bound zero (suc b) number p q = let none : number ≡ 0 = omega arith in rw none refl
groups_within-bound (suc a) zero number p q = let none : number ≡ 0 = omega arith in rw none refl
groups_within-bound (suc a) (suc b) zero p q = refl
groups_within-bound (suc a) (suc b) (suc n) p q =
    ap (λ (x : List ℕ). x ++ group_text (suc n)) (groups_within-bound a b (suc n / 1000) (omega arith) (omega arith))

pub groups_text-zero : groups_text 0 ≡ []
unfolding groups_text
groups_text-zero = refl

pub groups_text-more : (number : ℕ) → 0 < number → groups_text number ≡ groups_text (number / 1000) ++ group_text number
unfolding groups_text
groups_text-more zero some = absurd (omega arith)
groups_text-more (suc n) some =
    ap (λ (x : List ℕ). x ++ group_text (suc n))
    (groups_within-bound n (suc n / 1000) (suc n / 1000) (omega arith) (omega arith))

-- the last three digits of a number are those of its last group
three_digits-add : (b g : ℕ) → three_digits (b * 1000 + g) ≡ three_digits g
three_digits-add b g =
    let hundreds : (b * 1000 + g) / 100 % 10 ≡ g / 100 % 10 = omega arith in
    let tens : (b * 1000 + g) / 10 % 10 ≡ g / 10 % 10 = omega arith in
    let ones : (b * 1000 + g) % 10 ≡ g % 10 = omega arith in
    λ i. (48 + hundreds i) ∷ (48 + tens i) ∷ (48 + ones i) ∷ []

thousands : (b g : ℕ) → g < 1000 → (b * 1000 + g) / 1000 ≡ b
thousands b g p = omega arith

-- the groups of before, followed by more groups, are the groups of the number that they make together
pub groups_text-groups : (before : ℕ) (groups : List ℕ) → All (λ group. group < 1000) groups →
    (before ≡ 0 → BeginsAboveZero groups) →
    groups_text before ++ flat_map group_text groups ≡ groups_text (number_of before groups)
groups_text-groups before [] all begins = append-nil (groups_text before)
groups_text-groups before (g ∷ groups) all begins =
    let head : g < 1000 = All-head (λ (k : ℕ). k < 1000) g groups all in
    let some : 0 < before * 1000 + g = group_positive before g g refl begins in
    let one : groups_text (before * 1000 + g) ≡ groups_text before ++ group_text g =
    groups_text-more (before * 1000 + g) some ∙
    (λ i. groups_text (thousands before g head i) ++ (120 ∷ three_digits-add before g i ++ 47 ∷ [])) in
    sym (append_assoc (groups_text before) (group_text g) (flat_map group_text groups))
    ∙ (ap (λ (x : List ℕ). x ++ flat_map group_text groups) (sym one)
    ∙ groups_text-groups (before * 1000 + g) groups (All-tail (λ (k : ℕ). k < 1000) g groups all)
    (λ z. absurd (omega arith)))

-- an index has only one text
pub index_spelled : (text : List ℕ) (n : ℕ) → IsIndex text n → text ≡ index_text n
index_spelled text n h =
    let number = number_of 0 h.groups in
    let last = h.last in
    let e : n ≡ number * 1000 + last = h.index_is in
    let front : flat_map group_text h.groups ≡ groups_text (n / 1000) =
    groups_text-front ∙ ap groups_text (sym (ap (λ k. k / 1000) e ∙ thousands number last h.last_fits)) in
    h.text_is ∙ (λ i. front i ++ (sym (three_digits-add number last) ∙ ap three_digits (sym e)) i)
  where
    groups_text-front : flat_map group_text h.groups ≡ groups_text (number_of 0 h.groups)
    groups_text-front =
        ap (λ (x : List ℕ). x ++ flat_map group_text h.groups) (sym groups_text-zero) ∙
        groups_text-groups 0 h.groups h.fits (λ z. h.begins)

-- the groups of a number
pub record HasGroups (number : ℕ) : Type 0 where
  pub groups : List ℕ
  pub fits : All (λ group. group < 1000) groups
  pub begins : BeginsAboveZero groups
  pub text_is : groups_text number ≡ flat_map group_text groups
  pub number_is : number_of 0 groups ≡ number

number_of-push : (before : ℕ) (groups : List ℕ) (g : ℕ) →
    number_of before (groups ++ g ∷ []) ≡ number_of before groups * 1000 + g
number_of-push before [] g = refl
number_of-push before (h ∷ groups) g = number_of-push (before * 1000 + h) groups g

begins-push : (groups : List ℕ) (g : ℕ) → BeginsAboveZero groups → 0 < number_of 0 groups * 1000 + g →
    BeginsAboveZero (groups ++ g ∷ [])
begins-push [] g p some = omega arith
begins-push (h ∷ groups) g p some = p

groups_within-of : (bound number : ℕ) → number ≤ bound → HasGroups number
groups_within-of bound zero p =
    record {
      groups =
          [];
      fits = All-nil (λ (k : ℕ). k < 1000);
      begins = tt;
      text_is = groups_text-zero;
      number_is = refl;
    }
groups_within-of zero (suc n) p = absurd (omega arith)
groups_within-of (suc bound) (suc n) p =
    let h = groups_within-of bound (suc n / 1000) (omega arith) in
    let g = suc n % 1000 in
    let parts : suc n / 1000 * 1000 + g ≡ suc n = omega arith in
    let number : number_of 0 (h.groups ++ g ∷ []) ≡ suc n =
    number_of-push 0 h.groups g ∙ (ap (λ k. k * 1000 + g) h.number_is ∙ parts) in
    let some : 0 < number_of 0 h.groups * 1000 + g =
    subst (λ k. 0 < k) (sym (sym (number_of-push 0 h.groups g) ∙ number)) (omega arith) in
    let digits : three_digits (suc n) ≡ three_digits g =
    ap three_digits (sym parts) ∙ three_digits-add (suc n / 1000) g in
    record {
      groups = h.groups ++ g ∷ [];
      fits = All-push (λ (k : ℕ). k < 1000) h.groups g h.fits (omega arith);
      begins = begins-push h.groups g h.begins some;
      text_is =
          groups_text-more (suc n) (omega arith) ∙
          ((λ i. h.text_is i ++ (120 ∷ digits i ++ 47 ∷ [])) ∙
          (ap (λ (x : List ℕ). flat_map group_text h.groups ++ x) (sym (append-nil (group_text g))) ∙
          sym (flat_map-append group_text h.groups (g ∷ []))));
      number_is = number;
    }

-- each index has a text
pub index_written : (n : ℕ) → IsIndex (index_text n) n
index_written n =
    let h = groups_within-of (n / 1000) (n / 1000) (omega arith) in
    let parts : n ≡ n / 1000 * 1000 + n % 1000 = omega arith in
    record {
      groups = h.groups;
      last = n % 1000;
      fits = h.fits;
      last_fits = omega arith;
      begins = h.begins;
      text_is = λ i. h.text_is i ++ (ap three_digits parts ∙ three_digits-add (n / 1000) (n % 1000)) i;
      index_is = parts ∙ ap (λ k. k * 1000 + n % 1000) (sym h.number_is);
    }

-- an index contains no dot
three_digits-dot : (g : ℕ) → All (λ c. c ≢ 46) (three_digits g)
three_digits-dot g =
    let P : ℕ → Type 0 = λ c. c ≢ 46 in
    All-cons P (48 + g / 100 % 10) ((48 + g / 10 % 10) ∷ (48 + g % 10) ∷ []) (λ e. omega arith)
    (All-cons P (48 + g / 10 % 10) ((48 + g % 10) ∷ []) (λ e. omega arith)
    (All-cons P (48 + g % 10) [] (λ e. omega arith) (All-nil P)))

groups-dot : (groups : List ℕ) → All (λ c. c ≢ 46) (flat_map group_text groups)
groups-dot [] = All-nil (λ (c : ℕ). c ≢ 46)
groups-dot (g ∷ groups) =
    let P : ℕ → Type 0 = λ c. c ≢ 46 in
    All-append P (group_text g) (flat_map group_text groups)
    (All-cons P 120 (three_digits g ++ 47 ∷ []) (λ e. omega arith)
    (All-append P (three_digits g) (47 ∷ []) (three_digits-dot g)
    (All-cons P 47 [] (λ e. omega arith) (All-nil P))))
    (groups-dot groups)

pub index-dot : (text : List ℕ) (n : ℕ) → IsIndex text n → All (λ c. c ≢ 46) text
index-dot text n h =
    All-same (λ (c : ℕ). c ≢ 46) text (flat_map group_text h.groups ++ three_digits h.last) h.text_is
    (All-append (λ (c : ℕ). c ≢ 46) (flat_map group_text h.groups) (three_digits h.last) (groups-dot h.groups)
    (three_digits-dot h.last))
