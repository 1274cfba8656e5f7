-- Indexes in groups of three digits.
use Rattle.std.proofs.Common.{◌≡◌, ℕ, zero, suc, ◌+◌, ◌*◌, ◌/◌, ◌%◌, ◌<◌, ◌≤◌, List, [], ◌∷◌, ◌++◌, All, refl, sym, ap}
use Rattle.std.proofs.Common.{◌∙◌, append_assoc, arith}
use Rattle.std.specs.List.{flat_map}
use Rattle.std.proofs.lemmas.List.Elements.{All-head, All-tail, All-nil, All-cons}
use Rattle.std.proofs.lemmas.List.{append-nil}
use Rattle.tlog_tiles.specs.Path.{three_digits, group_text, number_of, BeginsAboveZero, IsIndex}

-- the text is the rest of an index, after groups that make the number before
pub record IsIndexAfter (before : ℕ) (text : List ℕ) (index : ℕ) : Type 0 where
  pub groups : List ℕ
  pub last : ℕ
  pub fits : All (λ group. group < 1000) groups
  pub last_fits : last < 1000
  pub begins : before ≡ 0 → BeginsAboveZero groups
  pub text_is : text ≡ flat_map group_text groups ++ three_digits last
  pub index_is : index ≡ number_of before groups * 1000 + last

-- the text determines its first three digits
pub digits_one : (g h : ℕ) (a b : List ℕ) → g < 1000 → h < 1000 → three_digits g ++ a ≡ three_digits h ++ b →
    (g ≡ h) × (a ≡ b)
digits_one g h a b p q e =
    let hundreds : 48 + g / 100 % 10 ≡ 48 + h / 100 % 10 = cc in
    let tens : 48 + g / 10 % 10 ≡ 48 + h / 10 % 10 = cc in
    let ones : 48 + g % 10 ≡ 48 + h % 10 = cc in
    let rest : a ≡ b = cc in
    (omega arith, rest)

-- digits do not begin like a group
pub digits_no_group : (g h : ℕ) (a b : List ℕ) → three_digits g ++ a ≡ group_text h ++ b → ⊥
digits_no_group g h a b e = let first : 48 + g / 100 % 10 ≡ 120 = cc in omega arith

-- the text determines its first group
pub group_one : (g h : ℕ) (a b : List ℕ) → g < 1000 → h < 1000 → group_text g ++ a ≡ group_text h ++ b →
    (g ≡ h) × (a ≡ b)
group_one g h a b p q e =
    let under : three_digits g ++ 47 ∷ a ≡ three_digits h ++ 47 ∷ b = cc in
    let one = digits_one g h (47 ∷ a) (47 ∷ b) p q under in
    let both = one.1 in
    (one.0, cc)

-- more groups never lower the number
pub number_of-le : (before : ℕ) (groups : List ℕ) → before ≤ number_of before groups
number_of-le before [] = omega arith
number_of-le before (g ∷ groups) = omega (arith, number_of-le (before * 1000 + g) groups)

-- the number of one or more groups is above 0, since the first of several groups is not x000
pub group_positive : (before g h : ℕ) → g ≡ h → (before ≡ 0 → 0 < h) → 0 < before * 1000 + g
group_positive zero g h e begins = let some : 0 < h = begins refl in omega arith
group_positive (suc before) g h e begins = omega arith

-- the rest of an index after one more group
pub record IsBehindGroup (before group : ℕ) (rest : List ℕ) (index : ℕ) : Type 0 where
  pub some : 0 < before * 1000 + group
  pub upto : before * 1000 + group ≤ index
  pub after : IsIndexAfter (before * 1000 + group) rest index

module _ (before g n : ℕ) (rest : List ℕ) (fits : g < 1000) where
  behind_group : (groups : List ℕ) (last : ℕ) → All (λ group. group < 1000) groups → last < 1000 →
      (before ≡ 0 → BeginsAboveZero groups) → group_text g ++ rest ≡ flat_map group_text groups ++ three_digits last →
      n ≡ number_of before groups * 1000 + last → IsBehindGroup before g rest n
  behind_group [] last all p begins e m =
      absurd (digits_no_group last g [] rest (append-nil (three_digits last) ∙ sym e))
  behind_group (h ∷ groups) last all p begins e m =
      let head : h < 1000 = All-head (λ (k : ℕ). k < 1000) h groups all in
      let one =
      group_one g h rest (flat_map group_text groups ++ three_digits last) fits head
      (e ∙ append_assoc (group_text h) (flat_map group_text groups) (three_digits last)) in
      let same = one.0 in
      let value : n ≡ number_of (before * 1000 + g) groups * 1000 + last =
      m ∙ ap (λ k. number_of (before * 1000 + k) groups * 1000 + last) (sym same) in
      let some : 0 < before * 1000 + g = group_positive before g h same begins in
      record {
        some = some;
        upto = omega (arith, number_of-le (before * 1000 + g) groups);
        after = record {
          groups =
              groups;
          last =
              last;
          fits =
              All-tail (λ (k : ℕ). k < 1000) h groups all;
          last_fits =
              p;
          begins = λ z. absurd (omega arith);
          text_is = one.1;
          index_is = value;
        };
      }

  -- an index continues with a group
  pub IsIndexAfter-group : (text : List ℕ) → text ≡ group_text g ++ rest → IsIndexAfter before text n →
      IsBehindGroup before g rest n
  IsIndexAfter-group text e h = behind_group h.groups h.last h.fits h.last_fits h.begins (sym e ∙ h.text_is) h.index_is

  pub IsIndexAfter-cons : (text : List ℕ) → text ≡ group_text g ++ rest → 0 < before * 1000 + g →
      IsIndexAfter (before * 1000 + g) rest n → IsIndexAfter before text n
  IsIndexAfter-cons text e some h = record {
    groups = g ∷ h.groups;
    last = h.last;
    fits = All-cons (λ (k : ℕ). k < 1000) g h.groups fits h.fits;
    last_fits = h.last_fits;
    begins = λ z. let none : before ≡ 0 = z in omega arith;
    text_is =
        e ∙ (ap (λ (x : List ℕ). group_text g ++ x) h.text_is ∙
        sym (append_assoc (group_text g) (flat_map group_text h.groups) (three_digits h.last)));
    index_is = h.index_is;
  }

-- three digits end an index
pub IsIndexAfter-digits : (before g : ℕ) (text : List ℕ) → g < 1000 → text ≡ three_digits g →
    IsIndexAfter before text (before * 1000 + g)
IsIndexAfter-digits before g text p e =
    record {
      groups =
          [];
      last = g;
      fits = All-nil (λ (k : ℕ). k < 1000);
      last_fits = p;
      begins = λ z. tt;
      text_is = e;
      index_is = refl;
    }

-- an index that continues with no group ends in three digits
pub record EndsIndex (before : ℕ) (text : List ℕ) (index : ℕ) : Type 0 where
  pub last : ℕ
  pub fits : last < 1000
  pub text_is : text ≡ three_digits last
  pub index_is : index ≡ before * 1000 + last

no_groups : (before n : ℕ) (text groups : List ℕ) (last : ℕ) →
    ((group : ℕ) (rest : List ℕ) → group < 1000 → text ≡ group_text group ++ rest → ⊥) →
    All (λ group. group < 1000) groups → last < 1000 → text ≡ flat_map group_text groups ++ three_digits last →
    n ≡ number_of before groups * 1000 + last → EndsIndex before text n
no_groups before n text [] last none all p e m = record { last = last; fits = p; text_is = e; index_is = m }
no_groups before n text (g ∷ groups) last none all p e m =
    absurd (none g (flat_map group_text groups ++ three_digits last) (All-head (λ (k : ℕ). k < 1000) g groups all)
    (e ∙ append_assoc (group_text g) (flat_map group_text groups) (three_digits last)))

pub IsIndexAfter-end : (before n : ℕ) (text : List ℕ) →
    ((group : ℕ) (rest : List ℕ) → group < 1000 → text ≡ group_text group ++ rest → ⊥) → IsIndexAfter before text n →
    EndsIndex before text n
IsIndexAfter-end before n text none h =
    no_groups before n text h.groups h.last none h.fits h.last_fits h.text_is h.index_is

-- the text determines the end of an index
pub end_one : (before n g : ℕ) (text after : List ℕ) → g < 1000 → text ≡ three_digits g ++ after →
    EndsIndex before text n → (n ≡ before * 1000 + g) × ([] ≡ after)
end_one before n g text after p e h =
    let one = digits_one h.last g [] after h.fits p (append-nil (three_digits h.last) ∙ (sym h.text_is ∙ e)) in
    (h.index_is ∙ ap (λ k. before * 1000 + k) one.0, one.1)

-- the text determines the index
groups_one : (before n m : ℕ) (gs hs : List ℕ) (g h : ℕ) → All (λ group. group < 1000) gs →
    All (λ group. group < 1000) hs → g < 1000 → h < 1000 →
    flat_map group_text gs ++ three_digits g ≡ flat_map group_text hs ++ three_digits h →
    n ≡ number_of before gs * 1000 + g → m ≡ number_of before hs * 1000 + h → n ≡ m
groups_one before n m [] [] g h p q r s e x y =
    let one = digits_one g h [] [] r s (append-nil (three_digits g) ∙ (e ∙ sym (append-nil (three_digits h)))) in
    x ∙ (ap (λ k. before * 1000 + k) one.0 ∙ sym y)
groups_one before n m [] (k ∷ hs) g h p q r s e x y =
    absurd (digits_no_group g k [] (flat_map group_text hs ++ three_digits h)
    (append-nil (three_digits g) ∙ (e ∙ append_assoc (group_text k) (flat_map group_text hs) (three_digits h))))
groups_one before n m (k ∷ gs) [] g h p q r s e x y =
    absurd (digits_no_group h k [] (flat_map group_text gs ++ three_digits g)
    (append-nil (three_digits h) ∙ (sym e ∙ append_assoc (group_text k) (flat_map group_text gs) (three_digits g))))
groups_one before n m (k ∷ gs) (l ∷ hs) g h p q r s e x y =
    let one =
    group_one k l (flat_map group_text gs ++ three_digits g) (flat_map group_text hs ++ three_digits h)
    (All-head (λ (k : ℕ). k < 1000) k gs p) (All-head (λ (k : ℕ). k < 1000) l hs q)
    (sym (append_assoc (group_text k) (flat_map group_text gs) (three_digits g)) ∙
    (e ∙ append_assoc (group_text l) (flat_map group_text hs) (three_digits h))) in
    groups_one (before * 1000 + k) n m gs hs g h (All-tail (λ (k : ℕ). k < 1000) k gs p)
    (All-tail (λ (k : ℕ). k < 1000) l hs q) r s one.1 x
    (y ∙ ap (λ j. number_of (before * 1000 + j) hs * 1000 + h) (sym one.0))

pub index_one : (text : List ℕ) (n m : ℕ) → IsIndex text n → IsIndex text m → n ≡ m
index_one text n m p q =
    groups_one 0 n m p.groups q.groups p.last q.last p.fits q.fits p.last_fits q.last_fits
    (sym p.text_is ∙ q.text_is) p.index_is q.index_is
