-- Consecutive parts of a list of entries, and their texts.
use Rattle.std.proofs.Common.{◌≡◌, ℕ, zero, suc, ◌+◌, ◌-◌, ◌≤◌, List, [], ◌∷◌, ◌++◌, length, take, drop, Bool, true, false}
use Rattle.std.proofs.Common.{Option, refl, sym, ap, ◌∙◌, subst, arith}
use Rattle.std.specs.Io.KnownBytes.{Appends}
use Rattle.std.proofs.KnownBytes.{Appends-trans}
use Rattle.std.proofs.lemmas.List.{drop-drop, drop-take, take-take, take_all}
use Rattle.std.proofs.lemmas.List.Concat.{flat_map-append}
use Rattle.byte_streams.specs.Streams.{AppendsPrefix}
use Rattle.tlog_hash.specs.Rows.{part}
use Rattle.tlog_tiles.specs.Bundle.{entry_text}
use Rattle.program_copies.specs.Texts.{entries_text, entry_line}

take_empty : {A : Type 0} (k : ℕ) → take {A = A} k [] ≡ []
take_empty zero = refl
take_empty (suc k) = refl

-- the first m items, and then n of the rest
pub take_on : {A : Type 0} (m n : ℕ) (xs : List A) → take m xs ++ take n (drop m xs) ≡ take (m + n) xs
take_on zero n xs = ap (λ i. take i xs) (omega arith)
take_on (suc m) n [] = take_empty n ∙ sym (take_empty (suc m + n))
take_on {A} (suc m) n (x ∷ xs) =
    let e : suc (m + n) ≡ suc m + n = omega arith in
    ap (λ (w : List A). x ∷ w) (take_on m n xs) ∙ ap (λ i. take i (x ∷ xs)) e

-- a part, and the next part
pub part_on : {A : Type 0} (from m n : ℕ) (xs : List A) → part from m xs ++ part (from + m) n xs ≡ part from (m + n) xs
part_on {A} from m n xs =
    ap (λ (ys : List A). take m (drop from xs) ++ take n ys) (sym (drop-drop m from xs)) ∙ take_on m n (drop from xs)

-- a part of a part
pub part_within : {A : Type 0} (start s c w : ℕ) (xs : List A) → s + c ≤ w → part s c (part start w xs) ≡ part (start + s) c xs
part_within {A} start s c w xs fits =
    let ys = drop start xs in
    let e : w ≡ s + (w - s) = omega (arith, fits) in
    ap (λ m. take c (drop s (take m ys))) e
    ∙ (ap (λ (zs : List A). take c zs) (drop-take s (w - s) ys)
    ∙ (take-take c (w - s) (drop s ys) (omega (arith, fits)) ∙ ap (λ (zs : List A). take c zs) (drop-drop s start xs)))

pub text_on : (base64 : Bool) (xs ys : List (List ℕ)) →
    entries_text base64 (xs ++ ys) ≡ entries_text base64 xs ++ entries_text base64 ys
text_on true xs ys = flat_map-append entry_line xs ys
text_on false xs ys = flat_map-append entry_text xs ys

-- the first bytes, and then the first n of others
take_past : (bs cs : List ℕ) (n : ℕ) → take (length bs + n) (bs ++ cs) ≡ bs ++ take n cs
take_past [] cs n = ap (λ i. take i cs) (omega arith)
take_past (b ∷ bs) cs n =
    let e : length (b ∷ bs) + n ≡ suc (length bs + n) = omega arith in
    ap (λ i. take i (b ∷ (bs ++ cs))) e ∙ ap (λ (w : List ℕ). b ∷ w) (take_past bs cs n)

-- a text was written, and then a prefix of another
pub prefix_on : (a b c : Option (List ℕ)) (bs cs : List ℕ) → Appends a b bs → AppendsPrefix b c cs → AppendsPrefix a c (bs ++ cs)
prefix_on a b c bs cs p q =
    (length bs + q.0, subst (λ (w : List ℕ). Appends a c w) (sym (take_past bs cs q.0)) (Appends-trans a b c bs (take q.0 cs) p q.1))

-- a text that was written whole is a prefix of itself
pub prefix_whole : (a b : Option (List ℕ)) (bs : List ℕ) → Appends a b bs → AppendsPrefix a b bs
prefix_whole a b bs p = (length bs, subst (λ (w : List ℕ). Appends a b w) (sym (take_all (length bs) bs (omega arith))) p)

-- entries were written, and then others
pub entries_on : (base64 : Bool) (a b c : Option (List ℕ)) (xs ys : List (List ℕ)) → Appends a b (entries_text base64 xs) →
    Appends b c (entries_text base64 ys) → Appends a c (entries_text base64 (xs ++ ys))
entries_on base64 a b c xs ys p q =
    subst (λ (w : List ℕ). Appends a c w) (sym (text_on base64 xs ys))
    (Appends-trans a b c (entries_text base64 xs) (entries_text base64 ys) p q)

pub entries_begin : (base64 : Bool) (a b c : Option (List ℕ)) (xs ys : List (List ℕ)) → Appends a b (entries_text base64 xs) →
    AppendsPrefix b c (entries_text base64 ys) → AppendsPrefix a c (entries_text base64 (xs ++ ys))
entries_begin base64 a b c xs ys p q =
    subst (λ (w : List ℕ). AppendsPrefix a c w) (sym (text_on base64 xs ys))
    (prefix_on a b c (entries_text base64 xs) (entries_text base64 ys) p q)
