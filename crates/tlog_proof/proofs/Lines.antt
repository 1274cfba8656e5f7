-- Each line of a proof's text is read in only one way.
use Rattle.std.proofs.Common.{◌≡◌, ◌≢◌, ℕ, zero, suc, ◌+◌, ◌<◌, ◌≤◌, Bool, true, false, not, nat_eq, ◌&&◌, List, []}
use Rattle.std.proofs.Common.{◌∷◌, ◌++◌, length, drop, get_or, append_assoc, refl, sym, subst, ap, ◌∙◌, arith}
use Rattle.std.proofs.Common.{length-append}
use Rattle.std.specs.Prelude.{Err, Option, Some, None, MatchOption, codes}
use Rattle.std.specs.Fmt.{decimal}
use Rattle.std.specs.List.{list_all, AllByRecursion}
use Rattle.std.specs.Str.Parse.{AllDigits, digits_value}
use Rattle.std.proofs.lemmas.Bool.Decides.{Decides-eqb}
use Rattle.std.proofs.lemmas.Fmt.{digits_decimal, decimal_injective, length-decimal-le}
use Rattle.std.proofs.lemmas.Str.Parse.{IsNumeralModel, numerals_by_value, tells_digits, not_in_digits}
use Rattle.std.proofs.lemmas.List.{append_cancel_left, append-nil, get_or-append-add, drop-drop}
use Rattle.std.proofs.lemmas.Str.{IsUtf8-drop, IsCharBoundary-after_ascii}
use Rattle.std.proofs.Math.Seq.{drop-append_seam}
use Rattle.std.specs.Str.{IsUtf8}
use Rattle.tlog_shape.specs.declared.TheConstants.{MAX_SIZE}
use Rattle.tlog_text.proofs.Hashes.{base64_of-same}
use Rattle.tlog_text.proofs.Newlines.{base64_lacks_newline as base64_lacks}
use Rattle.tlog_text.specs.Hash.{base64_of, Is32Bytes}
use Rattle.tlog_proof.specs.Text.{LacksNewline, line, number_line, hash_line, path_lines}
use Rattle.tlog_proof.specs.Reading.{FindsThat}
use Rattle.tlog_proof.specs.declared.fault.TextFault.{TextFault}
use Rattle.tlog_proof.specs.declared.fault.TextFault.TheVariants.{BadProofText, OutOfMemory}

-- a clause of an option follows from a stronger one
pub option_weaker : {T P R : Type 0} {Q S : T → Type 0} (o : Option T) → MatchOption o P Q → (P → R) →
    ((x : T) → Q x → S x) → MatchOption o R S
option_weaker None h f g = f h
option_weaker (Some x) h f g = g x h

-- a fault means the same for every property
pub fault_same : {X Y : Type 0} (fault : TextFault) (P : X → Type 0) (Q : Y → Type 0) → FindsThat (Err fault) P →
    FindsThat (Err fault) Q
fault_same BadProofText P Q h = h
fault_same OutOfMemory P Q h = h

-- ---- bytes other than a newline

-- no element is a newline
abbrev pub Lacks : List ℕ → Type 0
Lacks [] = Unit {0}
Lacks (x ∷ xs) = (x ≢ 10) × Lacks xs

Lacks-append : (xs ys : List ℕ) → Lacks xs → Lacks ys → Lacks (xs ++ ys)
Lacks-append [] ys p q = q
Lacks-append (x ∷ xs) ys p q = (p.0, Lacks-append xs ys p.1 q)

Lacks-reads : (xs : List ℕ) → Lacks xs → LacksNewline xs
Lacks-reads [] p i lt = absurd (omega arith)
Lacks-reads (x ∷ xs) p zero lt = p.0
Lacks-reads (x ∷ xs) p (suc i) lt = Lacks-reads xs p.1 i (omega arith)

Lacks-from_reads : (xs : List ℕ) → LacksNewline xs → Lacks xs
Lacks-from_reads [] h = tt
Lacks-from_reads (x ∷ xs) h = (h zero (omega arith), Lacks-from_reads xs (λ i lt. h (suc i) (omega arith)))

-- this also holds after the end, where get_or gives 0
reads_other : (xs : List ℕ) → Lacks xs → (i : ℕ) → get_or xs i 0 ≢ 10
reads_other [] p i = λ e. cc
reads_other (x ∷ xs) p zero = p.0
reads_other (x ∷ xs) p (suc i) = reads_other xs p.1 i

both : (a b : Bool) → (a && b) ≡ true → (a ≡ true) × (b ≡ true)
both true b h = (refl, h)
both false b h = absurd cc

Lacks-from_test : (xs : List ℕ) → list_all (λ b. not (nat_eq b 10)) xs ≡ true → Lacks xs
Lacks-from_test [] h = tt
Lacks-from_test (x ∷ xs) h =
    let parts = both (not (nat_eq x 10)) (list_all (λ b. not (nat_eq b 10)) xs) h in
    (λ e. let same = (Decides-eqb x 10).1 e in absurd (cc (same, parts.0)), Lacks-from_test xs parts.1)

-- two cuts at the first newline are the same cut
cut_once : (a b d e : List ℕ) → a ++ (10 ∷ b) ≡ d ++ (10 ∷ e) → Lacks a → Lacks d → (a ≡ d) × (b ≡ e)
cut_once [] b [] e h p q = (refl, cc)
cut_once [] b (y ∷ d) e h p q = let same : y ≡ 10 = cc in absurd (q.0 same)
cut_once (x ∷ a) b [] e h p q = let same : x ≡ 10 = cc in absurd (p.0 same)
cut_once (x ∷ a) b (y ∷ d) e h p q =
    let heads : x ≡ y = cc in
    let tails : a ++ (10 ∷ b) ≡ d ++ (10 ∷ e) = cc in
    let rest = cut_once a b d e tails p.1 q.1 in
    (cc, rest.1)

-- a line with a name has only one value and one rest
pub line_once : (name value rest other more : List ℕ) → LacksNewline value → LacksNewline other →
    line name value rest ≡ line name other more → (value ≡ other) × (rest ≡ more)
line_once name value rest other more p q e =
    cut_once value rest other more (append_cancel_left name (value ++ 10 ∷ rest) (other ++ 10 ∷ more) e)
    (Lacks-from_reads value p) (Lacks-from_reads other q)

-- bytes after the rest of a line are bytes after the line
pub line-append : (name value rest ys : List ℕ) → line name value rest ++ ys ≡ line name value (rest ++ ys)
line-append name value rest ys =
    append_assoc name (value ++ 10 ∷ rest) ys ∙ ap (λ xs. name ++ xs) (append_assoc value (10 ∷ rest) ys)

-- the bytes after a newline of a UTF-8 text are UTF-8
after_newline : (text front after : List ℕ) → IsUtf8 text → text ≡ front ++ 10 ∷ after → IsUtf8 after
after_newline text front after u is =
    let n = length front in
    let at : get_or text n 0 ≡ 10 =
    (let same : n + 0 ≡ n =
    omega arith in ap (λ bs. get_or bs n 0) is ∙ ap (λ i. get_or (front ++ 10 ∷ after) i 0) (sym same) ∙
    get_or-append-add front (10 ∷ after) 0 0) in
    let lt : n < length text = omega (arith, ap length is, length-append front (10 ∷ after)) in
    let rest : drop (n + 1) text ≡ after =
    ap (drop (n + 1)) is ∙ sym (drop-drop 1 n (front ++ 10 ∷ after)) ∙
    ap (drop 1) (drop-append_seam front (10 ∷ after)) in
    subst IsUtf8 rest (IsUtf8-drop text (n + 1) u (IsCharBoundary-after_ascii text n u lt (omega arith)))

pub after_line : (text name value rest : List ℕ) → IsUtf8 text → text ≡ line name value rest → IsUtf8 rest
after_line text name value rest u is =
    after_newline text (name ++ value) rest u (is ∙ sym (append_assoc name value (10 ∷ rest)))

-- ---- numbers

abbrev own : IsNumeralModel (AllDigits 10) (digits_value 10)
own = numerals_by_value (AllDigits 10) tells_digits

pub decimal_lacks_newline : (n : ℕ) → n ≤ MAX_SIZE → LacksNewline (decimal n)
decimal_lacks_newline n small i lt =
    not_in_digits own (decimal n) 10 (digits_decimal own n (omega arith)) (λ r. omega (arith, r.0)) i lt

pub number_line_once : (name : List ℕ) (n : ℕ) (rest : List ℕ) (m : ℕ) (more : List ℕ) → n ≤ MAX_SIZE → m ≤ MAX_SIZE →
    number_line name n rest ≡ number_line name m more → (n ≡ m) × (rest ≡ more)
number_line_once name n rest m more p q e =
    let same =
    line_once name (decimal n) rest (decimal m) more (decimal_lacks_newline n p) (decimal_lacks_newline m q) e in
    (decimal_injective n m (omega arith) (omega arith) same.0, same.1)

pub length-decimal : (n : ℕ) → n ≤ MAX_SIZE → length (decimal n) ≤ 19
length-decimal n small = length-decimal-le 19 n (omega arith) (omega arith) (omega arith)

-- ---- hashes

pub base64_lacks_newline : (bytes : List ℕ) → LacksNewline (base64_of bytes)
base64_lacks_newline bytes = Lacks-reads (base64_of bytes) (Lacks-from_test (base64_of bytes) (base64_lacks bytes))

pub hash_line_once : (name hash rest other more : List ℕ) → Is32Bytes hash → Is32Bytes other →
    hash_line name hash rest ≡ hash_line name other more → (hash ≡ other) × (rest ≡ more)
hash_line_once name hash rest other more p q e =
    let same =
    line_once name (base64_of hash) rest (base64_of other) more (base64_lacks_newline hash)
    (base64_lacks_newline other) e in
    (base64_of-same hash other p.are_bytes q.are_bytes same.0, same.1)

-- ---- paths

-- one more hash at the end
pub path_lines-push : (path : List (List ℕ)) (hash rest : List ℕ) →
    path_lines (path ++ hash ∷ []) rest ≡ path_lines path (hash_line (codes "path ") hash rest)
path_lines-push [] hash rest = refl
path_lines-push (p ∷ path) hash rest = ap (hash_line (codes "path ") p) (path_lines-push path hash rest)

pub hashes-push : (path : List (List ℕ)) (hash : List ℕ) → AllByRecursion Is32Bytes path → Is32Bytes hash →
    AllByRecursion Is32Bytes (path ++ hash ∷ [])
hashes-push [] hash all h = (h, tt)
hashes-push (p ∷ path) hash all h = (all.0, hashes-push path hash all.1 h)

-- a line is not empty
line_is_some : (name value rest : List ℕ) → line name value rest ≡ [] → ⊥
line_is_some name value rest e =
    let n = ap length e in omega (arith, n, length-append name (value ++ 10 ∷ rest), length-append value (10 ∷ rest))

-- the rest of the lines of a path, after some of them were read
pub record IsRest (done path : List (List ℕ)) (rest : List ℕ) : Type 0 where
  pub more : List (List ℕ)
  pub whole : path ≡ done ++ more
  pub rest_is : rest ≡ path_lines more []
  pub hashes : AllByRecursion Is32Bytes more

pub rest_of_path : (done path : List (List ℕ)) (rest : List ℕ) → AllByRecursion Is32Bytes done →
    AllByRecursion Is32Bytes path → path_lines done rest ≡ path_lines path [] → IsRest done path rest
rest_of_path [] path rest p q e = record { more = path; whole = refl; rest_is = e; hashes = q }
rest_of_path (d ∷ done) [] rest p q e = absurd (line_is_some (codes "path ") (base64_of d) (path_lines done rest) e)
rest_of_path (d ∷ done) (h ∷ path) rest p q e =
    let same = hash_line_once (codes "path ") d (path_lines done rest) h (path_lines path []) p.0 q.0 e in
    let r = rest_of_path done path rest p.1 q.1 same.1 in
    record { more = r.more; whole = (λ i. sym same.0 i ∷ r.whole i); rest_is = r.rest_is; hashes = r.hashes }

-- if nothing is left, the whole path was read
pub all_read : (done path : List (List ℕ)) (rest : List ℕ) → IsRest done path rest → rest ≡ [] → done ≡ path
all_read done path rest r empty = at r.more r.whole r.rest_is
  where
    at : (more : List (List ℕ)) → path ≡ done ++ more → rest ≡ path_lines more [] → done ≡ path
    at [] whole is = sym (whole ∙ append-nil done)
    at (h ∷ more) whole is = absurd (line_is_some (codes "path ") (base64_of h) (path_lines more []) (sym is ∙ empty))

-- if something is left, there is one more hash
pub record HasNext (done path : List (List ℕ)) (rest : List ℕ) : Type 0 where
  pub hash : List ℕ
  pub after : List ℕ
  pub is_hash : Is32Bytes hash
  pub line_is : rest ≡ hash_line (codes "path ") hash after
  pub longer : length done < length path

pub next_hash : (done path : List (List ℕ)) (rest : List ℕ) → IsRest done path rest → 0 < length rest →
    HasNext done path rest
next_hash done path rest r some = at r.more r.whole r.rest_is r.hashes
  where
    at : (more : List (List ℕ)) → path ≡ done ++ more → rest ≡ path_lines more [] → AllByRecursion Is32Bytes more →
        HasNext done path rest
    at [] whole is all = absurd (omega (arith, ap length is))
    at (h ∷ more) whole is all =
        record {
          hash =
              h;
          after =
              path_lines more [];
          is_hash =
              all.0;
          line_is = is;
          longer = omega (arith, ap length whole, length-append done (h ∷ more));
        }

pub path_lines-append : (path : List (List ℕ)) (ys : List ℕ) → path_lines path [] ++ ys ≡ path_lines path ys
path_lines-append [] ys = refl
path_lines-append (p ∷ path) ys =
    line-append (codes "path ") (base64_of p) (path_lines path []) ys ∙
    ap (hash_line (codes "path ") p) (path_lines-append path ys)

-- three pieces were appended
pub three_added : (old a b c one two new : List ℕ) → one ≡ old ++ a → two ≡ one ++ b → new ≡ two ++ c →
    new ≡ old ++ (a ++ (b ++ c))
three_added old a b c one two new p q r =
    r ∙ ap (λ xs. xs ++ c) (q ∙ ap (λ xs. xs ++ b) p) ∙ append_assoc (old ++ a) b c ∙ append_assoc old a (b ++ c)
