-- The entries of a bundle, in order.
use Rattle.std.proofs.Common.{◌≡◌, ◌≢◌, ℕ, suc, false, nat_eq, ◌+◌, ◌*◌, ◌^◌, ◌<◌, ◌≤◌, List, [], ◌∷◌, ◌++◌, length}
use Rattle.std.proofs.Common.{take, drop, All, Result, Ok, Err, refl, sym, ap, ◌∙◌, append_assoc, length-append, arith}
use Rattle.std.specs.List.{flat_map}
use Rattle.std.specs.Int.{w16, to_be_bytes, from_be_bytes}
use Rattle.std.proofs.lemmas.List.{take_at, drop_at, append-nil}
use Rattle.std.proofs.lemmas.List.Elements.{All-head, All-tail}
use Rattle.std.proofs.lemmas.List.Concat.{flat_map-append}
use Rattle.std.proofs.lemmas.Nat.{from_be_bytes-to_be_bytes_2}
use Rattle.tlog_tiles.specs.declared.bundle.BundleFault.{BundleFault}
use Rattle.tlog_tiles.specs.declared.bundle.BundleFault.TheVariants.{BundleShort, BundleLong, OutOfMemory}
use Rattle.tlog_tiles.specs.Laws.{BundlesAreShort}
use Rattle.tlog_tiles.specs.Bundle.{entry_text, IsBundle, HasBundle, ReadsBundle}

-- the bytes determine the entry at their start
pub entry_one : (d e a b : List ℕ) → length d < 2 ^ 16 → length e < 2 ^ 16 → entry_text d ++ a ≡ entry_text e ++ b →
    (d ≡ e) × (a ≡ b)
entry_one d e a b hd he h =
    let front : to_be_bytes w16 (length d) ≡ to_be_bytes w16 (length e) = ap (λ (x : List ℕ). take 2 x) h in
    let after : d ++ a ≡ e ++ b = ap (λ (x : List ℕ). drop 2 x) h in
    let len : length d ≡ length e =
    sym (from_be_bytes-to_be_bytes_2 (length d) hd) ∙
    (ap (λ (x : List ℕ). from_be_bytes w16 x) front ∙ from_be_bytes-to_be_bytes_2 (length e) he) in
    let first : d ≡ e =
    sym (take_at d a (length d) refl) ∙
    (ap (λ (x : List ℕ). take (length d) x) after ∙ take_at e b (length d) (sym len)) in
    let rest : a ≡ b =
    sym (drop_at d a (length d) refl) ∙
    (ap (λ (x : List ℕ). drop (length d) x) after ∙ drop_at e b (length d) (sym len)) in
    (first, rest)

rest_of : (k : ℕ) (e after rest front : List ℕ) (entries : List (List ℕ)) → length e < 2 ^ 16 →
    entry_text e ++ after ≡ front ++ rest → IsBundle (suc k) front entries → HasBundle k after rest
rest_of k e after rest front [] fits p b = let bad : 0 ≡ suc k = b.count in absurd (omega arith)
rest_of k e after rest front (x ∷ xs) fits p b =
    let q : entry_text e ++ after ≡ entry_text x ++ (flat_map entry_text xs ++ rest) =
    p ∙ (ap (λ (f : List ℕ). f ++ rest) b.text ∙ append_assoc (entry_text x) (flat_map entry_text xs) rest) in
    let one =
    entry_one e x after (flat_map entry_text xs ++ rest) fits (All-head (λ y. length y < 2 ^ 16) x xs b.fits) q in
    let count : suc (length xs) ≡ suc k = b.count in
    record {
      front =
          flat_map entry_text xs;
      entries =
          xs;
      parts =
          one.1;
      is_bundle =
          record { count = omega arith; fits = All-tail (λ y. length y < 2 ^ 16) x xs b.fits; text = refl };
    }

-- the other entries follow the first one
pub HasBundle-rest : (k : ℕ) (e after rest : List ℕ) → length e < 2 ^ 16 →
    HasBundle (suc k) (entry_text e ++ after) rest → HasBundle k after rest
HasBundle-rest k e after rest fits h = rest_of k e after rest h.front h.entries fits h.parts h.is_bundle

first_of_bundle : (k : ℕ) (bytes rest front : List ℕ) (entries : List (List ℕ)) → bytes ≡ front ++ rest →
    IsBundle (suc k) front entries →
    (e : List ℕ) × (after : List ℕ) × (length e < 2 ^ 16) × (bytes ≡ entry_text e ++ after)
first_of_bundle k bytes rest front [] p b = let bad : 0 ≡ suc k = b.count in absurd (omega arith)
first_of_bundle k bytes rest front (x ∷ xs) p b = (
  x,
  flat_map entry_text xs ++ rest,
  All-head (λ y. length y < 2 ^ 16) x xs b.fits,
  p ∙ (ap (λ (f : List ℕ). f ++ rest) b.text ∙ append_assoc (entry_text x) (flat_map entry_text xs) rest),
)

-- a bundle that is not empty begins with an entry
pub HasBundle-first : (k : ℕ) (bytes rest : List ℕ) → HasBundle (suc k) bytes rest →
    (e : List ℕ) × (after : List ℕ) × (length e < 2 ^ 16) × (bytes ≡ entry_text e ++ after)
HasBundle-first k bytes rest h = first_of_bundle k bytes rest h.front h.entries h.parts h.is_bundle

-- one more entry
pub joined_push : (bytes rest after e : List ℕ) (es : List (List ℕ)) → bytes ≡ flat_map entry_text es ++ rest →
    rest ≡ entry_text e ++ after → bytes ≡ flat_map entry_text (es ++ e ∷ []) ++ after
joined_push bytes rest after e es p q =
    let split : flat_map entry_text (es ++ e ∷ []) ≡ flat_map entry_text es ++ (entry_text e ++ []) =
    flat_map-append entry_text es (e ∷ []) in
    p ∙ (ap (λ (x : List ℕ). flat_map entry_text es ++ x) q ∙
    (sym (append_assoc (flat_map entry_text es) (entry_text e) after) ∙
    ap (λ (x : List ℕ). x ++ after)
    (sym (split ∙ ap (λ (x : List ℕ). flat_map entry_text es ++ x) (append-nil (entry_text e))))))

-- bytes follow the bundle
pub left_over : (width : ℕ) (bytes rest : List ℕ) (es : List (List ℕ)) → nat_eq (length rest) 0 ≡ false →
    length es ≡ width → All (λ e. length e < 2 ^ 16) es → bytes ≡ flat_map entry_text es ++ rest →
    (next : ℕ) × (others : List ℕ) × HasBundle width bytes (next ∷ others)
left_over width bytes [] es some count fits text = absurd cc
left_over width bytes (x ∷ xs) es some count fits text = (
  x,
  xs,
  record {
    front =
        flat_map entry_text es;
    entries =
        es;
    parts = text;
    is_bundle = record { count = count; fits = fits; text = refl };
  },
)

-- the bytes determine the given number of entries at their start
pub bundle_one : (es fs : List (List ℕ)) (a b : List ℕ) → length es ≡ length fs → All (λ e. length e < 2 ^ 16) es →
    All (λ e. length e < 2 ^ 16) fs → flat_map entry_text es ++ a ≡ flat_map entry_text fs ++ b → (es ≡ fs) × (a ≡ b)
bundle_one [] [] a b n p q h = (refl, h)
bundle_one [] (f ∷ fs) a b n p q h = absurd cc
bundle_one (e ∷ es) [] a b n p q h = absurd cc
bundle_one (e ∷ es) (f ∷ fs) a b n p q h =
    let P = λ (x : List ℕ). length x < 2 ^ 16 in
    let h' : entry_text e ++ (flat_map entry_text es ++ a) ≡ entry_text f ++ (flat_map entry_text fs ++ b) =
    sym (append_assoc (entry_text e) (flat_map entry_text es) a) ∙
    (h ∙ append_assoc (entry_text f) (flat_map entry_text fs) b) in
    let one =
    entry_one e f (flat_map entry_text es ++ a) (flat_map entry_text fs ++ b) (All-head P e es p)
    (All-head P f fs q) h' in
    let len : suc (length es) ≡ suc (length fs) = n in
    let others = bundle_one es fs a b (omega arith) (All-tail P e es p) (All-tail P f fs q) one.1 in
    (ap (λ (x : List ℕ). x ∷ es) one.0 ∙ ap (λ (xs : List (List ℕ)). f ∷ xs) others.0, others.1)

-- a bundle is at the front of its own bytes
pub whole_bundle : (width : ℕ) (bytes : List ℕ) (es : List (List ℕ)) → IsBundle width bytes es → HasBundle width bytes []
whole_bundle width bytes es h = record { front = bytes; entries = es; parts = sym (append-nil bytes); is_bundle = h }

-- more bytes do not follow a whole bundle
pub ok_long : (width : ℕ) (bytes : List ℕ) (es : List (List ℕ)) (next : ℕ) (rest : List ℕ) → IsBundle width bytes es →
    HasBundle width bytes (next ∷ rest) → ⊥
ok_long width bytes es next rest p q =
    let same : flat_map entry_text es ++ [] ≡ flat_map entry_text q.entries ++ (next ∷ rest) =
    append-nil (flat_map entry_text es) ∙
    (sym p.text ∙ (q.parts ∙ ap (λ (x : List ℕ). x ++ next ∷ rest) q.is_bundle.text)) in
    let none_left =
    (bundle_one es q.entries [] (next ∷ rest) (p.count ∙ sym q.is_bundle.count) p.fits q.is_bundle.fits same).1 in
    absurd cc

-- there is only one answer other than OutOfMemory
pub answer_one : (width : ℕ) (bytes : List ℕ) (a b : Result (List (List ℕ)) BundleFault) → a ≢ Err OutOfMemory →
    b ≢ Err OutOfMemory → ReadsBundle width bytes a → ReadsBundle width bytes b → a ≡ b
answer_one width bytes (Ok es) (Ok fs) m n p q =
    let same : flat_map entry_text es ++ [] ≡ flat_map entry_text fs ++ [] =
    ap (λ (x : List ℕ). x ++ []) (sym p.text ∙ q.text) in
    ap (λ (x : List (List ℕ)). Ok x) (bundle_one es fs [] [] (p.count ∙ sym q.count) p.fits q.fits same).0
answer_one width bytes (Ok es) (Err BundleShort) m n p q = absurd (q [] (whole_bundle width bytes es p))
answer_one width bytes (Ok es) (Err BundleLong) m n p q = absurd (ok_long width bytes es q.0 q.1 p q.2)
answer_one width bytes (Err BundleShort) (Ok es) m n p q = absurd (p [] (whole_bundle width bytes es q))
answer_one width bytes (Err BundleShort) (Err BundleShort) m n p q = refl
answer_one width bytes (Err BundleShort) (Err BundleLong) m n p q = absurd (p (q.0 ∷ q.1) q.2)
answer_one width bytes (Err BundleLong) (Ok es) m n p q = absurd (ok_long width bytes es p.0 p.1 q p.2)
answer_one width bytes (Err BundleLong) (Err BundleShort) m n p q = absurd (q (p.0 ∷ p.1) p.2)
answer_one width bytes (Err BundleLong) (Err BundleLong) m n p q = refl
answer_one width bytes (Err OutOfMemory) b m n p q = absurd (m refl)
answer_one width bytes a (Err OutOfMemory) m n p q = absurd (n refl)

entries_length : (es : List (List ℕ)) → All (λ e. length e < 2 ^ 16) es →
    length (flat_map entry_text es) ≤ length es * 65537
entries_length [] h = omega arith
entries_length (e ∷ es) h =
    let first = All-head (λ x. length x < 2 ^ 16) e es h in
    let others = entries_length es (All-tail (λ x. length x < 2 ^ 16) e es h) in
    let whole : length (flat_map entry_text (e ∷ es)) ≡ length (entry_text e) + length (flat_map entry_text es) =
    length-append (entry_text e) (flat_map entry_text es) in
    let front : length (entry_text e) ≡ 2 + length e = length-append (to_be_bytes w16 (length e)) e in
    omega (arith, first, others, whole, front)

pub bundles_are_short : BundlesAreShort
bundles_are_short width bytes entries le b = omega (arith, entries_length entries b.fits, ap length b.text, b.count, le)
