-- The loop that masks a block byte by byte.
use Rattle.std.proofs.Common.{◌≡◌, ℕ, zero, suc, ◌+◌, ◌-◌, ◌<◌, ◌≤◌, List, [], ◌∷◌, ◌++◌, length, take, map, replicate}
use Rattle.std.proofs.Common.{get_or, refl, sym, ◌∙◌, ap, append_assoc, arith}
use Rattle.std.specs.Prelude.{bit_xor, set}
use Rattle.std.proofs.lemmas.List.{set_at, take_more, take_all, map-append, length-map, length-take-le}
use Rattle.signed_note.specs.Hmac.{masked}

abbrev turned : ℕ → List ℕ → List ℕ
turned mask xs = map (λ b. bit_xor b mask) xs

pub one_more : (mask i b : ℕ) (key out : List ℕ) → out ≡ turned mask (take i key) ++ replicate (64 - i) mask →
    i < length key → length key ≤ 64 → b ≡ get_or key i 0
    → set out i (bit_xor b mask) ≡ turned mask (take (i + 1) key) ++ replicate (64 - (i + 1)) mask
one_more mask i b key out so_far lt le e =
    let left : 64 - i ≡ suc (64 - (i + 1)) = omega arith in
    let len : length (turned mask (take i key)) ≡ i =
    length-map (take i key) (λ b. bit_xor b mask) ∙ length-take-le i key (omega arith) in
    let step : turned mask (take (i + 1) key) ≡ turned mask (take i key) ++ bit_xor b mask ∷ [] =
    rw (take_more key i 0 lt, ← e) (map-append (λ b. bit_xor b mask) (take i key) (b ∷ [])) in
    ap (λ (x : List ℕ). set x i (bit_xor b mask)) so_far ∙
    rw left (set_at (turned mask (take i key)) mask (replicate (64 - (i + 1)) mask) (bit_xor b mask) i len ∙
    (sym (append_assoc (turned mask (take i key)) (bit_xor b mask ∷ []) (replicate (64 - (i + 1)) mask)) ∙
    ap (λ (x : List ℕ). x ++ replicate (64 - (i + 1)) mask) (sym step)))

turned_zeros : (mask n : ℕ) → turned mask (replicate n 0) ≡ replicate n mask
turned_zeros mask zero = refl
turned_zeros mask (suc n) = ap (λ (x : List ℕ). mask ∷ x) (turned_zeros mask n)

pub all_masked : (mask i : ℕ) (key out : List ℕ) → length key ≤ i → i ≤ length key →
    out ≡ turned mask (take i key) ++ replicate (64 - i) mask → out ≡ masked mask key
all_masked mask i key out ge le e =
    let same : i ≡ length key = omega arith in
    e ∙ (rw (same, take_all (length key) key (omega arith))
    (ap (λ (x : List ℕ). turned mask key ++ x) (sym (turned_zeros mask (64 - length key))) ∙
    sym (map-append (λ b. bit_xor b mask) key (replicate (64 - length key) 0))))
