-- Lists that do not contain a byte, and the only cut of a list at the first such byte.
use Rattle.std.proofs.Common.{◌≡◌, ◌≢◌, ℕ, zero, suc, ◌<◌, true, not, nat_eq, List, [], ◌∷◌, ◌++◌}
use Rattle.std.proofs.Common.{length, get_or, replicate, refl, arith}
use Rattle.std.specs.List.{list_all}
use Rattle.std.proofs.lemmas.Bool.{and_parts}
use Rattle.std.proofs.lemmas.Bool.Decides.{Decides-eqb}

-- no item is c
abbrev pub Lacks : ℕ → List ℕ → Type 0
Lacks c [] = Unit {0}
Lacks c (x ∷ xs) = (x ≢ c) × Lacks c xs

pub Lacks-append : (c : ℕ) (xs ys : List ℕ) → Lacks c xs → Lacks c ys → Lacks c (xs ++ ys)
Lacks-append c [] ys p q = q
Lacks-append c (x ∷ xs) ys p q = (p.0, Lacks-append c xs ys p.1 q)

pub Lacks-reads : (c : ℕ) (xs : List ℕ) → Lacks c xs → (i : ℕ) → i < length xs → get_or xs i 0 ≢ c
Lacks-reads c [] p i lt = absurd (omega arith)
Lacks-reads c (x ∷ xs) p zero lt = p.0
Lacks-reads c (x ∷ xs) p (suc i) lt = Lacks-reads c xs p.1 i (omega arith)

pub Lacks-from_reads : (c : ℕ) (xs : List ℕ) → ((i : ℕ) → i < length xs → get_or xs i 0 ≢ c) → Lacks c xs
Lacks-from_reads c [] h = tt
Lacks-from_reads c (x ∷ xs) h = (h zero (omega arith), Lacks-from_reads c xs (λ i lt. h (suc i) (omega arith)))

-- this also holds after the end, where get_or gives 0
pub reads_other : (c : ℕ) (xs : List ℕ) → Lacks c xs → 0 ≢ c → (i : ℕ) → get_or xs i 0 ≢ c
reads_other c [] p z i = z
reads_other c (x ∷ xs) p z zero = p.0
reads_other c (x ∷ xs) p z (suc i) = reads_other c xs p.1 z i

pub Lacks-from_test : (c : ℕ) (xs : List ℕ) → list_all (λ b. not (nat_eq b c)) xs ≡ true → Lacks c xs
Lacks-from_test c [] h = tt
Lacks-from_test c (x ∷ xs) h =
    let parts = and_parts (not (nat_eq x c)) (list_all (λ b. not (nat_eq b c)) xs) h in
    (λ e. let same = (Decides-eqb x c).1 e in absurd (cc (same, parts.0)), Lacks-from_test c xs parts.1)

pub Lacks-replicate : (c b n : ℕ) → b ≢ c → Lacks c (replicate n b)
Lacks-replicate c b zero h = tt
Lacks-replicate c b (suc n) h = (h, Lacks-replicate c b n h)

-- two cuts at the first c are the same cut
pub cut_once : (c : ℕ) (a b d e : List ℕ) → a ++ (c ∷ b) ≡ d ++ (c ∷ e) → Lacks c a → Lacks c d → (a ≡ d) × (b ≡ e)
cut_once c [] b [] e h p q = (refl, cc)
cut_once c [] b (y ∷ d) e h p q = let same : y ≡ c = cc in absurd (q.0 same)
cut_once c (x ∷ a) b [] e h p q = let same : x ≡ c = cc in absurd (p.0 same)
cut_once c (x ∷ a) b (y ∷ d) e h p q =
    let heads : x ≡ y = cc in
    let tails : a ++ (c ∷ b) ≡ d ++ (c ∷ e) = cc in
    let rest = cut_once c a b d e tails p.1 q.1 in
    (cc, rest.1)

-- a list that does not contain c has no cut at c
pub no_cut : (c : ℕ) (a b d : List ℕ) → a ≡ b ++ (c ∷ d) → Lacks c a → ⊥
no_cut c [] [] d h p = cc
no_cut c [] (y ∷ b) d h p = cc
no_cut c (x ∷ a) [] d h p = let same : x ≡ c = cc in p.0 same
no_cut c (x ∷ a) (y ∷ b) d h p = let tails : a ≡ b ++ (c ∷ d) = cc in no_cut c a b d tails p.1
