-- The test digest.
use Rattle.std.proofs.Common.{◌≡◌, ℕ, ◌+◌, ◌%◌, List, ◌∷◌, ◌++◌, replicate, sum, sym, ap, ◌∙◌, arith}
use Rattle.std.proofs.Math.Nat.{mod-add-mod}
use Rattle.std.proofs.lemmas.List.Sums.{sum_by-cons, sum_by-append}
use Rattle.tlog_hash.specs.Sum.{sum_digest}

-- a digest that begins with the sum of the string is its test digest
pub sum_digest-is : (string : List ℕ) (first : ℕ) → first ≡ sum string % 256 →
    first ∷ replicate 31 0 ≡ sum_digest string
unfolding sum_digest
sum_digest-is string first is = ap (λ byte. byte ∷ replicate 31 0) is

pub sum-leaf : (entry : List ℕ) → (0 + sum entry) % 256 ≡ sum (0 ∷ entry) % 256
sum-leaf entry = ap (λ n. n % 256) (sym (sum_by-cons (λ x. x) 0 entry))

pub sum-node : (left right : List ℕ) → ((1 + sum left) % 256 + sum right) % 256 ≡ sum (1 ∷ left ++ right) % 256
sum-node left right =
    let whole : sum (1 ∷ left ++ right) ≡ 1 + sum left + sum right =
    omega (arith, sum_by-cons (λ x. x) 1 (left ++ right), sum_by-append (λ x. x) left right) in
    mod-add-mod (1 + sum left) 256 (sum right) ∙ ap (λ n. n % 256) (sym whole)
