-- The digest for tests. Collisions of it are easy to find.
use Rattle.std.specs.Prelude.{◌≡◌, ℕ, ◌%◌, List, ◌∷◌, length, replicate, sum, refl}

-- the test digest of a string, 32 bytes: the sum of the string's bytes modulo 256, then 31 zeros
unfoldable pub sum_digest : List ℕ → List ℕ
sum_digest string = (sum string % 256) ∷ replicate 31 0

-- the test digest has 32 bytes
pub length-sum_digest : (string : List ℕ) → length (sum_digest string) ≡ 32
unfolding sum_digest
length-sum_digest string = refl
