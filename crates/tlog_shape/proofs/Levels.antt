-- The sizes of tiles: powers of 256.
use Rattle.std.proofs.Common.{◌≡◌, ℕ, zero, suc, ◌+◌, ◌*◌, ◌/◌, ◌^◌, ◌<◌, ◌≤◌, refl, sym, ap, ◌∙◌, arith}
use Rattle.std.proofs.Math.Nat.{pow-succ'}
use Rattle.std.proofs.Math.Pow.{pow_mono}
use Rattle.std.proofs.lemmas.Nat.{pow_pos, pow-add, shr-shr}

-- 256^level as a power of two
pub level_power : (level : ℕ) → 256 ^ level ≡ 2 ^ (8 * level)
level_power zero = refl
level_power (suc level) =
    let e : 8 * suc level ≡ 8 + 8 * level = omega arith in
    pow-succ' 256 level ∙ ap (λ m. 256 * m) (level_power level) ∙ sym (ap (λ m. 2 ^ m) e ∙ pow-add 2 8 (8 * level))

pub level_positive : (level : ℕ) → 0 < 256 ^ level
level_positive level = rw (level_power level) (pow_pos (8 * level))

-- a block of the next level has 256 times as many entries
pub level_next : (level : ℕ) → 256 ^ (level + 1) ≡ 256 * 256 ^ level
level_next level =
    let e : level + 1 ≡ suc level = omega arith in
    ap (λ m. 256 ^ m) e ∙ pow-succ' 256 level

-- shifting a number by one more byte divides it by a block of the next level
pub shift_level : (n level : ℕ) → n / 256 ^ level / 256 ≡ n / 256 ^ (level + 1)
shift_level n level =
    let e : 8 * level + 8 ≡ 8 * (level + 1) = omega arith in
    ap (λ m. n / m / 256) (level_power level) ∙ shr-shr n (8 * level) 8 ∙ ap (λ m. n / 2 ^ m) e ∙
    ap (λ m. n / m) (sym (level_power (level + 1)))

pub level_mono : (low high : ℕ) → low ≤ high → 256 ^ low ≤ 256 ^ high
level_mono low high le =
    let m : 2 ^ (8 * low) ≤ 2 ^ (8 * high) = pow_mono (omega arith) in
    omega (arith, m, level_power low, level_power high)
