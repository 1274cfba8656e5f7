-- Digits in groups of three, appended in order.
use Rattle.std.proofs.Common.{◌≡◌, ℕ, List, ◌∷◌, ◌++◌, length, append_assoc, ◌∙◌, ap}
use Rattle.program_io.specs.ProgressText.{comma_before, with_commas}

-- one more digit is appended, and the rest is left
pub commas_more : (now new rest : List ℕ) (digit : ℕ) → new ≡ now ++ digit ∷ comma_before (length rest) →
    new ++ with_commas rest ≡ now ++ with_commas (digit ∷ rest)
commas_more now new rest digit is =
    ap (λ (w : List ℕ). w ++ with_commas rest) is
    ∙ append_assoc now (digit ∷ comma_before (length rest)) (with_commas rest)
