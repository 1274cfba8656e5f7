-- The exit statuses of texts.
use Rattle.std.proofs.Common.{ℕ, List, [], ◌∷◌, inl, inr, refl}
use Rattle.program_reports.specs.Reports.{PrintsNothing}

-- each text has an exit status
pub status_of : (text : List ℕ) → (ended : ℕ) × PrintsNothing text ended
status_of [] = (0, inl (refl, refl))
status_of (x ∷ xs) = (3, inr (λ e. cc e, refl))
