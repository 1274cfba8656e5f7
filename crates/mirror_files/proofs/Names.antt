-- A name, as it is assembled.
use Rattle.std.proofs.Common.{◌≡◌, ℕ, List}
use Rattle.std.proofs.Common.{ap, ◌∙◌}
use Rattle.std.proofs.Common.{◌++◌, append_assoc, codes}

pub name_joined : (digits front : List ℕ) →
    ((codes "checkpoint " ++ (digits ++ codes " ")) ++ front) ++ codes ".."
    ≡ codes "checkpoint " ++ (digits ++ (codes " " ++ (front ++ codes "..")))
name_joined digits front =
    ap (λ (x : List ℕ). codes "checkpoint " ++ x)
    (append_assoc (digits ++ codes " ") front (codes "..")
    ∙ append_assoc digits (codes " ") (front ++ codes ".."))
