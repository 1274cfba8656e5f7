-- Several pieces appended to a text, in order.
use Rattle.std.proofs.Common.{◌≡◌, ℕ, List, ◌++◌, append_assoc, ◌∙◌, ap, Result, Ok, Err}
use Rattle.std.specs.Prelude.{OnOk}

-- four pieces; the last is appended if the call returns Ok
pub appended_four : {X E : Type 0} (r : Result X E) (was first second third now a b c d : List ℕ) →
    first ≡ was ++ a → second ≡ first ++ b → third ≡ second ++ c → OnOk r (now ≡ third ++ d) →
    OnOk r (now ≡ was ++ (a ++ (b ++ (c ++ d))))
appended_four (Ok x) was first second third now a b c d p q r s =
    s ∙ (ap (λ (w : List ℕ). w ++ d) r ∙ (append_assoc second c d
    ∙ (ap (λ (w : List ℕ). w ++ (c ++ d)) q ∙ (append_assoc first b (c ++ d)
    ∙ (ap (λ (w : List ℕ). w ++ (b ++ (c ++ d))) p ∙ append_assoc was a (b ++ (c ++ d)))))))
appended_four (Err e) was first second third now a b c d p q r s = tt
