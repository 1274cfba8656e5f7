-- Pieces that are added to a text, one after another.
use Rattle.std.proofs.Common.{◌≡◌, ◌∙◌, List, ◌++◌, Result, Ok, Err, OnOk, is_ok, if◌then◌else◌, append_assoc}

-- five pieces, the last of them added if the call answers Ok
pub five_added : {T E : Type 0} (r : Result T E) {A : Type 0} (old f s g t l one two three four new : List A) →
    one ≡ old ++ f → two ≡ one ++ s → three ≡ two ++ g → four ≡ three ++ t →
    new ≡ (if is_ok r then four ++ l else four) → OnOk r (new ≡ old ++ (f ++ (s ++ (g ++ (t ++ l)))))
five_added (Ok u) old f s g t l one two three four new a b d e n = n ∙ rw (e, d, b, a) (simp append_assoc)
five_added (Err x) old f s g t l one two three four new a b d e n = tt
