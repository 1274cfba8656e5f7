-- The answer of a call, compared with the right answer.
use Rattle.std.specs.Prelude.{◌≡◌, ◌≢◌, Result, Ok, Err}

-- the result, with its value replaced by the view of that value, is the right one, unless it is
-- OutOfMemory
abbrev pub AnswersAs : {X Y E : Type 0} → E → (X → Y) → Result X E → Result Y E → Type 0
AnswersAs memory view (Ok x) right = right ≡ Ok (view x)
AnswersAs memory view (Err e) right = e ≢ memory → right ≡ Err e
