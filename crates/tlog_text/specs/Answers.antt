-- Notions for the results of calls.
use Rattle.std.specs.Prelude.{◌≡◌, ◌≢◌, Result, Ok, Err}

-- the result with its value replaced by the view of that value; a fault stays as it is
abbrev pub seen : {X Y E : Type 0} → (X → Y) → Result X E → Result Y E
seen view (Ok x) = Ok (view x)
seen view (Err e) = Err e

-- each input has at most one answer in this relation
abbrev pub AlwaysHasOneAnswer : {X Y : Type 0} → (X → Y → Type 0) → Type 0
AlwaysHasOneAnswer {X} {Y} reads = (input : X) (a b : Y) → reads input a → reads input b → a ≡ b

-- each input has at most one answer in this relation, if memory is never refused
abbrev pub HasOneAnswer : {X Y E : Type 0} → E → (X → Result Y E → Type 0) → Type 0
HasOneAnswer {X} {Y} {E} memory reads =
    (input : X) (a b : Result Y E) →
    a ≢ Err memory → b ≢ Err memory → reads input a → reads input b → a ≡ b
