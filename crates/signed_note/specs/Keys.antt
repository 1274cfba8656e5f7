-- The model of a verifier of notes, for contracts (C2SP signed-note, "Signatures").
use Rattle.std.specs.Prelude.{ℕ, List, Bool}

-- a verifier: its name, its key id, and the test whether it accepts a signature over a text
pub record Key : Type 0 where
  pub name : List ℕ
  pub id : ℕ
  pub accepts : List ℕ → List ℕ → Bool
