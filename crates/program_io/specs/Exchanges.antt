-- Clients that are answered one after another, if their bytes are recorded.
use Rattle.std.specs.Prelude.{◌≡◌, ◌<◌, ℕ, List, [], ◌∷◌, ◌++◌, length, All, Option, Some, IfSome, Result, Ok, Err}

-- all bytes that a client gave, and the bytes that were written to it
pub record Exchange : Type 0 where
  pub given : List ℕ
  pub written : List ℕ

-- which answers an exchange may have
module _ {A : Type 0} (IsAnswer : A → Exchange → Type 0) where
  -- the client was answered
  abbrev pub IsAnswered : Exchange → Type 0
  IsAnswered e = (answer : A) × IsAnswer answer e

  -- one more client was answered; or no connection was accepted, and no client was answered
  abbrev pub AnswersNext : {E : Type 0} → Option (List Exchange) → Option (List Exchange) → Result A E → Type 0
  AnswersNext old new (Ok answer) =
      IfSome old (λ before. (e : Exchange) × IsAnswer answer e × (new ≡ Some (before ++ e ∷ [])))
  AnswersNext old new (Err error) = new ≡ old

  -- `count` more clients were answered
  abbrev pub AnswersMore : ℕ → Option (List Exchange) → Option (List Exchange) → Type 0
  AnswersMore count old new =
      IfSome old
      (λ before. (more : List Exchange) × (length more ≡ count) × All IsAnswered more
      × (new ≡ Some (before ++ more)))

  -- `count` clients were answered; or fewer, because a connection was not accepted
  abbrev pub AnswersClients : {E : Type 0} → ℕ → Option (List Exchange) → Option (List Exchange) →
      Result (Unit {0}) E → Type 0
  AnswersClients count old new (Ok x) = AnswersMore count old new
  AnswersClients count old new (Err error) =
      (fewer : ℕ) × (fewer < count) × AnswersMore fewer old new
