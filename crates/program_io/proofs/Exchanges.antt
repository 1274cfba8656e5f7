-- Clients that were answered in order.
use Rattle.std.proofs.Common.{◌≡◌, ◌∙◌, ℕ, ◌+◌, List, [], ◌∷◌, ◌++◌, append_assoc, Option, Some, None}
use Rattle.std.proofs.Common.{Result, Ok, ap}
use Rattle.std.proofs.lemmas.List.{length-append}
use Rattle.std.proofs.lemmas.List.Elements.{All-append, All-cons, All-nil}
use Rattle.program_io.specs.Exchanges.{AnswersMore, AnswersNext, Exchange, IsAnswered}

-- one more client was answered
pub one_answered : {A E : Type 0} (IsAnswer : A → Exchange → Type 0) (count : ℕ) (old mid new : Option (List Exchange))
    (answer : A) (is : Result A E) → is ≡ Ok answer → AnswersMore IsAnswer count old mid →
    AnswersNext IsAnswer mid new is → AnswersMore IsAnswer (count + 1) old new
one_answered IsAnswer count None mid new answer is same h next = tt
one_answered IsAnswer count (Some before) mid new answer is same h next =
    let e = rw (same, h.3) at next in (
      h.0 ++ e.0 ∷ [],
      length-append h.0 (e.0 ∷ []) ∙ ap (λ n. n + 1) h.1,
      All-append (IsAnswered IsAnswer) h.0 (e.0 ∷ []) h.2
          (All-cons (IsAnswered IsAnswer) e.0 [] (answer, e.1) (All-nil (IsAnswered IsAnswer))),
      e.2 ∙ ap Some (append_assoc before h.0 (e.0 ∷ [])),
    )
