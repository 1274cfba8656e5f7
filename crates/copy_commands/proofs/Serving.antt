-- Clients that were answered in order from a copy that stays as it is.
use Rattle.std.proofs.Common.{◌≡◌, ℕ, ◌+◌, List, Option, Some, None, Result, Ok, inl, inr, ◌∙◌}
use Rattle.std.specs.Prelude.{IfSome}
use Rattle.signed_note.specs.declared.key_line.KeyLine.{KeyLine}
use Rattle.mirror_folders.specs.Shelf.{Put}
use Rattle.mirror_sources.specs.Recorded.{KeepsRecord}
use Rattle.program_copies.specs.CopyHeads.{IsLastOpened}
use Rattle.program_copies.specs.declared.reply_fault.CopyAnswerFault.{CopyAnswerFault}
use Rattle.program_io.specs.Exchanges.{AnswersMore, AnswersNext, Exchange}
use Rattle.program_io.proofs.Exchanges.{one_answered}
use Rattle.copy_commands.specs.Clients.{IsCopyAnswer}

-- one more client was answered
pub one_served : {E : Type 0} (digest : List ℕ → List ℕ) (AreKeys : List KeyLine → Type 0) (origin : List ℕ)
    (old now : Option (List Put)) → KeepsRecord old now → (count : ℕ) (first before after : Option (List Exchange))
    (answer : Result (Unit {0}) CopyAnswerFault) (is : Result (Result (Unit {0}) CopyAnswerFault) E) → is ≡ Ok answer →
    IfSome old (λ puts. AnswersMore (IsCopyAnswer digest AreKeys origin (Some puts)) count first before) →
    AnswersNext (IsCopyAnswer digest AreKeys origin now) before after is →
    IfSome old (λ puts. AnswersMore (IsCopyAnswer digest AreKeys origin (Some puts)) (count + 1) first after)
one_served digest AreKeys origin None now kept count first before after answer is same h next = tt
one_served digest AreKeys origin (Some puts) None kept count first before after answer is same h next = absurd kept
one_served digest AreKeys origin (Some puts) (Some there) kept count first before after answer is same h next =
    one_answered (IsCopyAnswer digest AreKeys origin (Some puts)) count first before after answer is same h (rw kept at next)

-- the note that opened last still is one that opened
pub last_chain : (AreKeys : List KeyLine → Type 0) (origin : List ℕ) (last new : Option (List ℕ)) →
    IsLastOpened AreKeys origin None last → IsLastOpened AreKeys origin last new → IsLastOpened AreKeys origin None new
last_chain AreKeys origin last new (inl none) (inl same) = inl (same ∙ none)
last_chain AreKeys origin last new (inr opened) (inl same) = inr (opened.0, same ∙ opened.1, opened.2)
last_chain AreKeys origin last new first (inr opened) = inr opened
