-- The answers to clients, from a mirror or a copy. Only contracts of private functions cite these names.
use Rattle.std.specs.Prelude.{ℕ, List, [], Option, Some, None, Result}
use Rattle.signed_note.specs.declared.key_line.KeyLine.{KeyLine}
use Rattle.mirror_model.specs.View.{View}
use Rattle.mirror_folders.specs.Shelf.{Put}
use Rattle.mirror_http.specs.Answered.{AnswersClient}
use Rattle.mirror_http.specs.declared.fault.HttpFault.{HttpFault}
use Rattle.program_copies.specs.CopyAnswers.{AnswersFromCopy}
use Rattle.program_copies.specs.CopyHeads.{IsLastOpened}
use Rattle.program_copies.specs.declared.reply_fault.CopyAnswerFault.{CopyAnswerFault}
use Rattle.program_io.specs.Exchanges.{Exchange}

-- the bytes written to the client are the view's answer or, after a fault, a prefix of it
abbrev pub IsMirrorAnswer : (List ℕ → List ℕ) → View → Result (Unit {0}) HttpFault → Exchange → Type 0
IsMirrorAnswer digest v answer e = AnswersClient digest v e.given (Some []) (Some e.written) answer

module _ (digest : List ℕ → List ℕ) (AreKeys : List KeyLine → Type 0) (origin : List ℕ) (held : Option (List Put)) where
  -- the bytes written to the client are the answer from the copy or, after a fault, what that writes. The last note opened, if there is one
  pub record IsCopyAnswer (answer : Result (Unit {0}) CopyAnswerFault) (e : Exchange) : Type 0 where
    pub last : Option (List ℕ)
    pub opened : IsLastOpened AreKeys origin None last
    pub answers : AnswersFromCopy digest AreKeys last origin held e.given (Some []) (Some e.written) answer
