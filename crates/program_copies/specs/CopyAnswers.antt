-- The effects of a call that answers a client from a copy.
use Rattle.std.specs.Prelude.{◌≡◌, ◌⊎◌, ℕ, List, [], Option, Some, None, Result, Ok, Err, ⊤}
use Rattle.std.specs.Io.KnownBytes.{Appends, Keeps}
use Rattle.byte_streams.specs.Streams.{AppendsPrefix}
use Rattle.signed_note.specs.declared.key_line.KeyLine.{KeyLine}
use Rattle.mirror_folders.specs.Shelf.{Put}
use Rattle.mirror_http.specs.Answered.{IsRequestOf, reply_with}
use Rattle.mirror_http.specs.Response.{server_error}
use Rattle.mirror_http.specs.declared.fault.HttpFault.TheVariants.{ReadFault, WriteFault, OutOfMemory}
use Rattle.mirror_http.specs.declared.request.Request.{Request}
use Rattle.mirror_http.specs.declared.request.Request.TheVariants.{Nothing, Unreadable, OtherMethod, Unknown, Get}
use Rattle.mirror_http.specs.declared.resource.Resource.{Resource}
use Rattle.mirror_sources.specs.Recorded.{one_more}
use Rattle.copy_reader.specs.WholeCopies.{IsDamaged}
use Rattle.program_copies.specs.Bodies.{given_strings, IsBodyGiven}
use Rattle.program_copies.specs.CopyHeads.{CopyHead, IsCopyHead, RefusesNow}
use Rattle.program_copies.specs.Damages.{IsDamagedAt, IsDamagedBy}
use Rattle.program_copies.specs.GivenProofs.{HasLogAt}
use Rattle.program_copies.specs.declared.keys.KeysFault.{KeysFault}
use Rattle.program_copies.specs.declared.reply_fault.CopyAnswerFault.{CopyAnswerFault}
use Rattle.program_copies.specs.declared.reply_fault.CopyAnswerFault.TheVariants.{Http, CopyDamaged, ShelfFault, Head, KeyFile}

module _ (digest : List ℕ → List ℕ) (AreKeys : List KeyLine → Type 0) (last : Option (List ℕ)) (origin : List ℕ)
    (held : Option (List Put)) where
  -- the body for a resource, under the checkpoint on the shelf
  pub record IsGiven (resource : Resource) (body : Option (List ℕ)) : Type 0 where
    pub head : Option CopyHead
    pub is_head : IsCopyHead AreKeys origin last held head
    pub is_body : IsBodyGiven digest origin held head resource body

  -- the body for a request. One that names no resource needs none
  abbrev pub IsGivenFor : Request → Option (List ℕ) → Type 0
  IsGivenFor Nothing body = ⊤
  IsGivenFor Unreadable body = ⊤
  IsGivenFor OtherMethod body = ⊤
  IsGivenFor Unknown body = ⊤
  IsGivenFor (Get resource) body = IsGiven resource body

  -- the reply to these bytes of a client
  pub record IsCopyReply (bytes reply : List ℕ) : Type 0 where
    pub request : Request
    pub asks : IsRequestOf bytes request
    pub body : Option (List ℕ)
    pub given : IsGivenFor request body
    pub reply_is : reply ≡ reply_with request body

  -- the strings that are hashed on the way from the body to the root
  abbrev pub strings_for : (request : Request) (body : Option (List ℕ)) → IsGivenFor request body → List (List ℕ)
  strings_for Nothing body is = []
  strings_for Unreadable body is = []
  strings_for OtherMethod body is = []
  strings_for Unknown body is = []
  strings_for (Get resource) body is = given_strings digest origin held is.head resource body is.is_body

  -- the bytes that were written, by the answer: the whole reply, a prefix of it, or nothing. If a file of the copy is damaged or cannot be
  -- read, or its checkpoint does not open, the whole reply 500, or a prefix of it if the write failed. CopyDamaged never comes for a
  -- whole copy
  abbrev pub AnswersFromCopy : {X : Type 0} → List ℕ → Option (List ℕ) → Option (List ℕ) →
      Result X CopyAnswerFault → Type 0
  AnswersFromCopy bytes old new (Ok x) = (reply : List ℕ) × IsCopyReply bytes reply × Appends old new reply
  AnswersFromCopy bytes old new (Err (Http ReadFault)) = Keeps old new
  AnswersFromCopy bytes old new (Err (Http WriteFault)) =
      (reply : List ℕ) × (IsCopyReply bytes reply ⊎ (reply ≡ server_error)) × AppendsPrefix old new reply
  AnswersFromCopy bytes old new (Err (Http OutOfMemory)) = Keeps old new
  AnswersFromCopy bytes old new (Err (CopyDamaged path)) =
      Appends old new server_error × IsDamaged digest origin held
      × (request : Request) × IsRequestOf bytes request × IsDamagedBy digest origin held request path
  AnswersFromCopy bytes old new (Err ShelfFault) = Appends old new server_error
  AnswersFromCopy bytes old new (Err (Head fault)) =
      Appends old new server_error × RefusesNow AreKeys origin held fault
  AnswersFromCopy bytes old new (Err (KeyFile fault)) = Appends old new server_error

module _ (digest : List ℕ → List ℕ) (AreKeys : List KeyLine → Type 0) (Lacks : KeysFault → Type 0) (origin : List ℕ)
    (held : Option (List Put)) where
  -- the reason why there is no reply to a request. Only private contracts cite this
  abbrev pub BlamesAnswer : Request → CopyAnswerFault → Type 0
  BlamesAnswer request (Http ReadFault) = ⊥
  BlamesAnswer request (Http WriteFault) = ⊥
  BlamesAnswer request (Http OutOfMemory) = ⊤
  BlamesAnswer request (CopyDamaged path) = IsDamaged digest origin held × IsDamagedBy digest origin held request path
  BlamesAnswer request ShelfFault = ⊤
  BlamesAnswer request (Head fault) = RefusesNow AreKeys origin held fault
  BlamesAnswer request (KeyFile fault) = Lacks fault

-- KeyFile has its reason
abbrev pub BlamesKeys : (KeysFault → Type 0) → CopyAnswerFault → Type 0
BlamesKeys Lacks (Http fault) = ⊤
BlamesKeys Lacks (CopyDamaged path) = ⊤
BlamesKeys Lacks ShelfFault = ⊤
BlamesKeys Lacks (Head fault) = ⊤
BlamesKeys Lacks (KeyFile fault) = Lacks fault

-- the shelf failed, or memory was refused
abbrev pub IsReadFailure : CopyAnswerFault → Type 0
IsReadFailure (Http ReadFault) = ⊥
IsReadFailure (Http WriteFault) = ⊥
IsReadFailure (Http OutOfMemory) = ⊤
IsReadFailure (CopyDamaged path) = ⊥
IsReadFailure ShelfFault = ⊤
IsReadFailure (Head fault) = ⊥
IsReadFailure (KeyFile fault) = ⊥

-- the note that opened last, before and after it was to be kept. Only a private contract cites this
abbrev pub KeepsLast : Option (List ℕ) → Option CopyHead → Option (List ℕ) → Type 0
KeepsLast old None new = new ≡ old
KeepsLast old (Some head) new = (new ≡ old) ⊎ (new ≡ Some head.note)

-- the reason why there is no reply under that checkpoint. At CopyDamaged the shelf does not have the files of such a log. Only private
-- contracts cite this
abbrev pub BlamesBody : (List ℕ → List ℕ) → Option (List Put) → Option CopyHead → Resource → CopyAnswerFault → Type 0
BlamesBody digest held head resource (Http ReadFault) = ⊥
BlamesBody digest held head resource (Http WriteFault) = ⊥
BlamesBody digest held head resource (Http OutOfMemory) = ⊤
BlamesBody digest held head resource (CopyDamaged path) =
    ((entries : List (List ℕ)) → ¬ HasLogAt digest held head entries) × IsDamagedAt digest held head resource path
BlamesBody digest held head resource ShelfFault = ⊤
BlamesBody digest held head resource (Head fault) = ⊥
BlamesBody digest held head resource (KeyFile fault) = ⊥

-- the effect of writing a reply
abbrev pub WritesReply : {X : Type 0} → Option (List ℕ) → Option (List ℕ) → List ℕ →
    Result X CopyAnswerFault → Type 0
WritesReply old new reply (Ok x) = Appends old new reply
WritesReply old new reply (Err (Http ReadFault)) = ⊥
WritesReply old new reply (Err (Http WriteFault)) = AppendsPrefix old new reply
WritesReply old new reply (Err (Http OutOfMemory)) = ⊥
WritesReply old new reply (Err (CopyDamaged path)) = ⊥
WritesReply old new reply (Err ShelfFault) = ⊥
WritesReply old new reply (Err (Head fault)) = ⊥
WritesReply old new reply (Err (KeyFile fault)) = ⊥

-- the effect of writing the reply 500, after which that fault is returned
abbrev pub WritesError : {X : Type 0} → CopyAnswerFault → Option (List ℕ) → Option (List ℕ) →
    Result X CopyAnswerFault → Type 0
WritesError fault old new (Ok x) = ⊥
WritesError fault old new (Err (Http ReadFault)) = ⊥
WritesError fault old new (Err (Http WriteFault)) = AppendsPrefix old new server_error
WritesError fault old new (Err (Http OutOfMemory)) = Keeps old new
WritesError fault old new (Err (CopyDamaged path)) = (fault ≡ CopyDamaged path) × Appends old new server_error
WritesError fault old new (Err ShelfFault) = (fault ≡ ShelfFault) × Appends old new server_error
WritesError fault old new (Err (Head why)) = (fault ≡ Head why) × Appends old new server_error
WritesError fault old new (Err (KeyFile why)) = (fault ≡ KeyFile why) × Appends old new server_error

-- the fault is one at which nothing was written
abbrev pub IsQuiet : CopyAnswerFault → Type 0
IsQuiet (Http ReadFault) = ⊤
IsQuiet (Http WriteFault) = ⊥
IsQuiet (Http OutOfMemory) = ⊤
IsQuiet (CopyDamaged path) = ⊥
IsQuiet ShelfFault = ⊥
IsQuiet (Head fault) = ⊥
IsQuiet (KeyFile fault) = ⊥

-- the shelf's number of failures rises by one at a ShelfFault, and does not change at other answers. If a write failed, the reply
-- may have been that to a ShelfFault
abbrev pub CountsAnswer : {X : Type 0} → ℕ → ℕ → Result X CopyAnswerFault → Type 0
CountsAnswer old new (Ok x) = new ≡ old
CountsAnswer old new (Err (Http ReadFault)) = new ≡ old
CountsAnswer old new (Err (Http WriteFault)) = (new ≡ old) ⊎ (new ≡ one_more old)
CountsAnswer old new (Err (Http OutOfMemory)) = (new ≡ old) ⊎ (new ≡ one_more old)
CountsAnswer old new (Err (CopyDamaged path)) = new ≡ old
CountsAnswer old new (Err ShelfFault) = new ≡ one_more old
CountsAnswer old new (Err (Head fault)) = new ≡ old
CountsAnswer old new (Err (KeyFile fault)) = new ≡ old

-- the same before a reply is written
abbrev pub CountsMade : {X : Type 0} → ℕ → ℕ → Result X CopyAnswerFault → Type 0
CountsMade old new (Ok x) = new ≡ old
CountsMade old new (Err (Http fault)) = new ≡ old
CountsMade old new (Err (CopyDamaged path)) = new ≡ old
CountsMade old new (Err ShelfFault) = new ≡ one_more old
CountsMade old new (Err (Head fault)) = new ≡ old
CountsMade old new (Err (KeyFile fault)) = new ≡ old
