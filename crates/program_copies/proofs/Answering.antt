-- From the bytes of the requested resource to the reply.
use Rattle.std.proofs.Common.{◌≡◌, ◌⊎◌, ℕ, List, Option, Some, None, Result, Ok, Err, IfErr, refl, sym, subst, inl, inr, ◌∙◌}
use Rattle.std.specs.Prelude.{IfNone, IfOk, IfSome, option_map}
use Rattle.std.specs.Io.KnownBytes.{Keeps}
use Rattle.signed_note.specs.declared.key_line.KeyLine.{KeyLine}
use Rattle.tlog_tiles.specs.declared.paths.Path.TheVariants.{Checkpoint, Tile, Entries}
use Rattle.mirror_folders.specs.Shelf.{Put}
use Rattle.mirror_http.specs.Answered.{IsRequestOf}
use Rattle.mirror_http.specs.Response.{server_error}
use Rattle.mirror_http.specs.declared.fault.HttpFault.TheVariants.{ReadFault, WriteFault, OutOfMemory}
use Rattle.mirror_http.specs.declared.request.Request.{Request}
use Rattle.mirror_http.specs.declared.resource.Resource.{Resource}
use Rattle.mirror_http.specs.declared.resource.Resource.TheVariants.{File, Status, Forks, Missing, Proof}
use Rattle.mirror_sources.specs.Recorded.{KeepsRecord, one_more}
use Rattle.copy_reader.specs.Faults.{CountsRead}
use Rattle.copy_reader.specs.WholeCopies.{IsShelfFailure}
use Rattle.copy_reader.specs.declared.fault.CopyFault.{CopyFault}
use Rattle.copy_reader.specs.declared.fault.CopyFault.TheVariants as copy
use Rattle.copy_reader.proofs.WholeCopies.{files_later}
use Rattle.program_copies.specs.Bodies.{HasResource, IsBodyAt, IsBodyGiven}
use Rattle.program_copies.specs.CopyAnswers.{AnswersFromCopy, BlamesAnswer, BlamesBody, BlamesKeys, CountsAnswer, CountsMade, IsCopyReply}
use Rattle.program_copies.specs.CopyAnswers.{IsGiven, IsQuiet, KeepsLast, WritesError, WritesReply}
use Rattle.program_copies.specs.CopyHeads.{CopyHead, IsCopyHead, IsLastOpened}
use Rattle.program_copies.specs.Damages.{NamesAt}
use Rattle.program_copies.specs.Faults.{by_body}
use Rattle.program_copies.specs.GivenProofs.{HasLogAt}
use Rattle.program_copies.specs.declared.keys.KeysFault.{KeysFault}
use Rattle.program_copies.specs.declared.reply_fault.CopyAnswerFault.{CopyAnswerFault}
use Rattle.program_copies.specs.declared.reply_fault.CopyAnswerFault.TheVariants.{Http, CopyDamaged, ShelfFault, Head, KeyFile}

-- ---- the body

-- the bytes of the resource, or None, are its body
pub body_given : {V E : Type 0} (items : V → List ℕ) (digest : List ℕ → List ℕ) (origin : List ℕ) (held : Option (List Put))
    (head : Option CopyHead) (r : Resource) (result : Result (Option V) E) →
    IfOk result (λ o. IfSome o (λ body. IsBodyAt digest origin held head r (items body))) →
    IfOk result (λ o. IfNone o (HasResource head r → ⊥)) →
    IfOk result (λ o. IsBodyGiven digest origin held head r (option_map items o))
body_given items digest origin held head r (Ok (Some body)) found none = found
body_given items digest origin held head r (Ok None) found none = none
body_given items digest origin held head r (Err e) found none = tt

pub body_of : {V : Type 0} (items : V → List ℕ) (digest : List ℕ → List ℕ) (origin : List ℕ) (held : Option (List Put))
    (head : Option CopyHead) (r : Resource) (o : Option V) →
    IfSome o (λ body. IsBodyAt digest origin held head r (items body)) → IfNone o (HasResource head r → ⊥) →
    IsBodyGiven digest origin held head r (option_map items o)
body_of items digest origin held head r (Some body) found none = found
body_of items digest origin held head r None found none = none

-- the fault of a body is one of these
pub body_blames : (digest : List ℕ → List ℕ) (held : Option (List Put)) (head : Option CopyHead) (r : Resource) (T : Type 0)
    (a b : ℕ) (fault : CopyFault) → CountsRead {T = T} a b (Err fault) →
    ((entries : List (List ℕ)) → HasLogAt digest held head entries → IsShelfFailure fault) →
    NamesAt digest held head r fault → BlamesBody digest held head r (by_body fault)
body_blames digest held head r T a b copy.BadOrigin c honest names = absurd c
body_blames digest held head r T a b (copy.Head f) c honest names = absurd c
body_blames digest held head r T a b (copy.CopyDamaged path) c honest names = (honest, names)
body_blames digest held head r T a b copy.ShelfFault c honest names = tt
body_blames digest held head r T a b copy.OutOfMemory c honest names = tt

pub body_counts : (X T : Type 0) (a b : ℕ) (fault : CopyFault) → CountsRead {T = T} a b (Err fault) →
    CountsMade {X = X} a b (Err (by_body fault))
body_counts X T a b copy.BadOrigin c = absurd c
body_counts X T a b (copy.Head f) c = absurd c
body_counts X T a b (copy.CopyDamaged path) c = c
body_counts X T a b copy.ShelfFault c = c
body_counts X T a b copy.OutOfMemory c = c

-- ---- before the checkpoint was read

module _ (digest : List ℕ → List ℕ) (origin : List ℕ) (held after : Option (List Put)) (kept : KeepsRecord held after) where
  body_at : (head : CopyHead) (r : Resource) (body : List ℕ) → IsBodyAt digest origin after (Some head) r body →
      IsBodyAt digest origin held (Some head) r body
  body_at head (File Checkpoint) body is = is
  body_at head (File (Tile level index width)) body is = is
  body_at head (File (Entries index width)) body is = is
  body_at head Status body is = is
  body_at head Forks body is = is
  body_at head (Missing size root) body is = is
  body_at head (Proof ask) body is = record {
    within = is.within;
    is = is.is;
    whole = λ entries log. is.whole entries (record {
      size_is = log.size_is;
      root_is = log.root_is;
      small = log.small;
      files = files_later digest held after kept entries log.files;
    });
  }

  body_before : (head : Option CopyHead) (r : Resource) (body : List ℕ) → IsBodyAt digest origin after head r body →
      IsBodyAt digest origin held head r body
  body_before None (File path) body is = is
  body_before None Status body is = is
  body_before None Forks body is = is
  body_before None (Missing size root) body is = is
  body_before None (Proof ask) body is = is
  body_before (Some head) r body is = body_at head r body is

  given_before : (head : Option CopyHead) (r : Resource) (body : Option (List ℕ)) →
      IsBodyGiven digest origin after head r body → IsBodyGiven digest origin held head r body
  given_before head r (Some body) is = body_before head r body is
  given_before head r None is = is

  -- the body for the resource is that under the checkpoint on the shelf
  pub given_held : {V E : Type 0} (items : V → List ℕ) (AreKeys : List KeyLine → Type 0) (last : Option (List ℕ))
      (head : Option CopyHead) → IsCopyHead AreKeys origin last held head → (r : Resource) (result : Result (Option V) E) →
      IfOk result (λ o. IsBodyGiven digest origin after head r (option_map items o)) →
      IfOk result (λ o. IsGiven digest AreKeys last origin held r (option_map items o))
  given_held items AreKeys last head is_head r (Ok o) is = record {
    head = head;
    is_head = is_head;
    is_body = given_before head r (option_map items o) is;
  }
  given_held items AreKeys last head is_head r (Err e) is = tt

-- the note that is kept opened
pub last_opened : (AreKeys : List KeyLine → Type 0) (origin : List ℕ) (last new : Option (List ℕ)) (held : Option (List Put))
    (head : Option CopyHead) → IsCopyHead AreKeys origin last held head → KeepsLast last head new →
    IsLastOpened AreKeys origin last new
last_opened AreKeys origin last new held None is keeps = inl keeps
last_opened AreKeys origin last new held (Some head) is (inl same) = inl same
last_opened AreKeys origin last new held (Some head) is (inr new_is) = elim is.2 [
  | inl before ↦ inl (new_is ∙ sym before)
  | inr opens ↦ inr (head, new_is, opens)
]

-- ---- the bytes that are written

blamed : (digest : List ℕ → List ℕ) (AreKeys : List KeyLine → Type 0) (Lacks : KeysFault → Type 0) (origin : List ℕ)
    (held : Option (List Put)) (request : Request) (fault other : CopyAnswerFault) → fault ≡ other →
    BlamesAnswer digest AreKeys Lacks origin held request fault →
    BlamesAnswer digest AreKeys Lacks origin held request other
blamed digest AreKeys Lacks origin held request fault other e blames =
    subst (λ f. BlamesAnswer digest AreKeys Lacks origin held request f) e blames

counts_some : (T : Type 0) (a b : ℕ) (fault : CopyAnswerFault) → CountsMade {X = T} a b (Err fault) →
    (b ≡ a) ⊎ (b ≡ one_more a)
counts_some T a b (Http fault) c = inl c
counts_some T a b (CopyDamaged path) c = inl c
counts_some T a b ShelfFault c = inr c
counts_some T a b (Head fault) c = inl c
counts_some T a b (KeyFile fault) c = inl c

counts_same : (T : Type 0) (a b : ℕ) (fault other : CopyAnswerFault) → fault ≡ other → CountsMade {X = T} a b (Err fault) →
    CountsMade {X = T} a b (Err other)
counts_same T a b fault other e c = subst (λ f. CountsMade {X = T} a b (Err f)) e c

module _ {X : Type 0} (old new : Option (List ℕ)) (digest : List ℕ → List ℕ) (AreKeys : List KeyLine → Type 0)
    (last : Option (List ℕ)) (origin : List ℕ) (held : Option (List Put)) where
  whole : (bytes reply : List ℕ) (r : Result X CopyAnswerFault) → IsCopyReply digest AreKeys last origin held bytes reply →
      WritesReply old new reply r → AnswersFromCopy digest AreKeys last origin held bytes old new r
  whole bytes reply (Ok x) is w = (reply, is, w)
  whole bytes reply (Err (Http ReadFault)) is w = absurd w
  whole bytes reply (Err (Http WriteFault)) is w = (reply, inl is, w)
  whole bytes reply (Err (Http OutOfMemory)) is w = absurd w
  whole bytes reply (Err (CopyDamaged path)) is w = absurd w
  whole bytes reply (Err ShelfFault) is w = absurd w
  whole bytes reply (Err (Head fault)) is w = absurd w
  whole bytes reply (Err (KeyFile fault)) is w = absurd w

  pub answers_whole : (known : Option (List ℕ)) (request : Request) (reply : List ℕ) (r : Result X CopyAnswerFault) →
      IfSome known (λ bytes. IsRequestOf bytes request) →
      ((bytes : List ℕ) → IsRequestOf bytes request → IsCopyReply digest AreKeys last origin held bytes reply) →
      WritesReply old new reply r →
      IfSome known (λ bytes. AnswersFromCopy digest AreKeys last origin held bytes old new r)
  answers_whole None request reply r asks is w = tt
  answers_whole (Some bytes) request reply r asks is w = whole bytes reply r (is bytes asks) w

  module _ (Lacks : KeysFault → Type 0) (request : Request) where
    error : (bytes : List ℕ) (fault : CopyAnswerFault) (r : Result X CopyAnswerFault) → IsRequestOf bytes request →
        BlamesAnswer digest AreKeys Lacks origin held request fault → WritesError fault old new r →
        AnswersFromCopy digest AreKeys last origin held bytes old new r
    error bytes fault (Ok x) asks blames w = absurd w
    error bytes fault (Err (Http ReadFault)) asks blames w = absurd w
    error bytes fault (Err (Http WriteFault)) asks blames w = (server_error, inr refl, w)
    error bytes fault (Err (Http OutOfMemory)) asks blames w = w
    error bytes fault (Err (CopyDamaged path)) asks blames w =
        let b = blamed digest AreKeys Lacks origin held request fault (CopyDamaged path) w.0 blames in (w.1, b.0, request, asks, b.1)
    error bytes fault (Err ShelfFault) asks blames w = w.1
    error bytes fault (Err (Head why)) asks blames w = (w.1, blamed digest AreKeys Lacks origin held request fault (Head why) w.0 blames)
    error bytes fault (Err (KeyFile why)) asks blames w = w.1

    pub answers_error : (known : Option (List ℕ)) (fault : CopyAnswerFault) (r : Result X CopyAnswerFault) →
        IfSome known (λ bytes. IsRequestOf bytes request) →
        BlamesAnswer digest AreKeys Lacks origin held request fault → WritesError fault old new r →
        IfSome known (λ bytes. AnswersFromCopy digest AreKeys last origin held bytes old new r)
    answers_error None fault r asks blames w = tt
    answers_error (Some bytes) fault r asks blames w = error bytes fault r asks blames w

module _ {X : Type 0} (old new : Option (List ℕ)) (Lacks : KeysFault → Type 0) where
  pub keys_whole : (reply : List ℕ) (r : Result X CopyAnswerFault) → WritesReply old new reply r →
      IfErr r (BlamesKeys Lacks)
  keys_whole reply (Ok x) w = tt
  keys_whole reply (Err (Http fault)) w = tt
  keys_whole reply (Err (CopyDamaged path)) w = tt
  keys_whole reply (Err ShelfFault) w = tt
  keys_whole reply (Err (Head fault)) w = tt
  keys_whole reply (Err (KeyFile fault)) w = absurd w

  pub keys_error : (digest : List ℕ → List ℕ) (AreKeys : List KeyLine → Type 0) (origin : List ℕ)
      (held : Option (List Put)) (request : Request) (fault : CopyAnswerFault) (r : Result X CopyAnswerFault) →
      BlamesAnswer digest AreKeys Lacks origin held request fault → WritesError fault old new r →
      IfErr r (BlamesKeys Lacks)
  keys_error digest AreKeys origin held request fault (Ok x) blames w = tt
  keys_error digest AreKeys origin held request fault (Err (Http other)) blames w = tt
  keys_error digest AreKeys origin held request fault (Err (CopyDamaged path)) blames w = tt
  keys_error digest AreKeys origin held request fault (Err ShelfFault) blames w = tt
  keys_error digest AreKeys origin held request fault (Err (Head why)) blames w = tt
  keys_error digest AreKeys origin held request fault (Err (KeyFile why)) blames w =
      blamed digest AreKeys Lacks origin held request fault (KeyFile why) w.0 blames

module _ {X : Type 0} (old new : Option (List ℕ)) where
  pub quiet_whole : (reply : List ℕ) (r : Result X CopyAnswerFault) → WritesReply old new reply r →
      IfErr r (λ e. IsQuiet e → Keeps old new)
  quiet_whole reply (Ok x) w = tt
  quiet_whole reply (Err (Http ReadFault)) w = absurd w
  quiet_whole reply (Err (Http WriteFault)) w = λ q. absurd q
  quiet_whole reply (Err (Http OutOfMemory)) w = absurd w
  quiet_whole reply (Err (CopyDamaged path)) w = absurd w
  quiet_whole reply (Err ShelfFault) w = absurd w
  quiet_whole reply (Err (Head fault)) w = absurd w
  quiet_whole reply (Err (KeyFile fault)) w = absurd w

  pub quiet_error : (fault : CopyAnswerFault) (r : Result X CopyAnswerFault) → WritesError fault old new r →
      IfErr r (λ e. IsQuiet e → Keeps old new)
  quiet_error fault (Ok x) w = tt
  quiet_error fault (Err (Http ReadFault)) w = absurd w
  quiet_error fault (Err (Http WriteFault)) w = λ q. absurd q
  quiet_error fault (Err (Http OutOfMemory)) w = λ q. w
  quiet_error fault (Err (CopyDamaged path)) w = λ q. absurd q
  quiet_error fault (Err ShelfFault) w = λ q. absurd q
  quiet_error fault (Err (Head why)) w = λ q. absurd q
  quiet_error fault (Err (KeyFile why)) w = λ q. absurd q

  pub no_read_whole : (F : Type 0) (reply : List ℕ) (r : Result X CopyAnswerFault) → WritesReply old new reply r →
      IfErr r (λ e. e ≡ Http ReadFault → F)
  no_read_whole F reply (Ok x) w = tt
  no_read_whole F reply (Err (Http ReadFault)) w = absurd w
  no_read_whole F reply (Err (Http WriteFault)) w = λ e. absurd cc
  no_read_whole F reply (Err (Http OutOfMemory)) w = absurd w
  no_read_whole F reply (Err (CopyDamaged path)) w = absurd w
  no_read_whole F reply (Err ShelfFault) w = absurd w
  no_read_whole F reply (Err (Head fault)) w = absurd w
  no_read_whole F reply (Err (KeyFile fault)) w = absurd w

  pub no_read_error : (F : Type 0) (fault : CopyAnswerFault) (r : Result X CopyAnswerFault) → WritesError fault old new r →
      IfErr r (λ e. e ≡ Http ReadFault → F)
  no_read_error F fault (Ok x) w = tt
  no_read_error F fault (Err (Http ReadFault)) w = absurd w
  no_read_error F fault (Err (Http WriteFault)) w = λ e. absurd cc
  no_read_error F fault (Err (Http OutOfMemory)) w = λ e. absurd cc
  no_read_error F fault (Err (CopyDamaged path)) w = λ e. absurd cc
  no_read_error F fault (Err ShelfFault) w = λ e. absurd cc
  no_read_error F fault (Err (Head why)) w = λ e. absurd cc
  no_read_error F fault (Err (KeyFile why)) w = λ e. absurd cc

  module _ (a b : ℕ) where
    pub counts_whole : (reply : List ℕ) (r : Result X CopyAnswerFault) → b ≡ a → WritesReply old new reply r →
        CountsAnswer a b r
    counts_whole reply (Ok x) e w = e
    counts_whole reply (Err (Http ReadFault)) e w = absurd w
    counts_whole reply (Err (Http WriteFault)) e w = inl e
    counts_whole reply (Err (Http OutOfMemory)) e w = absurd w
    counts_whole reply (Err (CopyDamaged path)) e w = absurd w
    counts_whole reply (Err ShelfFault) e w = absurd w
    counts_whole reply (Err (Head fault)) e w = absurd w
    counts_whole reply (Err (KeyFile fault)) e w = absurd w

    pub counts_error : (T : Type 0) (fault : CopyAnswerFault) (r : Result X CopyAnswerFault) →
        CountsMade {X = T} a b (Err fault) → WritesError fault old new r → CountsAnswer a b r
    counts_error T fault (Ok x) c w = absurd w
    counts_error T fault (Err (Http ReadFault)) c w = absurd w
    counts_error T fault (Err (Http WriteFault)) c w = counts_some T a b fault c
    counts_error T fault (Err (Http OutOfMemory)) c w = counts_some T a b fault c
    counts_error T fault (Err (CopyDamaged path)) c w = counts_same T a b fault (CopyDamaged path) w.0 c
    counts_error T fault (Err ShelfFault) c w = counts_same T a b fault ShelfFault w.0 c
    counts_error T fault (Err (Head why)) c w = counts_same T a b fault (Head why) w.0 c
    counts_error T fault (Err (KeyFile why)) c w = counts_same T a b fault (KeyFile why) w.0 c
