-- The effects of the calls that answer a client. Only contracts of private functions cite
-- `head_of_reply` and `empty_text`.
use Rattle.std.specs.Prelude.{◌≡◌, ◌≢◌, ℕ, ◌<◌, List, [], ◌∷◌, ◌++◌, length, Option, Some, None, ⊤}
use Rattle.std.specs.Prelude.{Result, Ok, Err, IsUtf8, codes}
use Rattle.std.specs.Fmt.{decimal}
use Rattle.http.specs.StatusCode.{status_text}
use Rattle.std.specs.Io.KnownBytes.{Appends, Consumes, Keeps}
use Rattle.byte_streams.specs.Streams.{AppendsPrefix}
use Rattle.httparse.specs.Grammar.{RequestHead}
use Rattle.mirror_model.specs.View.{View}
use Rattle.mirror_http.specs.Resource.{Names}
use Rattle.mirror_http.specs.Response.{bad_request, found, HasRequest, LacksRequest, media_type}
use Rattle.mirror_http.specs.Response.{not_allowed, not_found, Response}
use Rattle.mirror_http.specs.declared.request.Request.{Request}
use Rattle.mirror_http.specs.declared.request.Request.TheVariants.{Nothing, Unreadable}
use Rattle.mirror_http.specs.declared.request.Request.TheVariants.{OtherMethod, Unknown, Get}
use Rattle.mirror_http.specs.declared.resource.Resource.{Resource}
use Rattle.mirror_http.specs.declared.limits.TheConstants.{MAX_REQUEST_LEN}
use Rattle.mirror_http.specs.declared.fault.HttpFault.{HttpFault}
use Rattle.mirror_http.specs.declared.fault.HttpFault.TheVariants.{ReadFault, WriteFault}
use Rattle.mirror_http.specs.declared.fault.HttpFault.TheVariants.{OutOfMemory}

-- the head of a reply with that status, and with a body of that media type and length
abbrev pub head_of_reply : ℕ → List ℕ → ℕ → List ℕ
head_of_reply status kind len =
    codes "HTTP/1.1 "
    ++ (status_text status
    ++ (codes "\r\nContent-Type: "
    ++ (kind
    ++ (codes "\r\nContent-Length: " ++ (decimal len ++ codes "\r\nConnection: close\r\n\r\n")))))

-- a reply with that status and these field lines, without a body
abbrev pub empty_text : ℕ → List ℕ → List ℕ
empty_text status fields =
    codes "HTTP/1.1 "
    ++ (status_text status
    ++ (codes "\r\n" ++ (fields ++ codes "Content-Length: 0\r\nConnection: close\r\n\r\n")))

-- the bytes that a client gave before a read failed are fewer than 8,192, and contain no head
pub record FailsBeforeHead (old new : Option (List ℕ)) : Type 0 where
  pub taken : List ℕ
  pub consumes : Consumes old new taken
  pub within : length taken < MAX_REQUEST_LEN
  pub lacks : 0 < length taken → LacksRequest taken

-- the bytes are that request: they begin with its head, or with no readable head, or they are empty
abbrev pub IsRequestOf : List ℕ → Request → Type 0
IsRequestOf bytes Nothing = bytes ≡ []
IsRequestOf bytes Unreadable =
    (first : ℕ) × (others : List ℕ) × (bytes ≡ first ∷ others) × LacksRequest bytes
IsRequestOf bytes OtherMethod =
    (h : RequestHead) × HasRequest bytes h × (h.method ≢ codes "GET")
IsRequestOf bytes Unknown =
    (h : RequestHead) × HasRequest bytes h × (h.method ≡ codes "GET")
    × ((resource : Resource) → ¬ Names h.target resource)
IsRequestOf bytes (Get resource) =
    (h : RequestHead) × HasRequest bytes h × (h.method ≡ codes "GET") × Names h.target resource

-- a GET request with that target is that request
abbrev pub IsForTarget : List ℕ → Request → Type 0
IsForTarget target Nothing = ⊥
IsForTarget target Unreadable = ⊥
IsForTarget target OtherMethod = ⊥
IsForTarget target Unknown = IsUtf8 target → (resource : Resource) → ¬ Names target resource
IsForTarget target (Get resource) = Names target resource

-- a request with that method and target is that request
abbrev pub IsForHead : List ℕ → List ℕ → Request → Type 0
IsForHead method target Nothing = ⊥
IsForHead method target Unreadable = ⊥
IsForHead method target OtherMethod = method ≢ codes "GET"
IsForHead method target Unknown =
    (method ≡ codes "GET") × (IsUtf8 target → (resource : Resource) → ¬ Names target resource)
IsForHead method target (Get resource) = (method ≡ codes "GET") × Names target resource

-- the body for a request: the bytes of its resource, or None if there are none
abbrev pub IsBodyFor : (Resource → List ℕ → Type 0) → Request → Option (List ℕ) → Type 0
IsBodyFor IsBodyOf Nothing body = ⊤
IsBodyFor IsBodyOf Unreadable body = ⊤
IsBodyFor IsBodyOf OtherMethod body = ⊤
IsBodyFor IsBodyOf Unknown body = ⊤
IsBodyFor IsBodyOf (Get resource) (Some body) = IsBodyOf resource body
IsBodyFor IsBodyOf (Get resource) None = (body : List ℕ) → ¬ IsBodyOf resource body

-- the reply to a request, if its resource has that body
abbrev pub reply_with : Request → Option (List ℕ) → List ℕ
reply_with Nothing body = []
reply_with Unreadable body = bad_request
reply_with OtherMethod body = not_allowed
reply_with Unknown body = not_found
reply_with (Get resource) (Some body) = found (media_type resource) body
reply_with (Get resource) None = not_found

module _ (digest : List ℕ → List ℕ) (v : View) where
  -- when a server may return each answer, by all bytes that its client can give and the bytes
  -- written: the whole reply, a prefix of it, or nothing
  abbrev pub AnswersClient : {X : Type 0} → List ℕ → Option (List ℕ) → Option (List ℕ) →
      Result X HttpFault → Type 0
  AnswersClient bytes old new (Ok x) =
      (reply : List ℕ) × Response digest v bytes reply × Appends old new reply
  AnswersClient bytes old new (Err ReadFault) = Keeps old new
  AnswersClient bytes old new (Err WriteFault) =
      (reply : List ℕ) × Response digest v bytes reply × AppendsPrefix old new reply
  AnswersClient bytes old new (Err OutOfMemory) = Keeps old new
