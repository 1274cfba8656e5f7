-- The reply to the first request of a client: a relation between the served files, all bytes of the
-- client, and the reply. It also has the reply of a mirror (RFC 9112, sections 2 to 6; RFC 9110,
-- sections 9.3.1, 10.2.1 and 15; C2SP tlog-tiles).
use Rattle.std.specs.Prelude.{◌≡◌, ◌≢◌, ℕ, ◌≤◌, List, [], ◌∷◌, ◌++◌, length, take, codes, Ok}
use Rattle.std.specs.Fmt.{decimal}
use Rattle.httparse.specs.Grammar.{RequestHead, ReadsRequest}
use Rattle.tlog_tiles.specs.declared.paths.Path.TheVariants as path
use Rattle.tlog_proof.specs.Made.{asked_proof}
use Rattle.tlog_proof.specs.Text.{IsProofText}
use Rattle.tlog_proof.specs.declared.proof.Ask.{Ask}
use Rattle.tlog_proof.specs.declared.proof.Proof as proof
use Rattle.mirror_model.specs.View.{View}
use Rattle.mirror_model.specs.Served.{IsServedList, Replies}
use Rattle.mirror_model.specs.Texts.{IsStatusText, IsForksText, IsMissingText}
use Rattle.mirror_http.specs.Resource.{Names}
use Rattle.mirror_http.specs.declared.limits.TheConstants.{MAX_REQUEST_FIELDS, MAX_REQUEST_LEN}
use Rattle.mirror_http.specs.declared.resource.Resource.{Resource}
use Rattle.mirror_http.specs.declared.resource.Resource.TheVariants.{File, Status, Forks, Missing}
use Rattle.mirror_http.specs.declared.resource.Resource.TheVariants.{Proof}

-- ---- the request

-- the bytes begin with that head, which has at most 64 fields and ends within the first 8,192 bytes
pub record HasRequest (bytes : List ℕ) (h : RequestHead) : Type 0 where
  pub rest : List ℕ
  pub reads : ReadsRequest (take MAX_REQUEST_LEN bytes) h rest
  pub few : length h.fields ≤ MAX_REQUEST_FIELDS

-- the bytes do not begin with a head that a server accepts
abbrev pub LacksRequest : List ℕ → Type 0
LacksRequest bytes = (h : RequestHead) → ¬ HasRequest bytes h

-- ---- replies

-- the reply to bytes that do not begin with a head
abbrev pub bad_request : List ℕ
bad_request = codes "HTTP/1.1 400 Bad Request\r\nContent-Length: 0\r\nConnection: close\r\n\r\n"

-- the reply to a target without a served resource
abbrev pub not_found : List ℕ
not_found = codes "HTTP/1.1 404 Not Found\r\nContent-Length: 0\r\nConnection: close\r\n\r\n"

-- the reply to a method other than GET
abbrev pub not_allowed : List ℕ
not_allowed =
    codes "HTTP/1.1 405 Method Not Allowed\r\nAllow: GET\r\n"
    ++ codes "Content-Length: 0\r\nConnection: close\r\n\r\n"

-- the reply if the server itself cannot get the resource
abbrev pub server_error : List ℕ
server_error =
    codes "HTTP/1.1 500 Internal Server Error\r\nContent-Length: 0\r\nConnection: close\r\n\r\n"

-- the media type of a text
abbrev pub plain_text : List ℕ
plain_text = codes "text/plain; charset=utf-8"

-- the media type of bytes
abbrev pub octets : List ℕ
octets = codes "application/octet-stream"

-- the media type of a resource: text for a checkpoint and the reports of a mirror, and bytes for
-- tiles and bundles
abbrev pub media_type : Resource → List ℕ
media_type (File path.Checkpoint) = plain_text
media_type (File (path.Tile level index width)) = octets
media_type (File (path.Entries index width)) = octets
media_type Status = plain_text
media_type Forks = plain_text
media_type (Missing size root) = plain_text
media_type (Proof ask) = plain_text

-- the head of a reply with a body of that media type and length
abbrev pub found_head : List ℕ → ℕ → List ℕ
found_head kind len =
    codes "HTTP/1.1 200 OK\r\nContent-Type: "
    ++ (kind
    ++ (codes "\r\nContent-Length: " ++ (decimal len ++ codes "\r\nConnection: close\r\n\r\n")))

-- a reply with a body of that media type
abbrev pub found : List ℕ → List ℕ → List ℕ
found kind body = found_head kind (length body) ++ body

module _ (IsBodyOf : Resource → List ℕ → Type 0) where
  -- the target names a resource that has bytes, and the reply has those bytes
  pub record IsFoundBy (target reply : List ℕ) : Type 0 where
    pub resource : Resource
    pub names : Names target resource
    pub body : List ℕ
    pub is_body : IsBodyOf resource body
    pub reply_is : reply ≡ found (media_type resource) body

-- the reply to a request: with another method than GET, for a target without a served resource, or
-- for a served resource
pub data IsReplyBy (IsBodyOf : Resource → List ℕ → Type 0) (h : RequestHead) : List ℕ → Type 0 where
  other_method : h.method ≢ codes "GET" → IsReplyBy IsBodyOf h not_allowed
  not_there : h.method ≡ codes "GET" → ((reply : List ℕ) → ¬ IsFoundBy IsBodyOf h.target reply) →
      IsReplyBy IsBodyOf h not_found
  is_there : {reply : List ℕ} → h.method ≡ codes "GET" → IsFoundBy IsBodyOf h.target reply →
      IsReplyBy IsBodyOf h reply

-- the reply to all bytes of a client: nothing if there are none, and otherwise the reply to the
-- first request
pub data ResponseBy (IsBodyOf : Resource → List ℕ → Type 0) : List ℕ → List ℕ → Type 0 where
  silent : ResponseBy IsBodyOf [] []
  refused : {first : ℕ} {bytes : List ℕ} → LacksRequest (first ∷ bytes) →
      ResponseBy IsBodyOf (first ∷ bytes) bad_request
  replied : {bytes reply : List ℕ} {h : RequestHead} → HasRequest bytes h →
      IsReplyBy IsBodyOf h reply → ResponseBy IsBodyOf bytes reply

module _ (digest : List ℕ → List ℕ) (v : View) where
  -- the text is that of a proof of the served entries
  pub record IsServedProofText (ask : Ask) (text : List ℕ) : Type 0 where
    pub entries : List (List ℕ)
    pub served : IsServedList digest v entries
    pub proof : proof.Proof
    pub made : asked_proof digest entries ask ≡ Ok proof
    pub text_is : IsProofText text proof

  -- the bytes are those of the resource; a resource without bytes is not served by the view
  abbrev pub IsBody : Resource → List ℕ → Type 0
  IsBody (File path) body = Replies digest v path body
  IsBody Status body = IsStatusText digest v body
  IsBody Forks body = IsForksText digest v body
  IsBody (Missing size root) body = IsMissingText digest v size root body
  IsBody (Proof ask) body = IsServedProofText ask body

  -- the target names a resource that the view serves, and the reply has its bytes
  abbrev pub IsFound : List ℕ → List ℕ → Type 0
  IsFound target reply = IsFoundBy IsBody target reply

  -- the reply to a request for a resource of the view
  abbrev pub IsReplyTo : RequestHead → List ℕ → Type 0
  IsReplyTo h reply = IsReplyBy IsBody h reply

  -- the reply of a mirror with that view to all bytes of a client
  abbrev pub Response : List ℕ → List ℕ → Type 0
  Response bytes reply = ResponseBy IsBody bytes reply
