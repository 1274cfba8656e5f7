-- The part of a request's head that was read. Only contracts of private functions cite these
-- definitions, except `SeesIn` and `LiesWithin`.
use Rattle.std.specs.Prelude.{◌≡◌, ◌≤◌, ℕ, List, [], ◌∷◌, ◌++◌, ◌<◌, length, Option, ⊤}
use Rattle.std.specs.Io.KnownBytes.{Consumes, Keeps, IsAtEnd}
use Rattle.httparse.specs.Grammar.{RequestHead, ReadsRequest, HasNoRequest}
use Rattle.httparse.specs.declared.spans.Span.{Span}
use Rattle.httparse.specs.Spans.{RequestOverflows, IsWithin, span_bytes}
use Rattle.mirror_http.specs.Response.{HasRequest, LacksRequest}
use Rattle.mirror_http.specs.declared.limits.TheConstants.{MAX_REQUEST_FIELDS, MAX_REQUEST_LEN}
use Rattle.mirror_http.specs.declared.head.HeadState.{HeadState}
use Rattle.mirror_http.specs.declared.head.HeadState.TheVariants.{Whole, Open, Bad}
use Rattle.mirror_http.specs.declared.head.Received.{Received}
use Rattle.mirror_http.specs.declared.head.Received.TheVariants.{Nothing, NoHead, Head}
use Rattle.mirror_http.specs.declared.head.ReadStep.{ReadStep}
use Rattle.mirror_http.specs.declared.head.ReadStep.TheVariants.{More, Interrupted, End}

-- the bytes begin with the head of a request, with its method and target at these positions
pub record HasRequestAt (bytes : List ℕ) (method target : Span) : Type 0 where
  pub head : RequestHead
  pub rest : List ℕ
  pub reads : ReadsRequest bytes head rest
  pub few : length head.fields ≤ MAX_REQUEST_FIELDS
  pub method_within : IsWithin (length bytes) method
  pub target_within : IsWithin (length bytes) target
  pub method_is : span_bytes bytes method ≡ head.method
  pub target_is : span_bytes bytes target ≡ head.target

-- the state of the bytes that were read: they begin with a whole head, or with the start of one, or
-- with no readable head
abbrev pub LooksLike : List ℕ → HeadState → Type 0
LooksLike bytes (Whole method target) = HasRequestAt bytes method target
LooksLike bytes Open = HasNoRequest bytes
LooksLike bytes Bad = RequestOverflows MAX_REQUEST_FIELDS bytes

-- the part of the client's bytes that was seen; `buf` has the bytes that were read
abbrev pub SeesIn : List ℕ → List ℕ → Received → Type 0
SeesIn all buf Nothing = all ≡ []
SeesIn all buf NoHead = (first : ℕ) × (others : List ℕ) × (all ≡ first ∷ others) × LacksRequest all
SeesIn all buf (Head method target) =
    (h : RequestHead) × HasRequest all h × (span_bytes buf method ≡ h.method)
    × (span_bytes buf target ≡ h.target)

-- the method and the target are within the first `len` bytes
abbrev pub LiesWithin : ℕ → Received → Type 0
LiesWithin len Nothing = ⊤
LiesWithin len NoHead = ⊤
LiesWithin len (Head method target) = IsWithin len method × IsWithin len target

-- one read gave one byte or more
pub record ReadsMore (known cur : Option (List ℕ)) (old new : List ℕ) : Type 0 where
  pub bytes : List ℕ
  pub some : 0 < length bytes
  pub adds : new ≡ old ++ bytes
  pub consumes : Consumes known cur bytes
  pub within : length new ≤ MAX_REQUEST_LEN

-- one read gave no bytes, and none are left
pub record ReadsEnd (known cur : Option (List ℕ)) (old new : List ℕ) : Type 0 where
  pub same : new ≡ old
  pub consumes : Consumes known cur []
  pub at_end : IsAtEnd cur

-- one read gave no bytes, and the rest is unchanged
pub record ReadsNone (known cur : Option (List ℕ)) (old new : List ℕ) : Type 0 where
  pub same : new ≡ old
  pub keeps : Keeps known cur

-- the effect of one read of a client's bytes
abbrev pub ReadsOn : Option (List ℕ) → Option (List ℕ) → List ℕ → List ℕ → ReadStep → Type 0
ReadsOn known cur old new More = ReadsMore known cur old new
ReadsOn known cur old new Interrupted = ReadsNone known cur old new
ReadsOn known cur old new End = ReadsEnd known cur old new
