-- Laws of the definitions.
use Rattle.std.specs.Prelude.{◌≡◌, ℕ, List}
use Rattle.mirror_model.specs.Complete.{IsLawful}
use Rattle.mirror_model.specs.Strings.{IsDigest}
use Rattle.mirror_model.specs.View.{View}
use Rattle.mirror_http.specs.Resource.{Names}
use Rattle.mirror_http.specs.Response.{Response}
use Rattle.mirror_http.specs.declared.limits.TheConstants.{MAX_REQUEST_LEN, MAX_REQUEST_FIELDS}
use Rattle.mirror_http.specs.declared.resource.Resource.{Resource}

-- a target names at most one resource
abbrev pub TargetsNameOne : Type 0
TargetsNameOne = (target : List ℕ) (a b : Resource) → Names target a → Names target b → a ≡ b

-- a lawful view has at most one reply to the bytes of a client
abbrev pub ResponseIsOne : Type 0
ResponseIsOne =
    (digest : List ℕ → List ℕ) → IsDigest digest → (v : View) → IsLawful digest v →
    (bytes first second : List ℕ) →
    Response digest v bytes first → Response digest v bytes second → first ≡ second

-- any view has at least one reply to the bytes of a client: that there is none is contradictory
abbrev pub ResponseIsThere : Type 0
ResponseIsThere =
    (digest : List ℕ → List ℕ) (v : View) (bytes : List ℕ) →
    ¬ ((reply : List ℕ) → ¬ Response digest v bytes reply)

-- equal views have equal replies to equal bytes
abbrev pub EqualViewsReplyAlike : Type 0
EqualViewsReplyAlike =
    (digest : List ℕ → List ℕ) → IsDigest digest → (v w : View) → IsLawful digest v → v ≡ w →
    (bytes others first second : List ℕ) → bytes ≡ others → Response digest v bytes first →
    Response digest w others second → first ≡ second

-- the limits for the head of a request: its length in bytes, and the number of its fields
pub record HasServerLimits : Type 0 where
  pub head : MAX_REQUEST_LEN ≡ 8192
  pub fields : MAX_REQUEST_FIELDS ≡ 64
