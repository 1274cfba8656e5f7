-- The resources of a mirror, and the targets of requests that name them (RFC 9110, section 3.1; RFC
-- 9112, section 3.2.1; C2SP tlog-tiles, "Parameters"). Targets are compared byte for byte, without
-- decoding. Targets below `/mirror/` are defined by this project. Only the contract of a private
-- function cites `FindsTwo`.
use Rattle.std.specs.Prelude.{◌≡◌, ℕ, ◌≤◌, List, ◌++◌, codes, Option, MatchOption}
use Rattle.hex.specs.Hex.{encode_lower}
use Rattle.tlog_shape.specs.declared.TheConstants.{MAX_SIZE}
use Rattle.tlog_text.specs.Number.{IsDecimal}
use Rattle.tlog_text.specs.Hash.{Is32Bytes}
use Rattle.tlog_tiles.specs.Path.{HasNoSlash, IsPath}
use Rattle.tlog_tiles.specs.declared.paths.Path.{Path}
use Rattle.tlog_proof.specs.declared.proof.Ask.TheVariants as ask
use Rattle.mirror_http.specs.declared.resource.Resource.{Resource}
use Rattle.mirror_http.specs.declared.resource.Resource.TheVariants.{File, Status, Forks, Missing}
use Rattle.mirror_http.specs.declared.resource.Resource.TheVariants.{Proof}

-- the text is a number: decimal, without leading zeros, at most 9223372036854775807
pub record IsNumber (text : List ℕ) (n : ℕ) : Type 0 where
  pub is_decimal : IsDecimal text n
  pub fits : n ≤ MAX_SIZE

-- the text is 32 bytes as 64 hexadecimal digits in lower case
pub record IsHexHash (text hash : List ℕ) : Type 0 where
  pub is_hash : Is32Bytes hash
  pub is_hex : text ≡ encode_lower hash

-- the target is that prefix, and two texts with a slash between them
abbrev pub HasTwo : List ℕ → List ℕ → List ℕ → List ℕ → Type 0
HasTwo front target first second = target ≡ front ++ (first ++ (codes "/" ++ second))

-- if the target has two such texts, and the first contains no slash, the result has them
abbrev pub FindsTwo : {X : Type 0} → (X → List ℕ) → (X → List ℕ) → List ℕ → List ℕ → Option X →
    Type 0
FindsTwo first_of second_of front target result =
    (first second : List ℕ) → HasNoSlash first → HasTwo front target first second →
    MatchOption result ⊥ (λ found. (first_of found ≡ first) × (second_of found ≡ second))

-- the target is that prefix, a number, a slash and another number
pub record NamesNumbers (front target : List ℕ) (m n : ℕ) : Type 0 where
  pub first : List ℕ
  pub second : List ℕ
  pub parts : HasTwo front target first second
  pub first_is : IsNumber first m
  pub second_is : IsNumber second n

-- the target is that prefix, a size, a slash and a root
pub record NamesHead (front target : List ℕ) (size : ℕ) (root : List ℕ) : Type 0 where
  pub first : List ℕ
  pub second : List ℕ
  pub parts : HasTwo front target first second
  pub size_is : IsNumber first size
  pub root_is : IsHexHash second root

-- the target is a slash and the path of a file
pub record NamesFile (target : List ℕ) (path : Path) : Type 0 where
  pub name : List ℕ
  pub target_is : target ≡ codes "/" ++ name
  pub name_is : IsPath name path

-- the target names the resource
abbrev pub Names : List ℕ → Resource → Type 0
Names target (File path) = NamesFile target path
Names target Status = target ≡ codes "/mirror/status"
Names target Forks = target ≡ codes "/mirror/forks"
Names target (Missing size root) = NamesHead (codes "/mirror/missing/") target size root
Names target (Proof (ask.Inclusion size index)) =
    NamesNumbers (codes "/mirror/inclusion/") target size index
Names target (Proof (ask.Consistency first second)) =
    NamesNumbers (codes "/mirror/consistency/") target first second
