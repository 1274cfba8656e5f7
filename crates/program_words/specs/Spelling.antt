-- What words spell: numbers, and the places of a log's files.
use Rattle.std.specs.Prelude.{◌≡◌, ◌≢◌, ◌⊎◌, ℕ, ◌<◌, ◌≤◌, List, [], ◌∷◌, ◌++◌, Option, Some, None, codes, length}
use Rattle.std.specs.Prelude.{slice_index, ⊤}
use Rattle.std.specs.Net.Grammar.{IsIpv6Text}
use Rattle.std.specs.declared.net.ipv6_addr.Ipv6Addr.{Ipv6Addr}
use Rattle.tlog_text.specs.Number.{IsDecimal}
use Rattle.mirror_client.specs.Site.{IsHost, IsSitePrefix, slash}
use Rattle.program_words.specs.declared.place.Place.{Place}
use Rattle.program_words.specs.declared.place.Place.TheVariants.{Folder, Server}

-- a word as its bytes
abbrev pub Text : Type 0
Text = List ℕ

-- the meaning of an answer of a reader: it returns such a part, or there is none
abbrev pub FindsPart : {X : Type 0} → (X → Type 0) → Option X → Type 0
FindsPart IsSuch (Some x) = IsSuch x
FindsPart {X} IsSuch None = (x : X) → ¬ IsSuch x

-- ---- numbers

-- the word spells the number, which is within these bounds, in decimal digits without leading zeros
pub record IsNumberIn (least most n : ℕ) (word : Text) : Type 0 where
  pub number : IsDecimal word n
  pub least_is : least ≤ n
  pub most_is : n ≤ most

-- ---- places

-- the colon, U+003A
abbrev pub colon : ℕ
colon = 58

-- a site may have this host and prefix
pub record IsHostAndPrefix (host prefix : Text) : Type 0 where
  pub is_host : IsHost host
  pub is_prefix : IsSitePrefix prefix

-- the empty text, or a text that begins with a slash
abbrev pub IsEmptyOrSlash : Text → Type 0
IsEmptyOrSlash text = (text ≡ []) ⊎ ((rest : Text) × (text ≡ slash ∷ rest))

-- the brackets, U+005B and U+005D
abbrev pub left_bracket : ℕ
left_bracket = 91

abbrev pub right_bracket : ℕ
right_bracket = 93

-- the name is this text in brackets
abbrev pub IsBetweenBrackets : Text → Text → Type 0
IsBetweenBrackets name text = name ≡ left_bracket ∷ (text ++ right_bracket ∷ [])

-- the name is this text in brackets, and the text writes an IPv6 address (RFC 3986, section 3.2.2: IP-literal)
pub record IsLiteral (name text : Text) : Type 0 where
  pub whole : IsBetweenBrackets name text
  pub address : Ipv6Addr
  pub writes : IsIpv6Text text address

-- the text begins with a bracket
abbrev pub IsBracketed : Text → Type 0
IsBracketed text = (rest : Text) × (text ≡ left_bracket ∷ rest)

-- a connection to the host of this name goes to this address: for a name that begins with a bracket the IPv6 address between
-- its brackets, otherwise the name itself
abbrev pub IsAddressOf : Text → Text → Type 0
IsAddressOf name address = IsLiteral name address ⊎ ((¬ IsBracketed name) × (address ≡ name))

-- `HOST:PORT` with an optional prefix: the text before the first slash is the host, and the port is what follows the host's
-- last colon
pub record IsServer (word host prefix address : Text) (port : ℕ) : Type 0 where
  pub whole : word ≡ host ++ prefix
  pub before : (i : ℕ) → i < length host → slice_index host i ≢ slash
  pub site : IsHostAndPrefix host prefix
  pub name : Text
  pub digits : Text
  pub parts : host ≡ name ++ colon ∷ digits
  pub is_address : IsAddressOf name address
  pub is_port : IsNumberIn 1 65535 port digits

-- the two words name this place
abbrev pub IsPlace : Text → Text → Place → Type 0
IsPlace kind word (Folder path) = (kind ≡ codes "dir") × (path.now ≡ word)
IsPlace kind word (Server host prefix address port) =
    (kind ≡ codes "http") × IsServer word host.now prefix.now address.now port

-- the same folder; or the same host, prefix, address and port
abbrev pub IsSamePlace : Place → Place → Type 0
IsSamePlace (Folder a) (Folder b) = a.now ≡ b.now
IsSamePlace (Folder a) (Server host prefix address port) = ⊥
IsSamePlace (Server host prefix address port) (Folder b) = ⊥
IsSamePlace (Server h p a n) (Server host prefix address port) =
    (h.now ≡ host.now) × (p.now ≡ prefix.now) × (a.now ≡ address.now) × (n ≡ port)

-- two words name one place at most
abbrev pub WordsNameOnePlace : Type 0
WordsNameOnePlace =
    (kind word : Text) (a b : Place) → IsPlace kind word a → IsPlace kind word b → IsSamePlace a b

-- the words name these places, two words for each
abbrev pub ArePlaces : List Text → List Place → Type 0
ArePlaces [] [] = ⊤
ArePlaces [] (place ∷ places) = ⊥
ArePlaces (kind ∷ []) places = ⊥
ArePlaces (kind ∷ word ∷ words) [] = ⊥
ArePlaces (kind ∷ word ∷ words) (place ∷ places) = IsPlace kind word place × ArePlaces words places
