-- The text of a proof (a format of this project): a title, then lines of a name, a space and a
-- value. Each line ends in a newline. Numbers are decimal without leading zeros. Hashes are
-- standard base64 with padding (RFC 4648, section 4). Only contracts of private functions cite
-- `LacksNewline`.
use Rattle.std.specs.Prelude.{◌≡◌, ◌≢◌, ℕ, ◌≤◌, ◌<◌, List, [], ◌∷◌, ◌++◌, length, slice_index}
use Rattle.std.specs.Prelude.{codes, Result, Ok, Err, ⊤}
use Rattle.std.specs.Fmt.{decimal}
use Rattle.std.specs.List.{AllByRecursion}
use Rattle.tlog_text.specs.Hash.{base64_of, Is32Bytes}
use Rattle.tlog_shape.specs.declared.TheConstants.{MAX_SIZE}
use Rattle.tlog_proof.specs.declared.limits.TheConstants.{MAX_PATH, MAX_TEXT_LEN}
use Rattle.tlog_proof.specs.declared.proof.Proof.{Proof}
use Rattle.tlog_proof.specs.declared.proof.Proof.TheVariants.{Inclusion, Consistency}
use Rattle.tlog_proof.specs.declared.fault.TextFault.{TextFault}
use Rattle.tlog_proof.specs.declared.fault.TextFault.TheVariants.{BadProofText, OutOfMemory}

-- the bytes contain no newline
abbrev pub LacksNewline : List ℕ → Type 0
LacksNewline bytes = (i : ℕ) → i < length bytes → slice_index bytes i ≢ 10

-- a line of a name, with a space at its end, and a value; then the rest
abbrev pub line : List ℕ → List ℕ → List ℕ → List ℕ
line name value rest = name ++ (value ++ 10 ∷ rest)

-- a line of a name and a decimal number; then the rest
abbrev pub number_line : List ℕ → ℕ → List ℕ → List ℕ
number_line name n rest = line name (decimal n) rest

-- a line of a name and a hash in base64; then the rest
abbrev pub hash_line : List ℕ → List ℕ → List ℕ → List ℕ
hash_line name hash rest = line name (base64_of hash) rest

-- a line for each hash of a path; then the rest
abbrev pub path_lines : List (List ℕ) → List ℕ → List ℕ
path_lines [] rest = rest
path_lines (hash ∷ path) rest = hash_line (codes "path ") hash (path_lines path rest)

-- the lines of a proof after its title
abbrev pub lines_of : Proof → List ℕ
lines_of (Inclusion size index root leaf path) =
    number_line (codes "size ") size
    (number_line (codes "index ") index
    (hash_line (codes "root ") root (hash_line (codes "leaf ") leaf (path_lines path []))))
lines_of (Consistency first first_root second second_root path) =
    number_line (codes "first ") first
    (hash_line (codes "root ") first_root
    (number_line (codes "second ") second
    (hash_line (codes "root ") second_root (path_lines path []))))

-- the first line of a proof's text, without its newline: the kind of the proof
abbrev pub title_of : Proof → List ℕ
title_of (Inclusion size index root leaf path) = codes "inclusion"
title_of (Consistency first first_root second second_root path) = codes "consistency"

-- the proof can be written: each size and index is at most MAX_SIZE, and the path has at most
-- MAX_PATH hashes
abbrev pub IsWritableProof : Proof → Type 0
IsWritableProof (Inclusion size index root leaf path) =
    (size ≤ MAX_SIZE) × (index ≤ MAX_SIZE) × (length path ≤ MAX_PATH)
IsWritableProof (Consistency first first_root second second_root path) =
    (first ≤ MAX_SIZE) × (second ≤ MAX_SIZE) × (length path ≤ MAX_PATH)

-- each hash of the proof has 32 bytes
abbrev pub HasHashes : Proof → Type 0
HasHashes (Inclusion size index root leaf path) =
    Is32Bytes root × Is32Bytes leaf × AllByRecursion Is32Bytes path
HasHashes (Consistency first first_root second second_root path) =
    Is32Bytes first_root × Is32Bytes second_root × AllByRecursion Is32Bytes path

-- the text is exactly that of the proof
pub record IsProofText (text : List ℕ) (proof : Proof) : Type 0 where
  pub is_text : text ≡ title_of proof ++ 10 ∷ lines_of proof
  pub writable : IsWritableProof proof
  pub hashes : HasHashes proof

-- when a reader of proof texts may return each answer
abbrev pub ReadsProof : List ℕ → Result Proof TextFault → Type 0
ReadsProof text (Ok proof) = IsProofText text proof
ReadsProof text (Err BadProofText) = (proof : Proof) → ¬ IsProofText text proof
ReadsProof text (Err OutOfMemory) = ⊤

-- a text is at most one proof, a proof has one text, and each text has at most MAX_TEXT_LEN bytes
pub record HasOneSpelling : Type 0 where
  pub one_proof : (text : List ℕ) (a b : Proof) → IsProofText text a → IsProofText text b → a ≡ b
  pub one_text : (s t : List ℕ) (proof : Proof) → IsProofText s proof → IsProofText t proof → s ≡ t
  pub short : (text : List ℕ) (proof : Proof) → IsProofText text proof → length text ≤ MAX_TEXT_LEN
  pub longest : (text : List ℕ) (proof : Proof) → IsProofText text proof → length text ≤ 3365

-- the path in a text has at most 64 hashes, and a reader may stop after 8,192 bytes
pub record HasProofLimits : Type 0 where
  pub path : MAX_PATH ≡ 64
  pub text : MAX_TEXT_LEN ≡ 8192
