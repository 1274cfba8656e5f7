-- The parts of the reader of proof texts. Only contracts of private functions cite these
-- definitions.
use Rattle.std.specs.Prelude.{◌≡◌, ℕ, ◌≤◌, List, [], length, Option, MatchOption, Result, Ok, Err, ⊤}
use Rattle.std.specs.List.{AllByRecursion}
use Rattle.tlog_text.specs.Hash.{Is32Bytes}
use Rattle.tlog_shape.specs.declared.TheConstants.{MAX_SIZE}
use Rattle.tlog_proof.specs.declared.limits.TheConstants.{MAX_PATH}
use Rattle.tlog_proof.specs.declared.proof.Proof.{Proof}
use Rattle.tlog_proof.specs.declared.proof.Proof.TheVariants.{Inclusion, Consistency}
use Rattle.tlog_proof.specs.declared.fault.TextFault.{TextFault}
use Rattle.tlog_proof.specs.declared.fault.TextFault.TheVariants.{BadProofText, OutOfMemory}
use Rattle.tlog_proof.specs.Text.{LacksNewline, line, number_line, hash_line, path_lines}
use Rattle.tlog_proof.specs.Text.{lines_of, IsWritableProof, HasHashes}

-- the reader found a value with the property, unless memory was refused
abbrev pub FindsThat : {X : Type 0} → Result X TextFault → (X → Type 0) → Type 0
FindsThat (Ok x) P = P x
FindsThat (Err BadProofText) P = ⊥
FindsThat (Err OutOfMemory) P = ⊤

-- the lines after the title are those of the proof
pub record AreProofLines (lines : List ℕ) (proof : Proof) : Type 0 where
  pub are_lines : lines ≡ lines_of proof
  pub writable : IsWritableProof proof
  pub hashes : HasHashes proof

-- the proof is an inclusion proof
abbrev pub IsInclusionProof : Proof → Type 0
IsInclusionProof (Inclusion size index root leaf path) = ⊤
IsInclusionProof (Consistency first first_root second second_root path) = ⊥

-- the proof is a consistency proof
abbrev pub IsConsistencyProof : Proof → Type 0
IsConsistencyProof (Inclusion size index root leaf path) = ⊥
IsConsistencyProof (Consistency first first_root second second_root path) = ⊤

-- the reader finds the proof of that kind with these lines, unless memory was refused
abbrev pub FindsProof : (Proof → Type 0) → List ℕ → Result Proof TextFault → Type 0
FindsProof IsOfKind lines result =
    (proof : Proof) → IsOfKind proof → AreProofLines lines proof →
    FindsThat result (λ found. found ≡ proof)

module _ {X : Type 0} where
  -- if the text begins with a line of that name, the reader finds its value and the text after it
  abbrev pub FindsField : (X → List ℕ) → (X → List ℕ) → List ℕ → List ℕ → Option X → Type 0
  FindsField value_of rest_of text name result =
      (value rest : List ℕ) → LacksNewline value → text ≡ line name value rest →
      MatchOption result ⊥ (λ found. (value_of found ≡ value) × (rest_of found ≡ rest))

  -- if the text begins with the line of a number up to the greatest size, the reader finds the
  -- number and the text after it
  abbrev pub FindsNumber : (X → ℕ) → (X → List ℕ) → List ℕ → List ℕ → Option X → Type 0
  FindsNumber number_of rest_of text name result =
      (n : ℕ) (rest : List ℕ) → n ≤ MAX_SIZE → text ≡ number_line name n rest →
      MatchOption result ⊥ (λ found. (number_of found ≡ n) × (rest_of found ≡ rest))

  -- if the text begins with the line of a hash, the reader finds the hash and the text after it
  abbrev pub FindsHash : (X → List ℕ) → (X → List ℕ) → List ℕ → List ℕ → Result X TextFault → Type 0
  FindsHash hash_of rest_of text name result =
      (hash rest : List ℕ) → Is32Bytes hash → text ≡ hash_line name hash rest →
      FindsThat result (λ found. (hash_of found ≡ hash) × (rest_of found ≡ rest))

-- if the text is the lines of a path that is not too long, the reader finds the path, unless memory
-- was refused
abbrev pub FindsPath : List ℕ → Result (List (List ℕ)) TextFault → Type 0
FindsPath text result =
    (path : List (List ℕ)) → AllByRecursion Is32Bytes path → length path ≤ MAX_PATH →
    text ≡ path_lines path [] → FindsThat result (λ found. found ≡ path)
