-- The answer and the output of the command `root`. Only contracts of private functions cite `MakesRoot`.
use Rattle.std.specs.Prelude.{◌≡◌, ℕ, List, ◌∷◌, ◌++◌, Option, Result, Ok, Err, codes, ⊤}
use Rattle.std.specs.Io.KnownBytes.{Appends}
use Rattle.std.specs.Fmt.{decimal}
use Rattle.byte_streams.specs.Streams.{AppendsPrefix}
use Rattle.tlog_text.specs.Hash.{base64_of}
use Rattle.tlog_hash.specs.Tree.{mth}
use Rattle.tlog_tiles.specs.Bundle.{IsBundle, HasBundle}
use Rattle.program_io.specs.declared.root.RootFault.{RootFault}
use Rattle.program_io.specs.declared.root.RootFault.TheVariants.{BundleShort, BundleLong}
use Rattle.program_io.specs.declared.root.RootFault.TheVariants.{ReadFault, WriteFault}
use Rattle.program_io.specs.declared.root.RootFault.TheVariants.{OutOfMemory}

-- the two lines with a size and a root, the root in standard base64
abbrev pub root_text : ℕ → List ℕ → List ℕ
root_text size root =
    codes "size " ++ (decimal size ++ (codes "\nroot " ++ (base64_of root ++ codes "\n")))

module _ (digest : List ℕ → List ℕ) where
  -- the complete input is a bundle of that width, and the text is the one for it
  pub record IsTextOf (width : ℕ) (input text : List ℕ) : Type 0 where
    pub entries : List (List ℕ)
    pub is_bundle : IsBundle width input entries
    pub text_is : text ≡ root_text width (mth digest entries)

  -- the meaning of each answer of the command for the input and the output
  abbrev pub AnswersRoot : {T : Type 0} → ℕ → List ℕ → Option (List ℕ) → Option (List ℕ) →
      Result T RootFault → Type 0
  AnswersRoot width input old new (Ok x) =
      (text : List ℕ) × IsTextOf width input text × Appends old new text
  AnswersRoot width input old new (Err BundleShort) =
      (rest : List ℕ) → ¬ HasBundle width input rest
  AnswersRoot width input old new (Err BundleLong) =
      (next : ℕ) × (rest : List ℕ) × HasBundle width input (next ∷ rest)
  AnswersRoot width input old new (Err ReadFault) = ⊤
  AnswersRoot width input old new (Err WriteFault) =
      (text : List ℕ) × IsTextOf width input text × AppendsPrefix old new text
  AnswersRoot width input old new (Err OutOfMemory) = ⊤

  -- the meaning of each answer of the maker of the text for the input
  abbrev pub MakesRoot : ℕ → List ℕ → Result (List ℕ) RootFault → Type 0
  MakesRoot width input (Ok text) = IsTextOf width input text
  MakesRoot width input (Err BundleShort) = (rest : List ℕ) → ¬ HasBundle width input rest
  MakesRoot width input (Err BundleLong) =
      (next : ℕ) × (rest : List ℕ) × HasBundle width input (next ∷ rest)
  MakesRoot width input (Err ReadFault) = ⊤
  MakesRoot width input (Err WriteFault) = ⊥
  MakesRoot width input (Err OutOfMemory) = ⊤
