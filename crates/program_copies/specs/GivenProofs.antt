-- The proofs of a copy are the requested ones, and hold against the root of its checkpoint.
use Rattle.std.specs.Prelude.{◌≡◌, ℕ, ◌≤◌, List, length, Option, Some, None, ⊤}
use Rattle.tlog_shape.specs.declared.TheConstants.{MAX_SIZE}
use Rattle.tlog_hash.specs.Tree.{mth}
use Rattle.tlog_proof.specs.declared.proof.Ask.{Ask}
use Rattle.mirror_folders.specs.Shelf.{Put}
use Rattle.copy_reader.specs.Proofs.{IsProofOf, IsTrueText, IsWithin}
use Rattle.copy_reader.specs.WholeCopies.{HasFilesOf}
use Rattle.program_copies.specs.CopyHeads.{CopyHead}

module _ (digest : List ℕ → List ℕ) (held : Option (List Put)) (size : ℕ) (root : List ℕ) where
  -- the shelf has the files of a log of that size and root, which a checkpoint may have
  pub record HasLogOf (entries : List (List ℕ)) : Type 0 where
    pub size_is : length entries ≡ size
    pub root_is : mth digest entries ≡ root
    pub small : size ≤ MAX_SIZE
    pub files : HasFilesOf digest entries held

  -- the text is that of a requested and accepted proof. The copy has the requested entry or sizes. If the shelf has the files of such
  -- a log, it is the proof of the definitions for its entries
  pub record IsProofGiven (ask : Ask) (text : List ℕ) : Type 0 where
    pub within : IsWithin ask size
    pub is : IsProofOf digest size root ask text
    pub whole : (entries : List (List ℕ)) → HasLogOf entries → IsTrueText digest ask entries text

-- the shelf has the files of a log of the checkpoint's size and root, if there is a checkpoint
abbrev pub HasLogAt : (List ℕ → List ℕ) → Option (List Put) → Option CopyHead → List (List ℕ) → Type 0
HasLogAt digest held None entries = ⊤
HasLogAt digest held (Some head) entries = HasLogOf digest held head.size head.root entries
