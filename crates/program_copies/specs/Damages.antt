-- The file that CopyDamaged names: what the shelf has at its path, also if that is nothing, is not what the tree over it says.
use Rattle.std.specs.Prelude.{◌≡◌, ◌⊎◌, ℕ, List, Option, Some, None, ⊤}
use Rattle.signed_note.specs.Keys.{Key}
use Rattle.tlog_tiles.specs.declared.paths.Path.{Path}
use Rattle.tlog_tiles.specs.declared.paths.Path.TheVariants.{Checkpoint}
use Rattle.mirror_folders.specs.Shelf.{Put, RecordsRead}
use Rattle.mirror_model.specs.Heads.{IsHead}
use Rattle.mirror_http.specs.declared.request.Request.{Request}
use Rattle.mirror_http.specs.declared.request.Request.TheVariants.{Nothing, Unreadable, OtherMethod, Unknown, Get}
use Rattle.mirror_http.specs.declared.resource.Resource.{Resource}
use Rattle.mirror_http.specs.declared.resource.Resource.TheVariants.{File, Status, Forks, Missing, Proof}
use Rattle.log_reader.specs.EdgeRows.{Edge}
use Rattle.tlog_proof.specs.declared.proof.Ask.{Ask}
use Rattle.log_reader.specs.FalseFiles.{IsFalseFile}
use Rattle.copy_reader.specs.Copies.{HasCheckpoint, IsRefused}
use Rattle.copy_reader.specs.Damage.{IsDamagedEdge, IsFalseWithin, IsUnprovable, NamesProofDamage}
use Rattle.copy_reader.specs.declared.fault.CopyFault.{CopyFault}
use Rattle.copy_reader.specs.declared.fault.CopyFault.TheVariants.{BadOrigin, Head, CopyDamaged, ShelfFault, OutOfMemory}
use Rattle.program_copies.specs.CopyHeads.{CopyHead}
use Rattle.program_copies.specs.declared.fault.CopyAskFault.{CopyAskFault}
use Rattle.program_copies.specs.declared.fault.CopyAskFault.TheVariants as asking
use Rattle.program_copies.specs.GivenFiles.{IsEdgeTo}

module _ (digest : List ℕ → List ℕ) (held : Option (List Put)) (ask : Ask) (size : ℕ) (root : List ℕ) where
  -- the file is one of the edge, or false in the tree of an edge that leads to the root, or in that of its first entries. It is the
  -- checkpoint only if no file is at fault: the rows of the proof all lead to the root, or it is too large for a text
  abbrev pub IsDamagedProof : Path → Type 0
  IsDamagedProof path =
      IsDamagedEdge digest held size root path
      ⊎ ((edge : Edge) × IsEdgeTo digest size root edge
      × (((path ≡ Checkpoint) × IsUnprovable digest edge ask) ⊎ IsFalseWithin digest (RecordsRead held) edge path))

  -- CopyDamaged names such a file of a proof
  abbrev pub NamesProof : CopyFault → Type 0
  NamesProof BadOrigin = ⊤
  NamesProof (Head fault) = ⊤
  NamesProof (CopyDamaged path) = IsDamagedProof path
  NamesProof ShelfFault = ⊤
  NamesProof OutOfMemory = ⊤

module _ (digest : List ℕ → List ℕ) (held : Option (List Put)) (size : ℕ) (root : List ℕ) where
  -- the file is one of the edge, or false in the tree of an edge that leads to the root
  abbrev pub IsDamagedFile : Path → Type 0
  IsDamagedFile path =
      IsDamagedEdge digest held size root path
      ⊎ ((edge : Edge) × IsEdgeTo digest size root edge × IsFalseFile digest (RecordsRead held) edge path)

  -- the file is damaged, and the resource needs it
  abbrev pub IsDamagedFor : Resource → Path → Type 0
  IsDamagedFor (File wanted) path = IsDamagedFile path
  IsDamagedFor Status path = ⊥
  IsDamagedFor Forks path = ⊥
  IsDamagedFor (Missing n r) path = ⊥
  IsDamagedFor (Proof ask) path = IsDamagedProof digest held ask size root path

  -- CopyDamaged names such a file
  abbrev pub NamesFor : Resource → CopyFault → Type 0
  NamesFor resource BadOrigin = ⊤
  NamesFor resource (Head fault) = ⊤
  NamesFor resource (CopyDamaged path) = IsDamagedFor resource path
  NamesFor resource ShelfFault = ⊤
  NamesFor resource OutOfMemory = ⊤

  -- CopyDamaged names such a file of a tile or a bundle
  abbrev pub NamesFile : CopyFault → Type 0
  NamesFile BadOrigin = ⊤
  NamesFile (Head fault) = ⊤
  NamesFile (CopyDamaged path) = IsDamagedFile path
  NamesFile ShelfFault = ⊤
  NamesFile OutOfMemory = ⊤

module _ (digest : List ℕ → List ℕ) (origin : List ℕ) (keys : List Key) (held : Option (List Put)) where
  -- CopyDamaged names a file that is damaged so in the log of the copy's checkpoint
  abbrev pub NamesUnder : (ℕ → List ℕ → Path → Type 0) → CopyFault → Type 0
  NamesUnder IsOne BadOrigin = ⊤
  NamesUnder IsOne (Head fault) = ⊤
  NamesUnder IsOne (CopyDamaged path) =
      (size : ℕ) × (root : List ℕ) × HasCheckpoint origin keys held size root × IsOne size root path
  NamesUnder IsOne ShelfFault = ⊤
  NamesUnder IsOne OutOfMemory = ⊤

  -- the reason why a copy is not read, with such a file
  pub record IsRefusedFor (IsOne : ℕ → List ℕ → Path → Type 0) (fault : CopyFault) : Type 0 where
    pub refused : IsRefused digest origin keys held fault
    pub named : NamesUnder IsOne fault

-- the fault of a proof on a log whose checkpoint was read. Only a private contract cites it
abbrev pub NamesAsked : (List ℕ → List ℕ) → Option (List Put) → Edge → Ask → CopyAskFault → Type 0
NamesAsked digest held edge ask (asking.Copy fault) = NamesProofDamage digest held edge ask fault
NamesAsked digest held edge ask (asking.Heads fault) = ⊤
NamesAsked digest held edge ask (asking.Ask fault) = ⊤

-- the same under that checkpoint, if there is one
abbrev pub IsDamagedAt : (List ℕ → List ℕ) → Option (List Put) → Option CopyHead → Resource → Path → Type 0
IsDamagedAt digest held None resource path = ⊥
IsDamagedAt digest held (Some head) resource path = IsDamagedFor digest held head.size head.root resource path

abbrev pub NamesAt : (List ℕ → List ℕ) → Option (List Put) → Option CopyHead → Resource → CopyFault → Type 0
NamesAt digest held head resource BadOrigin = ⊤
NamesAt digest held head resource (Head fault) = ⊤
NamesAt digest held head resource (CopyDamaged path) = IsDamagedAt digest held head resource path
NamesAt digest held head resource ShelfFault = ⊤
NamesAt digest held head resource OutOfMemory = ⊤

module _ (digest : List ℕ → List ℕ) (origin : List ℕ) (held : Option (List Put)) where
  -- the checkpoint on the shelf is none of the origin
  pub record IsBadHead (path : Path) : Type 0 where
    pub path_is : path ≡ Checkpoint
    pub note : List ℕ
    pub stands : RecordsRead held Checkpoint (Some note)
    pub bad : (size : ℕ) (root : List ℕ) → ¬ IsHead note origin size root

  -- the file is damaged under the checkpoint on the shelf, and the resource needs it
  pub record IsBadFile (resource : Resource) (path : Path) : Type 0 where
    pub head : CopyHead
    pub stands : RecordsRead held Checkpoint (Some head.note)
    pub is_head : IsHead head.note origin head.size head.root
    pub damaged : IsDamagedFor digest held head.size head.root resource path

  -- the file of that path is damaged, and the request needs it
  abbrev pub IsDamagedBy : Request → Path → Type 0
  IsDamagedBy Nothing path = ⊥
  IsDamagedBy Unreadable path = ⊥
  IsDamagedBy OtherMethod path = ⊥
  IsDamagedBy Unknown path = ⊥
  IsDamagedBy (Get resource) path = IsBadHead path ⊎ IsBadFile resource path
