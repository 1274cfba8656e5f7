-- The file of a copy that CopyDamaged names: what the shelf has at its path, also if that is nothing, is not what the tree over it
-- says (C2SP tlog-tiles, "Merkle Tree", "Log Entries" and "Partial Tiles").
use Rattle.std.specs.Prelude.{◌≡◌, ◌⊎◌, ℕ, List, Option, ⊤}
use Rattle.signed_note.specs.Keys.{Key}
use Rattle.tlog_tiles.specs.declared.paths.Path.{Path}
use Rattle.tlog_tiles.specs.declared.paths.Path.TheVariants.{Checkpoint}
use Rattle.mirror_folders.specs.Shelf.{Put, RecordsRead}
use Rattle.log_reader.specs.EdgeRows.{Edge}
use Rattle.log_reader.specs.FalseEdges.{IsFalseEdge, IsFalsePart}
use Rattle.log_reader.specs.FalseFiles.{IsFalseFile}
use Rattle.log_reader.specs.Ways.{IsShownEdge, IsShownLeaf}
use Rattle.tlog_proof.specs.Made.{Holds}
use Rattle.tlog_proof.specs.Text.{IsWritableProof}
use Rattle.tlog_proof.specs.declared.proof.Ask.{Ask}
use Rattle.tlog_proof.specs.declared.proof.Ask.TheVariants.{Inclusion as AskInclusion}
use Rattle.tlog_proof.specs.declared.proof.Ask.TheVariants.{Consistency as AskConsistency}
use Rattle.tlog_proof.specs.declared.proof.Proof.{Proof}
use Rattle.log_reader.specs.declared.fault.ReadFault.{ReadFault}
use Rattle.log_reader.specs.declared.fault.ReadFault.TheVariants as reading
use Rattle.copy_reader.specs.Copies.{HasCheckpoint}
use Rattle.copy_reader.specs.Proofs.{IsInTree, size_asked}
use Rattle.copy_reader.specs.declared.fault.CopyFault.{CopyFault}
use Rattle.copy_reader.specs.declared.fault.CopyFault.TheVariants.{BadOrigin, Head, CopyDamaged, ShelfFault, OutOfMemory}

-- the file is false in the tree of that edge, or in that of its first entries
abbrev pub IsFalseWithin : (List ℕ → List ℕ) → (Path → Option (List ℕ) → Type 0) → Edge → Path → Type 0
IsFalseWithin digest may edge path =
    IsFalseFile digest may edge path
    ⊎ ((first : Edge) × IsShownEdge digest edge first × IsFalseFile digest may first path)

-- ---- a proof that cannot be given, though no file is at fault

-- the rows that the proof is made of are shown: those from the entry up, or those of the edge of the first entries
abbrev pub AreProofRowsShown : (List ℕ → List ℕ) → Edge → Ask → Type 0
AreProofRowsShown digest edge (AskInclusion n i) = (hash : List ℕ) × IsShownLeaf digest edge i hash
AreProofRowsShown digest edge (AskConsistency m n) = (first : Edge) × (first.size ≡ m) × IsShownEdge digest edge first

-- the same in the tree of the proof: that of all entries, or of the first ones
pub record HasProofRows (digest : List ℕ → List ℕ) (edge : Edge) (ask : Ask) : Type 0 where
  pub tree : Edge
  pub within : (tree ≡ edge) ⊎ IsShownEdge digest edge tree
  pub size_is : tree.size ≡ size_asked ask
  pub shown : AreProofRowsShown digest tree ask

-- the requested proof holds, but is too large for a text
pub record IsTooLarge (digest : List ℕ → List ℕ) (ask : Ask) : Type 0 where
  pub proof : Proof
  pub root : List ℕ
  pub is : IsInTree root ask proof
  pub holds : Holds digest proof
  pub large : ¬ IsWritableProof proof

-- no file is at fault: the rows of the proof are all shown, or it is too large for a text
abbrev pub IsUnprovable : (List ℕ → List ℕ) → Edge → Ask → Type 0
IsUnprovable digest edge ask = HasProofRows digest edge ask ⊎ IsTooLarge digest ask

module _ (digest : List ℕ → List ℕ) (may : Path → Option (List ℕ) → Type 0) (edge : Edge) (ask : Ask) where
  -- the fault of a proof names a file that is false in the tree of that edge. At Collision its rows are shown. Only a private
  -- contract cites this
  abbrev pub NamesInTree : ReadFault → Type 0
  NamesInTree (reading.NoFile path) = IsFalseFile digest may edge path
  NamesInTree (reading.FalseFile path) = IsFalseFile digest may edge path
  NamesInTree reading.Collision = AreProofRowsShown digest edge ask
  NamesInTree reading.Source = ⊤
  NamesInTree reading.OutOfMemory = ⊤

  -- the same, also in the tree of the first entries. Only a private contract cites this
  abbrev pub NamesWithin : ReadFault → Type 0
  NamesWithin (reading.NoFile path) = IsFalseWithin digest may edge path
  NamesWithin (reading.FalseFile path) = IsFalseWithin digest may edge path
  NamesWithin reading.Collision = HasProofRows digest edge ask
  NamesWithin reading.Source = ⊤
  NamesWithin reading.OutOfMemory = ⊤

module _ (digest : List ℕ → List ℕ) (held : Option (List Put)) where
  -- CopyDamaged names a file that is false in the tree of that edge
  abbrev pub NamesDamage : Edge → CopyFault → Type 0
  NamesDamage edge BadOrigin = ⊤
  NamesDamage edge (Head fault) = ⊤
  NamesDamage edge (CopyDamaged path) = IsFalseFile digest (RecordsRead held) edge path
  NamesDamage edge ShelfFault = ⊤
  NamesDamage edge OutOfMemory = ⊤

  -- the same in the making of a proof, also in the tree of the first entries. It names the checkpoint only if no file is at fault
  abbrev pub NamesProofDamage : Edge → Ask → CopyFault → Type 0
  NamesProofDamage edge ask BadOrigin = ⊤
  NamesProofDamage edge ask (Head fault) = ⊤
  NamesProofDamage edge ask (CopyDamaged path) =
      ((path ≡ Checkpoint) × IsUnprovable digest edge ask) ⊎ IsFalseWithin digest (RecordsRead held) edge path
  NamesProofDamage edge ask ShelfFault = ⊤
  NamesProofDamage edge ask OutOfMemory = ⊤

  -- the file is a tile of the edge that is missing or too short, or the lowest of rows that do not lead to the root
  abbrev pub IsDamagedEdge : ℕ → List ℕ → Path → Type 0
  IsDamagedEdge size root path =
      ((level : ℕ) × IsFalsePart (RecordsRead held) size level path)
      ⊎ IsFalseEdge digest (RecordsRead held) size root path

  -- CopyDamaged names such a file
  abbrev pub NamesEdgeDamage : ℕ → List ℕ → CopyFault → Type 0
  NamesEdgeDamage size root BadOrigin = ⊤
  NamesEdgeDamage size root (Head fault) = ⊤
  NamesEdgeDamage size root (CopyDamaged path) = IsDamagedEdge size root path
  NamesEdgeDamage size root ShelfFault = ⊤
  NamesEdgeDamage size root OutOfMemory = ⊤

  -- the same, of the size and root of the copy's checkpoint
  abbrev pub NamesOpenDamage : List ℕ → List Key → CopyFault → Type 0
  NamesOpenDamage origin keys BadOrigin = ⊤
  NamesOpenDamage origin keys (Head fault) = ⊤
  NamesOpenDamage origin keys (CopyDamaged path) =
      (size : ℕ) × (root : List ℕ) × HasCheckpoint origin keys held size root × IsDamagedEdge size root path
  NamesOpenDamage origin keys ShelfFault = ⊤
  NamesOpenDamage origin keys OutOfMemory = ⊤
