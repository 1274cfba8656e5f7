-- The file that CopyDamaged names, from the reads of a shelf whose puts were kept.
use Rattle.std.proofs.Common.{◌≡◌, ◌≢◌, ℕ, List, Option, Result, IfErr, inl, inr, subst}
use Rattle.std.specs.Result.{IsErr, IsErrAnd}
use Rattle.signed_note.specs.Keys.{Key}
use Rattle.tlog_tiles.specs.declared.paths.Path.{Path}
use Rattle.tlog_tiles.specs.declared.paths.Path.TheVariants.{Tile}
use Rattle.mirror_folders.specs.Shelf.{Put, RecordsRead}
use Rattle.mirror_sources.specs.Recorded.{KeepsRecord}
use Rattle.mirror_http.specs.declared.resource.Resource.{Resource}
use Rattle.mirror_http.specs.declared.resource.Resource.TheVariants.{File, Status, Forks, Missing, Proof}
use Rattle.log_reader.specs.EdgeRows.{Edge}
use Rattle.tlog_proof.specs.declared.proof.Ask.{Ask}
use Rattle.log_reader.proofs.FalseEdges.{edge_given}
use Rattle.log_reader.proofs.FalseFiles.{false_given}
use Rattle.copy_reader.specs.Copies.{HasCheckpoint}
use Rattle.copy_reader.specs.Damage.{IsFalseWithin, NamesDamage, NamesEdgeDamage, NamesOpenDamage, NamesProofDamage}
use Rattle.copy_reader.proofs.Damage.{damage_exit}
use Rattle.copy_reader.specs.declared.fault.CopyFault.{CopyFault}
use Rattle.copy_reader.specs.declared.fault.CopyFault.TheVariants.{BadOrigin, Head, CopyDamaged, ShelfFault, OutOfMemory}
use Rattle.copy_reader.proofs.ShelfSources.{recorded_before}
use Rattle.program_copies.specs.Damages.{IsDamagedFile, IsDamagedFor, IsDamagedProof, NamesFile, NamesProof, NamesUnder}
use Rattle.program_copies.specs.GivenFiles.{IsEdgeTo}

module _ (digest : List ℕ → List ℕ) (size : ℕ) (root : List ℕ) where
  module _ (held after : Option (List Put)) (kept : KeepsRecord held after) where
    earlier : (path : Path) → path ≢ Tile 0 0 0 → (answer : Option (List ℕ)) → RecordsRead after path answer →
        RecordsRead held path answer
    earlier path some answer h = recorded_before held after path answer kept h

    file_before : (path : Path) → IsDamagedFile digest after size root path → IsDamagedFile digest held size root path
    file_before path (inl h) = inl (edge_given (RecordsRead held) (RecordsRead after) size earlier digest root path h)
    file_before path (inr h) = inr (h.0, h.1, false_given digest (RecordsRead held) (RecordsRead after) earlier h.0 path h.2)

    within_before : (edge : Edge) (path : Path) → IsFalseWithin digest (RecordsRead after) edge path →
        IsFalseWithin digest (RecordsRead held) edge path
    within_before edge path (inl h) = inl (false_given digest (RecordsRead held) (RecordsRead after) earlier edge path h)
    within_before edge path (inr h) =
        inr (h.0, h.1, false_given digest (RecordsRead held) (RecordsRead after) earlier h.0 path h.2)

    proof_before : (ask : Ask) (path : Path) → IsDamagedProof digest after ask size root path →
        IsDamagedProof digest held ask size root path
    proof_before ask path (inl h) = inl (edge_given (RecordsRead held) (RecordsRead after) size earlier digest root path h)
    proof_before ask path (inr h) = elim h.2 [
      | inl same ↦ inr (h.0, h.1, inl same)
      | inr wrong ↦ inr (h.0, h.1, inr (within_before h.0 path wrong))
    ]

    pub for_before : (r : Resource) (path : Path) → IsDamagedFor digest after size root r path →
        IsDamagedFor digest held size root r path
    for_before (File wanted) path h = file_before path h
    for_before Status path h = h
    for_before Forks path h = h
    for_before (Missing n q) path h = h
    for_before (Proof ask) path h = proof_before ask path h

    -- what was named after the puts were kept is named before
    pub proof_names_before : (ask : Ask) (fault : CopyFault) → NamesProof digest after ask size root fault →
        NamesProof digest held ask size root fault
    proof_names_before ask BadOrigin h = tt
    proof_names_before ask (Head fault) h = tt
    proof_names_before ask (CopyDamaged path) h = proof_before ask path h
    proof_names_before ask ShelfFault h = tt
    proof_names_before ask OutOfMemory h = tt

    pub names_before : (fault : CopyFault) → NamesFile digest after size root fault → NamesFile digest held size root fault
    names_before BadOrigin h = tt
    names_before (Head fault) h = tt
    names_before (CopyDamaged path) h = file_before path h
    names_before ShelfFault h = tt
    names_before OutOfMemory h = tt

  module _ (held : Option (List Put)) where
    -- the file that an opening names
    pub opened_names : (fault : CopyFault) → NamesEdgeDamage digest held size root fault → NamesFile digest held size root fault
    opened_names BadOrigin h = tt
    opened_names (Head fault) h = tt
    opened_names (CopyDamaged path) h = inl h
    opened_names ShelfFault h = tt
    opened_names OutOfMemory h = tt

    pub opened_names_proof : (ask : Ask) (fault : CopyFault) → NamesEdgeDamage digest held size root fault →
        NamesProof digest held ask size root fault
    opened_names_proof ask BadOrigin h = tt
    opened_names_proof ask (Head fault) h = tt
    opened_names_proof ask (CopyDamaged path) h = inl h
    opened_names_proof ask ShelfFault h = tt
    opened_names_proof ask OutOfMemory h = tt

    pub proof_names : (ask : Ask) (edge : Edge) → IsEdgeTo digest size root edge → (fault : CopyFault) →
        NamesProofDamage digest held edge ask fault → NamesProof digest held ask size root fault
    proof_names ask edge to BadOrigin h = tt
    proof_names ask edge to (Head fault) h = tt
    proof_names ask edge to (CopyDamaged path) h = inr (edge, to, h)
    proof_names ask edge to ShelfFault h = tt
    proof_names ask edge to OutOfMemory h = tt

    -- the same, of the copy's checkpoint
    pub file_under : (origin : List ℕ) (keys : List Key) → HasCheckpoint origin keys held size root → (fault : CopyFault) →
        NamesFile digest held size root fault → NamesUnder digest origin keys held (IsDamagedFile digest held) fault
    file_under origin keys has BadOrigin h = tt
    file_under origin keys has (Head fault) h = tt
    file_under origin keys has (CopyDamaged path) h = (size, root, has, h)
    file_under origin keys has ShelfFault h = tt
    file_under origin keys has OutOfMemory h = tt

    pub proof_under : (ask : Ask) (origin : List ℕ) (keys : List Key) → HasCheckpoint origin keys held size root →
        (fault : CopyFault) → NamesProof digest held ask size root fault →
        NamesUnder digest origin keys held (IsDamagedProof digest held ask) fault
    proof_under ask origin keys has BadOrigin h = tt
    proof_under ask origin keys has (Head fault) h = tt
    proof_under ask origin keys has (CopyDamaged path) h = (size, root, has, h)
    proof_under ask origin keys has ShelfFault h = tt
    proof_under ask origin keys has OutOfMemory h = tt

    -- the file that a read names
    pub read_names : (edge : Edge) → IsEdgeTo digest size root edge → (fault : CopyFault) → NamesDamage digest held edge fault →
        NamesFile digest held size root fault
    read_names edge to BadOrigin h = tt
    read_names edge to (Head fault) h = tt
    read_names edge to (CopyDamaged path) h = inr (edge, to, h)
    read_names edge to ShelfFault h = tt
    read_names edge to OutOfMemory h = tt

-- ---- a read of a reader with this edge, after the puts were kept

module _ (digest : List ℕ → List ℕ) (held after : Option (List Put)) (kept : KeepsRecord held after) (edge : Edge) where
  damage_before : (fault : CopyFault) → NamesDamage digest after edge fault → NamesDamage digest held edge fault
  damage_before BadOrigin h = tt
  damage_before (Head fault) h = tt
  damage_before (CopyDamaged path) h =
      false_given digest (RecordsRead held) (RecordsRead after) (λ p some answer r. recorded_before held after p answer kept r) edge
      path h
  damage_before ShelfFault h = tt
  damage_before OutOfMemory h = tt

  pub damage_then : {T : Type 0} (now : Edge) → now ≡ edge → (fault : CopyFault) (result : Result T CopyFault) →
      IsErr result × IsErrAnd result (λ f. f ≡ fault) → NamesDamage digest after now fault →
      IfErr result (NamesDamage digest held edge)
  damage_then now same fault result is h =
      damage_exit (NamesDamage digest held edge) result fault is
      (damage_before fault (subst (λ e. NamesDamage digest after e fault) same h))

-- ---- the opening of a copy

module _ (digest : List ℕ → List ℕ) (origin : List ℕ) (keys : List Key) (held : Option (List Put)) where
  -- the file that the opening of a copy names
  pub opened_under : (fault : CopyFault) → NamesOpenDamage digest held origin keys fault →
      NamesUnder digest origin keys held (IsDamagedFile digest held) fault
  opened_under BadOrigin h = tt
  opened_under (Head fault) h = tt
  opened_under (CopyDamaged path) h = (h.0, h.1, h.2, inl h.3)
  opened_under ShelfFault h = tt
  opened_under OutOfMemory h = tt

  pub opened_under_proof : (ask : Ask) (fault : CopyFault) → NamesOpenDamage digest held origin keys fault →
      NamesUnder digest origin keys held (IsDamagedProof digest held ask) fault
  opened_under_proof ask BadOrigin h = tt
  opened_under_proof ask (Head fault) h = tt
  opened_under_proof ask (CopyDamaged path) h = (h.0, h.1, h.2, inl h.3)
  opened_under_proof ask ShelfFault h = tt
  opened_under_proof ask OutOfMemory h = tt

-- the opened folder has the content of the folder of that name
pub names_there : {T : Type 0} (digest : List ℕ → List ℕ) (origin : List ℕ) (keys : List Key) (x y : Option (List Put))
    (result : Result T CopyFault) → x ≡ y → IfErr result (NamesOpenDamage digest x origin keys) →
    IfErr result (NamesOpenDamage digest y origin keys)
names_there digest origin keys x y result e h =
    subst (λ held. IfErr result (NamesOpenDamage digest held origin keys)) e h
