-- The file that CopyDamaged names is damaged.
use Rattle.std.proofs.Common.{◌≡◌, ◌≢◌, ℕ, List, Option, Some, Result, Ok, Err, IfErr, IsErr, IsErrAnd, inl, inr, refl, sym, subst}
use Rattle.signed_note.specs.Keys.{Key}
use Rattle.tlog_tiles.specs.declared.paths.Path.{Path}
use Rattle.tlog_tiles.specs.declared.paths.Path.TheVariants.{Checkpoint, Entries, Tile}
use Rattle.mirror_folders.specs.Shelf.{Put, RecordsRead}
use Rattle.mirror_model.specs.Heads.{IsOpenHead}
use Rattle.mirror_sources.specs.Recorded.{KeepsRecord}
use Rattle.mirror_sources.specs.Source.{StaysWithin}
use Rattle.log_reader.specs.EdgeRows.{Edge}
use Rattle.log_reader.specs.FalseEdges.{IsEdgeGiven, NamesFalseEdge}
use Rattle.log_reader.specs.FalseFiles.{IsFalseFile, NamesFalse}
use Rattle.log_reader.specs.Ways.{IsShownEdge}
use Rattle.log_reader.specs.declared.fault.ReadFault.{ReadFault}
use Rattle.log_reader.specs.declared.fault.ReadFault.TheVariants as reading
use Rattle.log_reader.proofs.FalseEdges.{edge_given, rows_given}
use Rattle.log_reader.specs.Parts.{IsPartGiven}
use Rattle.log_reader.proofs.FalseFiles.{false_given}
use Rattle.log_reader.proofs.Parts.{bundle_from}
use Rattle.copy_reader.specs.Copies.{HasCheckpoint, RefusesNote}
use Rattle.tlog_proof.specs.Made.{Holds}
use Rattle.tlog_proof.specs.Text.{IsWritableProof}
use Rattle.tlog_proof.specs.declared.proof.Ask.{Ask}
use Rattle.tlog_proof.specs.declared.proof.Ask.TheVariants.{Inclusion as AskInclusion, Consistency as AskConsistency}
use Rattle.tlog_proof.specs.declared.proof.Proof.{Proof}
use Rattle.tlog_proof.specs.declared.proof.Proof.TheVariants.{Inclusion, Consistency}
use Rattle.copy_reader.specs.Proofs.{IsAsked, IsInTree, size_asked}
use Rattle.copy_reader.specs.Damage.{IsFalseWithin, IsTooLarge, NamesDamage, NamesEdgeDamage, NamesInTree, NamesOpenDamage, NamesProofDamage, NamesWithin}
use Rattle.copy_reader.specs.Faults.{by_read}
use Rattle.copy_reader.specs.ShelfSources.{ShelfMayAnswer}
use Rattle.copy_reader.specs.declared.fault.CopyFault.{CopyFault}
use Rattle.copy_reader.specs.declared.fault.CopyFault.TheVariants as copy
use Rattle.copy_reader.proofs.ShelfSources.{recorded_before}

pub damage_exit : {T E : Type 0} (P : E → Type 0) (result : Result T E) (fault : E) →
    IsErr result × IsErrAnd result (λ f. f ≡ fault) → P fault → IfErr result P
damage_exit P (Ok x) fault is h = tt
damage_exit P (Err f) fault is h = subst P (sym is.1) h

-- ---- a source over a shelf

module _ (digest : List ℕ → List ℕ) (name : ℕ) (before held : Option (List Put)) (same : before ≡ held) where
  recorded : (path : Path) → path ≢ Tile 0 0 0 → (answer : Option (List ℕ)) → ShelfMayAnswer name before path answer →
      RecordsRead held path answer
  recorded path some answer (inl h) = subst (λ s. RecordsRead s path answer) same h.1
  recorded path some answer (inr h) = absurd (some h.0)

  file_recorded : (edge : Edge) (path : Path) → IsFalseFile digest (ShelfMayAnswer name before) edge path →
      IsFalseFile digest (RecordsRead held) edge path
  file_recorded edge path f = false_given digest (RecordsRead held) (ShelfMayAnswer name before) recorded edge path f

  pub read_damage : (edge : Edge) (fault : ReadFault) → NamesFalse digest (ShelfMayAnswer name before) edge fault →
      NamesDamage digest held edge (by_read fault)
  read_damage edge (reading.NoFile path) h = file_recorded edge path h
  read_damage edge (reading.FalseFile path) h = file_recorded edge path h
  read_damage edge reading.Collision h = absurd h
  read_damage edge reading.Source h = tt
  read_damage edge reading.OutOfMemory h = tt

  within_recorded : (edge : Edge) (path : Path) → IsFalseWithin digest (ShelfMayAnswer name before) edge path →
      IsFalseWithin digest (RecordsRead held) edge path
  within_recorded edge path (inl h) = inl (file_recorded edge path h)
  within_recorded edge path (inr h) = inr (h.0, h.1, file_recorded h.0 path h.2)

  pub proof_damage : (edge : Edge) (ask : Ask) (fault : ReadFault) →
      NamesWithin digest (ShelfMayAnswer name before) edge ask fault → NamesProofDamage digest held edge ask (by_read fault)
  proof_damage edge ask (reading.NoFile path) h = inr (within_recorded edge path h)
  proof_damage edge ask (reading.FalseFile path) h = inr (within_recorded edge path h)
  proof_damage edge ask reading.Collision h = inl (refl, inl h)
  proof_damage edge ask reading.Source h = tt
  proof_damage edge ask reading.OutOfMemory h = tt

  pub edge_recorded : (size : ℕ) (edge : Edge) → IsEdgeGiven (ShelfMayAnswer name before) size edge →
      IsEdgeGiven (RecordsRead held) size edge
  edge_recorded size edge h = rows_given (RecordsRead held) (ShelfMayAnswer name before) size recorded edge h

  pub bundle_recorded : (index width : ℕ) (bytes : List ℕ) →
      IsPartGiven (ShelfMayAnswer name before) (Entries index width) bytes → IsPartGiven (RecordsRead held) (Entries index width) bytes
  bundle_recorded index width bytes h =
      bundle_from (RecordsRead held) (ShelfMayAnswer name before) recorded index width bytes h

  pub edge_damage : (size : ℕ) (root : List ℕ) (fault : ReadFault) →
      NamesFalseEdge digest (ShelfMayAnswer name before) size root fault → NamesEdgeDamage digest held size root (by_read fault)
  edge_damage size root (reading.NoFile path) h =
      edge_given (RecordsRead held) (ShelfMayAnswer name before) size recorded digest root path h
  edge_damage size root (reading.FalseFile path) h =
      edge_given (RecordsRead held) (ShelfMayAnswer name before) size recorded digest root path h
  edge_damage size root reading.Collision h = absurd h
  edge_damage size root reading.Source h = tt
  edge_damage size root reading.OutOfMemory h = tt

-- ---- in the tree of the first entries

module _ (digest : List ℕ → List ℕ) (may : Path → Option (List ℕ) → Type 0) (edge : Edge) (ask : Ask) where
  pub whole_within : edge.size ≡ size_asked ask → (fault : ReadFault) → NamesInTree digest may edge ask fault →
      NamesWithin digest may edge ask fault
  whole_within size (reading.NoFile path) h = inl h
  whole_within size (reading.FalseFile path) h = inl h
  whole_within size reading.Collision h = record { tree = edge; within = inl refl; size_is = size; shown = h }
  whole_within size reading.Source h = tt
  whole_within size reading.OutOfMemory h = tt

  pub rows_in_tree : (fault : ReadFault) → NamesFalse digest may edge fault → NamesInTree digest may edge ask fault
  rows_in_tree (reading.NoFile path) h = h
  rows_in_tree (reading.FalseFile path) h = h
  rows_in_tree reading.Collision h = absurd h
  rows_in_tree reading.Source h = tt
  rows_in_tree reading.OutOfMemory h = tt

  pub read_within : (fault : ReadFault) → NamesFalse digest may edge fault → NamesWithin digest may edge ask fault
  read_within (reading.NoFile path) h = inl h
  read_within (reading.FalseFile path) h = inl h
  read_within reading.Collision h = absurd h
  read_within reading.Source h = tt
  read_within reading.OutOfMemory h = tt

  module _ (first : Edge) (shown : IsShownEdge digest edge first) (later : Path → Option (List ℕ) → Type 0)
      (stays : StaysWithin may later) (size : first.size ≡ size_asked ask) where
    before : (path : Path) → IsFalseFile digest later first path → IsFalseFile digest may first path
    before path h = false_given digest may later (λ p some answer given. stays.stays p answer given) first path h

    pub first_within : (fault : ReadFault) → NamesInTree digest later first ask fault → NamesWithin digest may edge ask fault
    first_within (reading.NoFile path) h = inr (first, shown, before path h)
    first_within (reading.FalseFile path) h = inr (first, shown, before path h)
    first_within reading.Collision h = record { tree = first; within = inr shown; size_is = size; shown = h }
    first_within reading.Source h = tt
    first_within reading.OutOfMemory h = tt

-- a requested proof that cannot be written
module _ (digest : List ℕ → List ℕ) (size : ℕ) (root : List ℕ) where
  in_tree : (ask : Ask) (proof : Proof) → IsAsked digest size root ask proof → (r : List ℕ) × IsInTree r ask proof
  in_tree (AskInclusion n i) (Inclusion n' i' r leaf path) p = (r, (p.0, p.1, refl))
  in_tree (AskInclusion n i) (Consistency m r n' r' path) p = absurd p
  in_tree (AskConsistency m n) (Inclusion n' i r leaf path) p = absurd p
  in_tree (AskConsistency m n) (Consistency m' r n' r' path) p = (r', (p.0, p.1, refl))

  pub too_large : (ask : Ask) (proof : Proof) → IsAsked digest size root ask proof → Holds digest proof →
      ¬ IsWritableProof proof → IsTooLarge digest ask
  too_large ask proof asked holds large =
      let found = in_tree ask proof asked in
      record { proof = proof; root = found.0; is = found.1; holds = holds; large = large }

-- ---- the opened checkpoint

module _ (digest : List ℕ → List ℕ) (origin : List ℕ) (keys : List Key) (held after : Option (List Put))
    (kept : KeepsRecord held after) (size : ℕ) (root note text : List ℕ) (same : text ≡ note)
    (stands : RecordsRead held Checkpoint (Some note)) (opens : IsOpenHead text origin keys size root) where
  checkpoint : HasCheckpoint origin keys held size root
  checkpoint = record {
    note = note;
    stands = stands;
    opens = subst (λ b. IsOpenHead b origin keys size root) same opens;
  }

  earlier : (path : Path) → path ≢ Tile 0 0 0 → (answer : Option (List ℕ)) → RecordsRead after path answer →
      RecordsRead held path answer
  earlier path some answer h = recorded_before held after path answer kept h

  pub open_damage : (fault : CopyFault) → NamesEdgeDamage digest after size root fault →
      NamesOpenDamage digest held origin keys fault
  open_damage copy.BadOrigin h = tt
  open_damage (copy.Head fault) h = tt
  open_damage (copy.CopyDamaged path) h = (
    size,
    root,
    checkpoint,
    edge_given (RecordsRead held) (RecordsRead after) size earlier digest root path h,
  )
  open_damage copy.ShelfFault h = tt
  open_damage copy.OutOfMemory h = tt

-- the rows of an edge that are given after the puts were kept could be given before
pub edge_before : (held after : Option (List Put)) → KeepsRecord held after → (size : ℕ) (edge : Edge) →
    IsEdgeGiven (RecordsRead after) size edge → IsEdgeGiven (RecordsRead held) size edge
edge_before held after kept size edge h =
    rows_given (RecordsRead held) (RecordsRead after) size (λ path some answer r. recorded_before held after path answer kept r) edge h

-- a bundle that is given after the puts were kept could be given before
pub bundle_before : (held after : Option (List Put)) → KeepsRecord held after → (index width : ℕ) (bytes : List ℕ) →
    IsPartGiven (RecordsRead after) (Entries index width) bytes → IsPartGiven (RecordsRead held) (Entries index width) bytes
bundle_before held after kept index width bytes h =
    bundle_from (RecordsRead held) (RecordsRead after) (λ path some answer r. recorded_before held after path answer kept r) index
    width bytes h

-- the fault of a note that is the copy's checkpoint
pub note_damage : (digest : List ℕ → List ℕ) (held : Option (List Put)) (note origin : List ℕ) (keys : List Key)
    (fault : CopyFault) → RefusesNote note origin keys fault → NamesOpenDamage digest held origin keys fault
note_damage digest held note origin keys copy.BadOrigin h = tt
note_damage digest held note origin keys (copy.Head fault) h = tt
note_damage digest held note origin keys (copy.CopyDamaged path) h = absurd h
note_damage digest held note origin keys copy.ShelfFault h = tt
note_damage digest held note origin keys copy.OutOfMemory h = tt
