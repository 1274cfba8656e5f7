-- The reads of the command `entries` from a copy, and its output.
use Rattle.std.specs.Prelude.{◌≡◌, ◌⊎◌, ℕ, ◌<◌, ◌≤◌, List, Bool, Option, None, Some, Result, Ok, Err, ⊤}
use Rattle.std.specs.Io.KnownBytes.{Keeps}
use Rattle.signed_note.specs.Keys.{Key}
use Rattle.tlog_tiles.specs.declared.paths.Path.{Path}
use Rattle.tlog_tiles.specs.declared.paths.Path.TheVariants.{Checkpoint}
use Rattle.mirror_sources.specs.Recorded.{one_more}
use Rattle.mirror_folders.specs.Shelf.{Put, RecordsRead}
use Rattle.log_reader.specs.EdgeRows.{Edge, hash_of_edge}
use Rattle.log_reader.specs.FalseFiles.{IsFalseFile}
use Rattle.log_reader.specs.Ways.{HasEdgeHashes}
use Rattle.copy_reader.specs.Copies.{HasCheckpoint, RefusesCheckpoint}
use Rattle.copy_reader.specs.Damage.{IsDamagedEdge}
use Rattle.copy_reader.specs.WholeCopies.{IsDamaged, IsWholeCopy}
use Rattle.copy_reader.specs.declared.fault.CopyFault.{CopyFault}
use Rattle.copy_reader.specs.declared.fault.CopyFault.TheVariants as copy
use Rattle.program_copies.specs.Served.{WritesAll, WritesFirst}
use Rattle.program_copies.specs.Shown.{WritesShown, WritesSomeShown}
use Rattle.program_copies.specs.declared.entries_fault.CopyEntriesFault.{CopyEntriesFault}
use Rattle.program_copies.specs.declared.entries_fault.CopyEntriesFault.TheVariants.{NothingComplete, Head, CopyDamaged, ShelfFault}
use Rattle.program_copies.specs.declared.entries_fault.CopyEntriesFault.TheVariants.{NoSuchSize, Backwards, WriteFault, OutOfMemory}

-- the fault of the command for a fault of a copy. BadOrigin never comes
abbrev pub by_copy : CopyFault → CopyEntriesFault
by_copy copy.BadOrigin = CopyDamaged Checkpoint
by_copy (copy.Head fault) = Head fault
by_copy (copy.CopyDamaged path) = CopyDamaged path
by_copy copy.ShelfFault = ShelfFault
by_copy copy.OutOfMemory = OutOfMemory

-- the shelf's number of failures rises only at a ShelfFault
abbrev pub CountsFault : ℕ → ℕ → CopyEntriesFault → Type 0
CountsFault old new NothingComplete = new ≡ old
CountsFault old new (Head fault) = new ≡ old
CountsFault old new (CopyDamaged path) = new ≡ old
CountsFault old new ShelfFault = new ≡ one_more old
CountsFault old new NoSuchSize = new ≡ old
CountsFault old new Backwards = new ≡ old
CountsFault old new WriteFault = new ≡ old
CountsFault old new OutOfMemory = new ≡ old

-- the same for an answer
abbrev pub CountsCopy : {T : Type 0} → ℕ → ℕ → Result T CopyEntriesFault → Type 0
CountsCopy old new (Ok x) = new ≡ old
CountsCopy old new (Err fault) = CountsFault old new fault

-- the fault is one of reading files
abbrev pub IsOfFiles : CopyEntriesFault → Type 0
IsOfFiles NothingComplete = ⊥
IsOfFiles (Head fault) = ⊥
IsOfFiles (CopyDamaged path) = ⊤
IsOfFiles ShelfFault = ⊤
IsOfFiles NoSuchSize = ⊥
IsOfFiles Backwards = ⊥
IsOfFiles WriteFault = ⊥
IsOfFiles OutOfMemory = ⊤

-- the fault is one of reading files, or of writing
abbrev pub IsOfWriting : CopyEntriesFault → Type 0
IsOfWriting NothingComplete = ⊥
IsOfWriting (Head fault) = ⊥
IsOfWriting (CopyDamaged path) = ⊤
IsOfWriting ShelfFault = ⊤
IsOfWriting NoSuchSize = ⊥
IsOfWriting Backwards = ⊥
IsOfWriting WriteFault = ⊤
IsOfWriting OutOfMemory = ⊤

-- the fault is not CopyDamaged
abbrev pub IsUndamaged : CopyEntriesFault → Type 0
IsUndamaged NothingComplete = ⊤
IsUndamaged (Head fault) = ⊤
IsUndamaged (CopyDamaged path) = ⊥
IsUndamaged ShelfFault = ⊤
IsUndamaged NoSuchSize = ⊤
IsUndamaged Backwards = ⊤
IsUndamaged WriteFault = ⊤
IsUndamaged OutOfMemory = ⊤

-- the fault of the entries from FROM up to TO of a log of that size
abbrev pub IsRangeFault : ℕ → ℕ → ℕ → Option CopyEntriesFault → Type 0
IsRangeFault from to size None = (from ≤ to) × (to ≤ size)
IsRangeFault from to size (Some NothingComplete) = ⊥
IsRangeFault from to size (Some (Head fault)) = ⊥
IsRangeFault from to size (Some (CopyDamaged path)) = ⊥
IsRangeFault from to size (Some ShelfFault) = ⊥
IsRangeFault from to size (Some NoSuchSize) = size < to
IsRangeFault from to size (Some Backwards) = (to ≤ size) × (to < from)
IsRangeFault from to size (Some WriteFault) = ⊥
IsRangeFault from to size (Some OutOfMemory) = ⊥

-- the entries of a list were written, or a prefix of them was. In the latter case the fault is not CopyDamaged
abbrev pub EndsWritten : {T : Type 0} → List (List ℕ) → Bool → ℕ → ℕ → (old new : Option (List ℕ)) →
    Result T CopyEntriesFault → Type 0
EndsWritten entries base64 from to old new (Ok x) = WritesAll entries base64 from to old new
EndsWritten entries base64 from to old new (Err fault) =
    IsUndamaged fault × WritesFirst entries base64 from to old new

-- CopyDamaged names a file that is false in the tree of that edge. Only private contracts cite it
abbrev pub NamesFalseIn : (List ℕ → List ℕ) → Option (List Put) → Edge → CopyEntriesFault → Type 0
NamesFalseIn digest held edge NothingComplete = ⊤
NamesFalseIn digest held edge (Head fault) = ⊤
NamesFalseIn digest held edge (CopyDamaged path) = IsFalseFile digest (RecordsRead held) edge path
NamesFalseIn digest held edge ShelfFault = ⊤
NamesFalseIn digest held edge NoSuchSize = ⊤
NamesFalseIn digest held edge Backwards = ⊤
NamesFalseIn digest held edge WriteFault = ⊤
NamesFalseIn digest held edge OutOfMemory = ⊤

module _ (digest : List ℕ → List ℕ) (origin : List ℕ) (keys : List Key) (held : Option (List Put)) where
  -- the file is a tile of the edge of the copy's checkpoint that is missing or too short, or the lowest of rows that do not lead to its root
  abbrev pub IsDamagedAtEdge : Path → Type 0
  IsDamagedAtEdge path =
      (size : ℕ) × (root : List ℕ) × HasCheckpoint origin keys held size root × IsDamagedEdge digest held size root path

  -- the reason why a copy is not opened, by the content of the folder
  abbrev pub RefusesCopy : CopyEntriesFault → Type 0
  RefusesCopy NothingComplete = RecordsRead held Checkpoint None
  RefusesCopy (Head fault) = RefusesCheckpoint origin keys held fault
  RefusesCopy (CopyDamaged path) = IsDamaged digest origin held × IsDamagedAtEdge path
  RefusesCopy ShelfFault = ⊤
  RefusesCopy NoSuchSize = ⊥
  RefusesCopy Backwards = ⊥
  RefusesCopy WriteFault = ⊥
  RefusesCopy OutOfMemory = ⊤

  -- the folder's checkpoint is a note that opens under the keys, and the edge leads to its root
  pub record IsOpenCopy (edge : Edge) : Type 0 where
    pub root : List ℕ
    pub checkpoint : HasCheckpoint origin keys held edge.size root
    pub hashes : HasEdgeHashes edge
    pub leads : hash_of_edge digest edge ≡ root

  -- the file is one of that edge, or false in the tree of the copy's checkpoint: what the shelf has at its path, also if that is nothing, is
  -- not what the tree says
  abbrev pub IsDamagedIn : Path → Type 0
  IsDamagedIn path =
      IsDamagedAtEdge path ⊎ ((edge : Edge) × IsOpenCopy edge × IsFalseFile digest (RecordsRead held) edge path)

  module _ (from to : ℕ) (base64 : Bool) (old new : Option (List ℕ)) where
    -- the copy's entries from FROM up to TO were written. If the copy is whole, they are its log's entries
    pub record WritesCopied : Type 0 where
      pub edge : Edge
      pub opened : IsOpenCopy edge
      pub rises : from ≤ to
      pub within : to ≤ edge.size
      pub written : WritesShown digest edge base64 from to old new
      pub whole : (note : List ℕ) (entries : List (List ℕ)) → IsWholeCopy digest origin note entries held →
          WritesAll entries base64 from to old new

    -- the copy has TO entries, and the writing of them ended early
    pub record WritesSomeCopied : Type 0 where
      pub edge : Edge
      pub opened : IsOpenCopy edge
      pub rises : from ≤ to
      pub within : to ≤ edge.size
      pub written : WritesSomeShown digest edge base64 from to old new
      pub whole : (note : List ℕ) (entries : List (List ℕ)) → IsWholeCopy digest origin note entries held →
          WritesFirst entries base64 from to old new

    -- the copy has fewer than TO entries
    pub record HasFewerCopied : Type 0 where
      pub edge : Edge
      pub opened : IsOpenCopy edge
      pub fewer : edge.size < to

    -- the copy has TO entries, and FROM is larger
    pub record HasBackwardsCopied : Type 0 where
      pub edge : Edge
      pub opened : IsOpenCopy edge
      pub within : to ≤ edge.size
      pub falls : to < from

    -- the facts about the folder and the output at each answer of the command
    abbrev pub AnswersCopied : {T : Type 0} → Result T CopyEntriesFault → Type 0
    AnswersCopied (Ok x) = WritesCopied
    AnswersCopied (Err NothingComplete) = RefusesCopy NothingComplete × Keeps old new
    AnswersCopied (Err (Head fault)) = RefusesCopy (Head fault) × Keeps old new
    AnswersCopied (Err (CopyDamaged path)) =
        (Keeps old new ⊎ WritesSomeCopied) × IsDamaged digest origin held × IsDamagedIn path
    AnswersCopied (Err ShelfFault) = Keeps old new ⊎ WritesSomeCopied
    AnswersCopied (Err NoSuchSize) = HasFewerCopied × Keeps old new
    AnswersCopied (Err Backwards) = HasBackwardsCopied × Keeps old new
    AnswersCopied (Err WriteFault) = WritesSomeCopied
    AnswersCopied (Err OutOfMemory) = Keeps old new ⊎ WritesSomeCopied
