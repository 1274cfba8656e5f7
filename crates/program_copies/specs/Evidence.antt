-- The evidence of forks as files: their names, their bytes, and the puts. No standard defines these names.
use Rattle.std.specs.Prelude.{◌≡◌, ◌⊎◌, ℕ, List, [], ◌∷◌, ◌++◌, length, codes, Bool, true, false, ◌&&◌, nat_le, if◌then◌else◌, Option, Some, None, Result, Ok, Err, ⊤}
use Rattle.std.specs.Fmt.{decimal}
use Rattle.std.specs.List.{flat_map}
use Rattle.tlog_shape.specs.declared.TheConstants.{MAX_SIZE}
use Rattle.hex.specs.Hex.{encode_lower}
use Rattle.tlog_proof.specs.Text.{lines_of, title_of}
use Rattle.tlog_proof.specs.declared.proof.Proof.{Proof}
use Rattle.tlog_proof.specs.declared.proof.Proof.TheVariants.{Inclusion, Consistency}
use Rattle.signed_note.specs.Keys.{Key}
use Rattle.mirror_model.specs.Forks.{Point}
use Rattle.mirror_model.specs.Heads.{IsOpenHead}
use Rattle.copy_places.specs.Candidates.{point_of}
use Rattle.copy_places.specs.declared.candidate.Candidate.{Candidate}
use Rattle.copy_places.specs.declared.fork_line.ForkLine.{ForkLine}
use Rattle.program_io.specs.Named.{NamedFile, RecordsLong, contents_of}
use Rattle.program_io.specs.declared.file_fault.NamedFault.{NamedFault}
use Rattle.program_io.specs.declared.file_fault.NamedFault.TheVariants.{FileFault, OutOfMemory}

-- ---- names

-- a size and a root in the form of a file's name: the root is 64 hexadecimal digits in lower case
abbrev pub point_name : ℕ → List ℕ → List ℕ → List ℕ
point_name size root rest = decimal size ++ (codes "-" ++ (encode_lower root ++ rest))

-- `FOLDER/SIZE-ROOT-0.note`
abbrev pub note_place : List ℕ → ℕ → List ℕ → List ℕ
note_place folder size root = folder ++ (codes "/" ++ point_name size root (codes "-0.note"))

-- `FOLDER/SMALL-ROOT-LARGE-ROOT.proof`
abbrev pub proof_place : List ℕ → ForkLine → List ℕ
proof_place folder line =
    folder ++ (codes "/" ++ point_name line.small.size.0 line.small.root
    (codes "-" ++ point_name line.large.size.0 line.large.root (codes ".proof")))

-- ---- files

-- a file of evidence: its name and its bytes. A note has its size and root beside them
pub record EvidenceFile : Type 0 where
  pub file : NamedFile
  pub point : Option Point

abbrev pub wanted_file : List ℕ → List ℕ → Option Point → EvidenceFile
wanted_file name bytes point = record { file = (name, bytes); point = point }

-- the note of a checkpoint, under that name
abbrev pub note_as : List ℕ → Candidate → EvidenceFile
note_as name note = wanted_file name note.note.items (Some (point_of note))

-- the note of a checkpoint
abbrev pub note_file : List ℕ → Candidate → EvidenceFile
note_file folder note = note_as (note_place folder note.size.0 note.root) note

-- the proof is a consistency proof, and a text can have its numbers and its path
abbrev pub is_writable_fork : Proof → Bool
is_writable_fork (Inclusion size index root leaf path) = false
is_writable_fork (Consistency first first_root second second_root path) =
    (nat_le first MAX_SIZE && nat_le second MAX_SIZE) && nat_le (length path) 64

-- the text of a proof, in the form that `check` reads
abbrev pub proof_text : Proof → List ℕ
proof_text proof = title_of proof ++ 10 ∷ lines_of proof

-- the file of a proof, if it can be written
abbrev pub proof_file : List ℕ → ForkLine → Proof → List EvidenceFile
proof_file folder line proof =
    if is_writable_fork proof then wanted_file (proof_place folder line) (proof_text proof) None ∷ [] else []

-- the file of a fork's proof, if it has one
abbrev pub proof_files : List ℕ → ForkLine → Option Proof → List EvidenceFile
proof_files folder line None = []
proof_files folder line (Some proof) = proof_file folder line proof

-- both notes of a fork and its proof
abbrev pub fork_files : List ℕ → ForkLine → List EvidenceFile
fork_files folder line =
    note_file folder line.small ∷ (note_file folder line.large ∷ proof_files folder line line.proof)

-- the files of all forks, if a folder is named for them
abbrev pub evidence_of : Option (List ℕ) → List ForkLine → List EvidenceFile
evidence_of None lines = []
evidence_of (Some folder) lines = flat_map (fork_files folder) lines

-- ---- what stands there

module _ (origin : List ℕ) (keys : List Key) where
  -- the bytes are a note that opens under the keys, with that size and root
  abbrev pub IsNoteAt : List ℕ → Option Point → Type 0
  IsNoteAt bytes None = ⊥
  IsNoteAt bytes (Some point) = IsOpenHead bytes origin keys point.size point.root

  -- the bytes serve as that file: they are its own, or those of a note that opens with its size and root
  abbrev pub Serves : EvidenceFile → List ℕ → Type 0
  Serves wanted bytes = (bytes ≡ wanted.file.1) ⊎ IsNoteAt bytes wanted.point

  -- a file of its name serves
  pub record IsServed (puts : List NamedFile) (wanted : EvidenceFile) : Type 0 where
    pub bytes : List ℕ
    pub stands : contents_of puts wanted.file.0 ≡ Some bytes
    pub serves : Serves wanted bytes

  -- no file of its name serves
  abbrev pub IsUnserved : List NamedFile → EvidenceFile → Type 0
  IsUnserved puts wanted =
      (bytes : List ℕ) → contents_of puts wanted.file.0 ≡ Some bytes → ¬ Serves wanted bytes

  -- whether a file of its name serves, if the files are recorded
  abbrev pub LooksFor : Option (List NamedFile) → EvidenceFile → Result Bool NamedFault → Type 0
  LooksFor None wanted answer = ⊤
  LooksFor (Some puts) wanted (Ok true) = IsServed puts wanted
  LooksFor (Some puts) wanted (Ok false) = IsUnserved puts wanted
  LooksFor (Some puts) wanted (Err FileFault) = RecordsLong (Some puts) wanted.file.0
  LooksFor (Some puts) wanted (Err OutOfMemory) = ⊤

-- ---- puts

-- the reason why the first of the rest was not put, if the files are recorded: a file of its name is there, and is too long to be read.
-- The other reason is that memory was refused
abbrev pub StopsAt : Option (List NamedFile) → Option (List NamedFile) → List EvidenceFile → NamedFault → Type 0
StopsAt None new rest fault = ⊤
StopsAt (Some old) new rest OutOfMemory = ⊤
StopsAt (Some old) new [] FileFault = ⊥
StopsAt (Some old) new (wanted ∷ rest) FileFault = RecordsLong new wanted.file.0

module _ (origin : List ℕ) (keys : List Key) where
  -- a file that serves is unchanged. Else the file is put, and no other one is written
  abbrev pub PutsOne : EvidenceFile → List NamedFile → List NamedFile → Type 0
  PutsOne wanted old new =
      (IsServed origin keys old wanted × (new ≡ old))
      ⊎ (IsUnserved origin keys old wanted × (new ≡ old ++ wanted.file ∷ []))

  -- each of the files in order
  abbrev pub PutsEach : List EvidenceFile → List NamedFile → List NamedFile → Type 0
  PutsEach [] old new = new ≡ old
  PutsEach (wanted ∷ files) old new =
      (between : List NamedFile) × PutsOne wanted old between × PutsEach files between new

  -- the same, if the files are recorded
  abbrev pub RecordsEach : List EvidenceFile → Option (List NamedFile) → Option (List NamedFile) → Type 0
  RecordsEach files None new = ⊤
  RecordsEach files (Some old) None = ⊥
  RecordsEach files (Some old) (Some new) = PutsEach files old new

  -- the first of the files were put, and no others, for this reason
  pub record PutsFront (files : List EvidenceFile) (old new : Option (List NamedFile)) (fault : NamedFault) : Type 0 where
    pub front : List EvidenceFile
    pub rest : List EvidenceFile
    pub files_are : files ≡ front ++ rest
    pub recorded : RecordsEach front old new
    pub stops : StopsAt old new rest fault

  -- the files that a call has put, by its answer: all of them, or the first ones if it ended early
  abbrev pub PutsFiles : {T : Type 0} → List EvidenceFile → Option (List NamedFile) → Option (List NamedFile) →
      Result T NamedFault → Type 0
  PutsFiles files old new (Ok x) = RecordsEach files old new
  PutsFiles files old new (Err fault) = PutsFront files old new fault
