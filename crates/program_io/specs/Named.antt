-- Files by their names, and the record of what was put. None is the record of files that record nothing: then each statement holds.
use Rattle.std.specs.Prelude.{◌≡◌, ℕ, ◌<◌, List, [], ◌∷◌, length, Option, Some, None, Result, Ok}
use Rattle.std.specs.Prelude.{Err}
use Rattle.std.specs.Prelude.{if◌then◌else◌, Contains, ⊤}
use Rattle.std.specs.List.{AllZip}
use Rattle.std.specs.Str.{bytes_eq}
use Rattle.mirror_sources.specs.Recorded.{AddsToRecord, KeepsRecord}
use Rattle.program_io.specs.declared.named.TheConstants.{MAX_FILE_LEN}
use Rattle.program_io.specs.declared.file_fault.NamedFault.{NamedFault}
use Rattle.program_io.specs.declared.file_fault.NamedFault.TheVariants.{FileFault, OutOfMemory}

-- a file: its name and its bytes
abbrev pub NamedFile : Type 0
NamedFile = List ℕ × List ℕ

-- the bytes that were put last under the name, or else the given ones
abbrev pub last_put : Option (List ℕ) → List NamedFile → List ℕ → Option (List ℕ)
last_put found [] name = found
last_put found (file ∷ rest) name =
    last_put (if bytes_eq file.0 name then Some file.1 else found) rest name

-- the bytes of the file with that name after these puts
abbrev pub contents_of : List NamedFile → List ℕ → Option (List ℕ)
contents_of puts name = last_put None puts name

-- ---- statements about the record

-- the file of that name has these bytes
abbrev pub HasContents : Option (List NamedFile) → List ℕ → List ℕ → Type 0
HasContents None name bytes = ⊤
HasContents (Some puts) name bytes = contents_of puts name ≡ Some bytes

-- there is no file of that name
abbrev pub LacksFile : Option (List NamedFile) → List ℕ → Type 0
LacksFile None name = ⊤
LacksFile (Some puts) name = contents_of puts name ≡ None

-- no file of that name is short enough to be read
abbrev pub RecordsNoShort : Option (List NamedFile) → List ℕ → Type 0
RecordsNoShort None name = ⊤
RecordsNoShort (Some puts) name =
    (bytes : List ℕ) → contents_of puts name ≡ Some bytes → MAX_FILE_LEN < length bytes

-- there is a file of that name, and it is too long to be read
abbrev pub RecordsLong : Option (List NamedFile) → List ℕ → Type 0
RecordsLong None name = ⊤
RecordsLong (Some puts) name =
    (bytes : List ℕ) × (contents_of puts name ≡ Some bytes) × (MAX_FILE_LEN < length bytes)

-- files with a record fail only if memory was refused
abbrev pub RecordsFault : Option (List NamedFile) → NamedFault → Type 0
RecordsFault recorded FileFault = recorded ≡ None
RecordsFault recorded OutOfMemory = ⊤

-- ---- the answers of each call

-- the bytes of a file of any length
abbrev pub ReadsFile : Option (List NamedFile) → List ℕ → Result (List ℕ) NamedFault → Type 0
ReadsFile recorded name (Ok bytes) = HasContents recorded name bytes
ReadsFile recorded name (Err FileFault) = LacksFile recorded name
ReadsFile recorded name (Err OutOfMemory) = ⊤

-- the bytes of a file that may not be too long
abbrev pub ReadsShort : Option (List NamedFile) → List ℕ → Result (List ℕ) NamedFault → Type 0
ReadsShort recorded name (Ok bytes) = HasContents recorded name bytes
ReadsShort recorded name (Err FileFault) = RecordsNoShort recorded name
ReadsShort recorded name (Err OutOfMemory) = ⊤

-- the bytes of a file that may not be too long, or None if there is no such file
abbrev pub FindsFile : Option (List NamedFile) → List ℕ → Result (Option (List ℕ)) NamedFault →
    Type 0
FindsFile recorded name (Ok None) = LacksFile recorded name
FindsFile recorded name (Ok (Some bytes)) = HasContents recorded name bytes
FindsFile recorded name (Err FileFault) = RecordsLong recorded name
FindsFile recorded name (Err OutOfMemory) = ⊤

-- the file was not written, and the record is unchanged
abbrev pub FailsToPut : Option (List NamedFile) → Option (List NamedFile) → NamedFault → Type 0
FailsToPut old new fault = KeepsRecord old new × RecordsFault old fault

-- a replaced file is the last one of the record
abbrev pub RecordsReplace : {T : Type 0} → Option (List NamedFile) → Option (List NamedFile) →
    NamedFile → Result T NamedFault → Type 0
RecordsReplace old new file (Ok x) = AddsToRecord old new (file ∷ [])
RecordsReplace old new file (Err fault) = FailsToPut old new fault

-- making or flushing a folder records nothing
abbrev pub RecordsFolder : {T : Type 0} → Option (List NamedFile) → Result T NamedFault → Type 0
RecordsFolder recorded (Ok x) = ⊤
RecordsFolder recorded (Err fault) = RecordsFault recorded fault

-- ---- several files

-- the files of these names have these bytes, in order
abbrev pub HaveContents : Option (List NamedFile) → List (List ℕ) → List (List ℕ) → Type 0
HaveContents recorded names held = AllZip (HasContents recorded) names held

-- one of these files cannot be read
abbrev pub FailsToRead : Option (List NamedFile) → List (List ℕ) → NamedFault → Type 0
FailsToRead recorded names FileFault =
    (name : List ℕ) × Contains names name × RecordsNoShort recorded name
FailsToRead recorded names OutOfMemory = ⊤

-- the bytes of each of these files
abbrev pub ReadsFiles : Option (List NamedFile) → List (List ℕ) →
    Result (List (List ℕ)) NamedFault → Type 0
ReadsFiles recorded names (Ok held) = HaveContents recorded names held
ReadsFiles recorded names (Err fault) = FailsToRead recorded names fault
