-- The meaning of each answer of `build` for the key file, the input, and the files that were put into its folder.
use Rattle.std.specs.Prelude.{◌≡◌, ℕ, List, Option, Some, None, Result, Ok, Err, IfSome}
use Rattle.signed_note.specs.Keys.{Key}
use Rattle.signed_note.specs.KeyKinds.{Secret, secret_key}
use Rattle.signed_note.specs.KeyFiles.{IsKeyFile}
use Rattle.signed_note.specs.declared.key_line.KeyLine.{KeyLine}
use Rattle.mirror_model.specs.Origin.{IsOrigin}
use Rattle.mirror_folders.specs.Shelf.{Put}
use Rattle.state_commands.specs.Building.{BuildsLogUnder}
use Rattle.state_commands.specs.Signing.{first_secret}
use Rattle.state_commands.specs.declared.build_fault.BuildFault.{BuildFault}
use Rattle.program_io.specs.Performing.{done, failed}
use Rattle.state_commands.specs.Entries.{AreEntries, ReadsEntries}
use Rattle.state_commands.specs.declared.entries.EntriesFault.{EntriesFault}
use Rattle.program_words.specs.declared.commands.build.Build.{Build as BuildWords}
use Rattle.std.specs.Io.KnownBytes.{Keeps}
use Rattle.program_io.specs.Origins.{RefusesOrigin}
use Rattle.program_io.specs.Moment.{Moment}
use Rattle.state_commands.specs.declared.fault.StateRunFault.{StateRunFault}
use Rattle.state_commands.specs.declared.fault.StateRunFault.TheVariants.{Build, Entries, NoSigningKey, Origin, OutOfMemory}

-- the result of a failed reader of entries
abbrev pub no_entries : EntriesFault → Result (List (List ℕ)) EntriesFault
no_entries fault = Err fault

-- the bytes are lines of keys, and this is the first shared secret among them; None if there is no shared secret
pub record FindsSigner (bytes : List ℕ) (signer : Option Secret) : Type 0 where
  pub lines : List KeyLine
  pub are_lines : IsKeyFile bytes lines
  pub first_is : signer ≡ first_secret lines

-- the bytes are lines of keys with at least one shared secret
abbrev pub HasSigner : List ℕ → Type 0
HasSigner bytes = (signer : Secret) × FindsSigner bytes (Some signer)

module _
    (digest : List ℕ → List ℕ) (origin : List ℕ) (keys : List Key) (key_bytes : List ℕ)
    (held before put : Option (List Put)) where
  -- a log of these entries was built over what the folder held, and signed with the first shared secret; the answer says how far;
  -- its checkpoint opens under the keys; an input that records its bytes has these entries
  pub record BuildsInput (input : Option (List ℕ)) (answer : Result (Unit {0}) BuildFault)
      : Type 0 where
    pub signer : Secret
    pub is_signer : FindsSigner key_bytes (Some signer)
    pub is_origin : IsOrigin origin
    pub entries : List (List ℕ)
    pub are_entries : IfSome input (λ bytes. AreEntries bytes entries)
    pub builds : BuildsLogUnder digest origin (secret_key signer) entries keys held put answer

  -- the input has no entries, as the fault says, if its bytes are recorded; the key and the origin are valid
  pub record LacksEntries (input : Option (List ℕ)) (fault : EntriesFault) : Type 0 where
    pub has_signer : HasSigner key_bytes
    pub is_origin : IsOrigin origin
    pub reads : IfSome input (λ bytes. ReadsEntries bytes (no_entries fault))

  -- the meaning of each answer: a log was built, completely or in part, or the first fault before that, after which nothing was put
  abbrev pub BuildsFrom : Option (List ℕ) → Result (Unit {0}) StateRunFault → Type 0
  BuildsFrom input (Ok x) = BuildsInput input done
  BuildsFrom input (Err (Build fault)) = BuildsInput input (failed fault)
  BuildsFrom input (Err NoSigningKey) = FindsSigner key_bytes None × (put ≡ before)
  BuildsFrom input (Err (Origin fault)) =
      HasSigner key_bytes × RefusesOrigin origin fault × (put ≡ before)
  BuildsFrom input (Err (Entries fault)) = LacksEntries input fault × (put ≡ before)
  BuildsFrom input (Err OutOfMemory) = put ≡ before
  BuildsFrom input (Err other) = ⊥

module _ (key_bytes : List ℕ) (digest : List ℕ → List ℕ) (keys : List Key) (old new : Moment) where
  -- the meaning of an answer of `build` for the key file, the input, and the named folder
  abbrev pub BuildsOne : BuildWords → Result (Unit {0}) StateRunFault → Type 0
  BuildsOne c answer =
      BuildsFrom digest c.log.origin.now keys key_bytes (old.held c.folder.now) old.puts new.puts
      old.input answer

  abbrev pub DoesBuild : BuildWords → Result ℕ StateRunFault → Type 0
  DoesBuild c (Ok status) = BuildsOne c done × Keeps old.output new.output × (status ≡ 0)
  DoesBuild c (Err fault) = BuildsOne c (failed fault) × Keeps old.output new.output
