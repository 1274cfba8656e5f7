-- A log that was built from an input.
use Rattle.std.proofs.Common.{◌≡◌, ℕ, List, Option, Some, Result, subst}
use Rattle.std.specs.Prelude.{IfSome}
use Rattle.signed_note.specs.Keys.{Key}
use Rattle.signed_note.specs.KeyKinds.{Secret, secret_key}
use Rattle.mirror_model.specs.Origin.{IsOrigin}
use Rattle.mirror_folders.specs.Shelf.{Put}
use Rattle.state_commands.specs.Building.{BuildsLogUnder}
use Rattle.state_commands.specs.declared.build_fault.BuildFault.{BuildFault}
use Rattle.state_commands.specs.Entries.{AreEntries}
use Rattle.state_commands.specs.Builds.{BuildsInput, FindsSigner}

-- the opened shelf has what the folder held
pub built : (digest : List ℕ → List ℕ) (origin : List ℕ) (keys : List Key) (key_bytes : List ℕ)
    (held before put opened : Option (List Put)) (signer : Secret) (entries : List (List ℕ))
    (answer : Result (Unit {0}) BuildFault) → FindsSigner key_bytes (Some signer) → IsOrigin origin → opened ≡ held →
    BuildsLogUnder digest origin (secret_key signer) entries keys opened put answer →
    (input : Option (List ℕ)) → IfSome input (λ bytes. AreEntries bytes entries) →
    BuildsInput digest origin keys key_bytes held before put input answer
built digest origin keys key_bytes held before put opened signer entries answer finds lawful is builds input reads =
    record {
      signer = signer;
      is_signer = finds;
      is_origin = lawful;
      entries = entries;
      are_entries = reads;
      builds = subst
          (λ (start : Option (List Put)). BuildsLogUnder digest origin (secret_key signer) entries keys start put answer)
          is builds;
    }
