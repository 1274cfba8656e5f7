use Rattle.std.proofs.Common.{◌≡◌, ◌++◌, List, ℕ, length}
use Rattle.signed_note.specs.KeyFiles.{IsKeyFile}
use Rattle.signed_note.proofs.key_file.read_keys.Given as goal

-- the bytes before the rest are the lines of the keys up to here
abbrev pub invariant-loop-rest : goal.invariant-loop-rest
invariant-loop-rest l = (front : List ℕ) × (l.bytes ≡ front ++ l.rest) × IsKeyFile front l.keys.items

abbrev pub decreases-loop-rest : goal.decreases-loop-rest
decreases-loop-rest l = length l.rest
