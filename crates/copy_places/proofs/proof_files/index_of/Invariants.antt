use Rattle.std.proofs.Common.{◌≢◌, ℕ, ◌<◌, get_or}
use Rattle.copy_places.specs.declared.proof_files.ReadFile.{ReadFile}
use Rattle.copy_places.proofs.proof_files.index_of.Given as goal

-- none of the files so far has the path
abbrev pub invariant-loop-i : goal.invariant-loop-i
invariant-loop-i l = (k : ℕ) (d : ReadFile) → k < l.i → (get_or l.files k d).path ≢ l.path
