-- A note is a checkpoint of one origin.
use Rattle.std.proofs.Common.{◌≢◌, ℕ, List}
use Rattle.mirror_model.specs.Heads.{IsHead}
use Rattle.mirror_model.proofs.HeadNotes.{head_once}

pub other_origin : (bytes origin : List ℕ) (size : ℕ) (root : List ℕ) → IsHead bytes origin size root →
    (origin' : List ℕ) (size' : ℕ) (root' : List ℕ) → IsHead bytes origin' size' root' → origin' ≢ origin → ⊥
other_origin bytes origin size root head origin' size' root' other differs =
    differs (head_once bytes origin' origin size' size root' root other head).origin_is
