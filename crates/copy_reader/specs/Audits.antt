-- The fact that an audit states of a source: it has a whole log under a checkpoint (C2SP tlog-tiles). Only the contracts of private
-- functions cite `IsHeadGiven` and `IsTreeGiven`.
use Rattle.std.specs.Prelude.{◌≡◌, ℕ, List, [], ◌∷◌, length, Option, Some, Result, Ok, Err}
use Rattle.signed_note.specs.Keys.{Key}
use Rattle.tlog_hash.specs.Tree.{mth}
use Rattle.tlog_tiles.specs.declared.paths.Path.{Path}
use Rattle.tlog_tiles.specs.declared.paths.Path.TheVariants.{Checkpoint}
use Rattle.tlog_checkpoint.specs.declared.Checkpoint.{Checkpoint as Read}
use Rattle.mirror_model.specs.Heads.{IsOpenHead}
use Rattle.mirror_model.specs.Refusals.{ReadsHead}
use Rattle.mirror_model.specs.declared.fault.TakeFault.{TakeFault}
use Rattle.copy_reader.specs.declared.log.Audited.{Audited}
use Rattle.mirror_model.specs.TrueLaws.{AreShort}
use Rattle.mirror_sources.specs.Honest.{true_bytes}
use Rattle.mirror_sources.specs.Replies.{Reply, reply}
use Rattle.copy_reader.specs.Answering.{AreGiven, IsHad, IsTreeFile}

-- a note was read: it has a checkpoint of that size and root, or it is refused
abbrev pub ReadsAudited : List ℕ → List ℕ → List Key → Result Audited TakeFault → Type 0
ReadsAudited note origin keys (Ok head) =
    (checkpoint : Read) × ReadsHead note origin keys (Ok checkpoint) × (checkpoint.size ≡ head.size)
    × (checkpoint.root ≡ head.root)
ReadsAudited note origin keys (Err fault) = ReadsHead note origin keys (Err fault)

-- the source gave a note that opens under the keys, of a checkpoint of that origin, size and root
pub record IsHeadGiven (origin : List ℕ) (keys : List Key) (size : ℕ) (root : List ℕ)
    (may later : Path → Option (List ℕ) → Type 0) (old new : Option (List Path)) : Type 0 where
  pub note : List ℕ
  pub is_head : IsOpenHead note origin keys size root
  pub given : AreGiven may later old new (reply Checkpoint (Some note) ∷ [])

module _ (digest : List ℕ → List ℕ) where
  -- the replies have each tile and bundle of the tree of these entries, with its true bytes
  pub record IsWholeTree (size : ℕ) (root : List ℕ) (entries : List (List ℕ)) (replies : List Reply) : Type 0 where
    pub size_is : length entries ≡ size
    pub root_is : mth digest entries ≡ root
    pub short : AreShort entries
    pub files : (path : Path) → IsTreeFile size path → IsHad replies path (true_bytes digest entries path)

  -- the source gave each tile and bundle of a tree of that size and root
  pub record IsTreeGiven (size : ℕ) (root : List ℕ) (may later : Path → Option (List ℕ) → Type 0)
      (old new : Option (List Path)) : Type 0 where
    pub entries : List (List ℕ)
    pub replies : List Reply
    pub given : AreGiven may later old new replies
    pub whole : IsWholeTree size root entries replies

  -- the source gave a whole log of that size and root: a note that opens under the keys, and each tile and bundle
  pub record IsAudited (origin : List ℕ) (keys : List Key) (size : ℕ) (root : List ℕ)
      (may later : Path → Option (List ℕ) → Type 0) (old new : Option (List Path)) : Type 0 where
    pub note : List ℕ
    pub is_head : IsOpenHead note origin keys size root
    pub entries : List (List ℕ)
    pub replies : List Reply
    pub given : AreGiven may later old new (reply Checkpoint (Some note) ∷ replies)
    pub whole : IsWholeTree size root entries replies
