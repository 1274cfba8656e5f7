-- The bytes of a copy for each resource. They are those of a mirror with only the checkpoint's tree head, which is complete.
use Rattle.std.specs.Prelude.{◌≡◌, ℕ, List, [], Option, Some, None, ⊤}
use Rattle.tlog_tiles.specs.Tiles.{IsTileWithin}
use Rattle.tlog_tiles.specs.declared.paths.Path.TheVariants.{Checkpoint, Tile, Entries}
use Rattle.mirror_folders.specs.Shelf.{Put}
use Rattle.mirror_model.specs.Forks.{Point}
use Rattle.mirror_http.specs.declared.request.Request.{Request}
use Rattle.mirror_http.specs.declared.request.Request.TheVariants.{Nothing, Unreadable, OtherMethod, Unknown, Get}
use Rattle.mirror_http.specs.declared.resource.Resource.{Resource}
use Rattle.mirror_http.specs.declared.resource.Resource.TheVariants.{File, Status, Forks, Missing, Proof}
use Rattle.copy_reader.specs.Proofs.{IsWithin}
use Rattle.copy_reader.specs.Statuses.{copy_status}
use Rattle.program_copies.specs.CopyHeads.{CopyHead}
use Rattle.program_copies.specs.GivenFiles.{file_strings, IsFileGiven}
use Rattle.program_copies.specs.GivenProofs.{IsProofGiven}

-- the size and root of a checkpoint
abbrev pub head_point : CopyHead → Point
head_point head = record { size = head.size; root = head.root }

-- a mirror with only that tree head, which is complete, serves the resource. None: the copy is empty
abbrev pub HasResource : Option CopyHead → Resource → Type 0
HasResource None (File path) = ⊥
HasResource None Status = ⊤
HasResource None Forks = ⊤
HasResource None (Missing size root) = ⊥
HasResource None (Proof ask) = ⊥
HasResource (Some head) (File Checkpoint) = ⊤
HasResource (Some head) (File (Tile level index width)) = IsTileWithin head.size level index width
HasResource (Some head) (File (Entries index width)) = IsTileWithin head.size 0 index width
HasResource (Some head) Status = ⊤
HasResource (Some head) Forks = ⊤
HasResource (Some head) (Missing size root) = (size ≡ head.size) × (root ≡ head.root)
HasResource (Some head) (Proof ask) = IsWithin ask head.size

module _ (digest : List ℕ → List ℕ) (origin : List ℕ) (held : Option (List Put)) where
  -- the bytes of a resource under that checkpoint. None: the copy is empty
  abbrev pub IsBodyAt : Option CopyHead → Resource → List ℕ → Type 0
  IsBodyAt None (File path) body = ⊥
  IsBodyAt None Status body = body ≡ copy_status origin None
  IsBodyAt None Forks body = body ≡ []
  IsBodyAt None (Missing size root) body = ⊥
  IsBodyAt None (Proof ask) body = ⊥
  IsBodyAt (Some head) (File Checkpoint) body = body ≡ head.note
  IsBodyAt (Some head) (File (Tile level index width)) body =
      IsFileGiven digest head.size head.root (Tile level index width) body
  IsBodyAt (Some head) (File (Entries index width)) body =
      IsFileGiven digest head.size head.root (Entries index width) body
  IsBodyAt (Some head) Status body = body ≡ copy_status origin (Some (head_point head))
  IsBodyAt (Some head) Forks body = body ≡ []
  IsBodyAt (Some head) (Missing size root) body = (size ≡ head.size) × (root ≡ head.root) × (body ≡ [])
  IsBodyAt (Some head) (Proof ask) body = IsProofGiven digest held head.size head.root ask body

  -- the body for a resource: its bytes, or None if such a mirror does not serve it
  abbrev pub IsBodyGiven : Option CopyHead → Resource → Option (List ℕ) → Type 0
  IsBodyGiven head resource (Some body) = IsBodyAt head resource body
  IsBodyGiven head resource None = ¬ HasResource head resource

  -- the strings that are hashed on the way from the bytes of a tile or a bundle to the root
  abbrev pub body_strings : (head : Option CopyHead) (resource : Resource) (body : List ℕ) →
      IsBodyAt head resource body → List (List ℕ)
  body_strings None resource body is = []
  body_strings (Some head) (File Checkpoint) body is = []
  body_strings (Some head) (File (Tile level index width)) body is =
      file_strings digest head.size head.root (Tile level index width) body is
  body_strings (Some head) (File (Entries index width)) body is =
      file_strings digest head.size head.root (Entries index width) body is
  body_strings (Some head) Status body is = []
  body_strings (Some head) Forks body is = []
  body_strings (Some head) (Missing size root) body is = []
  body_strings (Some head) (Proof ask) body is = []

  abbrev pub given_strings : (head : Option CopyHead) (resource : Resource) (body : Option (List ℕ)) →
      IsBodyGiven head resource body → List (List ℕ)
  given_strings head resource (Some body) is = body_strings head resource body is
  given_strings head resource None is = []

-- the request is for a proof
abbrev pub AsksProof : Request → Type 0
AsksProof Nothing = ⊥
AsksProof Unreadable = ⊥
AsksProof OtherMethod = ⊥
AsksProof Unknown = ⊥
AsksProof (Get (File path)) = ⊥
AsksProof (Get Status) = ⊥
AsksProof (Get Forks) = ⊥
AsksProof (Get (Missing size root)) = ⊥
AsksProof (Get (Proof ask)) = ⊤
