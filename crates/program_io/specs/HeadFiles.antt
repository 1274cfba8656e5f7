-- Files that each hold a signed note of the log.
use Rattle.std.specs.Prelude.{◌≡◌, ℕ, ◌<◌, List, length, take, get_or, Option, Result, Ok, Err}
use Rattle.std.specs.List.{AllZip}
use Rattle.signed_note.specs.Keys.{Key}
use Rattle.mirror_model.specs.Heads.{IsOpenHead}
use Rattle.mirror_model.specs.Refusals.{ReadsHead}
use Rattle.mirror_model.specs.declared.fault.TakeFault.{TakeFault}
use Rattle.program_io.specs.Named.{NamedFile, FailsToRead, HaveContents}
use Rattle.program_io.specs.declared.state_fault.HeadFilesFault.{HeadFilesFault}
use Rattle.program_io.specs.declared.state_fault.HeadFilesFault.TheVariants.{File, Head}

module _ (origin : List ℕ) (keys : List Key) where
  -- the notes open under the keys, and are checkpoints of this origin with these sizes and roots, in order
  abbrev pub AreOpen : List (List ℕ) → List (ℕ × List ℕ) → Type 0
  AreOpen notes heads = AllZip (λ note head. IsOpenHead note origin keys head.0 head.1) notes heads

  -- the first note that is refused, and the reason
  pub record RefusesNote (notes : List (List ℕ)) (fault : TakeFault) : Type 0 where
    pub at : ℕ
    pub note : List ℕ
    pub heads : List (ℕ × List ℕ)
    pub within : at < length notes
    pub is_there : get_or notes at note ≡ note
    pub before : AreOpen (take at notes) heads
    pub refused : ReadsHead note origin keys (Err fault)

  -- the sizes and roots of the notes, or the reason why the first bad one is refused
  abbrev pub ChecksHeads : List (List ℕ) → Result (List (ℕ × List ℕ)) TakeFault → Type 0
  ChecksHeads notes (Ok heads) = AreOpen notes heads
  ChecksHeads notes (Err fault) = RefusesNote notes fault

  -- the sizes and roots of the notes in the files of these names; or the reason why a file was not read; or, if all
  -- were read, the reason why the first bad note is refused
  abbrev pub ReadsHeads : Option (List NamedFile) → List (List ℕ) →
      Result (List (ℕ × List ℕ)) HeadFilesFault → Type 0
  ReadsHeads recorded names (Ok heads) =
      (notes : List (List ℕ)) × HaveContents recorded names notes × AreOpen notes heads
  ReadsHeads recorded names (Err (File fault)) = FailsToRead recorded names fault
  ReadsHeads recorded names (Err (Head fault)) =
      (notes : List (List ℕ)) × HaveContents recorded names notes × RefusesNote notes fault
