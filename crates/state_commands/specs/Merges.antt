-- The command `merge`: the mirrors of two state files, and the files that it leaves.
use Rattle.std.specs.Prelude.{ℕ, List, Option, Result, Ok, Err}
use Rattle.mirror_sources.specs.Recorded.{KeepsRecord}
use Rattle.signed_note.specs.Keys.{Key}
use Rattle.mirror_model.specs.Answered.{merge_answer_of}
use Rattle.mirror_model.specs.Steps.{Answer, Done, Merges}
use Rattle.mirror_model.specs.View.{View}
use Rattle.program_io.specs.Named.{NamedFile}
use Rattle.program_io.specs.Performing.{failed}
use Rattle.program_io.specs.Named.{FailsToPut}
use Rattle.program_io.specs.States.{OpensFile, WritesState}
use Rattle.state_commands.specs.declared.work_fault.MergeFilesFault.{MergeFilesFault}
use Rattle.state_commands.specs.declared.work_fault.MergeFilesFault.TheVariants.{First, Second, Merge}
use Rattle.state_commands.specs.declared.work_fault.MergeFilesFault.TheVariants.{Out}

module _ (digest : List ℕ → List ℕ) (origin : List ℕ) (keys : List Key)
    (recorded : Option (List NamedFile)) (first second : List ℕ) where
  -- both files gave mirrors, and the second one was merged into the first with this answer
  pub record MergesFiles (answer : Answer) (after : View) : Type 0 where
    pub before : View
    pub other : View
    pub first_is : OpensFile digest origin keys recorded first (Ok before)
    pub second_is : OpensFile digest origin keys recorded second (Ok other)
    pub merges : Merges digest before other answer after

  -- the first file gave a mirror
  abbrev pub OpensFirst : Type 0
  OpensFirst = (before : View) × OpensFile digest origin keys recorded first (Ok before)

  -- the merged mirror, or the first reason why there is none
  abbrev pub MakesMerged : Result View MergeFilesFault → Type 0
  MakesMerged (Ok after) = MergesFiles Done after
  MakesMerged (Err (First fault)) = OpensFile digest origin keys recorded first (Err fault)
  MakesMerged (Err (Second fault)) =
      OpensFirst × OpensFile digest origin keys recorded second (Err fault)
  MakesMerged (Err (Merge fault)) =
      (after : View) × MergesFiles (merge_answer_of (failed fault)) after
  MakesMerged (Err (Out fault)) = ⊥

  -- the new state was written to the file of that name; after a fault nothing was written
  abbrev pub LeavesMerged : {T : Type 0} → List ℕ → Option (List NamedFile) →
      Result T MergeFilesFault → Type 0
  LeavesMerged out new (Ok x) =
      (after : View) × MergesFiles Done after × WritesState after out recorded new
  LeavesMerged out new (Err (First fault)) = MakesMerged (Err (First fault)) × KeepsRecord recorded new
  LeavesMerged out new (Err (Second fault)) = MakesMerged (Err (Second fault)) × KeepsRecord recorded new
  LeavesMerged out new (Err (Merge fault)) = MakesMerged (Err (Merge fault)) × KeepsRecord recorded new
  LeavesMerged out new (Err (Out fault)) =
      ((after : View) × MergesFiles Done after) × FailsToPut recorded new fault
