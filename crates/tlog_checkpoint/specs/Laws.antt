-- Laws of the grammar of checkpoints.
use Rattle.std.specs.Prelude.{◌≡◌, ◌≢◌, ℕ, List, Result, Err}
use Rattle.tlog_checkpoint.specs.declared.Checkpoint.{Checkpoint}
use Rattle.tlog_checkpoint.specs.declared.fault.CheckpointFault.{CheckpointFault}
use Rattle.tlog_checkpoint.specs.declared.fault.CheckpointFault.TheVariants.{OutOfMemory}
use Rattle.tlog_text.specs.Answers.{HasOneAnswer}
use Rattle.tlog_text.specs.Hash.{Is32Bytes}
use Rattle.tlog_checkpoint.specs.Grammar.{IsCheckpoint, IsWritableCheckpoint}
use Rattle.tlog_checkpoint.specs.Reading.{ReadsCheckpoint}

-- a text is at most one checkpoint
abbrev pub TextIsOneCheckpoint : Type 0
TextIsOneCheckpoint =
    (text : List ℕ) (a b : Checkpoint) → IsCheckpoint text a.origin a.size a.root a.extensions →
    IsCheckpoint text b.origin b.size b.root b.extensions → a ≡ b

-- a checkpoint has at most one text
abbrev pub CheckpointHasOneText : Type 0
CheckpointHasOneText =
    (s t origin : List ℕ) (size : ℕ) (root : List ℕ) (extensions : List (List ℕ)) →
    IsCheckpoint s origin size root extensions → IsCheckpoint t origin size root extensions → s ≡ t

-- a checkpoint with a text can be written
abbrev pub WhatIsReadIsWritable : Type 0
WhatIsReadIsWritable =
    (text : List ℕ) (c : Checkpoint) → IsCheckpoint text c.origin c.size c.root c.extensions →
    IsWritableCheckpoint c

-- reading a text has one answer, apart from OutOfMemory
abbrev pub OneCheckpointAnswer : Type 0
OneCheckpointAnswer = HasOneAnswer OutOfMemory ReadsCheckpoint

-- each text has an answer other than OutOfMemory
abbrev pub EachTextHasAnswer : Type 0
EachTextHasAnswer =
    (text : List ℕ) →
    (a : Result Checkpoint CheckpointFault) × (a ≢ Err OutOfMemory) × ReadsCheckpoint text a

-- a checkpoint that can be written has a text, if its root is a hash of 32 bytes
abbrev pub EachWritableHasText : Type 0
EachWritableHasText =
    (c : Checkpoint) → IsWritableCheckpoint c → Is32Bytes c.root →
    (text : List ℕ) × IsCheckpoint text c.origin c.size c.root c.extensions
