-- The answer and the output of the command `check`.
use Rattle.std.specs.Prelude.{ℕ, List, Option, Result, Ok, Err, Bool, true, false, codes, ⊤}
use Rattle.std.specs.Io.KnownBytes.{Appends}
use Rattle.byte_streams.specs.Streams.{AppendsPrefix}
use Rattle.tlog_proof.specs.declared.proof.Proof.{Proof}
use Rattle.tlog_proof.specs.Made.{Holds}
use Rattle.tlog_proof.specs.Text.{IsProofText}
use Rattle.program_io.specs.declared.check.CheckFault.{CheckFault}
use Rattle.program_io.specs.declared.check.CheckFault.TheVariants.{BadProofText, ReadFault}
use Rattle.program_io.specs.declared.check.CheckFault.TheVariants.{WriteFault, OutOfMemory}

-- the line with the verdict
abbrev pub verdict_text : Bool → List ℕ
verdict_text true = codes "yes\n"
verdict_text false = codes "no\n"

module _ (digest : List ℕ → List ℕ) where
  -- the input is the text of a proof, and the verdict says whether the proof holds
  abbrev pub Verdict : List ℕ → Bool → Type 0
  Verdict input true = (proof : Proof) × IsProofText input proof × Holds digest proof
  Verdict input false = (proof : Proof) × IsProofText input proof × (¬ Holds digest proof)

  -- the meaning of each answer of the command for the input and the output
  abbrev pub AnswersCheck : List ℕ → Option (List ℕ) → Option (List ℕ) → Result Bool CheckFault →
      Type 0
  AnswersCheck input old new (Ok verdict) =
      Verdict input verdict × Appends old new (verdict_text verdict)
  AnswersCheck input old new (Err BadProofText) = (proof : Proof) → ¬ IsProofText input proof
  AnswersCheck input old new (Err ReadFault) = ⊤
  AnswersCheck input old new (Err WriteFault) =
      (verdict : Bool) × Verdict input verdict × AppendsPrefix old new (verdict_text verdict)
  AnswersCheck input old new (Err OutOfMemory) = ⊤

  -- the meaning of each answer of the verifier for the bytes
  abbrev pub Judges : List ℕ → Result Bool CheckFault → Type 0
  Judges bytes (Ok verdict) = Verdict bytes verdict
  Judges bytes (Err BadProofText) = (proof : Proof) → ¬ IsProofText bytes proof
  Judges bytes (Err ReadFault) = ⊤
  Judges bytes (Err WriteFault) = ⊥
  Judges bytes (Err OutOfMemory) = ⊤
