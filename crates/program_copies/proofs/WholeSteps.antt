-- Entries of a whole copy, written bundle after bundle.
use Rattle.std.proofs.Common.{◌≡◌, ℕ, ◌/◌, ◌≤◌, List, Bool, Option, Result, Ok, Err, inr, sym, subst, arith}
use Rattle.std.specs.Result.{IsErr, IsErrAnd}
use Rattle.std.proofs.lemmas.Bool.{false≢true}
use Rattle.std.specs.Prelude.{IfErr, OnErr, OnOk}
use Rattle.signed_note.specs.Keys.{Key}
use Rattle.mirror_folders.specs.Shelf.{Put}
use Rattle.log_reader.specs.EdgeRows.{Edge}
use Rattle.log_reader.specs.Holding.{row_width}
use Rattle.copy_reader.specs.WholeCopies.{IsWholeCopy}
use Rattle.program_copies.specs.Copied.{AnswersCopied, EndsWritten, IsOfWriting, IsOpenCopy, IsUndamaged, NamesFalseIn}
use Rattle.program_copies.specs.Served.{WritesFirst}
use Rattle.program_copies.specs.Shown.{WritesShown, WritesSomeShown}
use Rattle.program_copies.specs.Texts.{bundle_width}
use Rattle.program_copies.specs.declared.entries_fault.CopyEntriesFault.{CopyEntriesFault}
use Rattle.program_copies.specs.declared.entries_fault.CopyEntriesFault.TheVariants.{NothingComplete, Head, CopyDamaged, ShelfFault}
use Rattle.program_copies.specs.declared.entries_fault.CopyEntriesFault.TheVariants.{NoSuchSize, Backwards, WriteFault, OutOfMemory}

-- a bundle is as wide as the row of its leaf hashes
pub width_is : (n index : ℕ) → row_width n 0 index ≡ bundle_width n index
width_is n index = let one : n / 1 ≡ n = omega arith in omega (arith, one)

-- no more bundles were read
pub ends_early : {T : Type 0} (entries : List (List ℕ)) (base64 : Bool) (from to : ℕ) (old new : Option (List ℕ))
    (fault : CopyEntriesFault) (result : Result T CopyEntriesFault) → IsErr result × IsErrAnd result (λ f. f ≡ fault) →
    IsUndamaged fault → WritesFirst entries base64 from to old new → EndsWritten entries base64 from to old new result
ends_early entries base64 from to old new fault (Ok x) is fine w = absurd (false≢true is.0)
ends_early entries base64 from to old new fault (Err f) is fine w = (subst IsUndamaged (sym is.1) fine, w)

module _ (digest : List ℕ → List ℕ) (origin : List ℕ) (keys : List Key) (held : Option (List Put)) (from to : ℕ)
    (base64 : Bool) (old new : Option (List ℕ)) where
  -- the copy was opened, and some of its entries were written
  module _ {T : Type 0} (edge : Edge) (opened : IsOpenCopy digest origin keys held edge) (rises : from ≤ to)
      (within : to ≤ edge.size) where
    pub answers_written : (result : Result T CopyEntriesFault) → OnOk result (WritesShown digest edge base64 from to old new) →
        OnErr result (WritesSomeShown digest edge base64 from to old new) → IfErr result IsOfWriting →
        ((note : List ℕ) (entries : List (List ℕ)) → IsWholeCopy digest origin note entries held →
        EndsWritten entries base64 from to old new result) → IfErr result (NamesFalseIn digest held edge) →
        AnswersCopied digest origin keys held from to base64 old new result
    answers_written (Ok x) all some is whole named =
        record { edge = edge; opened = opened; rises = rises; within = within; written = all; whole = whole }
    answers_written (Err NothingComplete) all some is whole named = absurd is
    answers_written (Err (Head fault)) all some is whole named = absurd is
    answers_written (Err (CopyDamaged path)) all some is whole named = (
      inr (record {
        edge = edge;
        opened = opened;
        rises = rises;
        within = within;
        written = some;
        whole = λ note entries w. (whole note entries w).1;
      }),
      λ note entries w. (whole note entries w).0,
      inr (edge, opened, named),
    )
    answers_written (Err ShelfFault) all some is whole named =
        inr (record {
          edge = edge;
          opened = opened;
          rises = rises;
          within = within;
          written = some;
          whole = λ note entries w. (whole note entries w).1;
        })
    answers_written (Err NoSuchSize) all some is whole named = absurd is
    answers_written (Err Backwards) all some is whole named = absurd is
    answers_written (Err WriteFault) all some is whole named =
        record {
          edge = edge;
          opened = opened;
          rises = rises;
          within = within;
          written = some;
          whole = λ note entries w. (whole note entries w).1;
        }
    answers_written (Err OutOfMemory) all some is whole named =
        inr (record {
          edge = edge;
          opened = opened;
          rises = rises;
          within = within;
          written = some;
          whole = λ note entries w. (whole note entries w).1;
        })

-- the opened folder has the content of the folder of that name
pub answers_moved : {T : Type 0} (digest : List ℕ → List ℕ) (origin : List ℕ) (keys : List Key) (x y : Option (List Put))
    (from to : ℕ) (base64 : Bool) (old new : Option (List ℕ)) (result : Result T CopyEntriesFault) → x ≡ y →
    AnswersCopied digest origin keys x from to base64 old new result → AnswersCopied digest origin keys y from to base64 old new result
answers_moved digest origin keys x y from to base64 old new result e h =
    subst (λ held. AnswersCopied digest origin keys held from to base64 old new result) e h
