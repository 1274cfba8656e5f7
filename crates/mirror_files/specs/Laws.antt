-- Properties of state texts, as laws of the definitions.
use Rattle.std.specs.Prelude.{◌≡◌, ℕ, List, ◌∷◌, ◌++◌}
use Rattle.tlog_text.specs.Answers.{HasOneAnswer}
use Rattle.mirror_model.specs.View.{View}
use Rattle.mirror_files.specs.StateText.{Parts, IsText, StateText}
use Rattle.mirror_files.specs.Reading.{ReadsParts}
use Rattle.mirror_files.specs.declared.parts.PartsFault.TheVariants.{OutOfMemory}

-- bytes have one answer as a state text, apart from OutOfMemory
abbrev pub TextsHaveOneAnswer : Type 0
TextsHaveOneAnswer = HasOneAnswer OutOfMemory ReadsParts

-- a state text lists only one state
abbrev pub TextListsOneState : Type 0
TextListsOneState =
    (bytes : List ℕ) (first second : Parts) → IsText bytes first → IsText bytes second →
    first ≡ second

-- no state text is a strict prefix of another
abbrev pub NoTextBeginsAnother : Type 0
NoTextBeginsAnother =
    (bytes : List ℕ) (next : ℕ) (rest : List ℕ) (first second : Parts) → IsText bytes first →
    ¬ IsText (bytes ++ (next ∷ rest)) second

-- a view has one text that is saved
abbrev pub ViewHasOneText : Type 0
ViewHasOneText = (v : View) (a b : List ℕ) → StateText v a → StateText v b → a ≡ b
