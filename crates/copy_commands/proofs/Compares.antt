-- The heads to compare, from borrowed names.
use Rattle.std.proofs.Common.{◌≡◌, ℕ, List, Option, map, subst}
use Rattle.std.specs.Prelude.{Result}
use Rattle.signed_note.specs.Keys.{Key}
use Rattle.mirror_model.specs.View.{View}
use Rattle.program_io.specs.declared.state_fault.HeadFilesFault.{HeadFilesFault}
use Rattle.program_io.specs.Named.{NamedFile}
use Rattle.program_reports.specs.Comparisons.{AnswersCompared}
use Rattle.program_reports.specs.declared.fault.AskFault.{AskFault}
use Rattle.copy_commands.specs.Compare.{FindsHeads}

pub names_same : {A : Type 0} (text_of : A → List ℕ) (keys : List Key) (recorded : Option (List NamedFile))
    (origin : List ℕ) (names others : List A) (answer : Result (Option (List (ℕ × List ℕ))) HeadFilesFault) →
    names ≡ others → FindsHeads keys recorded origin (map text_of names) answer →
    FindsHeads keys recorded origin (map text_of others) answer
names_same text_of keys recorded origin names others answer same h =
    subst (λ n. FindsHeads keys recorded origin (map text_of n) answer) same h

pub heads_same : (digest : List ℕ → List ℕ) (v : View) (heads others : Option (List (ℕ × List ℕ)))
    (old new : Option (List ℕ)) (answer : Result ℕ AskFault) → heads ≡ others →
    AnswersCompared digest v heads old new answer → AnswersCompared digest v others old new answer
heads_same digest v heads others old new answer same h = subst (λ x. AnswersCompared digest v x old new answer) same h
