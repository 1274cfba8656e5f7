-- The report on a pull.
use Rattle.std.specs.Prelude.{◌≡◌, ℕ, List, ◌++◌, codes, Bool, true, false}
use Rattle.std.specs.Fmt.{decimal}
use Rattle.tlog_text.specs.Hash.{base64_of}
use Rattle.mirror_pull.specs.declared.pulling.Pulled.{Pulled}

-- `pulled SIZE ROOT`, the root in standard base64
abbrev pub head_text : ℕ → List ℕ → List ℕ
head_text size root = codes "pulled " ++ (decimal size ++ (codes " " ++ base64_of root))

-- the rest of the first line, ` rounds ROUNDS refused REFUSED`, with its newline
abbrev pub rounds_text : ℕ → ℕ → List ℕ
rounds_text rounds refused =
    codes " rounds " ++ (decimal rounds ++ (codes " refused " ++ (decimal refused ++ codes "\n")))

-- the second line: whether the pulled tree head is complete
abbrev pub complete_text : Bool → List ℕ
complete_text true = codes "complete\n"
complete_text false = codes "partial\n"

-- the two lines of the report
abbrev pub pulled_lines : Pulled → List ℕ
pulled_lines p =
    head_text p.size p.root ++ (rounds_text p.rounds p.refused ++ complete_text p.complete)

-- the exit status of a pull: 0 if the head is complete, else 3
abbrev pub status_of : Bool → ℕ
status_of true = 0
status_of false = 3

-- the pull has this exit status
abbrev pub IsPulledStatus : Pulled → ℕ → Type 0
IsPulledStatus p status = status ≡ status_of p.complete
