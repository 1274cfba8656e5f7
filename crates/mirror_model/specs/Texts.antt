-- The texts of a mirror's reports (a format of this project): lines that each end in a newline.
-- Numbers are decimal without leading zeros. Roots are standard base64 with padding (RFC 4648,
-- section 4).
use Rattle.std.specs.Prelude.{◌≡◌, ℕ, List, [], ◌∷◌, ◌++◌, Bool, true, false, Option, Some, None}
use Rattle.std.specs.Prelude.{codes}
use Rattle.std.specs.Fmt.{decimal}
use Rattle.std.specs.List.{flat_map}
use Rattle.tlog_text.specs.Hash.{base64_of}
use Rattle.tlog_tiles.specs.Path.{path_text}
use Rattle.tlog_tiles.specs.declared.paths.Path.{Path}
use Rattle.mirror_model.specs.View.{View}
use Rattle.mirror_model.specs.Heads.{HasHead}
use Rattle.mirror_model.specs.Forks.{Point}
use Rattle.mirror_model.specs.Listed.{ListsMissing}
use Rattle.mirror_model.specs.Reports.{ReportsHeads, ReportsForks, SaysServed}
use Rattle.mirror_model.specs.declared.reports.Head.{Head}
use Rattle.mirror_model.specs.declared.reports.Fork.{Fork}

-- a size, a space and a root
abbrev pub point_text : ℕ → List ℕ → List ℕ
point_text size root = decimal size ++ 32 ∷ base64_of root

-- the word for a complete or partial tree head
abbrev pub flag_text : Bool → List ℕ
flag_text true = codes "complete"
flag_text false = codes "partial"

-- `head SIZE ROOT complete` or `head SIZE ROOT partial`
abbrev pub head_line : Head → List ℕ
head_line head =
    codes "head " ++ point_text head.size head.root ++ 32 ∷ flag_text head.complete ++ 10 ∷ []

-- `served SIZE ROOT` or `served none`
abbrev pub served_line : Option Point → List ℕ
served_line (Some point) = codes "served " ++ point_text point.size point.root ++ 10 ∷ []
served_line None = codes "served none" ++ 10 ∷ []

-- `origin O`, a line for each tree head, and the line of the served checkpoint
abbrev pub status_text : List ℕ → List Head → Option Point → List ℕ
status_text origin heads served =
    codes "origin " ++ origin ++ 10 ∷ (flat_map head_line heads ++ served_line served)

-- `fork SIZE ROOT SIZE ROOT`
abbrev pub fork_line : Fork → List ℕ
fork_line fork =
    codes "fork " ++ point_text fork.small.0 fork.small.1
    ++ 32 ∷ point_text fork.large.0 fork.large.1 ++ 10 ∷ []

-- a line for each fork
abbrev pub forks_text : List Fork → List ℕ
forks_text forks = flat_map fork_line forks

-- a path as a line
abbrev pub path_line : Path → List ℕ
path_line path = path_text path ++ 10 ∷ []

-- a line for each missing path
abbrev pub missing_text : List Path → List ℕ
missing_text paths = flat_map path_line paths

module _ (digest : List ℕ → List ℕ) where
  -- the bytes are the status of a view: its origin, its tree heads, and the checkpoint that it
  -- serves
  pub record IsStatusText (v : View) (text : List ℕ) : Type 0 where
    pub heads : List Head
    pub served : Option Point
    pub are_heads : ReportsHeads digest v heads
    pub is_served : SaysServed digest v served
    pub is : text ≡ status_text v.origin heads served

  -- the bytes are the forks of a view, with a line for each; they are empty if there is no fork
  pub record IsForksText (v : View) (text : List ℕ) : Type 0 where
    pub forks : List Fork
    pub are_forks : ReportsForks digest v forks
    pub is : text ≡ forks_text forks

  -- the bytes are the missing paths of a tree head that is held, with a line for each; they are
  -- empty if nothing is missing
  pub record IsMissingText (v : View) (size : ℕ) (root : List ℕ) (text : List ℕ) : Type 0 where
    pub head : HasHead v size root
    pub paths : List Path
    pub are_missing : ListsMissing digest v size root paths
    pub is : text ≡ missing_text paths
