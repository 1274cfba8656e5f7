-- The output of the command `follow`, and its exit status.
use Rattle.std.specs.Prelude.{ℕ, List, [], ◌∷◌, ◌++◌, codes, Option, Some, None, Bool, true, false, ◌&&◌, if◌then◌else◌}
use Rattle.std.specs.Fmt.{decimal}
use Rattle.std.specs.List.{flat_map}
use Rattle.mirror_model.specs.Texts.{point_text}
use Rattle.copy_places.specs.declared.fork_line.ForkLine.{ForkLine}
use Rattle.copy_follow.specs.declared.report.Followed.{Followed}

-- `followed SIZE ROOT from OLD`
abbrev pub followed_line : ℕ → List ℕ → ℕ → List ℕ
followed_line size root old =
    codes "followed " ++ (point_text size root ++ (codes " from " ++ (decimal old ++ 10 ∷ [])))

-- the same, if there is a copy
abbrev pub copy_line : Option (ℕ × List ℕ) → ℕ → List ℕ
copy_line None old = []
copy_line (Some copy) old = followed_line copy.0 copy.1 old

-- `fork SIZE ROOT SIZE ROOT`, the smaller checkpoint first
abbrev pub fork_line : ForkLine → List ℕ
fork_line line =
    codes "fork " ++ (point_text line.small.size.0 line.small.root
    ++ (32 ∷ [] ++ (point_text line.large.size.0 line.large.root ++ 10 ∷ [])))

-- `larger SIZE ROOT`
abbrev pub larger_line : ℕ × List ℕ → List ℕ
larger_line point = codes "larger " ++ (point_text point.0 point.1 ++ 10 ∷ [])

-- `behind SIZE ROOT`, if there is such a candidate
abbrev pub behind_line : Option (ℕ × List ℕ) → List ℕ
behind_line None = []
behind_line (Some point) = codes "behind " ++ (point_text point.0 point.1 ++ 10 ∷ [])

-- all lines: the copy, if there is one, the forks, the larger candidates to which it could not be brought, and the greatest candidate if all are smaller
abbrev pub followed_lines : Followed → List ℕ
followed_lines done =
    copy_line done.copy done.old
    ++ (flat_map fork_line done.forks.items ++ (flat_map larger_line done.larger.items ++ behind_line done.behind))

-- the list is empty
abbrev pub is_none_of : {X : Type 0} → List X → Bool
is_none_of [] = true
is_none_of (x ∷ xs) = false

-- the exit status: 0 if there is neither a fork nor a larger candidate to which the copy could not be brought, else 3
abbrev pub followed_status_of : Followed → ℕ
followed_status_of done = if is_none_of done.forks.items && is_none_of done.larger.items then 0 else 3
