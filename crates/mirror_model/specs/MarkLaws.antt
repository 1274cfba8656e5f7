-- Laws of marks, which a mirror may remember.
use Rattle.std.specs.Prelude.{ℕ, ◌≤◌, List}
use Rattle.mirror_model.specs.View.{View, IsSubview}
use Rattle.mirror_model.specs.Complete.{Complete}
use Rattle.mirror_model.specs.Forks.{Point}
use Rattle.mirror_model.specs.Marks.{IsMark}

-- a mark of a view is a mark of each larger view
abbrev pub MarksStay : Type 0
MarksStay =
    (digest : List ℕ → List ℕ) (v w : View) → IsSubview v w → (point : Point) →
    IsMark digest v point →
    IsMark digest w point

-- the whole list of a complete tree head is a mark, if it is not empty
abbrev pub WholeListIsMark : Type 0
WholeListIsMark =
    (digest : List ℕ → List ℕ) (v : View) (point : Point) (entries : List (List ℕ)) →
    1 ≤ point.size →
    Complete digest v point.size point.root entries → IsMark digest v point
