-- The reports of a mirror about its tree heads: each item once, in order, and nothing else.
use Rattle.std.specs.Prelude.{◌↔◌, ℕ, List, map, Option, Some, None, All, IsTrue}
use Rattle.mirror_model.specs.View.{View}
use Rattle.mirror_model.specs.Complete.{IsComplete}
use Rattle.mirror_model.specs.Served.{Served}
use Rattle.mirror_model.specs.Forks.{Point}
use Rattle.mirror_model.specs.Listed.{PointPair, ListsHeads, ListsForks}
use Rattle.mirror_model.specs.declared.reports.Head.{Head}
use Rattle.mirror_model.specs.declared.reports.Fork.{Fork}

-- the size and root of a tree head
abbrev pub head_point : Head → Point
head_point head = record { size = head.size; root = head.root }

-- the two tree heads of a fork
abbrev pub fork_pair : Fork → PointPair
fork_pair fork =
    record {
      small = record { size = fork.small.0; root = fork.small.1 };
      large =
          record {
            size = fork.large.0;
            root = fork.large.1;
          };
    }

module _ (digest : List ℕ → List ℕ) where
  -- the flag of a tree head is true exactly if the tree head is complete
  abbrev pub IsFlagged : View → Head → Type 0
  IsFlagged v head = IsTrue head.complete ↔ IsComplete digest v head.size head.root

  -- the tree heads of a view, by size and then by root, each with its flag
  pub record ReportsHeads (v : View) (heads : List Head) : Type 0 where
    pub lists : ListsHeads v (map head_point heads)
    pub flags : All (IsFlagged v) heads

  -- the forks of a view, each with its smaller tree head first
  abbrev pub ReportsForks : View → List Fork → Type 0
  ReportsForks v forks = ListsForks digest v (map fork_pair forks)

  -- the size and root of the served checkpoint, or None if nothing is served
  abbrev pub SaysServed : View → Option Point → Type 0
  SaysServed v (Some point) =
      (note : List ℕ) × (entries : List (List ℕ))
      × Served digest v note point.size point.root entries
  SaysServed v None =
      (note : List ℕ) (size : ℕ) (root : List ℕ) (entries : List (List ℕ)) →
      ¬ Served digest v note size root entries
