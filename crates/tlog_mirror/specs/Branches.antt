-- How forks are found: tree heads by rising size and root, and for each one the last earlier tree head that it extends.
-- Only the contracts of private functions cite these words.
use Rattle.std.specs.Prelude.{◌≡◌, ◌≢◌, ℕ, suc, ◌-◌, ◌<◌, ◌≤◌, List, [], ◌∷◌, ◌++◌, length, take}
use Rattle.std.specs.Prelude.{slice_index_or, slice_set, Bool, true, false, not, cond, ◌&&◌}
use Rattle.std.specs.Prelude.{◌||◌, nat_eq, nat_lt, codes, string_bytes, IsTrue, ◌↔◌}
use Rattle.node_store.specs.Strings.{Strings}
use Rattle.mirror_model.specs.Complete.{IsTreeOf, IsBuilt}
use Rattle.mirror_model.specs.Forks.{IsPrefix}
use Rattle.mirror_model.specs.Texts.{point_text}
use Rattle.mirror_model.specs.declared.reports.Fork.{Fork}
use Rattle.tlog_mirror.specs.Forks.{Departs}
use Rattle.tlog_mirror.specs.declared.branches.Branch.{Branch}

module _ (digest : List ℕ → List ℕ) (held : Strings) where
  -- if both trees are held, the entries of the first are a prefix of the entries of the second
  abbrev pub Precedes : ℕ × List ℕ → ℕ × List ℕ → Type 0
  Precedes a b =
      (first second : List (List ℕ)) → IsTreeOf digest held a.0 a.1 first →
      IsTreeOf digest held b.0 b.1 second → IsPrefix first second

  -- the data of a tree head, after the data of those before it. `whole`: its tree is held. If so, `after` points to the
  -- last earlier tree head whose tree is held and is a prefix of its tree. It is one more than that place, or 0 if
  -- there is none
  pub record IsBranch (before : List Branch) (branch : Branch) : Type 0 where
    pub whole : IsTrue branch.whole ↔ IsBuilt digest held branch.head.0 branch.head.1
    pub fits : branch.after ≤ length before
    pub last : (one : Branch) → branch.whole ≡ true → 0 < branch.after →
        slice_index_or before (branch.after - 1) one ≡ one →
        (one.whole ≡ true) × Precedes one.head branch.head
    pub none : (k : ℕ) (one : Branch) → branch.whole ≡ true → branch.after ≤ k → k < length before →
        slice_index_or before k one ≡ one → one.whole ≡ true →
        Departs digest held one.head branch.head

  -- each branch of the list follows from those before it
  abbrev pub AreBranches : List Branch → Type 0
  AreBranches branches =
      (k : ℕ) (one : Branch) → k < length branches → slice_index_or branches k one ≡ one →
      IsBranch (take k branches) one

-- the two texts of a branch: as the smaller tree head of a fork line, and as the larger one
pub record IsSpelled (branch : Branch) : Type 0 where
  pub small : string_bytes branch.as_small
      ≡ codes "fork " ++ point_text branch.head.0 branch.head.1 ++ 32 ∷ []
  pub large : string_bytes branch.as_large ≡ point_text branch.head.0 branch.head.1 ++ 10 ∷ []

-- the tree head at a place is a prefix of the tree head with this `after`. The marks of the tree heads between say
-- which of them extend the one at that place
abbrev pub under_of : ℕ → List Bool → ℕ → Bool
under_of at marks after = nat_lt at after && slice_index_or marks (after - 1) false

-- two tree heads conflict; `under` says whether the first is a prefix of the second
abbrev pub apart_of : Branch → Branch → Bool → Bool
apart_of a b under = nat_eq a.head.0 b.head.0 || (a.whole && (b.whole && not under))

-- the fork of the two, if they conflict
abbrev pub fork_of : Branch → Branch → Bool → List Fork
fork_of a b under =
    cond (apart_of a b under) (record { small = a.head; large = b.head } ∷ []) []

-- the marks after those of the list's branches are set; the first branch of the list is at the place `next`
abbrev pub marked : ℕ → List Bool → ℕ → List Branch → List Bool
marked at marks next [] = marks
marked at marks next (b ∷ rest) =
    marked at (slice_set marks next (under_of at marks b.after)) (suc next) rest

-- the forks of the branch with those of the list; the first branch of the list is at the place `next`
abbrev pub forks_with : ℕ → Branch → List Bool → ℕ → List Branch → List Fork
forks_with at a marks next [] = []
forks_with at a marks next (b ∷ rest) =
    fork_of a b (under_of at marks b.after)
    ++ forks_with at a (slice_set marks next (under_of at marks b.after)) (suc next) rest

-- the forks of the list's first branch, at that place, with the later ones; a calm branch has no forks
abbrev pub forks_from : Bool → ℕ → List Bool → List Branch → List Fork
forks_from true at marks rest = []
forks_from false at marks [] = []
forks_from false at marks (a ∷ rest) = forks_with at a (slice_set marks at true) (suc at) rest

-- the marks after that step
abbrev pub marks_from : Bool → ℕ → List Bool → List Branch → List Bool
marks_from true at marks rest = marks
marks_from false at marks [] = marks
marks_from false at marks (a ∷ rest) = marked at (slice_set marks at true) (suc at) rest

-- the forks of the list's branches; the first one is at that place
abbrev pub all_forks : List Bool → ℕ → List Bool → List Branch → List Fork
all_forks calm at marks [] = []
all_forks calm at marks (a ∷ rest) =
    let quiet = slice_index_or calm at false in
    forks_from quiet at marks (a ∷ rest)
    ++ all_forks calm (suc at) (marks_from quiet at marks (a ∷ rest)) rest

-- two branches have different sizes, and if the second's tree is held, the last one that is its prefix is at that place
-- or later
pub record AreCalmTwo (at : ℕ) (a b : Branch) : Type 0 where
  pub sizes : a.head.0 ≢ b.head.0
  pub begun : IsTrue b.whole → at < b.after

-- each branch that is marked as calm is a prefix of all later branches whose trees are held, and no later branch has
-- its size
abbrev pub AreCalm : List Branch → List Bool → Type 0
AreCalm branches calm =
    (at k : ℕ) (a b : Branch) → IsTrue (slice_index_or calm at false) → at < k →
    k < length branches → slice_index_or branches at a ≡ a → slice_index_or branches k b ≡ b →
    AreCalmTwo at a b
