-- Complete tree heads and forks after a pull.
use Rattle.std.specs.Prelude.{◌≡◌, ℕ, List, Result}
use Rattle.signed_note.specs.Keys.{Key}
use Rattle.node_store.specs.Strings.{NoClash}
use Rattle.mirror_model.specs.View.{View}
use Rattle.mirror_model.specs.Strings.{IsDigest}
use Rattle.mirror_model.specs.Complete.{Complete}
use Rattle.mirror_model.specs.Forks.{Point, IsFork}
use Rattle.mirror_pull.specs.Taking.{PullsTo}
use Rattle.mirror_pull.specs.declared.pulling.Pulled.{Pulled}
use Rattle.mirror_pull.specs.declared.fault.PullFault.{PullFault}

-- between two views: complete tree heads stay complete with the same entries, and with no others as
-- long as nothing collides. Forks stay forks
pub record KeepsHeads (digest : List ℕ → List ℕ) (old new : View) : Type 0 where
  pub complete :
      (size : ℕ) (root : List ℕ) (entries : List (List ℕ)) → Complete digest old size root entries →
      Complete digest new size root entries
  pub same :
      IsDigest digest → NoClash digest new.strings →
      (size : ℕ) (root : List ℕ) (before after : List (List ℕ)) →
      Complete digest old size root before → Complete digest new size root after → before ≡ after
  pub forks : (a b : Point) → IsFork digest old a b → IsFork digest new a b

-- after any pull, for every answer, complete tree heads stay complete and forks stay forks
abbrev pub PullsKeepHeads : Type 0
PullsKeepHeads =
    (digest : List ℕ → List ℕ) (keys : List Key) (old new : View)
    (result : Result Pulled PullFault) →
    PullsTo digest keys old new result → KeepsHeads digest old new
