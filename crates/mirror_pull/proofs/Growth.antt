-- A pull keeps complete tree heads and forks.
use Rattle.std.proofs.Common.{◌≡◌, ℕ, List, Result, Ok, Err, sym, subst}
use Rattle.signed_note.specs.Keys.{Key}
use Rattle.mirror_model.specs.View.{View, IsSubview}
use Rattle.mirror_model.proofs.Views.{within_itself, complete_stays, forks_stay}
use Rattle.mirror_model.proofs.OneLists.{complete_is_same}
use Rattle.mirror_pull.specs.Taking.{PullsTo}
use Rattle.mirror_pull.specs.GrowthLaws.{PullsKeepHeads}
use Rattle.mirror_pull.specs.declared.pulling.Pulled.{Pulled}
use Rattle.mirror_pull.specs.declared.fault.PullFault.{PullFault}
use Rattle.mirror_pull.specs.declared.fault.PullFault.TheVariants.{NoCheckpoint, NoEdge, Head, Source, Collision}
use Rattle.mirror_pull.specs.declared.fault.PullFault.TheVariants.{OutOfMemory}

same_within : (old new : View) → new ≡ old → IsSubview old new
same_within old new e = subst (IsSubview old) (sym e) (within_itself old)

pub pull_within : (digest : List ℕ → List ℕ) (keys : List Key) (old new : View) (result : Result Pulled PullFault) →
    PullsTo digest keys old new result → IsSubview old new
pull_within digest keys old new (Ok p) h = h.0.grows
pull_within digest keys old new (Err NoCheckpoint) h = same_within old new h
pull_within digest keys old new (Err NoEdge) h = same_within old new h
pull_within digest keys old new (Err (Head f)) h = same_within old new h.1
pull_within digest keys old new (Err Source) h = h.grows
pull_within digest keys old new (Err Collision) h = h.grows
pull_within digest keys old new (Err OutOfMemory) h = h.grows

pub pulls_keep_heads : PullsKeepHeads
pulls_keep_heads digest keys old new result h =
    let within = pull_within digest keys old new result h in
    record {
      complete = complete_stays digest old new within;
      same = λ hash clean. complete_is_same digest hash old new within clean;
      forks = forks_stay digest old new within;
    }
