use Rattle.std.proofs.Common.{length, subst, sym, ◌∙◌}
use Rattle.std.proofs.lemmas.Bool.{false≢true}
use Rattle.log_reader.specs.Verified.{HasLeaves}
use Rattle.log_reader.proofs.Refusing.{leaves_one}
use Rattle.copy_reader.proofs.edge_bundle.is_bundle_of.Goals as goal

pub returns-in-Some : goal.returns-in-Some
returns-in-Some g c =
    let digest = g.H.TreeHash.digest in
    let row = c.args.row.now in
    let bytes = c.args.bytes.now in
    let found = rw c.in-Some.is at c.in_ok-leaves.ensures.leaves in (
      λ t. subst (HasLeaves digest (length row) bytes) (sym c.deref.ensures.value ∙ c.is_same_row.ensures.0 t) found,
      λ h. c.is_same_row.ensures.1
          (c.deref.ensures.value ∙ leaves_one digest (length row) bytes c.in-Some.leaves.items row found h),
    )

pub returns-in-None : goal.returns-in-None
returns-in-None g c = (
  λ t. absurd (false≢true t),
  λ h. absurd ((rw c.in-None.is at c.in_ok-leaves.ensures.none) c.args.row.now h),
)
