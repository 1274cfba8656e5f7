use Rattle.std.proofs.Common.{◌≡◌, ℕ, List, length, sym, subst, ◌∙◌}
use Rattle.std.proofs.lemmas.Bool.{false≢true}
use Rattle.log_reader.specs.Verified.{HasLeaves}
use Rattle.log_reader.proofs.Refusing.{leaves_one}
use Rattle.copy_places.proofs.bundle.accept_bundle.Goals as goal

pub returns-else-is_same_row-clause-none : goal.returns-else-is_same_row-clause-none
returns-else-is_same_row-clause-none g c = rw c.in-Some.is (λ h.
    let digest = g.H.TreeHash.digest in
    let row = c.args.row.now in
    let leaves = c.in-Some-2.leaves.items in
    let found = rw c.in-Some-2.is at c.in_ok-leaves.ensures.leaves in
    let there = subst (λ (b : List ℕ). HasLeaves digest (length row) b leaves) c.deref.ensures.value found in
    let same : leaves ≡ row = leaves_one digest (length row) c.in-Some.bytes.items leaves row there h in
    false≢true (sym c.if-is_same_row.false ∙ c.is_same_row.ensures.1 (c.deref-in-Some-2.ensures.value ∙ same)))
