use Rattle.std.proofs.Common.{◌≡◌, ℕ, List, length, Option, Some, subst}
use Rattle.std.specs.Prelude.{option_map}
use Rattle.log_reader.specs.Verified.{HasLeaves}
use Rattle.copy_places.specs.Giving.{PartOf}
use Rattle.mirror_folders.specs.Partial.{IsReadCut}
use Rattle.copy_places.proofs.TrueAnswers.{none_weaker, some_weaker}
use Rattle.copy_follow.specs.Taken.{WasPut}
use Rattle.copy_follow.proofs.Own.{cut_sure, mapped_not}
use Rattle.copy_follow.proofs.ShelfReads.{cut_put}
use Rattle.copy_follow.proofs.own_edge.own_end.Goals as goal

pub returns-in-Ok-clause-taken : goal.returns-in-Ok-clause-taken
returns-in-Ok-clause-taken g c =
    let x = g.D.Shelf.puts c.args.shelf.now in
    let path = c.args.path.now in
    let given = option_map (λ v. v.items) c.in_ok-given.given in
    some_weaker c.in-Ok.found (λ bytes. given ≡ Some bytes.items) (λ bytes. PartOf (WasPut x) path bytes.items)
    (λ bytes same. cut_put x path bytes.items (subst (λ (o : Option (List ℕ)). IsReadCut x path o) same c.in_ok-given.ensures.answer))
    c.in-Ok.ensures.given

pub returns-in-Ok-clause-none : goal.returns-in-Ok-clause-none
returns-in-Ok-clause-none g c =
    let x = g.D.Shelf.puts c.args.shelf.now in
    let path = c.args.path.now in
    let row = c.args.row.now in
    none_weaker c.in-Ok.found _ _
    (λ bad full bytes there cut leaves. mapped_not c.in_ok-given.given (λ b. HasLeaves g.H.TreeHash.digest (length row) b row) bad bytes
    (cut_sure x path full bytes there cut (option_map (λ v. v.items) c.in_ok-given.given) c.in_ok-given.ensures.answer) leaves)
    c.in-Ok.ensures.none
