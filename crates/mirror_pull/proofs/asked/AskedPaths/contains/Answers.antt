use Rattle.std.proofs.Common.{sym, ap, ◌∙◌, subst, Contains}
use Rattle.std.proofs.lemmas.List.Sorted.{Contains-permutation, IsPermutation-sym}
use Rattle.std.proofs.lemmas.Map.Views.{hash_set_contains_iff}
use Rattle.tlog_tiles.specs.contracts.paths.PathPartialEq.TheImpl as path_eq
use Rattle.mirror_trees.proofs.Orders.{derived, exact, equivalence}
use Rattle.mirror_pull.proofs.asked.AskedPaths.contains.Goals as goal

pub returns : goal.returns
returns c =
    let iff =
    hash_set_contains_iff (equivalence (path_eq.ghosts).eq derived) (exact (path_eq.ghosts).eq derived)
    c.self.inside.found c.args.path.now in
    let items = ap (λ v. v.items) c.self.view_is in (
      λ h. subst (λ xs. Contains xs c.args.path.now) items
          (Contains-permutation _ _ c.args.path.now (IsPermutation-sym _ _ c.self.invariant) (iff.0 (sym c.contains.ensures ∙ h))),
      λ h. c.contains.ensures
          ∙ iff.1 (Contains-permutation _ _ c.args.path.now c.self.invariant
          (subst (λ xs. Contains xs c.args.path.now) (sym items) h)),
    )
