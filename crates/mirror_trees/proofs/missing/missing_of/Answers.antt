use Rattle.mirror_trees.proofs.missing.missing_of.Goals as goal

pub returns-clause-exact : goal.returns-clause-exact
returns-clause-exact g c = λ path.
    let same = c.put_in_order.ensures.same path in
    let all = c.in_ok-paths.ensures path in (
      λ h. all.0 (same.0 h),
      λ m. same.1 (all.1 m),
    )
