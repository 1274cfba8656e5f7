use Rattle.std.proofs.Common.{ℕ, List, sym, subst}
use Rattle.std.specs.Prelude.{◌↔◌, string_bytes}
use Rattle.std.specs.List.{Contains}
use Rattle.mirror_trees.specs.Marked.{point_of}
use Rattle.mirror_trees.specs.Best.{HasKept}
use Rattle.tlog_mirror.proofs.KnownTrees.{all_known}
use Rattle.tlog_mirror.proofs.SettledHeads.{settled_well, marks_now, marked}
use Rattle.tlog_mirror.proofs.mirror.Mirror.settle.Goals as goal

pub settle_all-requires-clause-known : goal.settle_all-requires-clause-known
settle_all-requires-clause-known g c =
    all_known g.H.TreeHash.digest _ _ _ c.self.inside.known c.self.invariant

pub invariant_of-self : goal.invariant_of-self
invariant_of-self g c =
    let exact =
    subst (λ heads. (p : ℕ × List ℕ) → Contains heads p ↔ HasKept c.self.inside.kept.items (point_of p))
    (sym c.as_slice-2.ensures.value)
    (subst (λ kept. (p : ℕ × List ℕ) →
    Contains c.in-Ok.heads.items p
    ↔ HasKept kept (point_of p)) c.as_slice.ensures.value c.in-Ok.ensures.exact) in (
      settled_well g.H.TreeHash.digest
          (string_bytes c.self.inside.origin) c.self.inside.kept.items c.self.inside.strings c.self.inside.known.remembered
          c.settle_all.new.known.remembered c.self.invariant.0 c.as_slice-2.result.now exact c.settle_all.ensures.gains,
      (c.settle_all.ensures.known.built, c.self.invariant.1.1),
    )

pub returns-clause-done : goal.returns-clause-done
returns-clause-done g c =
    let exact =
    subst (λ heads. (p : ℕ × List ℕ) → Contains heads p ↔ HasKept c.self.inside.kept.items (point_of p))
    (sym c.as_slice-2.ensures.value)
    (subst (λ kept. (p : ℕ × List ℕ) →
    Contains c.in-Ok.heads.items p
    ↔ HasKept kept (point_of p)) c.as_slice.ensures.value c.in-Ok.ensures.exact) in
    marked g.H.TreeHash.digest
    (string_bytes c.self.inside.origin) c.self.inside.kept.items c.self.inside.strings c.self.inside.known.remembered
    c.settle_all.new.known.remembered c.self.invariant.0 c.as_slice-2.result.now exact c.settle_all.ensures.gains
    c.settle_all.result c.settle_all.ensures.done

pub returns-clause-within : goal.returns-clause-within
returns-clause-within g c =
    let exact =
    subst (λ heads. (p : ℕ × List ℕ) → Contains heads p ↔ HasKept c.self.inside.kept.items (point_of p))
    (sym c.as_slice-2.ensures.value)
    (subst (λ kept. (p : ℕ × List ℕ) →
    Contains c.in-Ok.heads.items p
    ↔ HasKept kept (point_of p)) c.as_slice.ensures.value c.in-Ok.ensures.exact) in
    marks_now g.H.TreeHash.digest
    (string_bytes c.self.inside.origin) c.self.inside.kept.items c.self.inside.strings c.self.inside.known.remembered
    c.settle_all.new.known.remembered c.self.invariant.0 c.as_slice-2.result.now exact c.settle_all.ensures.gains
