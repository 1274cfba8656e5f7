use Rattle.std.proofs.Common.{inl, refl, subst, sym}
use Rattle.mirror_model.specs.Heads.{IsHead}
use Rattle.std.proofs.lemmas.Result.{err_from_is_err_and}
use Rattle.copy_follow.proofs.Damages.{damaged_bundle, damaged_edge, damaged_head}
use Rattle.copy_follow.proofs.WholeMoments.{empty_read, tip_made}
use Rattle.std.proofs.Common.{◌∙◌, inr}
use Rattle.copy_follow.proofs.Exits.{counted_exit, err_exit}
use Rattle.copy_follow.specs.declared.bring_fault.BringFault.TheVariants.{OutOfMemory}
use Rattle.std.proofs.lemmas.Result.{IfOk-from_err}
use Rattle.copy_follow.proofs.Earlier.{kept_then}
use Rattle.copy_follow.proofs.Telling.{size_in}
use Rattle.copy_follow.proofs.read_tip.read_tip.Goals as goal

pub returns-in_default-clause-tip : goal.returns-in_default-clause-tip
returns-in_default-clause-tip g c =
    rw c.empty.ensures (empty_read g.H.TreeHash.digest c.args.origin.now (g.D.Shelf.puts c.args.shelf.now)
    (rw c.in_default.is at c.in_ok-checkpoint.ensures.answer))

pub returns-clause-tip : goal.returns-clause-tip
returns-clause-tip g c =
    let origin = c.args.origin.now in
    let head = c.in-Some-2.head in
    let bytes = c.in-Some.checkpoint.items in
    let is_head = subst (λ b. IsHead b origin head.0 head.1) c.deref.ensures.value
    (rw c.in-Some-2.is at c.in_ok-head.ensures.found) in
    tip_made g.H.TreeHash.digest g.met.H.TreeHash.digest_length origin (g.D.Shelf.puts c.args.shelf.now)
    (g.D.Shelf.puts c.read.new.self) (g.D.Shelf.puts c.edge_on_shelf.new.shelf) c.in_ok-checkpoint.ensures.same
    c.in_ok-edge.ensures.same c.in-Some-3.edge c.in_ok-bundle.bundle.items bytes head.0 head.1
    (rw c.in-Some.is at c.in_ok-checkpoint.ensures.answer) is_head (rw c.in-Some-3.is at c.in_ok-edge.ensures.read)
    c.in_ok-bundle.ensures.bundle c.new.result c.new.ensures.size c.new.ensures.rows c.new.ensures.bundle
    c.new.ensures.checkpoint

pub returns-in_err-bundle-clause-damaged : goal.returns-in_err-bundle-clause-damaged
returns-in_err-bundle-clause-damaged g c =
    let p = err_from_is_err_and c.from_residual-in_err-bundle.result c.from_residual-in_err-bundle.ensures.1 in
    let origin = c.args.origin.now in
    let head = c.in-Some-2.head in
    let is_head = subst (λ b. IsHead b origin head.0 head.1) c.deref.ensures.value
    (rw c.in-Some-2.is at c.in_ok-head.ensures.found) in
    rw (p.1, p.2) (damaged_bundle g.H.TreeHash.digest g.met.H.TreeHash.digest_length origin (g.D.Shelf.puts c.args.shelf.now)
    (g.D.Shelf.puts c.read.new.self) c.in_ok-checkpoint.ensures.same c.in-Some.checkpoint.items
    (rw c.in-Some.is at c.in_ok-checkpoint.ensures.answer) head.0 head.1 is_head c.in-Some-3.edge
    (rw c.in-Some-3.is at c.in_ok-edge.ensures.read) (rw c.in-Some-3.is at c.in_ok-edge.ensures.leads)
    (g.D.Shelf.puts c.edge_on_shelf.new.shelf) c.in_ok-edge.ensures.same c.in_err-bundle.field-0.0
    c.in_err-bundle.ensures.damaged)

pub returns-in_default-2-clause-damaged : goal.returns-in_default-2-clause-damaged
returns-in_default-2-clause-damaged g c =
    let origin = c.args.origin.now in
    let none = rw c.in_default-2.is at c.in_ok-head.ensures.none in
    inl (
      refl,
      damaged_head g.H.TreeHash.digest g.met.H.TreeHash.digest_length origin (g.D.Shelf.puts c.args.shelf.now)
          (g.D.Shelf.puts c.read.new.self) c.in_ok-checkpoint.ensures.same c.in-Some.checkpoint.items
          (rw c.in-Some.is at c.in_ok-checkpoint.ensures.answer)
          (λ size root head. none size root (subst (λ b. IsHead b origin size root) (sym c.deref.ensures.value) head)),
    )

pub returns-in_default-3-clause-damaged : goal.returns-in_default-3-clause-damaged
returns-in_default-3-clause-damaged g c =
    let origin = c.args.origin.now in
    let head = c.in-Some-2.head in
    let is_head = subst (λ b. IsHead b origin head.0 head.1) c.deref.ensures.value
    (rw c.in-Some-2.is at c.in_ok-head.ensures.found) in
    inl (
      refl,
      damaged_edge g.H.TreeHash.digest g.met.H.TreeHash.digest_length origin (g.D.Shelf.puts c.args.shelf.now)
          (g.D.Shelf.puts c.read.new.self) c.in_ok-checkpoint.ensures.same c.in-Some.checkpoint.items
          (rw c.in-Some.is at c.in_ok-checkpoint.ensures.answer) head.0 head.1 is_head
          (rw c.in_default-3.is at c.in_ok-edge.ensures.none),
    )

pub returns-in_err-head : goal.returns-in_err-head
returns-in_err-head g c = record {
  fault = err_exit _ c.from_residual-in_err-head.result OutOfMemory c.from_residual-in_err-head.ensures tt;
  counted = counted_exit c.from_residual-in_err-head.result OutOfMemory c.from_residual-in_err-head.ensures (g.D.Shelf.failed c.args.shelf.now)
      (g.D.Shelf.failed c.read.new.self) (g.D.Shelf.failed c.read.new.self) c.in_ok-checkpoint.ensures.counted refl;
  damaged = err_exit _ c.from_residual-in_err-head.result OutOfMemory c.from_residual-in_err-head.ensures (inr tt);
  same = c.read.ensures.same;
  still = c.read.ensures.still;
  tip = IfOk-from_err c.from_residual-in_err-head.result _ c.from_residual-in_err-head.ensures.0;
  size = IfOk-from_err c.from_residual-in_err-head.result _ c.from_residual-in_err-head.ensures.0;
}

pub returns-in_err-edge : goal.returns-in_err-edge
returns-in_err-edge g c = record {
  fault = err_exit _ c.from_residual-in_err-edge.result c.in_err-edge.field-0.0 c.from_residual-in_err-edge.ensures c.in_err-edge.ensures.fault;
  counted = counted_exit c.from_residual-in_err-edge.result c.in_err-edge.field-0.0 c.from_residual-in_err-edge.ensures (g.D.Shelf.failed c.args.shelf.now)
      (g.D.Shelf.failed c.read.new.self) (g.D.Shelf.failed c.edge_on_shelf.new.shelf) c.in_ok-checkpoint.ensures.counted c.in_err-edge.ensures.counted;
  damaged = err_exit _ c.from_residual-in_err-edge.result c.in_err-edge.field-0.0 c.from_residual-in_err-edge.ensures (inr c.in_err-edge.ensures.places);
  same = kept_then (g.D.Shelf.puts c.args.shelf.now) (g.D.Shelf.puts c.read.new.self) (g.D.Shelf.puts c.edge_on_shelf.new.shelf) c.read.ensures.same
      c.edge_on_shelf.ensures.same;
  still = c.edge_on_shelf.ensures.still ∙ c.read.ensures.still;
  tip = IfOk-from_err c.from_residual-in_err-edge.result _ c.from_residual-in_err-edge.ensures.0;
  size = IfOk-from_err c.from_residual-in_err-edge.result _ c.from_residual-in_err-edge.ensures.0;
}

pub returns-in_err-bundle-clause-fault : goal.returns-in_err-bundle-clause-fault
returns-in_err-bundle-clause-fault g c =
    err_exit _ c.from_residual-in_err-bundle.result c.in_err-bundle.field-0.0 c.from_residual-in_err-bundle.ensures c.in_err-bundle.ensures.fault

pub returns-in_err-bundle-clause-counted : goal.returns-in_err-bundle-clause-counted
returns-in_err-bundle-clause-counted g c =
    counted_exit c.from_residual-in_err-bundle.result c.in_err-bundle.field-0.0 c.from_residual-in_err-bundle.ensures (g.D.Shelf.failed c.args.shelf.now)
    (g.D.Shelf.failed c.edge_on_shelf.new.shelf) (g.D.Shelf.failed c.bundle_on_shelf.new.shelf) (c.in_ok-edge.ensures.counted ∙ c.in_ok-checkpoint.ensures.counted) c.in_err-bundle.ensures.counted

pub returns-in_err-bundle-clause-tip : goal.returns-in_err-bundle-clause-tip
returns-in_err-bundle-clause-tip g c =
    IfOk-from_err c.from_residual-in_err-bundle.result _ c.from_residual-in_err-bundle.ensures.0

pub returns-in_default-3-clause-same : goal.returns-in_default-3-clause-same
returns-in_default-3-clause-same g c =
    kept_then (g.D.Shelf.puts c.args.shelf.now) (g.D.Shelf.puts c.read.new.self) (g.D.Shelf.puts c.edge_on_shelf.new.shelf) c.read.ensures.same
    c.edge_on_shelf.ensures.same

pub returns-in_default-3-clause-counted : goal.returns-in_default-3-clause-counted
returns-in_default-3-clause-counted g c =
    c.in_ok-edge.ensures.counted ∙ c.in_ok-checkpoint.ensures.counted

pub returns-in_err-bundle-clause-same : goal.returns-in_err-bundle-clause-same
returns-in_err-bundle-clause-same g c =
    kept_then (g.D.Shelf.puts c.args.shelf.now) (g.D.Shelf.puts c.edge_on_shelf.new.shelf) (g.D.Shelf.puts c.bundle_on_shelf.new.shelf)
    (kept_then (g.D.Shelf.puts c.args.shelf.now) (g.D.Shelf.puts c.read.new.self) (g.D.Shelf.puts c.edge_on_shelf.new.shelf) c.read.ensures.same
    c.edge_on_shelf.ensures.same) c.bundle_on_shelf.ensures.same

pub returns-clause-same : goal.returns-clause-same
returns-clause-same g c =
    kept_then (g.D.Shelf.puts c.args.shelf.now) (g.D.Shelf.puts c.edge_on_shelf.new.shelf) (g.D.Shelf.puts c.bundle_on_shelf.new.shelf)
    (kept_then (g.D.Shelf.puts c.args.shelf.now) (g.D.Shelf.puts c.read.new.self) (g.D.Shelf.puts c.edge_on_shelf.new.shelf) c.read.ensures.same
    c.edge_on_shelf.ensures.same) c.bundle_on_shelf.ensures.same

pub returns-clause-counted : goal.returns-clause-counted
returns-clause-counted g c =
    c.in_ok-bundle.ensures.counted ∙ (c.in_ok-edge.ensures.counted ∙ c.in_ok-checkpoint.ensures.counted)

pub returns-in_err-bundle-clause-size : goal.returns-in_err-bundle-clause-size
returns-in_err-bundle-clause-size g c =
    IfOk-from_err c.from_residual-in_err-bundle.result _ c.from_residual-in_err-bundle.ensures.0

pub returns-in_default-clause-size : goal.returns-in_default-clause-size
returns-in_default-clause-size g c = rw c.empty.ensures refl

pub returns-clause-size : goal.returns-clause-size
returns-clause-size g c =
    let origin = c.args.origin.now in
    let head = c.in-Some-2.head in
    let is_head = subst (λ b. IsHead b origin head.0 head.1) c.deref.ensures.value
    (rw c.in-Some-2.is at c.in_ok-head.ensures.found) in
    size_in origin c.new.result.checkpoint c.new.result.size head.0 c.in-Some.checkpoint.items head.1 c.new.ensures.checkpoint
    (c.new.ensures.size ∙ (rw c.in-Some-3.is at c.in_ok-edge.ensures.read).size_is) is_head
