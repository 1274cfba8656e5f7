use Rattle.std.proofs.Common.{rules, ◌≡◌, ◌≤◌, [], List, ℕ, inl, length, refl, sym, ap, subst, ◌∙◌, arith}
use Rattle.std.specs.Prelude.{option_map}
use Rattle.tlog_shape.specs.Edge.{edge_index_of, width_of}
use Rattle.copy_follow.proofs.Damages.{bundle_wrong}
use Rattle.copy_follow.proofs.WholeMoments.{bundle_made, no_bundle}
use Rattle.std.proofs.Common.{inr}
use Rattle.copy_follow.proofs.Exits.{counted_exit, err_exit}
use Rattle.copy_follow.specs.declared.bring_fault.BringFault.TheVariants.{OutOfMemory}
use Rattle.std.proofs.lemmas.Result.{IfOk-from_err}
use Rattle.copy_follow.proofs.read_tip.bundle_on_shelf.Goals as goal

pub returns-then-is_empty-clause-bundle : goal.returns-then-is_empty-clause-bundle
returns-then-is_empty-clause-bundle g c =
    let edge = c.args.edge.now in
    let none : length c.row-row.result.now ≡ 0 = search rules in
    let zero_wide : width_of edge.size 0 ≡ 0 =
    sym (c.requires 0 (omega arith)) ∙ subst (λ (r : List (List ℕ)). length r ≡ 0) c.row-row.ensures none in
    let empty : c.new.result.items ≡ [] = search rules in
    no_bundle (g.D.Shelf.puts c.args.shelf.now) edge.size c.new.result.items empty zero_wide

pub returns-in-Some-clause-bundle : goal.returns-in-Some-clause-bundle
returns-in-Some-clause-bundle g c =
    let edge = c.args.edge.now in
    let width = length c.row-row.result.now in
    let index_is : c.edge_index.result ≡ edge_index_of edge.size 0 =
    c.edge_index.ensures ∙ ap (λ n. edge_index_of n 0) c.size.ensures in
    let width_is : width ≡ width_of edge.size 0 =
    ap (λ (r : List (List ℕ)). length r) c.row-row.ensures ∙ c.requires 0 (omega arith) in
    let some : 1 ≤ length c.row-row.result.now = search rules in
    bundle_made (g.D.Shelf.puts c.args.shelf.now) edge c.edge_index.result width
    (option_map (λ v. v.items) c.in_ok-given.given) c.in-Some.bytes.items index_is width_is some
    c.in_ok-given.ensures.answer (rw c.in-Some.is at c.in_ok-bytes.ensures.given)

pub returns-in-None-clause-damaged : goal.returns-in-None-clause-damaged
returns-in-None-clause-damaged g c =
    let edge = c.args.edge.now in
    let width = length c.row-row.result.now in
    let index_is : c.edge_index.result ≡ edge_index_of edge.size 0 =
    c.edge_index.ensures ∙ ap (λ n. edge_index_of n 0) c.size.ensures in
    let width_is : width ≡ width_of edge.size 0 =
    ap (λ (r : List (List ℕ)). length r) c.row-row.ensures ∙ c.requires 0 (omega arith) in
    let some : 1 ≤ length c.row-row.result.now = search rules in
    inl (
      refl,
      bundle_wrong g.H.TreeHash.digest (g.D.Shelf.puts c.args.shelf.now) edge c.edge_index.result width
          c.row-row.result.now c.in_ok-given.given index_is width_is c.row-row.ensures some c.in_ok-given.ensures.answer
          (rw c.in-None.is at c.in_ok-bytes.ensures.none),
    )

pub returns-in_err-bytes : goal.returns-in_err-bytes
returns-in_err-bytes g c = record {
  fault = err_exit _ c.from_residual-in_err-bytes.result OutOfMemory c.from_residual-in_err-bytes.ensures tt;
  counted = counted_exit c.from_residual-in_err-bytes.result OutOfMemory c.from_residual-in_err-bytes.ensures (g.D.Shelf.failed c.args.shelf.now)
      (g.D.Shelf.failed c.partial_on_shelf.new.shelf) (g.D.Shelf.failed c.partial_on_shelf.new.shelf) c.in_ok-given.ensures.counted refl;
  damaged = err_exit _ c.from_residual-in_err-bytes.result OutOfMemory c.from_residual-in_err-bytes.ensures (inr tt);
  same = c.partial_on_shelf.ensures.same;
  still = c.partial_on_shelf.ensures.still;
  bundle = IfOk-from_err c.from_residual-in_err-bytes.result _ c.from_residual-in_err-bytes.ensures.0;
}
