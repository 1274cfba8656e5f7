use Rattle.std.proofs.Common.{◌≡◌, ◌<◌, ◌+◌, ◌*◌, ◌++◌, ◌∷◌, ◌∙◌, [], ap, arith, get_or, length, refl, subst, sym, take}
use Rattle.std.proofs.lemmas.List.{get_or_read_under, take-append-le, take_all}
use Rattle.log_reader.specs.FullRows.{HasNodes}
use Rattle.log_reader.proofs.FullNodes.{row_alone, with_node}
use Rattle.log_reader.proofs.full_row.FullRow.new.Goals as goal

pub loop-k-init : goal.loop-k-init
loop-k-init g c = record {
  row = take_all 256 c.args.row.items (omega (arith, c.requires));
  nodes = row_alone g.H.TreeHash.digest c.args.row.items c.requires;
}

pub loop-k-preserved : goal.loop-k-preserved
loop-k-preserved g c =
    let digest = g.H.TreeHash.digest in
    let k = c.loop-k.k in
    let hashes = c.loop-k.hashes.items in
    let has = c.loop-k.invariant.nodes in
    let fits : k < 255 = omega arith in
    let left : c.index.result.now ≡ get_or hashes (2 * k) [] =
    get_or_read_under hashes (2 * k) (length hashes) c.index.result.now [] c.index.ensures (omega (arith, has.long, fits)) refl in
    let right : c.index-in-loop-k.result.now ≡ get_or hashes (2 * k + 1) [] =
    get_or_read_under hashes (2 * k + 1) (length hashes) c.index-in-loop-k.result.now [] c.index-in-loop-k.ensures
    (omega (arith, has.long, fits)) refl in
    let node = c.node-node.result in
    let node_is : node ≡ digest (1 ∷ get_or hashes (2 * k) [] ++ get_or hashes (2 * k + 1) []) =
    c.node-node.ensures ∙ (λ i. digest (1 ∷ left i ++ right i)) in
    let count : 257 + k ≡ 256 + (k + 1) = omega arith in
    let more = with_node digest k hashes node fits has node_is in
    record {
      row = ap (take 256) c.in_ok-push.ensures.items
          ∙ (take-append-le 256 hashes (node ∷ []) (omega (arith, has.long)) ∙ c.loop-k.invariant.row);
      nodes = subst (λ n. HasNodes digest n c.push.new.self.items) count
          (subst (HasNodes digest (257 + k)) (sym c.in_ok-push.ensures.items) more);
    }
