use Rattle.std.proofs.Common.{◌≡◌, ◌<◌, ◌++◌, ◌∷◌, ◌∙◌, [], Some, ap, length, List, ℕ, rules, sym}
use Rattle.tlog_hash.specs.Tree.{fold_of}
use Rattle.log_reader.specs.Nodes.{hash_on_top}
use Rattle.log_reader.proofs.EdgeHashes.{top_some}
use Rattle.log_reader.proofs.edge_root.on_top.Goals as goal

pub returns : goal.returns
returns g c =
    let digest = g.H.TreeHash.digest in
    let row = c.args.row.now in
    let value = c.in-Some.value in
    let some : 0 < length row = search rules in
    let whole : c.as_slice.result.now ≡ row ++ value ∷ [] = c.as_slice.ensures.value ∙ (c.in_ok-push.ensures.items
    ∙ ap (λ (l : List (List ℕ)). l ++ value ∷ []) c.in_ok-whole.ensures.items) in
    ap Some (c.fold-2.ensures ∙ ap (fold_of digest) whole)
    ∙ (sym (top_some digest value row some) ∙ ap (λ below. hash_on_top digest below row) (sym c.in-Some.is))
