-- Proofs of the served entries, and sizes without a proof.
use Rattle.std.proofs.Common.{◌≡◌, ◌≤◌, ℕ, List, subst, sym, ◌∙◌, arith}
use Rattle.mirror_model.specs.View.{View}
use Rattle.node_store.specs.Strings.{Strings}
use Rattle.mirror_model.specs.Complete.{IsTreeOf}
use Rattle.mirror_model.specs.Served.{IsCompleteNote, IsServedList, Served}
use Rattle.mirror_model.proofs.OneLists.{at_most_both}
use Rattle.mirror_trees.specs.Tops.{IsListOf, IsServedTop, Top}

-- the list of a served checkpoint is each list that is served
pub listed_by_top : (digest : List ℕ → List ℕ) (v : View) (top : Top) → IsServedTop digest v top →
    (entries : List (List ℕ)) → IsServedList digest v entries → IsListOf digest top entries
listed_by_top digest v top is entries q =
    let p : Served digest v top.note top.size top.root is.served.entries = is.served.served in
    let is_p : IsCompleteNote digest v top.note top.size top.root =
    record { holds = p.holds; built = record { entries = is.served.entries; is = p.tree } } in
    let is_q : IsCompleteNote digest v q.note q.size q.root =
    record { holds = q.served.holds; built = record { entries = entries; is = q.served.tree } } in
    let le : q.size ≤ top.size = p.greatest_size q.note q.size q.root is_q in
    let ge : top.size ≤ q.size = q.served.greatest_size top.note top.size top.root is_p in
    let size_is : q.size ≡ top.size = omega arith in
    let q_size : IsCompleteNote digest v q.note top.size q.root =
    subst (λ n. IsCompleteNote digest v q.note n q.root) size_is is_q in
    let p_size : IsCompleteNote digest v top.note q.size top.root =
    subst (λ n. IsCompleteNote digest v top.note n top.root) (sym size_is) is_p in
    let root_is : q.root ≡ top.root = at_most_both q.root top.root (q.served.least_root top.note top.root p_size)
    (p.least_root q.note q.root q_size) in
    let tree : IsTreeOf digest v.strings top.size top.root entries =
    record {
      size_is = q.served.tree.size_is ∙ size_is;
      root_is = q.served.tree.root_is ∙ root_is;
      are_held = q.served.tree.are_held;
    } in
    subst (λ (s : Strings). IsTreeOf digest s top.size top.root entries) (sym is.strings_are) tree
