use Rattle.std.proofs.Common.{◌≡◌, sym, ap, ◌∙◌}
use Rattle.std.specs.FinSet.{contains}
use Rattle.std.specs.List.{list_any}
use Rattle.mirror_model.specs.Forks.{Point}
use Rattle.mirror_trees.proofs.Marking.{has_point, same_key}
use Rattle.mirror_trees.proofs.marks.Marks.contains.Goals as goal

pub returns : goal.returns
returns c =
    let point : Point = record { size = c.args.size; root = c.args.root.now } in
    let same : c.contains.result ≡ contains c.args.self.now point =
    c.contains.ensures ∙ ap (λ q. list_any (same_key q) c.self.inside.points.keys) c.new.ensures
    ∙ sym (has_point c.self.inside.points.keys (c.args.size, c.args.root.now)) ∙
    ap (λ s. contains s point) c.self.view_is in
    (λ h. sym same ∙ h, λ h. same ∙ h)
