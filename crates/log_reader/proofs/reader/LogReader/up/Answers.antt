use Rattle.std.proofs.Common.{◌≤◌, ◌+◌, sym, ap, ◌∙◌, arith}
use Rattle.log_reader.proofs.Climbing.{way_lower}
use Rattle.log_reader.proofs.reader.LogReader.up.Goals as goal

pub overflow_add-self : goal.overflow_add-self
overflow_add-self g c =
    let inside = c.self.inside in
    let low : inside.level + 1 ≤ 7 =
    way_lower g.H.TreeHash.digest inside.edge inside.level inside.index inside.rows.items
    c.self.invariant.is_way (λ none. c.requires (sym (ap (λ r. r.way) c.self.view_is) ∙ none)) in
    omega (arith, low)
