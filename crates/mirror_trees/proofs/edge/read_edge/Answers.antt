use Rattle.std.proofs.Common.{◌≡◌, ◌<◌, ◌*◌, ℕ, List, Vec, Global, Result, Ok, Err, IfOk, All, length, map}
use Rattle.std.proofs.Common.{subst, ◌∙◌}
use Rattle.tlog_text.specs.Answers.{seen}
use Rattle.mirror_model.specs.Edge.{edge_widths}
use Rattle.mirror_model.specs.declared.fault.TakeFault.{TakeFault}
use Rattle.mirror_trees.specs.Edges.{ReadsRows}
use Rattle.mirror_trees.proofs.EdgeRows.{items_of, bytes_of, rows_some}
use Rattle.mirror_trees.proofs.edge.read_edge.Goals as goal

some_read :
    (n : ℕ) (widths : List ℕ) (rows : List (List ℕ)) (r : Result (Vec (Vec (List ℕ) Global) Global) TakeFault) →
    widths ≡ edge_widths n → ReadsRows widths rows (seen (λ vs. items_of vs.items) r) →
    IfOk r (λ vs. All (λ row. 0 < length row.items) vs.items)
some_read n widths rows (Ok vs) is h =
    rows_some n vs.items rows h.1 (subst (λ ws. map length rows ≡ map (λ w. 32 * w) ws) is h.0)
some_read n widths rows (Err fault) is h = tt

pub returns-clause-some : goal.returns-clause-some
returns-clause-some c =
    some_read c.args.size c.as_slice.result.now (bytes_of c.args.edge.now) c.read_rows.result
    (c.as_slice.ensures.value ∙ c.in-Ok.ensures) c.read_rows.ensures
