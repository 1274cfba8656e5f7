use Rattle.std.proofs.Common.{◌∙◌, Bool, ap, sym}
use Rattle.std.specs.Prelude.{if◌then◌else◌}
use Rattle.program_reports.proofs.comparing.comparison_status.Goals as goal

pub returns-then-has_other : goal.returns-then-has_other
returns-then-has_other c = ap (λ (b : Bool). if b then 3 else 0) (sym c.if-has_other.true ∙ c.has_other.ensures)

pub returns-else-has_other : goal.returns-else-has_other
returns-else-has_other c = ap (λ (b : Bool). if b then 3 else 0) (sym c.if-has_other.false ∙ c.has_other.ensures)
