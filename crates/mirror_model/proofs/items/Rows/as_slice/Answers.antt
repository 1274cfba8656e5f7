use Rattle.std.proofs.Common.{◌∙◌, ap, map}
use Rattle.mirror_model.proofs.items.Rows.as_slice.Goals as goal

pub returns : goal.returns
returns c = ap (map (λ row. row.items)) c.as_slice.ensures.value ∙ c.self.view_is
