use Rattle.std.proofs.Common.{◌≡◌, ℕ, List, [], length}
use Rattle.std.proofs.lemmas.List.Elements.{All-from_get_or, All-same}
use Rattle.log_reader.proofs.walk.copy_row.Goals as goal

pub returns-clause-sizes : goal.returns-clause-sizes
returns-clause-sizes c =
    All-same (λ (h : List ℕ). length h ≡ 32) _ _ c.in_ok-from_slice.ensures.items
    (All-from_get_or (λ (h : List ℕ). length h ≡ 32) c.args.row.now [] c.told-row)
