use Rattle.std.proofs.Common.{◌≡◌, ℕ, ◌+◌, ◌<◌, [], map, get_or, length}
use Rattle.std.specs.Ordering.{nat_cmp}
use Rattle.std.specs.declared.cmp.Ordering.TheVariants.{Less}
use Rattle.std.specs.Cmp.Lexicographic.{slice_cmp}
use Rattle.mirror_files.proofs.order.rises.Given as goal

-- each item before this one comes before the next
abbrev pub invariant-loop-i : goal.invariant-loop-i
invariant-loop-i l = (k : ℕ) → k + 1 < l.i → k + 1 < length l.items →
    slice_cmp nat_cmp (get_or (map (λ x. x.now) l.items) k []) (get_or (map (λ x. x.now) l.items) (k + 1) []) ≡ Less
