use Rattle.std.proofs.Common.{◌≡◌, map, take}
use Rattle.mirror_pull.proofs.list.lent_entries.Given as goal

-- the entries up to here are borrowed
abbrev pub invariant-loop-entry : goal.invariant-loop-entry
invariant-loop-entry l = map (λ e. e.now) l.lent.items ≡ map (λ e. e.items) (take l.entry-index l.entries)
