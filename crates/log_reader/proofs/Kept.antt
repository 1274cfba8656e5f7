-- The facts about a source, call after call.
use Rattle.std.proofs.Common.{List, Option, Some, None, ℕ, refl, ◌∙◌}
use Rattle.tlog_tiles.specs.declared.paths.Path.{Path}
use Rattle.mirror_sources.specs.Source.{StaysWithin}
use Rattle.mirror_sources.specs.Recorded.{KeepsRecord}

pub stays_twice : {x y z : Path → Option (List ℕ) → Type 0} → StaysWithin x y → StaysWithin y z → StaysWithin x z
stays_twice p q = record { stays = λ path answer may. p.stays path answer (q.stays path answer may) }

pub kept_once : {X : Type 0} (x : Option (List X)) → KeepsRecord x x
kept_once None = tt
kept_once (Some xs) = refl

pub kept_twice : {X : Type 0} (x y z : Option (List X)) → KeepsRecord x y → KeepsRecord y z → KeepsRecord x z
kept_twice None y z p q = tt
kept_twice (Some xs) None z p q = absurd p
kept_twice (Some xs) (Some ys) None p q = q
kept_twice (Some xs) (Some ys) (Some zs) p q = q ∙ p
