-- The items of a mapped list.
use Rattle.std.proofs.Common.{◌≡◌, zero, suc, List, [], ◌∷◌, map, refl}
use Rattle.std.proofs.Common.{ap, ◌∙◌, arith}
use Rattle.std.specs.List.{Contains}
use Rattle.std.proofs.lemmas.List.{length-map, get_or-map}
use Rattle.std.proofs.lemmas.List.Elements.{All-contains, All-nil}

pub nothing_in : {X : Type 0} (y : X) → Contains {X = X} [] y → ⊥
nothing_in {X} y c = All-contains {X = X} (λ z. ⊥) [] y (All-nil {X = X} (λ z. ⊥)) c

pub mapped : {X Y : Type 0} (f : X → Y) (xs : List X) (x : X) → Contains xs x → Contains (map f xs) (f x)
mapped f xs x (k, lt, is) = (k, omega (arith, length-map xs f, lt), get_or-map f xs k x (f x) lt ∙ ap f is)

pub record IsMapped {X Y : Type 0} (f : X → Y) (xs : List X) (y : Y) : Type 0 where
  pub from : X
  pub is_in : Contains xs from
  pub is : f from ≡ y

pub from_mapped : {X Y : Type 0} (f : X → Y) (xs : List X) (y : Y) → Contains (map f xs) y → IsMapped f xs y
from_mapped f [] y c = absurd (nothing_in y c)
from_mapped f (x ∷ xs) y (zero, lt, is) = record { from = x; is_in = (0, omega arith, refl); is = is }
from_mapped f (x ∷ xs) y (suc k, lt, is) =
    let r = from_mapped f xs y (k, omega (arith, lt), is) in
    record { from = r.from; is_in = (suc r.is_in.0, omega (arith, r.is_in.1), r.is_in.2); is = r.is }
