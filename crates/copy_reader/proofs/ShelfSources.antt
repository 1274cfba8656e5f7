-- The possible answers of a source over a shelf, while the puts are kept.
use Rattle.std.proofs.Common.{◌≡◌, ℕ, ◌+◌, ◌<◌, List, [], ◌∷◌, Option, Some, None, subst, inl, inr, refl, arith}
use Rattle.std.proofs.lemmas.List.Elements.{All-head}
use Rattle.tlog_tiles.specs.declared.paths.Path.{Path}
use Rattle.tlog_tiles.specs.declared.paths.Path.TheVariants.{Tile}
use Rattle.mirror_sources.specs.Source.{StaysWithin}
use Rattle.mirror_sources.specs.Recorded.{KeepsRecord}
use Rattle.mirror_folders.specs.Shelf.{Put, RecordsRead}
use Rattle.copy_reader.specs.ShelfSources.{ShelfMayAnswer}

-- an answer that is read after the puts were kept could be read before
pub recorded_before : (x y : Option (List Put)) (path : Path) (answer : Option (List ℕ)) → KeepsRecord x y →
    RecordsRead y path answer → RecordsRead x path answer
recorded_before None y path None k recorded = tt
recorded_before None y path (Some bytes) k recorded = tt
recorded_before (Some xs) None path answer k recorded = absurd k
recorded_before (Some xs) (Some ys) path answer k recorded = subst (λ puts. RecordsRead (Some puts) path answer) k recorded

-- a possible answer later was a possible answer before
pub stays_within : (name : ℕ) (x y : Option (List Put)) → KeepsRecord x y → StaysWithin (ShelfMayAnswer name x) (ShelfMayAnswer name y)
stays_within name x y k = record {
  stays = λ path answer may.
      elim may [ inl recorded ↦ inl (recorded.0, recorded_before x y path answer k recorded.1) | inr named ↦ inr named ];
}

one_name : (m n : ℕ) → Some ((256 + n) ∷ []) ≡ Some ((256 + m) ∷ []) → n ≡ m
one_name m n e = let same : 256 + n ≡ 256 + m = cc in omega (arith, same)

-- if each possible answer was possible before, the same shelf is read
pub same_shelf : (m n : ℕ) (x y : Option (List Put)) → StaysWithin (ShelfMayAnswer m x) (ShelfMayAnswer n y) → n ≡ m
same_shelf m n x y within =
    elim (within.stays (Tile 0 0 0) (Some ((256 + n) ∷ [])) (inr (refl, refl))) [
      | inl recorded ↦ absurd (omega (arith, All-head (λ byte. byte < 256) (256 + n) [] recorded.0))
      | inr named ↦ one_name m n named.1
    ]
