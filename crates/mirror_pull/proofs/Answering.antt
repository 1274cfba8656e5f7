-- The answers of a source over a list.
use Rattle.std.proofs.Common.{◌≡◌, ℕ, List, [], ◌∷◌, length, map, Option, Some, None}
use Rattle.std.proofs.Common.{option_map, sym, subst, arith, All}
use Rattle.std.proofs.lemmas.List.{take_all}
use Rattle.std.proofs.lemmas.List.Elements.{All-nil, All-cons, All-head, All-tail}
use Rattle.signed_note.specs.Keys.{Key}
use Rattle.tlog_hash.specs.Tree.{mth}
use Rattle.tlog_tiles.specs.declared.paths.Path.{Path}
use Rattle.tlog_tiles.specs.declared.paths.Path.TheVariants.{Checkpoint, Tile, Entries}
use Rattle.tlog_tiles.specs.Tiles.{IsWithin}
use Rattle.mirror_model.specs.Heads.{IsOpenHead}
use Rattle.mirror_model.specs.TrueLaws.{AreShort}
use Rattle.mirror_sources.specs.Honest.{true_bytes, IsTrueAnswer}
use Rattle.std.specs.Prelude.{IfSome, IfNone}
use Rattle.mirror_pull.specs.ListSource.{IsPartAnswer, IsListAnswer, IsHonestAnywhere, OpensAnywhere}

module _ (digest : List ℕ → List ℕ) (entries : List (List ℕ)) where
  true_answer : (path : Path) → IsWithin (length entries) path → (answer : Option (List ℕ)) →
      IsPartAnswer digest entries path answer → IsTrueAnswer digest entries path answer
  true_answer path within (Some bytes) h = h.1
  true_answer path within None h = absurd (h within)

  true_part : (note : List ℕ) (path : Path) → IsWithin (length entries) path → (answer : Option (List ℕ)) →
      IsListAnswer digest entries note path answer → IsTrueAnswer digest entries path answer
  true_part note Checkpoint within answer h = absurd within
  true_part note (Tile level index width) within answer h = true_answer (Tile level index width) within answer h
  true_part note (Entries index width) within answer h = true_answer (Entries index width) within answer h

  -- a source with these answers is honest
  pub honest : (origin note : List ℕ) (key : Key) → AreShort entries →
      OpensAnywhere note origin key (length entries) (mth digest entries) →
      IsHonestAnywhere digest entries origin key note
  honest origin note key short opens = λ keys has. record {
    short = short;
    within = omega arith;
    is_head =
        subst (λ es. IsOpenHead note origin keys (length entries) (mth digest es))
        (sym (take_all (length entries) entries (omega arith))) (opens keys has);
    checkpoint = λ answer h. h;
    parts = true_part note;
  }

  -- a file that is found exactly at the paths within the entries is the right answer for its path
  pub part_answer : {X : Type 0} (f : X → List ℕ) (found : Option X) (path : Path) →
      IfSome found (λ b. f b ≡ true_bytes digest entries path) → IfSome found (λ b. IsWithin (length entries) path) →
      IfNone found (IsWithin (length entries) path → ⊥) → IsPartAnswer digest entries path (option_map f found)
  part_answer f (Some b) path some within none = (within, some)
  part_answer f None path some within none = none

-- a property of each mapped item is a property of the item that was mapped
pub all_of_map : {X Y : Type 0} (P : X → Type 0) (f : Y → X) (ys : List Y) → All P (map f ys) → All (λ y. P (f y)) ys
all_of_map P f [] h = All-nil (λ y. P (f y))
all_of_map P f (y ∷ ys) h =
    All-cons (λ z. P (f z)) y ys (All-head P (f y) (map f ys) h) (all_of_map P f ys (All-tail P (f y) (map f ys) h))
