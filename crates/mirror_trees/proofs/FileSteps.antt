-- The entries of a held tree, from all its leaf hashes.
use Rattle.std.proofs.Common.{◌≡◌, ℕ, ◌*◌, ◌+◌, ◌^◌, ◌<◌, ◌≤◌, List, [], ◌∷◌, length, map, ap, ◌∙◌, subst, arith}
use Rattle.std.proofs.Common.{All, Option, Some, None}
use Rattle.std.specs.Prelude.{IsSomeAnd, IfNone}
use Rattle.std.specs.List.{AllByRecursion}
use Rattle.std.proofs.Math.Nat.{div-one}
use Rattle.std.proofs.lemmas.List.{take_all}
use Rattle.std.proofs.lemmas.List.Elements.{All-nil, All-cons, All-head, All-tail}
use Rattle.tlog_hash.specs.Tree.{leaf_hash, strings, joins}
use Rattle.tlog_hash.specs.Rows.{level_row}
use Rattle.tlog_hash.proofs.Trees.{all-left}
use Rattle.tlog_tiles.specs.Layout.{full_row}
use Rattle.node_store.specs.Strings.{Strings, Has, NoClash}
use Rattle.mirror_model.specs.Complete.{IsTreeOf}
use Rattle.mirror_model.proofs.StringSets.{all_from_held}
use Rattle.mirror_trees.specs.Leaves.{AreLeaves}
use Rattle.mirror_trees.proofs.LeafRows.{bundle_is, bundle_none}

pub at_some_and : {X : Type 0} (o : Option X) (x : X) (P : X → Type 0) → o ≡ Some x → IsSomeAnd o P → P x
at_some_and o x P is h = subst (λ p. IsSomeAnd p P) is h

pub at_none : {X : Type 0} (o : Option X) (P : Type 0) → o ≡ None → IfNone o P → P
at_none o P is h = subst (λ p. IfNone p P) is h

-- a property of each mapped item is a property of the item before the map
pub all_of_map : {X Y : Type 0} (P : X → Type 0) (f : Y → X) (ys : List Y) → All P (map f ys) → All (λ y. P (f y)) ys
all_of_map P f [] h = All-nil (λ y. P (f y))
all_of_map P f (y ∷ ys) h =
    All-cons (λ z. P (f z)) y ys (All-head P (f y) (map f ys) h) (all_of_map P f ys (All-tail P (f y) (map f ys) h))

short_all : (held : Strings) → ((entry : List ℕ) → Has held (0 ∷ entry) → length entry ≤ 65535) → (es : List (List ℕ)) →
    AllByRecursion (Has held) (map (λ e. 0 ∷ e) es) → All (λ e. length e < 2 ^ 16) es
short_all held short [] h = All-nil (λ (e : List ℕ). length e < 2 ^ 16)
short_all held short (e ∷ es) h =
    All-cons (λ (e : List ℕ). length e < 2 ^ 16) e es (let fits = short e h.0 in omega (arith, fits))
    (short_all held short es h.1)

module _ (digest : List ℕ → List ℕ) (held : Strings) (size : ℕ) (root : List ℕ) (es : List (List ℕ))
    (tree : IsTreeOf digest held size root es) where
  entries_held : AllByRecursion (Has held) (map (λ e. 0 ∷ e) es)
  unfolding strings
  entries_held =
      all-left (Has held) (map (λ e. 0 ∷ e) es) (joins digest (map (leaf_hash digest) es))
      (all_from_held held (strings digest es) tree.are_held)

  pub short_entries : ((entry : List ℕ) → Has held (0 ∷ entry) → length entry ≤ 65535) →
      All (λ e. length e < 2 ^ 16) es
  short_entries short = short_all held short es entries_held

  whole : (256 * 0 + size) * 256 ^ 0 ≤ size
  whole = omega arith

  all_row : (row : List (List ℕ)) → row ≡ full_row digest es 0 → row ≡ level_row digest es 0 (256 * 0) size
  all_row row is = is ∙ ap (λ n. level_row digest es 0 0 n) (div-one (length es) ∙ tree.size_is)

  -- the entries of all the leaf hashes are the entries of the tree
  pub all_leaves : NoClash digest held → (row xs : List (List ℕ)) → row ≡ full_row digest es 0 →
      AreLeaves digest held row xs → xs ≡ es
  all_leaves clean row xs row_is h =
      bundle_is digest held clean size root es row xs 0 size tree whole (all_row row row_is) h ∙
      take_all size es (omega (arith, tree.size_is))

  pub no_leaves : (row : List (List ℕ)) → row ≡ full_row digest es 0 →
      ((xs : List (List ℕ)) → AreLeaves digest held row xs → ⊥) → ⊥
  no_leaves row row_is none = bundle_none digest held size root es row 0 size tree whole (all_row row row_is) none
