-- The strings of a set, list by list.
use Rattle.std.specs.Prelude.{◌≡◌, ◌↔◌, ◌⊎◌, ℕ, List, [], ◌∷◌, map, All}
use Rattle.std.specs.List.{Contains}
use Rattle.node_store.specs.Strings.{Strings, Has}
use Rattle.mirror_files.specs.Content.{Rises}
use Rattle.mirror_files.specs.Putting.{pair_bytes, IsKeyed}
use Rattle.mirror_files.specs.declared.listing.Sorted.{Sorted}

-- the strings of the set with that tag are those of the items: the tag, then the item
abbrev pub HoldsEach : ℕ → Strings → List (List ℕ) → Type 0
HoldsEach tag strings items = (item : List ℕ) → Contains items item ↔ Has strings (tag ∷ item)

-- the same, and the items are in order
pub record ListsEach (tag : ℕ) (strings : Strings) (items : List (List ℕ)) : Type 0 where
  pub rises : Rises items
  pub exact : HoldsEach tag strings items

-- the strings of the set with that tag are those of the items, and some of those that are left
abbrev pub HoldsPart : ℕ → Strings → List (List ℕ) → List (List ℕ) → Type 0
HoldsPart tag strings items left =
    (item : List ℕ) → Has strings (tag ∷ item) ↔ (Contains items item ⊎ Contains left (tag ∷ item))

-- nothing is listed
pub record HasNone (held : Sorted) : Type 0 where
  pub pairs_none : held.pairs.items ≡ []
  pub entries_none : held.entries.items ≡ []

-- the strings of the set are listed, in any order, apart from those that are left
pub record HasGathered (strings : Strings) (held : Sorted) (left : List (List ℕ)) : Type 0 where
  pub pairs_are : HoldsPart 1 strings (map pair_bytes held.pairs.items) left
  pub keyed : All IsKeyed held.pairs.items
  pub entries_are : HoldsPart 0 strings (map (λ e. e.now) held.entries.items) left

-- the pairs and the entries of a set of strings, each in order
pub record ListsStrings (strings : Strings) (held : Sorted) : Type 0 where
  pub pairs_are : ListsEach 1 strings (map pair_bytes held.pairs.items)
  pub entries_are : ListsEach 0 strings (map (λ e. e.now) held.entries.items)
