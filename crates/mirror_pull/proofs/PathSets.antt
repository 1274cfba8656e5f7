-- Sets of paths.
use Rattle.std.proofs.Common.{◌≡◌, Bool, true, false, not, List, [], ◌∷◌, ◌++◌, Contains, sym}
use Rattle.std.specs.HashSet.{HashSet, PutsKey, contains}
use Rattle.std.specs.List.Sorted.{IsPermutation}
use Rattle.std.proofs.lemmas.List.Sorted.{Contains-permutation, IsPermutation-cons, IsPermutation-sym, IsPermutation-to_front}
use Rattle.std.proofs.lemmas.List.Sorted.{IsPermutation-trans}
use Rattle.std.proofs.lemmas.Bool.{not-false}
use Rattle.std.proofs.lemmas.Map.Views.{hash_set_contains_iff}
use Rattle.tlog_tiles.specs.declared.paths.Path.{Path}
use Rattle.tlog_tiles.specs.contracts.paths.PathPartialEq.TheImpl as path_eq
use Rattle.mirror_trees.proofs.Orders.{derived, exact, equivalence}

-- a path that the list does not contain is put into the set of the list
pub put_new : {S : Type 0} (items : List Path) (old new : HashSet Path S) (path : Path) (added : Bool) →
    (Contains items path → ⊥) → IsPermutation items old.keys → added ≡ not (contains (path_eq.ghosts).eq old path) →
    PutsKey old new path added → IsPermutation (items ++ path ∷ []) new.keys
put_new items old new path true lacks same is puts =
    IsPermutation-trans (items ++ path ∷ []) (path ∷ items) new.keys (IsPermutation-to_front items path)
    (IsPermutation-trans (path ∷ items) (path ∷ old.keys) new.keys (IsPermutation-cons path items old.keys same) puts)
put_new items old new path false lacks same is puts =
    let iff = hash_set_contains_iff (equivalence (path_eq.ghosts).eq derived) (exact (path_eq.ghosts).eq derived) old path in
    absurd (lacks (Contains-permutation old.keys items path (IsPermutation-sym items old.keys same)
    (iff.0 (not-false (contains (path_eq.ghosts).eq old path) (sym is)))))
