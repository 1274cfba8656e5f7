-- The view of a copy is lawful.
use Rattle.std.proofs.Common.{ℕ, ◌^◌, ◌<◌, List, [], ◌∷◌, length, map, refl, sym, subst, inl, inr, arith}
use Rattle.std.specs.FinSet as set
use Rattle.std.specs.List.{AllByRecursion, Contains}
use Rattle.std.proofs.lemmas.List.Elements.{All-contains, All-from_recursion, Contains-append_cases, recursion_from_All}
use Rattle.tlog_hash.specs.Tree.{joins, leaf_hash, mth, strings}
use Rattle.node_store.specs.Strings.{HasAll, IsTagged, NoClash, OfEntry, OfPair}
use Rattle.mirror_model.specs.Complete.{HoldsEdge, IsLawful}
use Rattle.mirror_model.specs.Edge.{edge_rows, edge_strings}
use Rattle.mirror_model.specs.Heads.{IsHead}
use Rattle.mirror_model.specs.Strings.{IsDigest}
use Rattle.mirror_model.specs.TrueLaws.{AreShort, edge_bytes}
use Rattle.mirror_model.proofs.EdgeStrings.{edge_strings_within}
use Rattle.mirror_model.proofs.ItemStrings.{AreHashes, is_short, IsItemString, joins_pairs}
use Rattle.mirror_model.proofs.StringSets.{has_from_listed, held_from_holds, listed_from_has, only_listed}
use Rattle.mirror_model.proofs.TrueItems.{edges_are_true}
use Rattle.mirror_model.proofs.Views.{nothing_is_lawful}
use Rattle.program_copies.specs.CopyLaws.{copy_view, CopyViewsAreLawful}

is_tagged : (s : List ℕ) → IsItemString s → IsTagged s
is_tagged s (inl leaf) = subst IsTagged (sym leaf.is) (OfEntry leaf.entry)
is_tagged s (inr pair) = subst IsTagged (sym pair.is) (OfPair pair.left pair.right pair.left_len pair.right_len)

leaves_are_short : (entries : List (List ℕ)) → AllByRecursion (λ e. length e < 2 ^ 16) entries →
    AllByRecursion IsItemString (map (λ e. 0 ∷ e) entries)
leaves_are_short [] h = tt
leaves_are_short (e ∷ es) h = (inl (record { entry = e; is = refl; short = h.0 }), leaves_are_short es h.1)

module _ (digest : List ℕ → List ℕ) (hash : IsDigest digest) where
  leaf_hashes : (entries : List (List ℕ)) → AreHashes (map (leaf_hash digest) entries)
  leaf_hashes [] = tt
  leaf_hashes (e ∷ es) = (hash (0 ∷ e), leaf_hashes es)

  module _ (entries : List (List ℕ)) (short : AreShort entries) where
    tree_string : (s : List ℕ) → Contains (strings digest entries) s → IsItemString s
    unfolding strings
    tree_string s c =
        let leaves = map (λ e. 0 ∷ e) entries in
        let row = map (leaf_hash digest) entries in
        elim (Contains-append_cases leaves (joins digest row) s c) [
          | inl a ↦ All-contains IsItemString leaves s
              (All-from_recursion IsItemString leaves
              (leaves_are_short entries (recursion_from_All (λ e. length e < 2 ^ 16) entries short))) a
          | inr b ↦ inr (joins_pairs digest hash row (leaf_hashes entries) s b)
        ]

    module _ (origin note : List ℕ) (head : IsHead note origin (length entries) (mth digest entries))
        (clear : NoClash digest (set.from_list (strings digest entries))) where
      edge_is_held : HoldsEdge digest (set.from_list (strings digest entries)) (length entries) (mth digest entries)
      edge_is_held =
          let small : length entries < 256 ^ 8 = omega (arith, head.is_checkpoint.in_range) in
          let edge = edges_are_true digest hash entries small in
          let held = set.from_list (strings digest entries) in
          record {
            rows = edge_bytes digest entries;
            has_edge = edge.has_edge;
            are_held = subst (HasAll held) (sym edge.strings_are)
                (held_from_holds held (edge_strings digest (edge_rows digest entries))
                (λ y m. has_from_listed (strings digest entries) y (edge_strings_within digest entries y m)));
          }

      is_lawful : IsLawful digest (copy_view digest origin note entries)
      is_lawful = record {
        no_clash = clear;
        are_strings = λ s h. is_tagged s (tree_string s (listed_from_has (strings digest entries) s h));
        leaves_short = λ e h. is_short e (tree_string (0 ∷ e) (listed_from_has (strings digest entries) (0 ∷ e) h));
        edges = λ other h. record {
          size = length entries;
          root = mth digest entries;
          is_head = subst (λ k. IsHead k origin (length entries) (mth digest entries)) (sym (only_listed note other h)) head;
          edge = edge_is_held;
        };
      }

pub copy_views_are_lawful : CopyViewsAreLawful
copy_views_are_lawful digest hash origin = record {
  empty = nothing_is_lawful digest origin;
  one = λ note entries of clear. is_lawful digest hash entries of.short origin note of.is_head clear;
}
