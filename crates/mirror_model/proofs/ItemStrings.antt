-- The strings of a valid item; a lawful view with the item stays lawful.
use Rattle.std.proofs.Common.{◌≡◌, ℕ, ◌*◌, ◌<◌, ◌≤◌, ◌^◌, List, [], ◌∷◌, ◌++◌, length, map, take, drop, All, sym, refl}
use Rattle.std.proofs.Common.{ap, subst, ◌⊎◌, inl, inr, arith, get_or, take-append-drop}
use Rattle.std.specs.List.{Contains, AllByRecursion}
use Rattle.std.specs.FinSet as set
use Rattle.std.proofs.lemmas.List.Elements.{All-contains, All-nil, All-from_recursion, recursion_from_All, All-weaker}
use Rattle.std.proofs.lemmas.List.Elements.{Contains-append_cases, All-contains_itself}
use Rattle.tlog_shape.specs.Split.{split_of}
use Rattle.tlog_hash.specs.Tree.{Tree, Empty, One, Join, tree_of, root, fold_of, joins, strings, leaf_hash}
use Rattle.tlog_hash.specs.Nodes.{IsJoin}
use Rattle.tlog_hash.proofs.Trees.{tree_of-none, tree_of-one, tree_of-join, induction, all-append, all-left, all-right}
use Rattle.tlog_hash.proofs.NodeStrings.{from_joins}
use Rattle.signed_note.specs.Keys.{Key}
use Rattle.node_store.specs.Strings.{Has, HasAll, IsTagged, OfEntry, OfPair}
use Rattle.mirror_model.specs.Edge.{edge_widths, edge_strings, strings_from}
use Rattle.mirror_model.specs.Heads.{IsHead}
use Rattle.mirror_model.specs.View.{View}
use Rattle.mirror_model.specs.declared.items.Item.{Item}
use Rattle.mirror_model.specs.declared.items.Item.TheVariants.{Head, Tile, Bundle}
use Rattle.mirror_model.specs.Item.{row_of, entries_of, IsGood, strings_of, notes_of, plus}
use Rattle.mirror_model.specs.Complete.{HasEdge}
use Rattle.mirror_model.specs.Strings.{IsDigest}
use Rattle.mirror_model.specs.LawfulLaws.{PlusIsLawful}
use Rattle.mirror_model.proofs.StringSets.{has_right, has_cases, listed_from_has, has_from_listed, held_from_all}
use Rattle.mirror_model.proofs.Views.{within_plus, edge_stays}
use Rattle.mirror_model.proofs.ItemBytes.{row_is_row, bundle_is_one}
use Rattle.mirror_model.proofs.HeadNotes.{head_of}

-- a string of a valid item is a pair, or a leaf of an entry of at most 65,535 bytes
pub record IsShortLeaf (string : List ℕ) : Type 0 where
  pub entry : List ℕ
  pub is : string ≡ 0 ∷ entry
  pub short : length entry < 2 ^ 16

pub record IsPair (string : List ℕ) : Type 0 where
  pub left : List ℕ
  pub right : List ℕ
  pub left_len : length left ≡ 32
  pub right_len : length right ≡ 32
  pub is : string ≡ 1 ∷ left ++ right

abbrev pub IsItemString : List ℕ → Type 0
IsItemString string = IsShortLeaf string ⊎ IsPair string

abbrev pub AreHashes : List (List ℕ) → Type 0
AreHashes row = AllByRecursion (λ h. length h ≡ 32) row

module _ (digest : List ℕ → List ℕ) (hash : IsDigest digest) where
  -- the items of the tree are hashes
  abbrev Leaves : Tree (List ℕ) → Type 0
  Leaves Empty = Unit {0}
  Leaves (One h) = length h ≡ 32
  Leaves (Join l r) = Leaves l × Leaves r

  tree_leaves : (xs : List (List ℕ)) → AreHashes xs → Leaves (tree_of xs)
  tree_leaves xs = induction (λ xs. AreHashes xs → Leaves (tree_of xs)) none one more xs
    where
      none : AreHashes [] → Leaves (tree_of [])
      none h = subst Leaves (sym tree_of-none) tt

      one : (x : List ℕ) → AreHashes (x ∷ []) → Leaves (tree_of (x ∷ []))
      one x h = subst Leaves (sym (tree_of-one x)) h.0

      more : (xs : List (List ℕ)) → 2 ≤ length xs →
          (AreHashes (take (split_of (length xs)) xs) → Leaves (tree_of (take (split_of (length xs)) xs))) →
          (AreHashes (drop (split_of (length xs)) xs) → Leaves (tree_of (drop (split_of (length xs)) xs))) →
          AreHashes xs → Leaves (tree_of xs)
      more xs two l r h =
          let k = split_of (length xs) in
          let parts : AreHashes (take k xs ++ drop k xs) = subst AreHashes (sym (take-append-drop k xs)) h in
          subst Leaves (sym (tree_of-join xs two)) (
            l (all-left (λ h. length h ≡ 32) (take k xs) (drop k xs) parts),
            r (all-right (λ h. length h ≡ 32) (take k xs) (drop k xs) parts),
          )

  root_length : (t : Tree (List ℕ)) → Leaves t → length (root digest t) ≡ 32
  root_length Empty h = hash []
  root_length (One x) h = h
  root_length (Join l r) h = hash (1 ∷ root digest l ++ root digest r)

  join_pair : (t : Tree (List ℕ)) → Leaves t → (y : List ℕ) → IsJoin digest t y → IsPair y
  join_pair Empty h y j = absurd j
  join_pair (One x) h y j = absurd j
  join_pair (Join l r) h y (inl e) =
      record {
        left =
            root digest l;
        right = root digest r;
        left_len = root_length l h.0;
        right_len = root_length r h.1;
        is = e;
      }
  join_pair (Join l r) h y (inr (inl a)) = join_pair l h.0 y a
  join_pair (Join l r) h y (inr (inr a)) = join_pair r h.1 y a

  pub joins_pairs : (row : List (List ℕ)) → AreHashes row → (y : List ℕ) → Contains (joins digest row) y → IsPair y
  joins_pairs row h y c = join_pair (tree_of row) (tree_leaves row h) y (from_joins digest row y c)

  pub fold_length : (row : List (List ℕ)) → AreHashes row → length (fold_of digest row) ≡ 32
  unfolding fold_of
  fold_length row h = root_length (tree_of row) (tree_leaves row h)

  -- the strings of a tree head are pairs
  from_pairs : (value : List ℕ) → length value ≡ 32 → (rows : List (List (List ℕ))) → AllByRecursion AreHashes rows →
      (y : List ℕ) → Contains (strings_from digest value rows) y → IsPair y
  from_pairs value len [] h y c = All-contains IsPair [] y (All-nil IsPair) c
  from_pairs value len (row ∷ rows) h y c =
      let more : AreHashes (row ++ value ∷ []) = all-append (λ h. length h ≡ 32) row (value ∷ []) h.0 (len, tt) in
      elim (Contains-append_cases (joins digest (row ++ value ∷ []))
      (strings_from digest (fold_of digest (row ++ value ∷ [])) rows) y c) [
        | inl a ↦ joins_pairs (row ++ value ∷ []) more y a
        | inr b ↦ from_pairs (fold_of digest (row ++ value ∷ [])) (fold_length (row ++ value ∷ []) more) rows h.1 y b
      ]

  edge_pairs : (rows : List (List (List ℕ))) → AllByRecursion AreHashes rows → (y : List ℕ) →
      Contains (edge_strings digest rows) y → IsPair y
  edge_pairs [] h y c = All-contains IsPair [] y (All-nil IsPair) c
  edge_pairs (row ∷ rows) h y c =
      elim (Contains-append_cases (joins digest row) (strings_from digest (fold_of digest row) rows) y c) [
        | inl a ↦ joins_pairs row h.0 y a
        | inr b ↦ from_pairs (fold_of digest row) (fold_length row h.0) rows h.1 y b
      ]

  row_hashes : (width : ℕ) (bytes : List ℕ) → length bytes ≡ 32 * width → AreHashes (row_of bytes)
  row_hashes width bytes len = recursion_from_All (λ h. length h ≡ 32) (row_of bytes) (row_is_row width bytes len).sizes

  rows_hashes : (rows : List (List ℕ)) (widths : List ℕ) → map length rows ≡ map (λ width. 32 * width) widths →
      AllByRecursion AreHashes (map row_of rows)
  rows_hashes [] widths e = tt
  rows_hashes (row ∷ rows) [] e = absurd (let len = ap length e in cc len)
  rows_hashes (row ∷ rows) (width ∷ widths) e =
      (row_hashes width row (ap (λ xs. get_or xs 0 0) e), rows_hashes rows widths (ap (drop 1) e))

  leaf_hashes : (entries : List (List ℕ)) → AreHashes (map (leaf_hash digest) entries)
  leaf_hashes [] = tt
  leaf_hashes (e ∷ es) = (hash (0 ∷ e), leaf_hashes es)

  leaves_short : (entries : List (List ℕ)) → AllByRecursion (λ e. length e < 2 ^ 16) entries →
      AllByRecursion IsItemString (map (λ e. 0 ∷ e) entries)
  leaves_short [] h = tt
  leaves_short (e ∷ es) h = (inl (record { entry = e; is = refl; short = h.0 }), leaves_short es h.1)

  entry_strings : (entries : List (List ℕ)) → All (λ e. length e < 2 ^ 16) entries → (y : List ℕ) →
      Contains (strings digest entries) y → IsItemString y
  unfolding strings
  entry_strings entries short y c =
      elim (Contains-append_cases (map (λ e. 0 ∷ e) entries) (joins digest (map (leaf_hash digest) entries)) y c) [
        | inl a ↦ All-contains IsItemString (map (λ e. 0 ∷ e) entries) y
            (All-from_recursion IsItemString _
            (leaves_short entries (recursion_from_All (λ e. length e < 2 ^ 16) entries short))) a
        | inr b ↦ inr (joins_pairs (map (leaf_hash digest) entries) (leaf_hashes entries) y b)
      ]

  pub item_strings : (origin : List ℕ) (keys : List Key) (item : Item) → IsGood digest origin keys item → (y : List ℕ) →
      Contains (strings_of digest item) y → IsItemString y
  item_strings origin keys (Head note rows) good y c =
      inr (edge_pairs (map row_of rows) (rows_hashes rows (edge_widths good.size) good.has_edge.widths) y c)
  item_strings origin keys (Tile width bytes) good y c =
      inr (joins_pairs (row_of bytes) (row_hashes width bytes good.length_is) y c)
  item_strings origin keys (Bundle width bytes) good y c =
      entry_strings (entries_of width bytes)
      (subst (All (λ e. length e < 2 ^ 16))
      (bundle_is_one width bytes good.entries good.is_bundle) good.is_bundle.fits) y c

  -- the right edge of a valid tree head is held with the item's strings
  note_edge : (keys : List Key) (v : View) (item : Item) → IsGood digest v.origin keys item → (note : List ℕ) →
      Contains (notes_of item) note → HasEdge digest (plus digest v item) note
  note_edge keys v (Head bytes rows) good note c =
      let is : note ≡ bytes =
      All-contains (λ n. n ≡ bytes) (bytes ∷ []) note
      (All-from_recursion (λ n. n ≡ bytes) (bytes ∷ []) (refl, tt)) c in
      let ss = edge_strings digest (map row_of rows) in
      let held : HasAll (set.union v.strings (set.from_list ss)) ss =
      held_from_all _ ss
      (recursion_from_All (Has (set.union v.strings (set.from_list ss))) ss
      (All-weaker (Contains ss) (Has (set.union v.strings (set.from_list ss)))
      (λ y d. has_right v.strings (set.from_list ss) y (has_from_listed ss y d)) ss (All-contains_itself ss))) in
      record {
        size = good.size;
        root = good.root;
        is_head =
            subst (λ n. IsHead n v.origin good.size good.root) (sym is)
            (head_of bytes v.origin keys good.size good.root good.is_head);
        edge = record { rows = rows; has_edge = good.has_edge; are_held = held };
      }
  note_edge keys v (Tile width bytes) good note c = absurd (All-contains (λ n. ⊥) [] note (All-nil (λ n. ⊥)) c)
  note_edge keys v (Bundle width bytes) good note c = absurd (All-contains (λ n. ⊥) [] note (All-nil (λ n. ⊥)) c)

is_string : (y : List ℕ) → IsItemString y → IsTagged y
is_string y (inl l) = subst IsTagged (sym l.is) (OfEntry l.entry)
is_string y (inr p) = subst IsTagged (sym p.is) (OfPair p.left p.right p.left_len p.right_len)

pub is_short : (e : List ℕ) → IsItemString (0 ∷ e) → length e ≤ 65535
is_short e (inl l) = let same : e ≡ l.entry = ap (drop 1) l.is in omega (arith, l.short, ap length same)
is_short e (inr p) = absurd (let zero_one : 0 ≡ 1 = ap (λ xs. get_or xs 0 0) p.is in omega arith)

pub plus_is_lawful : PlusIsLawful
plus_is_lawful digest hash keys v item lawful good clean =
    let new : (y : List ℕ) → Contains (strings_of digest item) y → IsItemString y =
    item_strings digest hash v.origin keys item good in
    record {
      no_clash = clean;
      are_strings =
          λ s h. elim
          (has_cases v.strings
          (set.from_list (strings_of digest item)) s h) [
            | inl a ↦ lawful.are_strings s a
            | inr b ↦ is_string s
                (new s (listed_from_has _ s b))
          ];
      leaves_short =
          λ e h. elim
          (has_cases v.strings (set.from_list (strings_of digest item))
          (0 ∷ e) h) [
            | inl a ↦ lawful.leaves_short e a
            | inr b ↦ is_short e
                (new (0 ∷ e) (listed_from_has _ (0 ∷ e) b))
          ];
      edges = λ note h. elim (has_cases v.notes (set.from_list (notes_of item)) note h) [
        | inl a ↦ edge_stays digest v (plus digest v item) (within_plus digest v item) note (lawful.edges note a)
        | inr b ↦ note_edge digest hash keys v item good note (listed_from_has _ note b)
      ];
    }
