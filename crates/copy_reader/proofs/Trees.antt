-- The whole tree: its root, and all its files.
use Rattle.std.proofs.Common.{◌≡◌, inl, inr, ℕ, ◌+◌, ◌*◌, ◌/◌, ◌^◌, ◌≤◌, ◌<◌, List, [], ◌∷◌, ◌++◌, length, map, Option, Some}
use Rattle.std.proofs.Common.{refl, sym, ap, subst, ◌∙◌, arith, All, not, ◌==◌}
use Rattle.std.proofs.lemmas.Bool.{cases_lt}
use Rattle.std.proofs.lemmas.List.Elements.{All-cons, All-filter, All-head, All-nil, All-tail}
use Rattle.signed_note.specs.Keys.{Key}
use Rattle.tlog_shape.specs.Edge.{edge_index_of, width_of, IsFullTile}
use Rattle.tlog_hash.specs.Rows.{level_row}
use Rattle.tlog_hash.specs.Tree.{mth}
use Rattle.tlog_tiles.specs.declared.paths.Path.{Path}
use Rattle.tlog_tiles.specs.declared.paths.Path.TheVariants.{Checkpoint, Tile, Entries}
use Rattle.tlog_tiles.specs.Row.{row_text}
use Rattle.mirror_model.specs.Edge.{all_levels, edge_levels, edge_root, edge_row}
use Rattle.mirror_model.proofs.EdgeRoots.{edge_root_is}
use Rattle.log_reader.specs.EdgeRows.{Edge, LeadsTo, RowIsTrue, row_at}
use Rattle.mirror_sources.specs.Honest.{true_bytes}
use Rattle.mirror_sources.specs.Replies.{Reply, reply}
use Rattle.copy_reader.specs.Answering.{IsHad, IsTreeFile}
use Rattle.copy_reader.specs.Audits.{IsAudited, IsHeadGiven, IsTreeGiven}
use Rattle.copy_reader.specs.Covering.{IsBlock}
use Rattle.copy_reader.specs.Edges.{AreRowsGiven, CoversLog}
use Rattle.copy_reader.proofs.Covered.{has_all}
use Rattle.copy_reader.proofs.Given.{given_then, had_left, had_right}
use Rattle.copy_reader.proofs.Ranges.{end_floor}

all_within : All (λ level. level ≤ 7) all_levels
all_within =
    let P = λ (level : ℕ). level ≤ 7 in
    All-cons P 0 (1 ∷ 2 ∷ 3 ∷ 4 ∷ 5 ∷ 6 ∷ 7 ∷ []) (omega arith)
    (All-cons P 1 (2 ∷ 3 ∷ 4 ∷ 5 ∷ 6 ∷ 7 ∷ []) (omega arith)
    (All-cons P 2 (3 ∷ 4 ∷ 5 ∷ 6 ∷ 7 ∷ []) (omega arith)
    (All-cons P 3 (4 ∷ 5 ∷ 6 ∷ 7 ∷ []) (omega arith)
    (All-cons P 4 (5 ∷ 6 ∷ 7 ∷ []) (omega arith)
    (All-cons P 5 (6 ∷ 7 ∷ []) (omega arith)
    (All-cons P 6 (7 ∷ []) (omega arith)
    (All-cons P 7 [] (omega arith) (All-nil P))))))))

levels_within : (n : ℕ) → All (λ level. level ≤ 7) (edge_levels n)
unfolding edge_levels
levels_within n = All-filter (λ level. not (width_of n level == 0)) (λ level. level ≤ 7) all_levels all_within

map_same : (f g : ℕ → List (List ℕ)) (levels : List ℕ) → All (λ level. level ≤ 7) levels →
    ((level : ℕ) → level ≤ 7 → f level ≡ g level) → map f levels ≡ map g levels
map_same f g [] all same = refl
map_same f g (x ∷ xs) all same =
    λ i. same x (All-head (λ level. level ≤ 7) x xs all) i
    ∷ map_same f g xs (All-tail (λ level. level ≤ 7) x xs all) same i

-- true rows that lead to a root lead to the tree hash
pub root_of_rows : (digest : List ℕ → List ℕ) (edge : Edge) (entries : List (List ℕ)) → length entries ≡ edge.size →
    edge.size < 18446744073709551616 → ((level : ℕ) → level ≤ 7 → RowIsTrue digest edge entries level) →
    edge_root digest (map (row_at edge) (edge_levels edge.size)) ≡ mth digest entries
root_of_rows digest edge entries long small rows =
    let same : map (row_at edge) (edge_levels edge.size) ≡ map (edge_row digest entries) (edge_levels edge.size) =
    map_same (row_at edge) (edge_row digest entries) (edge_levels edge.size) (levels_within edge.size)
    (λ level upto. subst (λ n. row_at edge level ≡ level_row digest entries level (256 * edge_index_of n level) (width_of n level)) (sym long)
    (rows level upto)) in
    ap (edge_root digest) (same ∙ ap (λ n. map (edge_row digest entries) (edge_levels n)) (sym long))
    ∙ edge_root_is digest entries (omega (arith, long, small))

-- a full tile or bundle within n entries is below the edge
full_block : (n level index width : ℕ) → n < 18446744073709551616 → level ≤ 7 → IsFullTile n level index width →
    IsBlock 6 0 (n / 256 * 256) level index width
full_block n level index width small upto full = elim (cases_lt level 7) [
  | inl low ↦ record {
    low = omega arith;
    starts = omega arith;
    ends = end_floor n 1 level index (omega arith) full.fits;
    full = full.width_is;
  }
  | inr high ↦
      let at : level ≡ 7 = omega arith in
      let fits : (index + 1) * 256 ^ (7 + 1) ≤ n = subst (λ l. (index + 1) * 256 ^ (l + 1) ≤ n) at full.fits in
      absurd (omega (arith, fits, small))
]

module _ (digest : List ℕ → List ℕ) (size : ℕ) (root : List ℕ) (edge : Edge) (leads : LeadsTo digest size root edge)
    (small : edge.size < 18446744073709551616) (a b c : Path → Option (List ℕ) → Type 0) (x y z : Option (List Path))
    (rows : AreRowsGiven size (row_at edge) 8 a b x y) (all : CoversLog digest edge b c y z) where
  same : edge.size ≡ size
  same = leads.is_edge.size_is

  abbrev p : List Reply
  p = rows.replies

  abbrev q : List Reply
  q = all.replies

  long : length all.more ≡ edge.size
  long = let size = all.size_is in omega arith

  rows_true : (level : ℕ) → level ≤ 7 → RowIsTrue digest edge all.more level
  rows_true = all.claims all.more (has_all all.more)

  files : (path : Path) → IsTreeFile edge.size path → IsHad (p ++ q) path (true_bytes digest all.more path)
  files Checkpoint h = absurd h
  files (Tile level index width) (upto, inl full) =
      let path = Tile level index width in
      had_right p q path (true_bytes digest all.more path)
      (all.holds all.more (has_all all.more) path (inl (full_block edge.size level index width small upto full)))
  files (Tile level index width) (upto, inr partial) =
      let n = edge.size in
      let path = Tile level (edge_index_of n level) (width_of n level) in
      let some = partial.some in
      let wide : 1 ≤ width_of n level = omega (arith, some, partial.width_is) in
      let given : IsHad p path (row_text (row_at edge level)) =
      subst (λ k. IsHad p (Tile level (edge_index_of k level) (width_of k level)) (row_text (row_at edge level))) (sym same)
      (rows.had level (omega arith) (subst (λ k. 1 ≤ width_of k level) same wide)) in
      let true : IsHad p path (true_bytes digest all.more path) =
      subst (λ t. IsHad p path t) (ap row_text (rows_true level upto)) given in
      let at : path ≡ Tile level index width = λ j. Tile level (sym partial.index_is j) (sym partial.width_is j) in
      subst (λ k. IsHad (p ++ q) k (true_bytes digest all.more k)) at
      (had_left p q path (true_bytes digest all.more path) true)
  files (Entries index width) (inl full) =
      let path = Entries index width in
      had_right p q path (true_bytes digest all.more path)
      (all.holds all.more (has_all all.more) path (inl (full_block edge.size 0 index width small (omega arith) full)))
  files (Entries index width) (inr partial) =
      let path = Entries index width in
      let some = partial.some in
      had_right p q path (true_bytes digest all.more path)
      (all.holds all.more (has_all all.more) path
      (inr (omega (arith, some, partial.width_is), λ j. Entries (partial.index_is j) (partial.width_is j))))

  pub tree_given : IsTreeGiven digest size root a c x z
  tree_given = record {
    entries = all.more;
    replies = p ++ q;
    given = given_then a b c x y z p q rows.given all.given;
    whole = record {
      size_is = long ∙ same;
      root_is = sym (root_of_rows digest edge all.more long small rows_true) ∙ leads.root_is;
      short = all.short;
      files = λ path file. files path (subst (λ k. IsTreeFile k path) (sym same) file);
    };
  }

pub log_audited : (digest : List ℕ → List ℕ) (origin : List ℕ) (keys : List Key) (size : ℕ) (root : List ℕ)
    (a b c : Path → Option (List ℕ) → Type 0) (x y z : Option (List Path)) → IsHeadGiven origin keys size root a b x y →
    IsTreeGiven digest size root b c y z → IsAudited digest origin keys size root a c x z
log_audited digest origin keys size root a b c x y z head tree = record {
  note = head.note;
  is_head = head.is_head;
  entries = tree.entries;
  replies = tree.replies;
  given = given_then a b c x y z (reply Checkpoint (Some head.note) ∷ []) tree.replies head.given tree.given;
  whole = tree.whole;
}
