-- Edge rows and partial bundles cut from wider files.
use Rattle.std.proofs.Common.{◌≡◌, ℕ, ◌*◌, ◌^◌, ◌<◌, ◌≤◌, List, [], ◌++◌, length, map, inl, inr, refl, sym, ap, subst, ◌∙◌}
use Rattle.std.proofs.Common.{get_or, Option, Some, None, Result, Ok, Err, IfOk, IfSome}
use Rattle.std.specs.FinSet as set
use Rattle.std.proofs.lemmas.List.{append-nil}
use Rattle.tlog_shape.specs.Edge.{edge_index_of, width_of}
use Rattle.tlog_hash.specs.Rows.{level_row}
use Rattle.tlog_hash.specs.Tree.{mth, strings}
use Rattle.tlog_tiles.specs.declared.paths.Path.{Path}
use Rattle.tlog_tiles.specs.declared.paths.Path.TheVariants.{Tile, Entries}
use Rattle.node_store.specs.Strings.{NoClash}
use Rattle.mirror_model.specs.Edge.{edge_levels, edge_strings}
use Rattle.mirror_model.specs.Strings.{IsDigest}
use Rattle.log_reader.specs.EdgeRows.{Edge, LeadsTo, row_at}
use Rattle.log_reader.specs.Truth.{IsListClear}
use Rattle.log_reader.specs.Ways.{HasEdgeHashes}
use Rattle.log_reader.proofs.Truths.{shown_rows_are_true}
use Rattle.copy_places.specs.Asked.{IsEdgeTile, IsPathOrFull}
use Rattle.copy_places.specs.Giving.{IsEdgeFrom, IsFirstOf, IsRowFrom, PartOf}
use Rattle.copy_follow.specs.Repaired.{AreEndsClear, BeginsBundle, BeginsTile, IsClearLog, IsEdgeCut, IsOfEdge, IsTreeClear}
use Rattle.mirror_folders.specs.Shelf.{Put}
use Rattle.copy_places.specs.PlaceGets.{AsksPlaces}
use Rattle.copy_places.specs.declared.place.Place.{Place}
use Rattle.copy_places.specs.declared.places.Places.{Places}
use Rattle.copy_places.proofs.Cutting.{cut_first}
use Rattle.copy_places.proofs.Giving.{part_weaker}
use Rattle.copy_follow.specs.Suffices.{IsEdgeTrue}
use Rattle.copy_follow.specs.Taken.{MayTake, PutsTaken}
use Rattle.copy_follow.proofs.Mending.{tree_clear}
use Rattle.copy_follow.proofs.OnePlace.{taken_before}

itself : (bytes : List ℕ) → IsFirstOf bytes bytes
itself bytes = record { rest = []; full_is = sym (append-nil bytes) }

module _ (take : Path → List ℕ → Type 0) where
  pub part_begins : (index width : ℕ) (bytes : List ℕ) → PartOf take (Entries index width) bytes → BeginsBundle take index bytes
  part_begins index width bytes (inl h) = (width, bytes, h, itself bytes)
  part_begins index width bytes (inr h) = (256, h.0, h.1, cut_first (Entries index width) 256 h.0 bytes h.2)

  tile_begins : (level index width : ℕ) (bytes : List ℕ) → PartOf take (Tile level index width) bytes →
      (w : ℕ) × (whole : List ℕ) × take (Tile level index w) whole × IsFirstOf whole bytes
  tile_begins level index width bytes (inl h) = (width, bytes, h, itself bytes)
  tile_begins level index width bytes (inr h) = (256, h.0, h.1, cut_first (Tile level index width) 256 h.0 bytes h.2)

  row_cut : (n level : ℕ) (row : List (List ℕ)) → IsRowFrom take n level row → BeginsTile take n level row
  row_cut n level row h = record {
    bytes = h.bytes;
    is_row = h.is_row;
    taken = λ some. tile_begins level (edge_index_of n level) (width_of n level) h.bytes (h.taken some);
  }

  pub edge_cut : (n : ℕ) (edge : Edge) → IsEdgeFrom take n edge → IsEdgeCut take n edge
  edge_cut n edge h = record {
    size_is = h.size_is;
    rows_are = λ level low. row_cut n level (row_at edge level) (h.rows_are level low);
  }

  module _ (also : Path → List ℕ → Type 0) (more : (path : Path) (bytes : List ℕ) → take path bytes → also path bytes) where
    pub bundle_weaker : (index : ℕ) (bytes : List ℕ) → BeginsBundle take index bytes → BeginsBundle also index bytes
    bundle_weaker index bytes h = (h.0, h.1, more (Entries index h.0) h.1 h.2, h.3)

    pub tile_weaker : (n level : ℕ) (row : List (List ℕ)) → BeginsTile take n level row → BeginsTile also n level row
    tile_weaker n level row h = record {
      bytes = h.bytes;
      is_row = h.is_row;
      taken = λ some.
          let t = h.taken some in
          (t.0, t.1, more (Tile level (edge_index_of n level) t.0) t.1 t.2, t.3);
    }

    pub edge_weaker : (n : ℕ) (edge : Edge) → IsEdgeCut take n edge → IsEdgeCut also n edge
    edge_weaker n edge h = record {
      size_is = h.size_is;
      rows_are = λ level low. tile_weaker n level (row_at edge level) (h.rows_are level low);
    }

-- an edge that leads to the root of a log is true, if nothing clashes
module _ (digest : List ℕ → List ℕ) (hash : IsDigest digest) (log : List (List ℕ)) (take : Path → List ℕ → Type 0)
    (clear : IsClearLog digest log take) (n : ℕ) (small : n < 2 ^ 64) (long : length log ≡ n) (root : List ℕ)
    (root_is : root ≡ mth digest log) (edge : Edge) (leads : LeadsTo digest n root edge) (from : IsEdgeCut take n edge) where
  hashes : HasEdgeHashes edge
  hashes level low = record {
    count = leads.is_edge.widths level low;
    sizes = (from.rows_are level low).is_row.sizes;
  }

  abbrev others : List (List ℕ)
  others = edge_strings digest (map (row_at edge) (edge_levels edge.size))

  is_clear : IsListClear digest edge [] log
  is_clear = record {
    size_is = long ∙ sym from.size_is;
    root_is = sym (leads.root_is ∙ root_is);
    clear = subst (λ (l : List (List ℕ)). NoClash digest (set.from_list (strings digest log ++ l))) (sym (append-nil others))
        (clear.edge edge (subst (λ k. IsEdgeCut take k edge) (sym long) from));
  }

  pub cut_tree_clear : IsTreeClear digest log
  cut_tree_clear = tree_clear digest log others (clear.edge edge (subst (λ k. IsEdgeCut take k edge) (sym long) from))

  pub cut_edge_true : IsEdgeTrue digest log edge
  cut_edge_true = record {
    size_is = from.size_is ∙ sym long;
    rows_are = λ level upto.
        shown_rows_are_true digest hash edge hashes (subst (λ k. k < 2 ^ 64) (sym from.size_is) small) level
        (edge_index_of edge.size level) [] (upto, refl) log is_clear
        ∙ ap (λ w. level_row digest log level (256 * edge_index_of edge.size level) w) (leads.is_edge.widths level upto);
  }

-- what is known of a file that was found
pub found_weaker : {T E : Type 0} (r : Result (Option T) E) (P Q : T → Type 0) → ((x : T) → P x → Q x) →
    IfOk r (λ o. IfSome o P) → IfOk r (λ o. IfSome o Q)
found_weaker (Ok None) P Q f h = tt
found_weaker (Ok (Some x)) P Q f h = f x h
found_weaker (Err e) P Q f h = tt

-- ---- paths of the right edge

pub edge_of : (n : ℕ) (path : Path) → IsEdgeTile n path → IsOfEdge n path
edge_of n path h = by h.is
  where
    by : IsPathOrFull (Tile h.level (edge_index_of n h.level) (width_of n h.level)) path → IsOfEdge n path
    by (inl is) = subst (IsOfEdge n) (sym is) refl
    by (inr is) = subst (IsOfEdge n) (sym is) refl

pub end_of : (n index width : ℕ) → index ≡ edge_index_of n 0 → (path : Path) → IsPathOrFull (Entries index width) path → IsOfEdge n path
end_of n index width at path (inl is) = subst (IsOfEdge n) (sym is) at
end_of n index width at path (inr is) = subst (IsOfEdge n) (sym is) at

-- what was found, under a weaker claim
pub some_weaker : {T : Type 0} (o : Option T) (P Q : T → Type 0) → ((x : T) → P x → Q x) → IfSome o P → IfSome o Q
some_weaker None P Q f h = tt
some_weaker (Some x) P Q f h = f x h

-- ---- a log whose strings do not clash

module _ (digest : List ℕ → List ℕ) (log : List (List ℕ)) (take also : Path → List ℕ → Type 0)
    (more : (path : Path) (bytes : List ℕ) → also path bytes → take path bytes) where
  ends_weaker : AreEndsClear digest log take → AreEndsClear digest log also
  ends_weaker c index width bytes es begins is = c index width bytes es (bundle_weaker also take more index bytes begins) is

  pub clear_weaker : IsClearLog digest log take → IsClearLog digest log also
  clear_weaker c = record {
    files = record {
      tile = λ level index some bytes row taken is. c.files.tile level index some bytes row (more (Tile level index 256) bytes taken) is;
      bundle = λ index width bytes es part is.
          c.files.bundle index width bytes es (part_weaker also take more (Entries index width) bytes part) is;
    };
    leaf_tiles = λ index bytes row taken is. c.leaf_tiles index bytes row (more (Tile 0 index 256) bytes taken) is;
    ends = ends_weaker c.ends;
    edge = λ edge cut. c.edge edge (edge_weaker also take more (length log) edge cut);
  }

-- the first entries of a bundle that may be taken later might be taken before
pub ends_later : {S : Type 0} (may : S → Path → Option (List ℕ) → Type 0) (failed : S → ℕ) (asked : S → Option (List Path))
    (so : Path → Type 0) (x y : Places S) → AsksPlaces may failed asked so x y → (digest : List ℕ → List ℕ) (log : List (List ℕ))
    (a b : Option (List Put)) → PutsTaken may x a b → AreEndsClear digest log (MayTake may x a) →
    AreEndsClear digest log (MayTake may y b)
ends_later may failed asked so x y p digest log a b t c index width bytes es begins is =
    c index width bytes es (begins.0, begins.1, before begins.0 begins.1 begins.2, begins.3) is
  where
    before : (w : ℕ) (whole : List ℕ) → MayTake may y b (Entries index w) whole → MayTake may x a (Entries index w) whole
    before w whole h = elim (taken_before may failed asked so x y p a b (Entries index w) whole t h) [
      | inl leaf ↦ absurd leaf
      | inr taken ↦ taken
    ]

pub ok_weaker : {T E : Type 0} (r : Result T E) (P Q : T → Type 0) → ((x : T) → P x → Q x) → IfOk r P → IfOk r Q
ok_weaker (Ok x) P Q f h = f x h
ok_weaker (Err e) P Q f h = tt

-- the files that may be taken once a call has begun
pub taken_begun : {S : Type 0} (may : S → Path → Option (List ℕ) → Type 0) (x y : Places S) (puts : Option (List Put)) →
    y.list.items ≡ x.list.items → (path : Path) (bytes : List ℕ) → MayTake may y puts path bytes → MayTake may x puts path bytes
taken_begun may x y puts same path bytes (inl put) = inl put
taken_begun {S} may x y puts same path bytes (inr given) = inr (record {
  index = given.index;
  listed = subst (λ (ps : List (Place S)). given.index < length ps) same given.listed;
  may_be = subst (λ (ps : List (Place S)). (d : Place S) → may (get_or ps given.index d).source path (Some bytes)) same given.may_be;
})
