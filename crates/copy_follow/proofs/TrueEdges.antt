-- An edge that leads to the root of a log is true, if nothing clashes.
use Rattle.std.proofs.Common.{◌≡◌, ℕ, ◌*◌, ◌^◌, ◌<◌, List, [], ◌++◌, length, map, refl, sym, ap, subst, ◌∙◌}
use Rattle.std.specs.FinSet as set
use Rattle.std.proofs.lemmas.List.{append-nil}
use Rattle.tlog_shape.specs.Edge.{edge_index_of}
use Rattle.tlog_hash.specs.Rows.{level_row}
use Rattle.tlog_hash.specs.Tree.{mth, strings}
use Rattle.tlog_tiles.specs.declared.paths.Path.{Path}
use Rattle.node_store.specs.Strings.{NoClash}
use Rattle.mirror_model.specs.Edge.{edge_levels, edge_strings}
use Rattle.mirror_model.specs.Strings.{IsDigest}
use Rattle.log_reader.specs.EdgeRows.{Edge, LeadsTo, row_at}
use Rattle.log_reader.specs.Truth.{IsListClear}
use Rattle.log_reader.specs.Ways.{HasEdgeHashes}
use Rattle.log_reader.proofs.Truths.{shown_rows_are_true}
use Rattle.copy_follow.specs.Suffices.{IsEdgeTrue}
use Rattle.copy_follow.specs.Taken.{EdgesAreClear}
use Rattle.copy_places.specs.Giving.{IsEdgeFrom}

module _ (digest : List ℕ → List ℕ) (hash : IsDigest digest) (log : List (List ℕ)) (take : Path → List ℕ → Type 0)
    (clear : EdgesAreClear digest log take) (n : ℕ) (small : n < 2 ^ 64) (long : length log ≡ n) (root : List ℕ)
    (root_is : root ≡ mth digest log) (edge : Edge) (leads : LeadsTo digest n root edge) (from : IsEdgeFrom take n edge) where
  hashes : HasEdgeHashes edge
  hashes level low = record {
    count = leads.is_edge.widths level low;
    sizes = (from.rows_are level low).is_row.sizes;
  }

  abbrev others : List (List ℕ)
  others = edge_strings digest (map (row_at edge) (edge_levels edge.size))

  is_clear : IsListClear digest edge [] log
  is_clear = record {
    size_is = long ∙ sym from.size_is;
    root_is = sym (leads.root_is ∙ root_is);
    clear = subst (λ (l : List (List ℕ)). NoClash digest (set.from_list (strings digest log ++ l))) (sym (append-nil others))
        (clear edge (subst (λ k. IsEdgeFrom take k edge) (sym long) from));
  }

  pub edge_is_true : IsEdgeTrue digest log edge
  edge_is_true = record {
    size_is = from.size_is ∙ sym long;
    rows_are = λ level upto.
        shown_rows_are_true digest hash edge hashes (subst (λ k. k < 2 ^ 64) (sym from.size_is) small) level
        (edge_index_of edge.size level) [] (upto, refl) log is_clear
        ∙ ap (λ w. level_row digest log level (256 * edge_index_of edge.size level) w) (leads.is_edge.widths level upto);
  }
