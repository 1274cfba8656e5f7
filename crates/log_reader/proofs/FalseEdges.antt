-- The faults of opening a log name tiles of its edge that are false.
use Rattle.std.proofs.Common.{◌≢◌, ◌⊎◌, ℕ, ◌<◌, ◌≤◌, List, Option, inl, inr, refl}
use Rattle.tlog_shape.specs.Edge.{edge_index_of, width_of}
use Rattle.tlog_tiles.specs.Row.{IsRow}
use Rattle.tlog_tiles.specs.declared.paths.Path.{Path}
use Rattle.tlog_tiles.specs.declared.paths.Path.TheVariants.{Tile}
use Rattle.mirror_sources.specs.Source.{StaysWithin}
use Rattle.log_reader.specs.EdgeRows.{Edge, row_at}
use Rattle.log_reader.specs.FalseEdges.{IsEdgeGiven, IsFalseEdge, IsFalsePart, IsRowGiven, NamesFalseEdge, NamesFalsePart, part_path}
use Rattle.log_reader.specs.Faults.{NamesFile}
use Rattle.log_reader.specs.Parts.{LacksPart}
use Rattle.log_reader.specs.declared.fault.ReadFault.{ReadFault}
use Rattle.log_reader.proofs.Exits.{names_more}
use Rattle.log_reader.proofs.FalseFiles.{not_empty, not_zero}
use Rattle.log_reader.proofs.Parts.{bytes_given, false_at_given}

module _ (may : Path → Option (List ℕ) → Type 0) (size : ℕ) where
  -- the row of the level is not there
  pub row_lacking : (level : ℕ) → level ≤ 7 → 0 < width_of size level → (fault : ReadFault) →
      NamesFile (LacksPart may (part_path size level)) fault → NamesFalsePart may size fault
  row_lacking level low some fault h =
      names_more (LacksPart may (part_path size level)) (λ named. (level : ℕ) × IsFalsePart may size level named)
      (λ named h. (level, record { low = low; some = some; wrong = inl h })) fault h

-- ---- another source, with these answers

module _ (old new : Path → Option (List ℕ) → Type 0) (size : ℕ)
    (gives : (path : Path) → path ≢ Tile 0 0 0 → (answer : Option (List ℕ)) → new path answer → old path answer) where
  some_part : (level : ℕ) → 0 < width_of size level → part_path size level ≢ Tile 0 0 0
  some_part level some = not_zero level (edge_index_of size level) (width_of size level) some

  some_full : (level : ℕ) → Tile level (edge_index_of size level) 256 ≢ Tile 0 0 0
  some_full level = not_empty level (edge_index_of size level) 256 refl

  part_given : (level : ℕ) (named : Path) → IsFalsePart new size level named → IsFalsePart old size level named
  part_given level named f = record {
    low = f.low;
    some = f.some;
    wrong = false_at_given old new gives (part_path size level) (some_part level f.some) (some_full level)
        (λ bytes. (row : List (List ℕ)) × IsRow (width_of size level) bytes row) named f.wrong;
  }

  pub row_given : (level : ℕ) → 0 < width_of size level → (row : List (List ℕ)) → IsRowGiven new size level row →
      IsRowGiven old size level row
  row_given level some row h = (
    h.0,
    bytes_given old new gives (part_path size level) (some_part level some) (some_full level) h.0 h.1,
    h.2,
  )

  pub rows_given : (edge : Edge) → IsEdgeGiven new size edge → IsEdgeGiven old size edge
  rows_given edge h = λ level low some. row_given level some (row_at edge level) (h level low some)

  pub parts_given : (fault : ReadFault) → NamesFalsePart new size fault → NamesFalsePart old size fault
  parts_given fault h =
      names_more (λ named. (level : ℕ) × IsFalsePart new size level named) (λ named. (level : ℕ) × IsFalsePart old size level named)
      (λ named h. (h.0, part_given h.0 named h.1)) fault h

  module _ (digest : List ℕ → List ℕ) (root : List ℕ) where
    pub edge_given : (named : Path) → ((level : ℕ) × IsFalsePart new size level named) ⊎ IsFalseEdge digest new size root named →
        ((level : ℕ) × IsFalsePart old size level named) ⊎ IsFalseEdge digest old size root named
    edge_given named (inl h) = inl (h.0, part_given h.0 named h.1)
    edge_given named (inr h) = inr (record {
      edge = h.edge;
      size_is = h.size_is;
      widths = h.widths;
      rows = rows_given h.edge h.rows;
      lowest = h.lowest;
      wrong = h.wrong;
    })

-- ---- an earlier state of the source

module _ (old new : Path → Option (List ℕ) → Type 0) (stays : StaysWithin old new) (size : ℕ) where
  gives : (path : Path) → path ≢ Tile 0 0 0 → (answer : Option (List ℕ)) → new path answer → old path answer
  gives path some answer may = stays.stays path answer may

  pub row_before : (level : ℕ) → 0 < width_of size level → (row : List (List ℕ)) → IsRowGiven new size level row →
      IsRowGiven old size level row
  row_before level some row h = row_given old new size gives level some row h

  pub parts_before : (fault : ReadFault) → NamesFalsePart new size fault → NamesFalsePart old size fault
  parts_before fault h = parts_given old new size gives fault h

pub edge_named : (digest : List ℕ → List ℕ) (may : Path → Option (List ℕ) → Type 0) (size : ℕ) (root : List ℕ)
    (fault : ReadFault) → NamesFalsePart may size fault → NamesFalseEdge digest may size root fault
edge_named digest may size root fault h =
    names_more (λ named. (level : ℕ) × IsFalsePart may size level named)
    (λ named. ((level : ℕ) × IsFalsePart may size level named) ⊎ IsFalseEdge digest may size root named) (λ named h. inl h) fault h
