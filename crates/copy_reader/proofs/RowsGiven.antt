-- The rows of the edge that were given, read one after another.
use Rattle.std.proofs.Common.{◌≡◌, ℕ, ◌+◌, ◌*◌, ◌≤◌, ◌<◌, All, List, [], ◌∷◌, ◌++◌, length, get_or, Vec, Global, Option, ap, sym, ◌∙◌, arith}
use Rattle.std.proofs.lemmas.List.Elements.{All-nil}
use Rattle.tlog_shape.specs.Edge.{edge_index_of, width_of}
use Rattle.tlog_tiles.specs.declared.paths.Path.{Path}
use Rattle.tlog_tiles.specs.declared.paths.Path.TheVariants.{Tile}
use Rattle.tlog_tiles.specs.Row.{row_text}
use Rattle.log_reader.proofs.RowLists.{items_of, rows_more}
use Rattle.copy_reader.specs.Answering.{IsHad}
use Rattle.copy_reader.specs.Edges.{AreRowsGiven, IsRowGivenAt}
use Rattle.tlog_hash.specs.Rows.{level_row}
use Rattle.mirror_model.specs.Strings.{IsDigest}
use Rattle.mirror_model.specs.TrueLaws.{AreShort}
use Rattle.log_reader.specs.EdgeRows.{Edge, RowIsTrue, row_at}
use Rattle.log_reader.specs.Holding.{IsEdgeRowOf}
use Rattle.copy_reader.specs.Found.{AreTrue, FileRead}
use Rattle.copy_reader.specs.Order.{edge_file, edge_order}
use Rattle.copy_reader.specs.Stops.{AreRead, AreRowsRead, IsRowFile, IsRowRead}
use Rattle.copy_reader.proofs.EdgeFiles.{have_next}
use Rattle.copy_reader.proofs.Orders.{each_none, next_file}
use Rattle.copy_reader.proofs.Stops.{given_more, paths_more, true_append, verified_append}
use Rattle.copy_reader.proofs.Given.{given_none, given_then, had_left, had_right}

-- the rows that were given so far
abbrev pub SoFar : ℕ → List (Vec (List ℕ) Global) → ℕ → (may later : Path → Option (List ℕ) → Type 0) →
    Option (List Path) → Option (List Path) → Type 0
SoFar size vs n may later old new = AreRowsGiven size (λ k. get_or (items_of vs) k []) n may later old new

pub no_rows : (size : ℕ) (vs : List (Vec (List ℕ) Global)) (may : Path → Option (List ℕ) → Type 0)
    (x : Option (List Path)) → SoFar size vs 0 may may x x
no_rows size vs may x = record {
  replies = [];
  given = given_none may x;
  had = λ level lt some. absurd (omega arith);
}

pub one_more : (size : ℕ) (vs more : List (Vec (List ℕ) Global)) (v : Vec (List ℕ) Global) (n : ℕ)
    (a b c : Path → Option (List ℕ) → Type 0) (x y z : Option (List Path)) → more ≡ vs ++ v ∷ [] → length vs ≡ n →
    SoFar size vs n a b x y → IsRowGivenAt size n v.items b c y z → SoFar size more (n + 1) a c x z
one_more size vs more v n a b c x y z is count f g =
    let p = f.replies in
    let q = g.replies in
    let path : ℕ → Path = λ level. Tile level (edge_index_of size level) (width_of size level) in
    record {
      replies = p ++ q;
      given = given_then a b c x y z p q f.given g.given;
      had = rows_more (λ level row. 1 ≤ width_of size level → IsHad (p ++ q) (path level) (row_text row)) vs more v n is count
          (λ level lt some. had_left p q (path level) (row_text (get_or (items_of vs) level [])) (f.had level lt some))
          (λ some. had_right p q (path n) (row_text v.items) (g.had some));
    }

-- the rows that were read so far
abbrev pub ReadSoFar : ℕ → List (Vec (List ℕ) Global) → ℕ → (may later : Path → Option (List ℕ) → Type 0) →
    Option (List Path) → Option (List Path) → Type 0
ReadSoFar size vs n may later old new = AreRowsRead size (λ k. get_or (items_of vs) k []) n may later old new

pub no_rows_read : (size : ℕ) (vs : List (Vec (List ℕ) Global)) (may : Path → Option (List ℕ) → Type 0)
    (x : Option (List Path)) → ReadSoFar size vs 0 may may x x
no_rows_read size vs may x = record {
  reads = [];
  given = given_none may x;
  paths_are = sym (each_none (edge_file size) 0);
  hashes = λ level lt. absurd (omega arith);
  have_rows = All-nil (λ (r : FileRead). IsRowFile (λ l. l < 0) (λ k. get_or (items_of vs) k []) r.path r.found);
  verified = λ digest entries. tt;
  is_true = λ digest entries hash short same t level lt. absurd (omega arith);
}

pub one_more_read : (size : ℕ) (vs more : List (Vec (List ℕ) Global)) (v : Vec (List ℕ) Global) (n : ℕ)
    (a b c : Path → Option (List ℕ) → Type 0) (x y z : Option (List Path)) → more ≡ vs ++ v ∷ [] → length vs ≡ n →
    ReadSoFar size vs n a b x y → IsRowRead size n v.items b c y z → ReadSoFar size more (n + 1) a c x z
one_more_read size vs more v n a b c x y z is count f g = record {
  reads = f.reads ++ g.reads;
  given = given_more a b c x y z f.reads g.reads f.given g.given;
  paths_are = paths_more a b c x y z f.reads g.reads (edge_order size n) (edge_file size n) f.paths_are g.paths_are
      ∙ sym (next_file size n);
  hashes = rows_more (λ level row. All (λ (h : List ℕ). length h ≡ 32) row) vs more v n is count f.hashes g.hashes;
  have_rows = have_next vs more v n is count f.reads g.reads f.have_rows g.has_row;
  verified = λ digest entries. verified_append digest entries f.reads g.reads (f.verified digest entries)
      (λ t. g.verified digest entries);
  is_true = λ digest entries hash short same t.
      let parts = true_append digest entries f.reads g.reads t in
      rows_more (λ level row. IsEdgeRowOf digest size level entries row) vs more v n is count
      (f.is_true digest entries hash short same parts.0) (g.is_true digest entries hash short same parts.1);
}

-- the paths of the rows of some levels
abbrev pub rows_paths : (digest : List ℕ → List ℕ) (about : List (List ℕ) → Type 0) (size : ℕ) (rows : ℕ → List (List ℕ)) (n : ℕ) (a b : Path → Option (List ℕ) → Type 0)
    (x y : Option (List Path)) → AreRowsRead size rows n a b x y →
    AreRead digest about (edge_order size n) a b x y
rows_paths digest about size rows n a b x y r = record {
  reads = r.reads;
  given = r.given;
  paths_are = r.paths_are;
  verified = λ entries h. r.verified digest entries;
}

-- if the files of an edge are true, so are its rows
pub edge_is_true : (digest : List ℕ → List ℕ) → IsDigest digest → (edge : Edge) (size : ℕ) → edge.size ≡ size →
    (a b : Path → Option (List ℕ) → Type 0) (x y : Option (List Path)) (r : AreRowsRead size (row_at edge) 8 a b x y) →
    (entries : List (List ℕ)) → AreShort entries → length entries ≡ size → AreTrue digest entries r.reads → (level : ℕ) →
    level ≤ 7 → RowIsTrue digest edge entries level
edge_is_true digest hash edge size is a b x y r entries short same t level low =
    r.is_true digest entries hash short same t level (omega arith)
    ∙ ap (λ n. level_row digest entries level (256 * edge_index_of n level) (width_of n level)) (sym is)
