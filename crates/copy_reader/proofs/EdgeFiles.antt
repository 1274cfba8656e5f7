-- Files that have the rows of an edge.
use Rattle.std.proofs.Common.{◌≡◌, ℕ, ◌+◌, ◌<◌, All, List, [], ◌∷◌, ◌++◌, length, get_or, Vec, Global, refl, subst, arith}
use Rattle.std.proofs.lemmas.List.Elements.{All-append, All-cons, All-nil, All-weaker}
use Rattle.tlog_tiles.specs.declared.paths.Path.{Path}
use Rattle.tlog_tiles.specs.declared.paths.Path.TheVariants.{Checkpoint, Tile, Entries}
use Rattle.tlog_tiles.specs.Row.{row_text}
use Rattle.log_reader.specs.EdgeRows.{Edge, row_at}
use Rattle.log_reader.proofs.RowLists.{items_of, rows_more}
use Rattle.copy_reader.specs.Found.{Begins, FileRead, Found, IsOfEdge, file_read}
use Rattle.copy_reader.specs.Stops.{IsRowFile}

abbrev pub HaveRows : (ℕ → Type 0) → (ℕ → List (List ℕ)) → List FileRead → Type 0
HaveRows levels rows reads = All (λ (r : FileRead). IsRowFile levels rows r.path r.found) reads

pub one_row_file : (levels : ℕ → Type 0) (rows : ℕ → List (List ℕ)) (path : Path) (found : Found) →
    IsRowFile levels rows path found → HaveRows levels rows (file_read path found ∷ [])
one_row_file levels rows path found h =
    All-cons (λ (r : FileRead). IsRowFile levels rows r.path r.found) (file_read path found) [] h
    (All-nil (λ (r : FileRead). IsRowFile levels rows r.path r.found))

-- the same rows of more levels
module _ (levels others : ℕ → Type 0) (rows more : ℕ → List (List ℕ))
    (also : (level : ℕ) → levels level → others level × (rows level ≡ more level)) where
  row_file_more : (path : Path) (found : Found) → IsRowFile levels rows path found → IsRowFile others more path found
  row_file_more Checkpoint found h = h
  row_file_more (Tile level index width) found h =
      let a = also level h.0 in
      (a.0, subst (λ row. Begins (Tile level index width) (row_text row) found) a.1 h.1)
  row_file_more (Entries index width) found h = h

  pub have_more : (reads : List FileRead) → HaveRows levels rows reads → HaveRows others more reads
  have_more reads h =
      All-weaker (λ (r : FileRead). IsRowFile levels rows r.path r.found) (λ (r : FileRead). IsRowFile others more r.path r.found)
      (λ r f. row_file_more r.path r.found f) reads h

-- the rows so far, and the next one
pub have_next : (vs more : List (Vec (List ℕ) Global)) (v : Vec (List ℕ) Global) (n : ℕ) → more ≡ vs ++ v ∷ [] →
    length vs ≡ n → (front next : List FileRead) → HaveRows (λ l. l < n) (λ k. get_or (items_of vs) k []) front →
    HaveRows (λ l. l ≡ n) (λ k. v.items) next →
    HaveRows (λ l. l < n + 1) (λ k. get_or (items_of more) k []) (front ++ next)
have_next vs more v n is count front next f g =
    let rows = λ (k : ℕ). get_or (items_of vs) k [] in
    let all = λ (k : ℕ). get_or (items_of more) k [] in
    let old : (l : ℕ) → l < n → (l < n + 1) × (rows l ≡ all l) =
    (λ l lt. (
      omega (arith, lt),
      rows_more (λ k row. k < n → rows k ≡ row) vs more v n is count (λ k below also. refl) (λ also. absurd (omega (arith, also))) l
          (omega (arith, lt)) lt,
    )) in
    let new : (l : ℕ) → l ≡ n → (l < n + 1) × (v.items ≡ all l) =
    (λ l at. (
      omega (arith, at),
      rows_more (λ k row. k ≡ n → v.items ≡ row) vs more v n is count (λ k below also. absurd (omega (arith, also, below)))
          (λ also. refl) l (omega (arith, at)) at,
    )) in
    All-append (λ (r : FileRead). IsRowFile (λ l. l < n + 1) all r.path r.found) front next
    (have_more (λ l. l < n) (λ l. l < n + 1) rows all old front f)
    (have_more (λ l. l ≡ n) (λ l. l < n + 1) (λ k. v.items) all new next g)

-- files that have rows of an edge
of_edge : (edge : Edge) (levels : ℕ → Type 0) (path : Path) (found : Found) → IsRowFile levels (row_at edge) path found →
    IsOfEdge edge path found
of_edge edge levels Checkpoint found h = tt
of_edge edge levels (Tile level index width) found h = λ low. h.1
of_edge edge levels (Entries index width) found h = tt

pub are_of_edge : (edge : Edge) (levels : ℕ → Type 0) (reads : List FileRead) → HaveRows levels (row_at edge) reads →
    All (λ (r : FileRead). IsOfEdge edge r.path r.found) reads
are_of_edge edge levels reads h =
    All-weaker (λ (r : FileRead). IsRowFile levels (row_at edge) r.path r.found)
    (λ (r : FileRead). IsOfEdge edge r.path r.found) (λ r f. of_edge edge levels r.path r.found f) reads h
