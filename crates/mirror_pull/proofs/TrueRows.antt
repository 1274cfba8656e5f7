-- The rows of the right edge from an honest source.
use Rattle.std.proofs.Common.{◌≡◌, ◌≢◌, ℕ, ◌+◌, ◌*◌, ◌≤◌, List, [], ◌∷◌, ◌++◌, length, map, take, arith, Contains}
use Rattle.std.proofs.Common.{Option, Some, None, refl, sym, ◌∙◌, ap, subst, append_assoc}
use Rattle.tlog_tiles.specs.declared.paths.Path.{Path}
use Rattle.tlog_tiles.specs.declared.paths.Path.TheVariants.{Checkpoint, Tile, Entries}
use Rattle.tlog_tiles.specs.Edge.{edge_of}
use Rattle.tlog_tiles.specs.Tiles.{IsWithin, IsEdgeTile}
use Rattle.tlog_tiles.proofs.EdgeLemmas.{edge_is}
use Rattle.std.proofs.Common.{◌<◌, get_or}
use Rattle.std.proofs.lemmas.List.{map-append, take_all}
use Rattle.std.proofs.lemmas.List.Elements.{Contains-get_or}
use Rattle.mirror_model.proofs.TrueItems.{tiles_are_true}
use Rattle.mirror_model.proofs.Fetching.{full_tiles_begin}
use Rattle.mirror_sources.specs.Files.{full_of, width_named}
use Rattle.mirror_sources.specs.Source.{StaysWithin}
use Rattle.mirror_sources.specs.Replies.{reply}
use Rattle.mirror_sources.specs.Honest.{IsGone, GetsNone, GetsFound, GetsFull, true_bytes}
use Rattle.mirror_pull.specs.Asking.{IsFresh, AreFresh}
use Rattle.mirror_pull.specs.Parts.{GetsAll, IsTilePath, IsTrueSource, IsTrueRow, AreTrueRows}
use Rattle.mirror_pull.proofs.Freshness.{full_unasked, fresh_next, take_one, adds_of_gets, gets_none, gets_all_then}

-- a true source stays true if fewer answers may come
pub source_stays : (digest : List ℕ → List ℕ) (entries : List (List ℕ)) (may later : Path → Option (List ℕ) → Type 0) →
    StaysWithin may later → IsTrueSource digest entries may → IsTrueSource digest entries later
source_stays digest entries may later within is =
    record {
      hash =
          is.hash;
      short =
          is.short;
      parts = λ path inside answer h. is.parts path inside answer (within.stays path answer h);
    }

pub two_more : (path full : Path) (before middle after : List Path) → full ≡ full_of path →
    middle ≡ before ++ path ∷ [] → after ≡ middle ++ full ∷ [] → after ≡ before ++ path ∷ full_of path ∷ []
two_more path full before middle after same e f =
    f ∙ (ap (λ (l : List Path). l ++ full ∷ []) e ∙
    (ap (λ (q : Path). (before ++ path ∷ []) ++ q ∷ []) same ∙ append_assoc before (path ∷ []) (full_of path ∷ [])))

-- if the path was not requested before, neither was its full path
pub full_fresh : (path full : Path) (before middle : List Path) → full ≡ full_of path → path ≢ full_of path →
    middle ≡ before ++ path ∷ [] → IsFresh before path → Contains middle full → ⊥
full_fresh path full before middle same partial e fresh has =
    full_unasked before path partial fresh
    (subst (λ (q : Path). Contains (before ++ path ∷ []) q) same (subst (λ (l : List Path). Contains l full) e has))

pub tile_within : (n : ℕ) (path : Path) → IsTilePath n path → IsWithin n path
tile_within n Checkpoint h = h
tile_within n (Tile level index width) h = h
tile_within n (Entries index width) h = absurd h

module _ (digest : List ℕ → List ℕ) (entries : List (List ℕ)) (may : Path → Option (List ℕ) → Type 0)
    (is : IsTrueSource digest entries may) where
  abbrev pub gets_found : (path : Path) (bytes : List ℕ) (before after : List Path) → may path (Some bytes) →
      after ≡ before ++ path ∷ [] → GetsAll (length entries) may (path ∷ []) before after
  gets_found path bytes before after h e = record {
    replies = reply path (Some bytes) ∷ [];
    founds = path ∷ [];
    are = GetsFound path bytes GetsNone;
    may_reply = (h, tt);
    list = e;
  }

  abbrev pub gets_full :
      (later : Path → Option (List ℕ) → Type 0) (path full : Path) (bytes : List ℕ) (before middle after : List Path) →
      StaysWithin may later → IsGone (length entries) path → may path None → later (full_of path) (Some bytes) →
      full ≡ full_of path → middle ≡ before ++ path ∷ [] → after ≡ middle ++ full ∷ [] →
      GetsAll (length entries) may (path ∷ []) before after
  gets_full later path full bytes before middle after stays gone none h same e f = record {
    replies = reply path None ∷ reply (full_of path) (Some bytes) ∷ [];
    founds = full_of path ∷ [];
    are = GetsFull path bytes gone GetsNone;
    may_reply = (none, (stays.stays (full_of path) (Some bytes) h, tt));
    list = two_more path full before middle after same e f;
  }

  pub is_gone : (path : Path) → IsWithin (length entries) path → may path None → IsGone (length entries) path
  is_gone path within h = is.parts path within None h

  -- the full path of one whose file may be deleted has an answer with bytes
  pub full_answers : (path : Path) → IsGone (length entries) path → may (full_of path) None → ⊥
  full_answers Checkpoint gone h = absurd gone.full
  full_answers (Tile level index width) gone h =
      let again = is.parts (Tile level index 256) gone.full None h in omega (arith, again.partial)
  full_answers (Entries index width) gone h =
      let again = is.parts (Entries index 256) gone.full None h in omega (arith, again.partial)

  pub row_found : (path : Path) (before after : List Path) (bytes : List ℕ) → IsTilePath (length entries) path →
      may path (Some bytes) → after ≡ before ++ path ∷ [] → IsTrueRow digest entries may path before after bytes
  row_found path before after bytes tile h e =
      record {
        bytes_are =
            is.parts path (tile_within (length entries) path tile) (Some bytes) h;
        gets = gets_found path bytes before after h e;
      }

  pub full_length : (path : Path) (bytes : List ℕ) → IsTilePath (length entries) path → IsGone (length entries) path →
      may (full_of path) (Some bytes) → length bytes ≡ 8192
  full_length Checkpoint bytes tile gone h = absurd tile
  full_length (Entries index width) bytes tile gone h = absurd tile
  full_length (Tile level index width) bytes tile gone h =
      let t = tiles_are_true digest is.hash entries is.short level index 256
      (record { some = gone.full.some; most = gone.full.upto }) in
      ap length (is.parts (Tile level index 256) gone.full (Some bytes) h) ∙ t.good.length_is

  pub row_full : (path : Path) (bytes : List ℕ) → IsTilePath (length entries) path → IsGone (length entries) path →
      may (full_of path) (Some bytes) → take (32 * width_named path) bytes ≡ true_bytes digest entries path
  row_full Checkpoint bytes tile gone h = absurd tile
  row_full (Entries index width) bytes tile gone h = absurd tile
  row_full (Tile level index width) bytes tile gone h =
      ap (take (32 * width)) (is.parts (Tile level index 256) gone.full (Some bytes) h) ∙
      full_tiles_begin digest is.hash entries level index width tile.upto

-- ---- rows in order

pub edge_tile : (size n : ℕ) → size ≤ n → (path : Path) → Contains (edge_of size) path → IsTilePath n path
edge_tile size n le path has = go path ((edge_is size path).0 has)
  where
    go : (path : Path) → IsEdgeTile size path → IsTilePath n path
    go Checkpoint h = h
    go (Tile level index width) h =
        record {
          level_fits =
              h.within.level_fits;
          some = h.within.some;
          upto = h.within.upto;
          within = omega (arith, h.within.within, le);
        }
    go (Entries index width) h = h

module _ (digest : List ℕ → List ℕ) (entries : List (List ℕ)) where
  pub rows_step :
      {A : Type 0} (f : A → List ℕ) (may later : Path → Option (List ℕ) → Type 0)
      (qs ps before mid after : List Path) (i : ℕ) (rows more : List A) (row : A) →
      StaysWithin may later → qs ≡ ps → i < length qs → AreFresh before ps →
      ((p : Path) → Contains ps p → IsTilePath (length entries) p) → more ≡ rows ++ row ∷ [] →
      AreTrueRows digest entries may (take i ps) before mid (map f rows) →
      (IsTilePath (length entries) (get_or qs i Checkpoint) → IsFresh mid (get_or qs i Checkpoint) →
      IsTrueRow digest entries later (get_or qs i Checkpoint) mid after (f row)) →
      AreTrueRows digest entries may (take (i + 1) ps) before after (map f more)
  rows_step f may later qs ps before mid after i rows more row stays same lt are tiles grown old step =
      let less : i < length ps = omega (arith, lt, ap length same) in
      let p = get_or ps i Checkpoint in
      let is : get_or qs i Checkpoint ≡ p = ap (λ (l : List Path). get_or l i Checkpoint) same in
      let fresh =
      fresh_next before mid ps i less are (adds_of_gets (length entries) may (take i ps) before mid old.gets) in
      let new =
      subst (λ (r : Path). IsTrueRow digest entries later r mid after (f row)) is
      (step (subst (IsTilePath (length entries)) (sym is) (tiles p (Contains-get_or ps i Checkpoint less)))
      (subst (IsFresh mid) (sym is) fresh)) in
      subst (λ (l : List Path). AreTrueRows digest entries may l before after (map f more)) (sym (take_one ps i less))
      (record {
        rows_are =
            ap (map f) grown ∙
            (map-append f rows (row ∷ []) ∙
            (ap (λ (l : List (List ℕ)). l ++ f row ∷ []) old.rows_are ∙
            (ap (λ (r : List ℕ). map (true_bytes digest entries) (take i ps) ++ r ∷ []) new.bytes_are ∙
            sym (map-append (true_bytes digest entries) (take i ps) (p ∷ [])))));
        gets =
            gets_all_then (length entries) may later (take i ps) (p ∷ []) before mid after stays old.gets new.gets;
      })

  pub rows_none : (may : Path → Option (List ℕ) → Type 0) (before : List Path) →
      AreTrueRows digest entries may [] before before []
  rows_none may before = record { rows_are = refl; gets = gets_none (length entries) may before }

  pub rows_whole :
      (may : Path → Option (List ℕ) → Type 0) (ps before after : List Path) (i : ℕ) (rows : List (List ℕ)) →
      length ps ≤ i → AreTrueRows digest entries may (take i ps) before after rows →
      AreTrueRows digest entries may ps before after rows
  rows_whole may ps before after i rows le are =
      subst (λ (l : List Path). AreTrueRows digest entries may l before after rows) (take_all i ps le) are

  -- the row of the next path follows the rows before it
  pub row_reached :
      {R : Type 0} (may : Path → Option (List ℕ) → Type 0) (qs ps before mid : List Path) (i : ℕ)
      (rows : List (List ℕ)) → qs ≡ ps → i < length qs →
      AreFresh before ps → ((p : Path) → Contains ps p → IsTilePath (length entries) p) →
      AreTrueRows digest entries may (take i ps) before mid rows →
      (IsTilePath (length entries) (get_or qs i Checkpoint) → IsFresh mid (get_or qs i Checkpoint) → R) → R
  row_reached may qs ps before mid i rows same lt are tiles old step =
      let less : i < length ps = omega (arith, lt, ap length same) in
      let p = get_or ps i Checkpoint in
      let is : get_or qs i Checkpoint ≡ p = ap (λ (l : List Path). get_or l i Checkpoint) same in
      step (subst (IsTilePath (length entries)) (sym is) (tiles p (Contains-get_or ps i Checkpoint less)))
      (subst (IsFresh mid) (sym is)
      (fresh_next before mid ps i less are (adds_of_gets (length entries) may (take i ps) before mid old.gets)))
