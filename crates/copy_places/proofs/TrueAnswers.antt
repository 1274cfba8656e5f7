-- The answers of a place that gives only true files of a log.
use Rattle.std.proofs.Common.{◌≡◌, ◌⊎◌, inl, inr, ℕ, ◌+◌, ◌*◌, ◌/◌, ◌^◌, ◌<◌, ◌≤◌, List, length, get_or, Option, Some, None}
use Rattle.std.proofs.Common.{Result, Ok, Err, Vec, Global, drop, take, sym, ap, subst, ◌∙◌, arith, length-take, take-append-drop}
use Rattle.std.specs.Prelude.{IfNone, IfOk, IfSome, option_map}
use Rattle.std.proofs.Math.Nat.{div-mul-le_self}
use Rattle.tlog_shape.specs.Edge.{edge_index_of, width_of}
use Rattle.tlog_hash.specs.Rows.{level_row, part}
use Rattle.tlog_tiles.specs.declared.paths.Path.{Path}
use Rattle.tlog_tiles.specs.declared.paths.Path.TheVariants.{Checkpoint, Tile, Entries}
use Rattle.tlog_tiles.specs.Bundle.{IsBundle}
use Rattle.tlog_tiles.specs.Tiles.{IsWithin, tile_bytes}
use Rattle.tlog_tiles.proofs.EdgeLemmas.{hashes_of}
use Rattle.tlog_tiles.proofs.TileLemmas.{served_is_read}
use Rattle.tlog_tiles.specs.Row.{IsRow}
use Rattle.log_reader.specs.EdgeRows.{Edge, hash_of_edge, row_at}
use Rattle.log_reader.proofs.Prefixes.{true_rows_lead}
use Rattle.log_reader.proofs.TrueReads.{row_is_true, true_bytes_are_row}
use Rattle.mirror_model.specs.Strings.{IsDigest}
use Rattle.mirror_model.specs.TrueLaws.{AreShort}
use Rattle.mirror_sources.specs.Files.{full_of}
use Rattle.mirror_sources.specs.Honest.{IsGone, true_bytes}
use Rattle.log_reader.specs.Verified.{HasLeaves}
use Rattle.copy_places.specs.TruePlaces.{IsTruePlace}
use Rattle.copy_places.specs.TrueAnswers.{HasTrueLeaves, IsRootOf}
use Rattle.copy_places.specs.declared.place.Place.{Place}
use Rattle.copy_places.specs.declared.places.Places.{Places}
use Rattle.copy_places.proofs.Prefixes.{level_row_front}

-- ---- answers

pub some_weaker : {T : Type 0} (o : Option T) (P Q : T → Type 0) → ((x : T) → P x → Q x) → IfSome o P → IfSome o Q
some_weaker None P Q f h = tt
some_weaker (Some x) P Q f h = f x h

pub none_weaker : {T : Type 0} (o : Option T) (P Q : Type 0) → (P → Q) → IfNone o P → IfNone o Q
none_weaker None P Q f h = f h
none_weaker (Some x) P Q f h = tt

pub ok_weaker : {T E : Type 0} (r : Result T E) (P Q : T → Type 0) → ((x : T) → P x → Q x) → IfOk r P → IfOk r Q
ok_weaker (Ok x) P Q f h = f x h
ok_weaker (Err e) P Q f h = tt

pub ok_some_weaker : {T E : Type 0} (r : Result (Option T) E) (P Q : T → Type 0) → ((x : T) → P x → Q x) →
    IfOk r (λ o. IfSome o P) → IfOk r (λ o. IfSome o Q)
ok_some_weaker (Ok o) P Q f h = some_weaker o P Q f h
ok_some_weaker (Err e) P Q f h = tt

-- ---- places

module _ (digest : List ℕ → List ℕ) (entries : List (List ℕ)) {S : Type 0} (may : S → Path → Option (List ℕ) → Type 0)
    (x y : Places S) (index : ℕ) (t : IsTruePlace digest entries may x y index) where
  -- a file that it gave
  pub got_file : (path : Path) (bytes : List ℕ) → IsWithin (length entries) path →
      ((d : Place S) → may (get_or x.list.items index d).source path (Some bytes)) → bytes ≡ true_bytes digest entries path
  got_file path bytes within answer = t.gives path within (Some bytes) (answer t.none)

  -- a file that it lacks
  pub got_none : (path : Path) → IsWithin (length entries) path →
      ((d : Place S) → may (get_or x.list.items index d).source path None) → IsGone (length entries) path
  got_none path within answer = t.gives path within None (answer t.none)

  pub not_failed : ((d : Place S) → ((get_or x.list.items index d).failures < (get_or y.list.items index d).failures)
      ⊎ (8 ≤ (get_or x.list.items index d).failures)) → ⊥
  not_failed failed =
      let same = t.answers in
      let few = t.asked in
      elim (failed t.none) [
        | inl rose ↦ omega (arith, rose, same)
        | inr many ↦ omega (arith, many, few)
      ]

-- a log never deletes the full file of a path
pub full_stays : (n : ℕ) (path : Path) → IsGone n path → IsGone n (full_of path) → ⊥
full_stays n Checkpoint first h = h.full
full_stays n (Tile level index width) first h = let few = h.partial in omega (arith, few)
full_stays n (Entries index width) first h = let few = h.partial in omega (arith, few)

-- the partial tile of a level of an edge within the entries
pub edge_within : (n k level : ℕ) → n ≤ k → level ≤ 7 → 1 ≤ width_of n level →
    IsWithin k (Tile level (edge_index_of n level) (width_of n level))
edge_within n k level le low some =
    let whole : (256 * edge_index_of n level + width_of n level) * 256 ^ level ≡ n / 256 ^ level * 256 ^ level =
    ap (λ m. m * 256 ^ level) (hashes_of n level) in
    record {
      level_fits = low;
      some = some;
      upto = omega arith;
      within = omega (arith, whole, div-mul-le_self n (256 ^ level), le);
    }

module _ (digest : List ℕ → List ℕ) (hash : IsDigest digest) (entries : List (List ℕ)) (short : AreShort entries) where
  -- the true bytes of a bundle have its leaf hashes
  pub leaves_there : (path : Path) (row : List (List ℕ)) (bytes : List ℕ) → HasTrueLeaves digest entries path row →
      bytes ≡ true_bytes digest entries path → HasLeaves digest (length row) bytes row
  leaves_there Checkpoint row bytes h is = absurd h
  leaves_there (Tile level index width) row bytes h is = absurd h
  leaves_there (Entries index width) row bytes h is = record {
    entries = part (256 * index) width entries;
    is_bundle = subst (λ w. IsBundle w bytes (part (256 * index) width entries)) h.0
        (subst (λ b. IsBundle width b (part (256 * index) width entries)) (sym is)
        ((served_is_read digest hash entries short).bundle index width h.1));
    row_is = h.2;
  }

pub leaves_within : (digest : List ℕ → List ℕ) (entries : List (List ℕ)) (path : Path) (row : List (List ℕ)) →
    HasTrueLeaves digest entries path row → IsWithin (length entries) path
leaves_within digest entries Checkpoint row h = absurd h
leaves_within digest entries (Tile level index width) row h = absurd h
leaves_within digest entries (Entries index width) row h = h.1

-- the row of the true bytes of a partial tile
pub row_there : (digest : List ℕ → List ℕ) → IsDigest digest → (entries : List (List ℕ)) (n level width : ℕ)
    (bytes read : List ℕ) (path : Path) (o : Option (Vec (List ℕ) Global)) → width ≡ width_of n level →
    path ≡ Tile level (edge_index_of n level) (width_of n level) → read ≡ bytes →
    Some bytes ≡ Some (true_bytes digest entries path) → IfSome o (λ row. IsRow width read row.items) →
    IfNone o ((row : List (List ℕ)) → IsRow width read row → ⊥) →
    option_map (λ row. row.items) o ≡ Some (level_row digest entries level (256 * edge_index_of n level) (width_of n level))
row_there digest hash entries n level width bytes read path o wide path_is read_is is some none =
    let index = edge_index_of n level in
    let w = width_of n level in
    let given : bytes ≡ true_bytes digest entries path = cc is in
    let true : read ≡ tile_bytes digest entries level index w =
    read_is ∙ (given ∙ ap (λ p. true_bytes digest entries p) path_is) in
    by_answer o (subst (λ k. IfSome o (λ row. IsRow k read row.items)) wide some)
    (subst (λ k. IfNone o ((row : List (List ℕ)) → IsRow k read row → ⊥)) wide none) true
  where
    by_answer : (o : Option (Vec (List ℕ) Global)) → IfSome o (λ row. IsRow (width_of n level) read row.items) →
        IfNone o ((row : List (List ℕ)) → IsRow (width_of n level) read row → ⊥) →
        read ≡ tile_bytes digest entries level (edge_index_of n level) (width_of n level) →
        option_map (λ row. row.items) o
        ≡ Some (level_row digest entries level (256 * edge_index_of n level) (width_of n level))
    by_answer None some none true =
        absurd (none _ (true_bytes_are_row digest hash entries level (edge_index_of n level) (width_of n level) read true))
    by_answer (Some v) some none true =
        ap (λ (r : List (List ℕ)). Some r)
        (row_is_true digest hash entries level (edge_index_of n level) (width_of n level) read v.items true some)

-- true rows lead to the root
pub edge_leads : (digest : List ℕ → List ℕ) (entries : List (List ℕ)) (n : ℕ) (root : List ℕ) → n < 2 ^ 64 → (edge : Edge) →
    edge.size ≡ n → ((level : ℕ) → level ≤ 7 →
    row_at edge level ≡ level_row digest entries level (256 * edge_index_of n level) (width_of n level)) →
    IsRootOf digest entries n root → hash_of_edge digest edge ≡ root
edge_leads digest entries n root small edge size_is rows r =
    let log = take n entries in
    let upto = r.upto in
    let long : length log ≡ n = omega (arith, length-take n entries, upto) in
    true_rows_lead digest edge log (long ∙ sym size_is) (omega (arith, long, small)) (λ level low.
    let whole : (256 * edge_index_of n level + width_of n level) * 256 ^ level ≡ n / 256 ^ level * 256 ^ level =
    ap (λ m. m * 256 ^ level) (hashes_of n level) in
    let first : level_row digest entries level (256 * edge_index_of n level) (width_of n level)
    ≡ level_row digest log level (256 * edge_index_of n level) (width_of n level) =
    ap (λ (l : List (List ℕ)). level_row digest l level (256 * edge_index_of n level) (width_of n level))
    (sym (take-append-drop n entries))
    ∙ level_row_front digest log (drop n entries) level (256 * edge_index_of n level) (width_of n level)
    (omega (arith, whole, div-mul-le_self n (256 ^ level), long)) in
    rows level low ∙ (first
    ∙ ap (λ k. level_row digest log level (256 * edge_index_of k level) (width_of k level)) (sym size_is)))
    ∙ sym r.root_is
