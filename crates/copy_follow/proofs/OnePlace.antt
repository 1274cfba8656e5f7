-- An honest place, and the files that may be taken, call after call.
use Rattle.std.proofs.Common.{◌⊎◌, inl, inr, ℕ, List, [], ◌∷◌, ◌++◌, length, take, get_or, Option, Some, None}
use Rattle.std.proofs.Common.{ap, subst, ◌∙◌, arith}
use Rattle.std.proofs.Math.Seq.{get_or-append_seam}
use Rattle.std.proofs.lemmas.List.{length-append}
use Rattle.std.specs.List.{Contains}
use Rattle.std.proofs.lemmas.List.Elements.{All-append, All-cons, All-contains, All-nil, All-weaker, Contains-append_cases}
use Rattle.tlog_tiles.specs.declared.paths.Path.{Path}
use Rattle.tlog_tiles.specs.declared.paths.Path.TheVariants.{Entries, Tile}
use Rattle.mirror_sources.specs.Recorded.{AddsToRecord, KeepsRecord}
use Rattle.mirror_folders.specs.Shelf.{Put, RecordsRead}
use Rattle.copy_places.specs.PlaceGets.{AsksPlaces}
use Rattle.copy_follow.specs.Suffices.{OneIsHonest}
use Rattle.copy_follow.specs.Taken.{FilesAreClear, IsLeafTile, MayTake, PutsTaken, WasPut}
use Rattle.copy_places.specs.Giving.{PartOf}
use Rattle.copy_places.specs.declared.places.Places.{Places}
use Rattle.copy_follow.proofs.Earlier.{kept_then}
use Rattle.copy_follow.proofs.Growth.{adds_then, kept_adds}
use Rattle.copy_places.proofs.Giving.{given_before}
use Rattle.copy_places.proofs.TruePlaces.{place_between}

-- earlier puts stay in the list while nothing is put
pub put_before : (a b : Option (List Put)) → KeepsRecord a b → (path : Path) (bytes : List ℕ) → WasPut b path bytes → WasPut a path bytes
put_before None b kept path bytes put = tt
put_before (Some us) None kept path bytes put = absurd kept
put_before (Some us) (Some vs) kept path bytes put = subst (λ (l : List Put). Contains l (path, bytes)) kept put

recorded_kept : (a b c : Option (List Put)) (puts : List Put) → AddsToRecord a b puts → KeepsRecord b c → AddsToRecord a c puts
recorded_kept None b c puts recorded kept = tt
recorded_kept (Some us) None c puts recorded kept = absurd recorded
recorded_kept (Some us) (Some vs) None puts recorded kept = absurd kept
recorded_kept (Some us) (Some vs) (Some ws) puts recorded kept = kept ∙ recorded

-- a file that is read was put
pub put_read : (puts : Option (List Put)) (path : Path) (bytes : List ℕ) → RecordsRead puts path (Some bytes) → WasPut puts path bytes
put_read None path bytes h = tt
put_read (Some puts) path bytes s = (
  length s.before,
  omega (arith, ap length s.puts_are, length-append s.before ((path, bytes) ∷ s.after)),
  ap (λ (l : List Put). get_or l (length s.before) (path, bytes)) s.puts_are
      ∙ get_or-append_seam s.before (path, bytes) s.after (path, bytes),
)

module _ {S : Type 0} (may : S → Path → Option (List ℕ) → Type 0) (failed : S → ℕ) (asked : S → Option (List Path)) where
  module _ (so : Path → Type 0) (x y : Places S) (p : AsksPlaces may failed asked so x y) where
    was_put : (a b : Option (List Put)) (path : Path) (bytes : List ℕ) → PutsTaken may x a b → WasPut b path bytes →
        IsLeafTile path ⊎ MayTake may x a path bytes
    was_put None b path bytes t h = inr (inl tt)
    was_put (Some us) None path bytes t h = absurd t.recorded
    was_put (Some us) (Some vs) path bytes t h =
        elim (Contains-append_cases us t.puts (path, bytes) (subst (λ (l : List Put). Contains l (path, bytes)) t.recorded h)) [
          | inl old ↦ inr (inl old)
          | inr new ↦ All-contains (λ (put : Put). IsLeafTile put.0 ⊎ MayTake may x (Some us) put.0 put.1) t.puts (path, bytes)
              t.are_taken new
        ]

    -- a file that may be taken later might be taken before, except tiles of level 0
    pub taken_before : (a b : Option (List Put)) (path : Path) (bytes : List ℕ) → PutsTaken may x a b → MayTake may y b path bytes →
        IsLeafTile path ⊎ MayTake may x a path bytes
    taken_before a b path bytes t (inl put) = was_put a b path bytes t put
    taken_before a b path bytes t (inr given) = inr (inr (given_before may failed asked so x y path bytes p given))

    not_leaf : (a b : Option (List Put)) (path : Path) (bytes : List ℕ) → PutsTaken may x a b → (IsLeafTile path → ⊥) →
        MayTake may y b path bytes → MayTake may x a path bytes
    not_leaf a b path bytes t other h = elim (taken_before a b path bytes t h) [
      | inl leaf ↦ absurd (other leaf)
      | inr taken ↦ taken
    ]

    either_before : (a b : Option (List Put)) → PutsTaken may x a b → (put : Put) →
        IsLeafTile put.0 ⊎ MayTake may y b put.0 put.1 → IsLeafTile put.0 ⊎ MayTake may x a put.0 put.1
    either_before a b t put (inl leaf) = inl leaf
    either_before a b t put (inr taken) = taken_before a b put.0 put.1 t taken

    pub puts_then : (a b c : Option (List Put)) → PutsTaken may x a b → PutsTaken may y b c → PutsTaken may x a c
    puts_then a b c t u = record {
      puts = t.puts ++ u.puts;
      recorded = adds_then a b c t.puts u.puts t.recorded u.recorded;
      are_taken = All-append (λ (put : Put). IsLeafTile put.0 ⊎ MayTake may x a put.0 put.1) t.puts u.puts t.are_taken
          (All-weaker (λ (put : Put). IsLeafTile put.0 ⊎ MayTake may y b put.0 put.1)
          (λ (put : Put). IsLeafTile put.0 ⊎ MayTake may x a put.0 put.1) (either_before a b t) u.puts u.are_taken);
    }

    pub clear_later : (digest : List ℕ → List ℕ) (log : List (List ℕ)) (a b : Option (List Put)) → PutsTaken may x a b →
        FilesAreClear digest log (MayTake may x a) → FilesAreClear digest log (MayTake may y b)
    clear_later digest log a b t c = record {
      tile = λ level index some bytes row taken is.
          c.tile level index some bytes row (not_leaf a b (Tile level index 256) bytes t (λ none. omega (arith, none, some)) taken) is;
      bundle = λ index width bytes es taken is. c.bundle index width bytes es (part_before index width bytes taken) is;
    }
      where
        part_before : (index width : ℕ) (bytes : List ℕ) → PartOf (MayTake may y b) (Entries index width) bytes →
            PartOf (MayTake may x a) (Entries index width) bytes
        part_before index width bytes (inl h) = inl (not_leaf a b (Entries index width) bytes t (λ none. none) h)
        part_before index width bytes (inr h) = inr (h.0, not_leaf a b (Entries index 256) h.0 t (λ none. none) h.1, h.2)

  pub honest_between : (digest : List ℕ → List ℕ) (entries : List (List ℕ)) (size : ℕ) (so also last : Path → Type 0)
      (x y z w : Places S) (a b : Option (List Put)) → AsksPlaces may failed asked so x y → AsksPlaces may failed asked also y z →
      AsksPlaces may failed asked last z w → PutsTaken may x a b → OneIsHonest digest entries size may a x w →
      OneIsHonest digest entries size may b y z
  honest_between digest entries size so also last x y z w a b p q r t h = record {
    short = h.short;
    upto = h.upto;
    place = place_between may failed asked digest entries so also last x y z w p q r h.place;
    clear = clear_later so x y p digest (take size entries) a b t h.clear;
  }

  pub puts_none : (x : Places S) (a b : Option (List Put)) → KeepsRecord a b → PutsTaken may x a b
  puts_none x a b kept = record {
    puts = [];
    recorded = kept_adds a b kept;
    are_taken = All-nil (λ (put : Put). IsLeafTile put.0 ⊎ MayTake may x a put.0 put.1);
  }

  pub puts_one : (x : Places S) (a b : Option (List Put)) (path : Path) (bytes : List ℕ) →
      (KeepsRecord a b) ⊎ (AddsToRecord a b ((path, bytes) ∷ [])) → IsLeafTile path ⊎ MayTake may x a path bytes → PutsTaken may x a b
  puts_one x a b path bytes (inl kept) taken = puts_none x a b kept
  puts_one x a b path bytes (inr recorded) taken = record {
    puts = (path, bytes) ∷ [];
    recorded = recorded;
    are_taken = All-cons (λ (put : Put). IsLeafTile put.0 ⊎ MayTake may x a put.0 put.1) (path, bytes) [] taken
        (All-nil (λ (put : Put). IsLeafTile put.0 ⊎ MayTake may x a put.0 put.1));
  }

  -- the files that may be taken after nothing was put
  pub taken_kept : (so : Path → Type 0) (x y : Places S) (a b : Option (List Put)) (path : Path) (bytes : List ℕ) →
      AsksPlaces may failed asked so x y → KeepsRecord a b → MayTake may y b path bytes → MayTake may x a path bytes
  taken_kept so x y a b path bytes p kept (inr given) = inr (given_before may failed asked so x y path bytes p given)
  taken_kept so x y a b path bytes p kept (inl put) = inl (put_before a b kept path bytes put)

  adds_after : (a b c : Option (List Put)) (puts : List Put) → KeepsRecord a b → AddsToRecord b c puts → AddsToRecord a c puts
  adds_after None b c puts kept recorded = tt
  adds_after (Some us) None c puts kept recorded = absurd kept
  adds_after (Some us) (Some vs) None puts kept recorded = absurd recorded
  adds_after (Some us) (Some vs) (Some ws) puts kept recorded = recorded ∙ ap (λ (l : List Put). l ++ puts) kept

  pub puts_after : (x : Places S) (a b c : Option (List Put)) (path : Path) (bytes : List ℕ) → KeepsRecord a b →
      (KeepsRecord b c) ⊎ (AddsToRecord b c ((path, bytes) ∷ [])) → IsLeafTile path ⊎ MayTake may x a path bytes → PutsTaken may x a c
  puts_after x a b c path bytes kept (inl same) taken = puts_none x a c (kept_then a b c kept same)
  puts_after x a b c path bytes kept (inr recorded) taken =
      puts_one x a c path bytes (inr (adds_after a b c ((path, bytes) ∷ []) kept recorded)) taken

  -- a file that might be taken at first is put after others
  pub puts_also : (x : Places S) (a b c : Option (List Put)) (path : Path) (bytes : List ℕ) → PutsTaken may x a b →
      (KeepsRecord b c) ⊎ (AddsToRecord b c ((path, bytes) ∷ [])) → IsLeafTile path ⊎ MayTake may x a path bytes → PutsTaken may x a c
  puts_also x a b c path bytes t (inl kept) taken = record {
    puts = t.puts;
    recorded = recorded_kept a b c t.puts t.recorded kept;
    are_taken = t.are_taken;
  }
  puts_also x a b c path bytes t (inr recorded) taken = record {
    puts = t.puts ++ (path, bytes) ∷ [];
    recorded = adds_then a b c t.puts ((path, bytes) ∷ []) t.recorded recorded;
    are_taken = All-append (λ (put : Put). IsLeafTile put.0 ⊎ MayTake may x a put.0 put.1) t.puts ((path, bytes) ∷ []) t.are_taken
        (All-cons (λ (put : Put). IsLeafTile put.0 ⊎ MayTake may x a put.0 put.1) (path, bytes) [] taken
        (All-nil (λ (put : Put). IsLeafTile put.0 ⊎ MayTake may x a put.0 put.1)));
  }
