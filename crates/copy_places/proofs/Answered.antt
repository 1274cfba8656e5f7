-- Places that may answer nothing but the truth for the files of a proof have them by their kept answers.
use Rattle.std.proofs.Common.{◌≡◌, inl, inr, ℕ, ◌<◌, ◌≤◌, List, [], ◌∷◌, length, get_or, Option, Some, None, ap, subst, arith}
use Rattle.tlog_tiles.specs.declared.paths.Path.{Path}
use Rattle.tlog_shape.specs.Edge.{edge_index_of}
use Rattle.tlog_tiles.specs.declared.paths.Path.TheVariants.{Tile, Entries}
use Rattle.mirror_sources.specs.Files.{full_of}
use Rattle.mirror_sources.specs.Honest.{true_bytes}
use Rattle.mirror_sources.specs.Source.{StaysWithin}
use Rattle.copy_places.specs.Answered.{AnsweredFilesAreHad, AreAnswered, IsPartAnswer, MustGive, MustGivePart}
use Rattle.copy_places.specs.EndTiles.{IsKeptAnswer, said}
use Rattle.copy_places.specs.Nobodys.{AreGiven, BeginsTrue, GivesTrue, GivesTruePart, IsGiven, IsRowGiven, IsTrueOfPart}
use Rattle.copy_places.specs.PlaceGets.{AddsAnswers, IsSaidBy}
use Rattle.copy_places.specs.Requests.{AsksAny}
use Rattle.copy_places.specs.declared.end_tiles.EndTile.{EndTile}
use Rattle.copy_places.specs.declared.place.Place.{Place}
use Rattle.copy_places.specs.declared.places.Places.{Places}
use Rattle.copy_places.proofs.GivenFiles.{given_files_are_had}

module _ {S : Type 0} (may : S → Path → Option (List ℕ) → Type 0) (old new : Places S) (digest : List ℕ → List ℕ)
    (entries : List (List ℕ)) (ans : AreAnswered may old new) where
  some_place : (places : List (Place S)) (k : ℕ) → k < length places → Place S
  some_place [] k lt = absurd (omega (arith, lt))
  some_place (place ∷ places) k lt = place

  abbrev tiles : List EndTile
  tiles = new.ends.tiles.items

  module _ (k : ℕ) (d : Place S) where
    abbrev might : Path → Option (List ℕ) → Type 0
    might = may (get_or old.list.items k d).source

    full_said : (path : Path) → MustGive may old new digest entries k path → (s : Option (Option (List ℕ))) →
        IsSaidBy might (get_or new.list.items k d).failures path s → s ≡ Some (Some (true_bytes digest entries path))
    full_said path m None h = let sound = m.0 d in absurd (omega (arith, sound, h))
    full_said path m (Some answer) h = ap (λ (a : Option (List ℕ)). Some a) (m.1 d answer h)

    gives_true : (path : Path) → MustGive may old new digest entries k path → GivesTrue digest entries tiles k path
    gives_true path m answer kept = full_said path m (said answer) (ans.each k path answer d kept)

    begins_said : (path : Path) → MustGivePart may old new digest entries k path → IsPartAnswer may old new digest entries k path None →
        (s : Option (Option (List ℕ))) → IsSaidBy might (get_or new.list.items k d).failures (full_of path) s →
        BeginsTrue digest entries tiles path s
    begins_said path m full None h = let sound = m.0 d in absurd (omega (arith, sound, h))
    begins_said path m full (Some None) h = full d None h
    begins_said path m full (Some (Some bytes)) h = full d (Some bytes) h

    part_said : (path : Path) → MustGivePart may old new digest entries k path → (s : Option (Option (List ℕ))) →
        IsSaidBy might (get_or new.list.items k d).failures path s → IsTrueOfPart digest entries tiles k path s
    part_said path m None h = let sound = m.0 d in absurd (omega (arith, sound, h))
    part_said path m (Some None) h =
        λ answer kept. begins_said path m (m.1 d None h) (said answer) (ans.each k (full_of path) answer d kept)
    part_said path m (Some (Some bytes)) h = m.1 d (Some bytes) h

    part_true : (path : Path) → MustGivePart may old new digest entries k path → GivesTruePart digest entries tiles k path
    part_true path m answer kept = part_said path m (said answer) (ans.each k path answer d kept)

  abbrev count : ℕ
  count = length old.list.items

  one_given : (path : Path) → IsGiven entries (MustGive may old new digest entries) (MustGivePart may old new digest entries) count path →
      IsGiven entries (GivesTrue digest entries tiles) (GivesTruePart digest entries tiles) count path
  one_given path h = record {
    place = h.place;
    listed = h.listed;
    gives = gives_true h.place (some_place old.list.items h.place h.listed) path h.gives;
  }

  row_given : (level index : ℕ) →
      IsRowGiven entries (MustGive may old new digest entries) (MustGivePart may old new digest entries) count level index →
      IsRowGiven entries (GivesTrue digest entries tiles) (GivesTruePart digest entries tiles) count level index
  row_given level index (inl tile) = inl (one_given (Tile level index 256) tile)
  row_given level index (inr bundle) = inr (bundle.0, one_given (Entries index 256) bundle.1)

  pub answered_given : (first : ℕ) →
      AreGiven entries (MustGive may old new digest entries) (MustGivePart may old new digest entries) count first →
      AreGiven entries (GivesTrue digest entries tiles) (GivesTruePart digest entries tiles) count first
  answered_given first g =
      let e = g.edge in
      record {
        edge = record {
          one = e.one;
          other = e.other;
          one_listed = e.one_listed;
          other_listed = e.other_listed;
          each = λ level low some. elim (e.each level low some) [
            | inl one ↦ inl (part_true e.one (some_place old.list.items e.one e.one_listed) _ one)
            | inr other ↦ inr (part_true e.other (some_place old.list.items e.other e.other_listed) _ other)
          ];
        };
        rows = λ level wanted. row_given level (edge_index_of first level) (g.rows level wanted);
      }

pub answered_files_are_had : {S : Type 0} → (may : S → Path → Option (List ℕ) → Type 0) → AnsweredFilesAreHad may
answered_files_are_had may digest hash old new ans puts first large small why entries short point clear given =
    given_files_are_had digest hash puts new.ends.tiles.items (length old.list.items) first large small why entries short point clear
    (answered_given may old new digest entries ans first given)

-- ---- the answers of a call

-- what a place might give later it might have given before
said_before : (old new : Path → Option (List ℕ) → Type 0) (m n : ℕ) (path : Path) (s : Option (Option (List ℕ))) →
    StaysWithin old new → m ≤ n → IsSaidBy new m path s → IsSaidBy old n path s
said_before old new m n path None later le h = omega (arith, le, h)
said_before old new m n path (Some answer) later le h = later.stays path answer h

pub answered_none : {S : Type 0} (may : S → Path → Option (List ℕ) → Type 0) (x y : Places S) → y.ends.tiles.items ≡ [] →
    AreAnswered may x y
answered_none may x y none = record {
  each = λ k path answer d kept.
      let h : IsKeptAnswer [] k path answer = subst (λ (ts : List EndTile). IsKeptAnswer ts k path answer) none kept in
      let lt : h.at < 0 = h.tile.listed in absurd (omega (arith, lt));
}

-- a call that begins without answers
pub answered_begun : {S : Type 0} (may : S → Path → Option (List ℕ) → Type 0) (x y z : Places S) →
    y.list.items ≡ x.list.items → y.ends.tiles.items ≡ [] → AddsAnswers may y z → AreAnswered may x z
answered_begun {S} may x y z list none adds = record {
  each = λ k path answer d kept. elim (adds.each k path answer d kept) [
    | inl before ↦
        let h : IsKeptAnswer [] k path answer = subst (λ (ts : List EndTile). IsKeptAnswer ts k path answer) none before in
        let lt : h.at < 0 = h.tile.listed in absurd (omega (arith, lt))
    | inr now ↦
        subst (λ (xs : List (Place S)). IsSaidBy (may (get_or xs k d).source) (get_or z.list.items k d).failures path (said answer)) list now
  ];
}

module _ {S : Type 0} (may : S → Path → Option (List ℕ) → Type 0) (failed : S → ℕ) (asked : S → Option (List Path)) where
  -- a longer call
  pub answered_before : (w x y : Places S) → AsksAny may failed asked w x → AreAnswered may x y → AreAnswered may w y
  answered_before w x y p h = record {
    each = λ k path answer d kept.
        let n = (get_or y.list.items k d).failures in
        said_before (may (get_or w.list.items k d).source) (may (get_or x.list.items k d).source) n n path (said answer)
        (p.each k d).later (omega arith) (h.each k path answer d kept);
  }

  -- a call goes on
  pub answered_then : (w x y : Places S) → AsksAny may failed asked w x → AsksAny may failed asked x y → AreAnswered may w x →
      AddsAnswers may x y → AreAnswered may w y
  answered_then w x y p q h adds = record {
    each = λ k path answer d kept.
        let W = may (get_or w.list.items k d).source in
        let X = may (get_or x.list.items k d).source in
        let m = (get_or x.list.items k d).failures in
        let n = (get_or y.list.items k d).failures in
        elim (adds.each k path answer d kept) [
          | inl before ↦
              said_before W W m n path (said answer) (record { stays = λ path answer h. h }) (q.each k d).more
              (h.each k path answer d before)
          | inr now ↦ said_before W X n n path (said answer) (p.each k d).later (omega arith) now
        ];
  }

-- ---- what places have

-- the files are there too by what is said less strictly
pub given_weaker : (entries : List (List ℕ)) (whole part whole' part' : ℕ → Path → Type 0) →
    ((k : ℕ) (path : Path) → whole k path → whole' k path) → ((k : ℕ) (path : Path) → part k path → part' k path) →
    (count first : ℕ) → AreGiven entries whole part count first → AreGiven entries whole' part' count first
given_weaker entries whole part whole' part' f h count first g =
    let e = g.edge in
    record {
      edge = record {
        one = e.one;
        other = e.other;
        one_listed = e.one_listed;
        other_listed = e.other_listed;
        each = λ level low some. elim (e.each level low some) [
          | inl one ↦ inl (h e.one _ one)
          | inr other ↦ inr (h e.other _ other)
        ];
      };
      rows = λ level wanted. row level (edge_index_of first level) (g.rows level wanted);
    }
  where
    file : (path : Path) → IsGiven entries whole part count path → IsGiven entries whole' part' count path
    file path is = record { place = is.place; listed = is.listed; gives = f is.place path is.gives }

    row : (level index : ℕ) → IsRowGiven entries whole part count level index → IsRowGiven entries whole' part' count level index
    row level index (inl tile) = inl (file (Tile level index 256) tile)
    row level index (inr bundle) = inr (bundle.0, file (Entries index 256) bundle.1)
