-- The files that an update to a top puts, by the answers of its parts.
use Rattle.std.proofs.Common.{◌≡◌, ◌≢◌, ℕ, List, [], ◌∷◌, ◌++◌, map, Option, Some, None, Result, Ok, Err, refl, sym, ap}
use Rattle.std.proofs.Common.{subst, ◌∙◌, inl, inr}
use Rattle.std.specs.List.{All, filter}
use Rattle.std.proofs.lemmas.List.Elements.{All-contains, All-filter, All-map}
use Rattle.tlog_tiles.specs.declared.paths.Path.{Path}
use Rattle.tlog_tiles.specs.declared.paths.Path.TheVariants.{Checkpoint}
use Rattle.mirror_trees.specs.Tops.{Top}
use Rattle.mirror_sources.specs.Recorded.{AddsToRecord, KeepsRecord}
use Rattle.mirror_folders.specs.Shelf.{HasPut, Put, RecordsRead}
use Rattle.mirror_folders.specs.declared.shelf.ShelfError.{ShelfError}
use Rattle.mirror_folders.specs.declared.shelf.ShelfError.TheVariants as shelf
use Rattle.mirror_files.specs.Beginnings.{FindsSince, PutsLast, PutsPrefixTop, TopGoesOnFound, TopStandsOther, UpdatesTop}
use Rattle.mirror_files.specs.Exports.{AddsPrefix}
use Rattle.mirror_files.specs.Faults.{update_of_shelf}
use Rattle.mirror_folders.specs.Files.{file_at, kind_paths, tile_paths}
use Rattle.mirror_folders.specs.Since.{files_since, is_new, since_parts}
use Rattle.mirror_files.specs.declared.export_fault.UpdateFault.{UpdateFault}
use Rattle.mirror_files.specs.declared.export_fault.UpdateFault.TheVariants.{NothingComplete, OtherLog, ShelfFault, OutOfMemory}
use Rattle.mirror_folders.specs.declared.kind.FileKind.TheVariants.{Bundles}
use Rattle.mirror_folders.proofs.FoundOnce.{read_more, read_once}
use Rattle.mirror_files.proofs.Moments.{front_files}
use Rattle.mirror_files.proofs.Prefixes.{adds_kept, adds_then, file_refused, files_front, files_more, files_then, front_then}

module _ (digest : List ℕ → List ℕ) (top : Top) (origin : List ℕ) (entries : List (List ℕ)) where
  abbrev Puts : (T : Type 0) → Option (List Put) → Option (List Put) → UpdateFault → Type 0
  Puts T old new fault = UpdatesTop digest {T = T} top origin entries old new (Err fault)

  -- the checkpoint could not be read
  pub not_read : (T : Type 0) (old new : Option (List Put)) (e : ShelfError) → KeepsRecord old new →
      Puts T old new (update_of_shelf e)
  not_read T old new shelf.Failed kept = inl kept
  not_read T old new shelf.OutOfMemory kept = inl kept

  stands_other : (old : Option (List Put)) (checkpoint : List ℕ) → RecordsRead old Checkpoint (Some checkpoint) →
      FindsSince digest top origin (Some checkpoint) (Err OtherLog) → TopStandsOther digest top origin old
  stands_other None checkpoint read h = tt
  stands_other (Some puts) checkpoint read h = (checkpoint, read, h)

  -- the bytes that were found are no checkpoint of the log
  pub no_since : (T : Type 0) (old new : Option (List Put)) (found : Option (List ℕ)) (fault : UpdateFault) →
      KeepsRecord old new → RecordsRead old Checkpoint found → FindsSince digest top origin found (Err fault) →
      Puts T old new fault
  no_since T old new None fault kept read h = absurd h
  no_since T old new (Some checkpoint) NothingComplete kept read h = absurd h
  no_since T old new (Some checkpoint) OtherLog kept read h = (kept, stands_other old checkpoint read h)
  no_since T old new (Some checkpoint) ShelfFault kept read h = absurd h
  no_since T old new (Some checkpoint) OutOfMemory kept read h = inl kept

  module _ (found : Option (List ℕ)) (m : ℕ) (on : TopGoesOnFound digest top origin found m) where
    abbrev file : Path → Put
    file = file_at digest top.note entries

    abbrev parts : List Path
    parts = tile_paths top.size ++ kind_paths top.size Bundles

    abbrev front : List Put
    front = map file (filter (is_new m) parts)

    first_put : (old new : Option (List Put)) → RecordsRead old Checkpoint found →
        AddsPrefix old new (files_since digest top.note entries m top.size) →
        PutsPrefixTop digest top origin entries old new
    first_put old new read p = record { found = found; read = read; m = m; goes_on = on; front = p }

    -- some tiles or bundles were not put
    pub cut_off : (T : Type 0) (old middle new : Option (List Put)) (e : ShelfError) → KeepsRecord old middle →
        RecordsRead old Checkpoint found →
        AddsPrefix middle new (map (file_at digest top.note entries) (since_parts m top.size)) →
        Puts T old new (update_of_shelf e)
    cut_off T old middle new shelf.Failed kept read p =
        inr (first_put old new read (files_more file (is_new m) old new parts (Checkpoint ∷ [])
        (front_then old middle new [] front (adds_kept old middle kept) p)))
    cut_off T old middle new shelf.OutOfMemory kept read p =
        inr (first_put old new read (files_more file (is_new m) old new parts (Checkpoint ∷ [])
        (front_then old middle new [] front (adds_kept old middle kept) p)))

    no_checkpoint : HasPut front Checkpoint → ⊥
    no_checkpoint h =
        let no : All (λ (put : Put). put.0 ≢ Checkpoint) front =
        All-map (λ (put : Put). put.0 ≢ Checkpoint) file (filter (is_new m) parts)
        (All-filter (is_new m) (λ (path : Path). path ≢ Checkpoint) parts (front_files top.size)) in
        All-contains (λ (path : Path). path ≢ Checkpoint) (map (λ (put : Put). put.0) front) Checkpoint
        (All-map (λ (path : Path). path ≢ Checkpoint) (λ (put : Put). put.0) front no) h refl

    -- a shelf that records its puts still has the checkpoint that was found
    found_still : (old middle put : Option (List Put)) → KeepsRecord old middle → RecordsRead old Checkpoint found →
        AddsToRecord middle put front → (again : Option (List ℕ)) → RecordsRead put Checkpoint again → again ≢ found →
        (new : Option (List Put)) → KeepsRecord put new → KeepsRecord old new × TopStandsOther digest top origin old
    found_still None middle put kept read p again other differs new last = (tt, tt)
    found_still (Some xs) None put kept read p again other differs new last = absurd kept
    found_still (Some xs) (Some ys) None kept read p again other differs new last = absurd p
    found_still (Some xs) (Some ys) (Some zs) kept read p again other differs new last =
        let are : zs ≡ xs ++ front = p ∙ ap (λ (l : List Put). l ++ front) kept in
        let still = subst (λ (l : List Put). RecordsRead (Some l) Checkpoint found) (sym are)
        (read_more xs Checkpoint front found no_checkpoint read) in
        absurd (differs (read_once zs Checkpoint again found other still))

    -- the tiles and bundles were put, and the checkpoint was put or not
    pub last_put : {T : Type 0} (old middle put new : Option (List Put)) (r : Result T UpdateFault) →
        KeepsRecord old middle → RecordsRead old Checkpoint found → found ≢ Some top.note →
        AddsToRecord middle put (map (file_at digest top.note entries) (since_parts m top.size)) →
        PutsLast put new found top.note r → UpdatesTop digest top origin entries old new r
    last_put old middle put new (Ok x) kept read other p q = record {
      found = found;
      read = read;
      m = m;
      goes_on = on;
      recorded = inl (
        other,
        files_then file (is_new m) old put new parts (Checkpoint ∷ [])
            (adds_then old middle put [] front (adds_kept old middle kept) p) q.1,
      );
    }
    last_put old middle put new (Err NothingComplete) kept read other p q = absurd q
    last_put old middle put new (Err OtherLog) kept read other p q =
        found_still old middle put kept read p q.1 q.2 q.3 new q.0
    last_put old middle put new (Err ShelfFault) kept read other p q =
        inr (first_put old new read (files_front file (is_new m) old put new parts (Checkpoint ∷ [])
        (adds_then old middle put [] front (adds_kept old middle kept) p)
        (file_refused file put new Checkpoint q)))
    last_put old middle put new (Err OutOfMemory) kept read other p q =
        inr (first_put old new read (files_front file (is_new m) old put new parts (Checkpoint ∷ [])
        (adds_then old middle put [] front (adds_kept old middle kept) p)
        (file_refused file put new Checkpoint q)))
