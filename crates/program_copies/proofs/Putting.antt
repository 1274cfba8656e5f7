-- Files of evidence that are put one after another.
use Rattle.std.proofs.Common.{◌≡◌, inl, ℕ, ◌+◌, ◌<◌, List, [], ◌∷◌, ◌++◌, length, take, drop, get_or, Option, Some, None, Result, Ok, Err, Bool, true, false, refl, sym, ap, subst, ◌∙◌}
use Rattle.std.specs.List.{flat_map}
use Rattle.std.proofs.lemmas.List.{append_assoc, flat_map_more, take_more, take-append-drop}
use Rattle.std.proofs.lemmas.List.Concat.{flat_map-append}
use Rattle.signed_note.specs.Keys.{Key}
use Rattle.std.specs.Prelude.{◌↔◌, IsTrue}
use Rattle.std.proofs.lemmas.Bool.{false≢true}
use Rattle.program_io.specs.Named.{HasContents, NamedFile, RecordsFolder}
use Rattle.program_io.specs.declared.file_fault.NamedFault.{NamedFault}
use Rattle.program_io.specs.declared.file_fault.NamedFault.TheVariants as named
use Rattle.program_copies.specs.Evidence.{EvidenceFile, LooksFor, PutsEach, PutsFiles, PutsFront, RecordsEach, Serves, StopsAt}

-- ---- the reason of an early end

stops_more : (old new : Option (List NamedFile)) (rest ys : List EvidenceFile) (fault : NamedFault) → StopsAt old new rest fault →
    StopsAt old new (rest ++ ys) fault
stops_more None new rest ys fault stops = tt
stops_more (Some old) new rest ys named.OutOfMemory stops = tt
stops_more (Some old) new [] ys named.FileFault stops = absurd stops
stops_more (Some old) new (file ∷ rest) ys named.FileFault stops = stops

module _ (origin : List ℕ) (keys : List Key) where
  stops_before : (xs : List EvidenceFile) (old between new : Option (List NamedFile)) (rest : List EvidenceFile)
      (fault : NamedFault) → RecordsEach origin keys xs old between → StopsAt between new rest fault →
      StopsAt old new rest fault
  stops_before xs None between new rest fault first stops = tt
  stops_before xs (Some old) None new rest fault first stops = absurd first
  stops_before xs (Some old) (Some between) new rest named.OutOfMemory first stops = tt
  stops_before xs (Some old) (Some between) new [] named.FileFault first stops = stops
  stops_before xs (Some old) (Some between) new (file ∷ rest) named.FileFault first stops = stops

  -- ---- the first files

  each_both : (xs ys : List EvidenceFile) (old between new : List NamedFile) → PutsEach origin keys xs old between →
      PutsEach origin keys ys between new → PutsEach origin keys (xs ++ ys) old new
  each_both [] ys old between new first second = subst (λ puts. PutsEach origin keys ys puts new) first second
  each_both (x ∷ xs) ys old between new first second =
      (first.0, first.1, each_both xs ys first.0 between new first.2 second)

  pub recorded_both : (xs ys : List EvidenceFile) (old between new : Option (List NamedFile)) →
      RecordsEach origin keys xs old between → RecordsEach origin keys ys between new →
      RecordsEach origin keys (xs ++ ys) old new
  recorded_both xs ys None between new first second = tt
  recorded_both xs ys (Some old) None new first second = absurd first
  recorded_both xs ys (Some old) (Some between) None first second = absurd second
  recorded_both xs ys (Some old) (Some between) (Some new) first second = each_both xs ys old between new first second

  pub front_both : (xs ys : List EvidenceFile) (old between new : Option (List NamedFile)) (fault : NamedFault) →
      RecordsEach origin keys xs old between → PutsFront origin keys ys between new fault →
      PutsFront origin keys (xs ++ ys) old new fault
  front_both xs ys old between new fault first second = record {
    front = xs ++ second.front;
    rest = second.rest;
    files_are = ap (λ files. xs ++ files) second.files_are ∙ sym (append_assoc xs second.front second.rest);
    recorded = recorded_both xs second.front old between new first second.recorded;
    stops = stops_before xs old between new second.rest fault first second.stops;
  }

  -- a call that ended early, after calls that did not
  pub front_more : (xs ys : List EvidenceFile) (old new : Option (List NamedFile)) (fault : NamedFault) →
      PutsFront origin keys xs old new fault → PutsFront origin keys (xs ++ ys) old new fault
  front_more xs ys old new fault first = record {
    front = first.front;
    rest = first.rest ++ ys;
    files_are = ap (λ files. files ++ ys) first.files_are ∙ append_assoc first.front first.rest ys;
    recorded = first.recorded;
    stops = stops_more old new first.rest ys fault first.stops;
  }

  -- the last of several calls
  pub files_then : {T : Type 0} (xs ys : List EvidenceFile) (old between new : Option (List NamedFile))
      (r : Result T NamedFault) → RecordsEach origin keys xs old between → PutsFiles origin keys ys between new r →
      PutsFiles origin keys (xs ++ ys) old new r
  files_then xs ys old between new (Ok x) first second = recorded_both xs ys old between new first second
  files_then xs ys old between new (Err fault) first second = front_both xs ys old between new fault first second

  -- ---- one file

  -- a file of that name was found, and it was looked at
  pub looked : (recorded : Option (List NamedFile)) (wanted : EvidenceFile) (bytes : List ℕ) (t : Bool) →
      HasContents recorded wanted.file.0 bytes → IsTrue t ↔ Serves origin keys wanted bytes →
      LooksFor origin keys recorded wanted (Ok t)
  looked None wanted bytes t has serves = tt
  looked (Some puts) wanted bytes true has serves = record { bytes = bytes; stands = has; serves = serves.0 refl }
  looked (Some puts) wanted bytes false has serves = λ other stands is.
      let some : Some other ≡ Some bytes = sym stands ∙ has in
      let same : other ≡ bytes = cc some in
      false≢true (serves.1 (subst (λ (b : List ℕ). Serves origin keys wanted b) same is))

  -- a file that serves was flushed
  pub one_kept : {T : Type 0} (wanted : EvidenceFile) (old : Option (List NamedFile)) (r : Result T NamedFault) →
      LooksFor origin keys old wanted (Ok true) → RecordsFolder old r → PutsFiles origin keys (wanted ∷ []) old old r
  one_kept wanted None (Ok x) served flushed = tt
  one_kept wanted (Some puts) (Ok x) served flushed = (puts, inl (served, refl), refl)
  one_kept wanted None (Err fault) served flushed =
      record { front = []; rest = wanted ∷ []; files_are = refl; recorded = tt; stops = tt }
  one_kept wanted (Some puts) (Err named.OutOfMemory) served flushed =
      record { front = []; rest = wanted ∷ []; files_are = refl; recorded = refl; stops = tt }
  one_kept wanted (Some puts) (Err named.FileFault) served flushed = absurd cc

-- ---- the files of each fork in order

module _ (origin : List ℕ) (keys : List Key) {X : Type 0} (files_of : X → List EvidenceFile) (xs : List X) (i : ℕ) (x : X)
    (within : i < length xs) (at : x ≡ get_or xs i x) where
  more : flat_map files_of (take (i + 1) xs) ≡ flat_map files_of (take i xs) ++ files_of x
  more =
      ap (flat_map files_of) (take_more xs i x within ∙ ap (λ y. take i xs ++ y ∷ []) (sym at))
      ∙ sym (flat_map_more files_of [] (take i xs) x)

  parts : flat_map files_of xs
      ≡ (flat_map files_of (take i xs) ++ files_of x) ++ flat_map files_of (drop (i + 1) xs)
  parts =
      ap (flat_map files_of) (sym (take-append-drop (i + 1) xs))
      ∙ (flat_map-append files_of (take (i + 1) xs) (drop (i + 1) xs)
      ∙ ap (λ files. files ++ flat_map files_of (drop (i + 1) xs)) more)

  pub each_more : (old between new : Option (List NamedFile)) →
      RecordsEach origin keys (flat_map files_of (take i xs)) old between →
      RecordsEach origin keys (files_of x) between new →
      RecordsEach origin keys (flat_map files_of (take (i + 1) xs)) old new
  each_more old between new each one =
      subst (λ files. RecordsEach origin keys files old new) (sym more)
      (recorded_both origin keys (flat_map files_of (take i xs)) (files_of x) old between new each one)

  pub front_here : (old between new : Option (List NamedFile)) (fault : NamedFault) →
      RecordsEach origin keys (flat_map files_of (take i xs)) old between →
      PutsFront origin keys (files_of x) between new fault →
      PutsFront origin keys (flat_map files_of xs) old new fault
  front_here old between new fault each one =
      subst (λ files. PutsFront origin keys files old new fault) (sym parts)
      (front_more origin keys (flat_map files_of (take i xs) ++ files_of x) (flat_map files_of (drop (i + 1) xs)) old new fault
      (front_both origin keys (flat_map files_of (take i xs)) (files_of x) old between new fault each one))
