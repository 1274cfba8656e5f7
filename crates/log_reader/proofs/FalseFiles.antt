-- The faults of a read name false files.
use Rattle.std.proofs.Common.{◌≡◌, ◌≢◌, ◌⊎◌, ℕ, ◌+◌, ◌-◌, ◌*◌, ◌/◌, ◌%◌, ◌^◌, ◌<◌, ◌≤◌, List, [], ◌∷◌, length, get_or}
use Rattle.std.proofs.Common.{Option, Some, None, Result, Ok, Err, IfOk, IfErr, IfNone, IsErr, IsErrAnd, inl, inr, refl, sym, ap, subst, arith}
use Rattle.std.proofs.Math.Nat.{div-mul-le_self}
use Rattle.std.proofs.lemmas.Bool.{cases_lt}
use Rattle.std.proofs.lemmas.Nat.{le-div}
use Rattle.std.proofs.lemmas.Result.{IfErr-weaker}
use Rattle.std.specs.Option.{ok_or}
use Rattle.tlog_shape.specs.Edge.{edge_index_of, width_of}
use Rattle.tlog_shape.proofs.Levels.{level_positive}
use Rattle.tlog_tiles.specs.declared.paths.Path.{Path}
use Rattle.tlog_tiles.specs.declared.paths.Path.TheVariants.{Checkpoint, Tile, Entries}
use Rattle.tlog_tiles.proofs.EdgeLemmas.{hashes_of}
use Rattle.mirror_sources.specs.Source.{StaysWithin}
use Rattle.log_reader.specs.EdgeRows.{Edge, row_at}
use Rattle.log_reader.specs.FalseFiles.{IsFalseEnd, IsFalseFile, IsFalseFull, IsFalseUnder, NamesFalse, NamesFalseIfFile, NamesFull}
use Rattle.log_reader.specs.Faults.{IsFailure, NamesFile, found_in}
use Rattle.log_reader.specs.Holding.{row_width}
use Rattle.log_reader.specs.Verified.{HasLeaves}
use Rattle.log_reader.specs.Ways.{HasEdgeHashes, IsShownRow, IsWay, row_of_way}
use Rattle.log_reader.specs.declared.fault.ReadFault.{ReadFault}
use Rattle.log_reader.specs.declared.fault.ReadFault.TheVariants.{NoFile, FalseFile, Collision, Source, OutOfMemory}
use Rattle.log_reader.specs.declared.verify.FullFile.{FullFile}
use Rattle.log_reader.specs.declared.verify.FullFile.TheVariants as full
use Rattle.log_reader.proofs.Exits.{names_more}
use Rattle.log_reader.proofs.Parts.{false_at_given}

-- ---- exits

module _ {T : Type 0} (P : ReadFault → Type 0) where
  pub names_exit : (result : Result T ReadFault) (fault : ReadFault) → IsErr result × IsErrAnd result (λ f. f ≡ fault) →
      P fault → IfErr result P
  names_exit (Ok x) fault is h = tt
  names_exit (Err f) fault is h = subst P (sym is.1) h

  pub names_found : {E : Type 0} (found : Result (Option T) E) (path : Path) (result : Result T ReadFault) →
      result ≡ found_in found path → (N : Type 0) → IfOk found (λ o. IfNone o N) → (N → P (FalseFile path)) → P OutOfMemory →
      IfErr result P
  names_found (Ok (Some x)) path result is N none wrong memory = subst (λ r. IfErr r P) (sym is) tt
  names_found (Ok None) path result is N none wrong memory = subst (λ r. IfErr r P) (sym is) (wrong none)
  names_found (Err e) path result is N none wrong memory = subst (λ r. IfErr r P) (sym is) memory

  pub names_lacking : {lacking : Path} (result : Result T ReadFault) (fault : ReadFault) (Gone : Type 0) →
      IsErr result × IsErrAnd result (λ f. f ≡ fault) → IsFailure fault ⊎ ((fault ≡ NoFile lacking) × Gone) →
      ((f : ReadFault) → IsFailure f → P f) → (Gone → P (NoFile lacking)) → IfErr result P
  names_lacking result fault Gone is (inl h) failure gone = names_exit result fault is (failure fault h)
  names_lacking result fault Gone is (inr h) failure gone = names_exit result fault is (subst P (sym h.0) (gone h.1))

  pub names_or : (found : Option T) (fault : ReadFault) (result : Result T ReadFault) → result ≡ ok_or found fault → P fault →
      IfErr result P
  names_or (Some x) fault result is h = subst (λ r. IfErr r P) (sym is) tt
  names_or None fault result is h = subst (λ r. IfErr r P) (sym is) h

  pub names_checked : (Held : Type 0) (result : Result T ReadFault) → IfErr result (λ fault. (fault ≡ Collision) × Held) →
      P Collision → IfErr result P
  names_checked Held result err h = IfErr-weaker result _ P (λ fault is. subst P (sym is.0) h) err

-- ---- the rows above

module _ (digest : List ℕ → List ℕ) (edge : Edge) (hashes : HasEdgeHashes edge) where
  way_long : (level index : ℕ) (way : List (List (List ℕ))) → IsWay digest edge level index way → (j : ℕ) → j < 256 →
      256 * index + j < edge.size / 256 ^ level → j < length (row_of_way edge level way)
  way_long level index [] w j less before =
      let whole = hashes_of edge.size level in
      omega (arith, w.1, whole, (hashes level w.0).count, before)
  way_long level index (row ∷ above) w j less before = omega (arith, w.0.hashes.count, less)

  -- a shown row has the hash of each block of entries that the tree has
  pub shown_long : (level index : ℕ) (row : List (List ℕ)) → IsShownRow digest edge level index row → (j : ℕ) → j < 256 →
      256 * index + j < edge.size / 256 ^ level → j < length row
  shown_long level index row shown j less before =
      let long = way_long level index shown.way shown.is_way j less before in
      omega (arith, long, ap length shown.row_is)

  pub shown_below : (level index : ℕ) (row : List (List ℕ)) → IsShownRow digest edge (level + 1) (index / 256) row →
      index < edge_index_of edge.size level → index % 256 < length row
  shown_below level index row shown full =
      shown_long (level + 1) (index / 256) row shown (index % 256) (omega arith) (omega (arith, full))

  pub shown_leaf : (index : ℕ) (row : List (List ℕ)) → IsShownRow digest edge 0 (index / 256) row → index < edge.size →
      index % 256 < length row
  shown_leaf index row shown before =
      shown_long 0 (index / 256) row shown (index % 256) (omega arith) (omega (arith, before))

  pub shown_wide : (level index : ℕ) (row : List (List ℕ)) → IsShownRow digest edge level index row →
      row_width edge.size level index ≤ length row
  shown_wide level index row shown = elim (cases_lt 0 (row_width edge.size level index)) [
    | inl some ↦
        let j = row_width edge.size level index - 1 in
        let last = shown_long level index row shown j (omega (arith, some)) (omega (arith, some)) in
        omega (arith, some, last)
    | inr none ↦ omega (arith, none)
  ]

-- a tree has the hashes of the edge of its first entries
pub wide_in : (n size level : ℕ) → size ≤ n → width_of size level ≤ row_width n level (edge_index_of size level)
wide_in n size level within =
    let c = 256 ^ level in
    let fewer : size / c ≤ n / c =
    le-div (size / c) n c (level_positive level) (omega (arith, div-mul-le_self size c, within)) in
    let whole = hashes_of size level in
    omega (arith, fewer, whole)

-- ---- full files

module _ (digest : List ℕ → List ℕ) (may : Path → Option (List ℕ) → Type 0) where
  pub full_fails : (kind : FullFile) (hash : List ℕ) (path : Path) (f : ReadFault) → IsFailure f →
      NamesFull digest may kind hash path f
  full_fails kind hash path f h =
      names_more (λ named. ⊥) (λ named. (named ≡ path) × IsFalseFull digest may kind hash path) (λ named h. absurd h) f h

  module _ (edge : Edge) (level index : ℕ) (above : List (List ℕ)) (shown : IsShownRow digest edge (level + 1) (index / 256) above)
      (within : index % 256 < length above) (hash : List ℕ) (at : hash ≡ get_or above (index % 256) []) where
    under : (kind : FullFile) (path : Path) → IsFalseFull digest may kind hash path →
        IsFalseUnder digest may edge kind level index path
    under kind path f = record {
      above = above;
      shown = shown;
      within = within;
      wrong = subst (λ h. IsFalseFull digest may kind h path) at f;
    }

    pub tile_named : (fault : ReadFault) → NamesFull digest may full.Tile hash (Tile level index 256) fault →
        NamesFalse digest may edge fault
    tile_named fault h =
        names_more (λ named. (named ≡ Tile level index 256) × IsFalseFull digest may full.Tile hash (Tile level index 256))
        (IsFalseFile digest may edge)
        (λ named h. subst (IsFalseFile digest may edge) (sym h.0) (refl, under full.Tile (Tile level index 256) h.1)) fault h

  module _ (edge : Edge) (index : ℕ) (above : List (List ℕ)) (shown : IsShownRow digest edge 1 (index / 256) above)
      (within : index % 256 < length above) (hash : List ℕ) (at : hash ≡ get_or above (index % 256) []) where
    pub bundle_named : (fault : ReadFault) → NamesFull digest may full.Bundle hash (Entries index 256) fault →
        NamesFalse digest may edge fault
    bundle_named fault h =
        names_more (λ named. (named ≡ Entries index 256) × IsFalseFull digest may full.Bundle hash (Entries index 256))
        (IsFalseFile digest may edge)
        (λ named h. subst (IsFalseFile digest may edge) (sym h.0)
        (inl (refl, under edge 0 index above shown within hash at full.Bundle (Entries index 256) h.1))) fault h

  -- ---- the bundle at the end

  module _ (edge : Edge) (row : List (List ℕ)) (index : ℕ) (at : index ≡ edge_index_of edge.size 0) (is : row ≡ row_at edge 0)
    where
      end_at : (named : Path) (width : ℕ) → named ≡ Entries index width → IsFalseEnd digest may row index named →
          IsFalseFile digest may edge named
      end_at named width same h =
          subst (IsFalseFile digest may edge) (sym same)
          (inr (
            at,
            subst (λ r. IsFalseEnd digest may r index (Entries index width)) is
                (subst (IsFalseEnd digest may row index) same h),
          ))

      end_file : (named : Path) → IsFalseEnd digest may row index named → IsFalseFile digest may edge named
      end_file named (inl (none, (None, given, same))) = end_at named (length row) same (inl (none, (None, given, same)))
      end_file named (inl (none, (Some file, given, (same, cut)))) =
          end_at named 256 same (inl (none, (Some file, given, (same, cut))))
      end_file named (inr (same, bytes, given, other)) = end_at named (length row) same (inr (same, bytes, given, other))

      pub end_named : (fault : ReadFault) → NamesFile (IsFalseEnd digest may row index) fault → NamesFalse digest may edge fault
      end_named fault h = names_more (IsFalseEnd digest may row index) (IsFalseFile digest may edge) end_file fault h

-- ---- another source, with these answers

pub not_zero : (level index width : ℕ) → 0 < width → Tile level index width ≢ Tile 0 0 0
not_zero level index width some e = let none : width ≡ 0 = cc e in omega (arith, some, none)

pub not_empty : (level index width : ℕ) → width ≡ 256 → Tile level index width ≢ Tile 0 0 0
not_empty level index width wide e = not_zero level index width (omega (arith, wide)) e

not_tile : (index width : ℕ) → Entries index width ≢ Tile 0 0 0
not_tile index width e = absurd (cc e)

module _ (digest : List ℕ → List ℕ) (old new : Path → Option (List ℕ) → Type 0)
    (gives : (path : Path) → path ≢ Tile 0 0 0 → (answer : Option (List ℕ)) → new path answer → old path answer) where
  full_given : (kind : FullFile) (hash : List ℕ) (path : Path) → path ≢ Tile 0 0 0 → IsFalseFull digest new kind hash path →
      IsFalseFull digest old kind hash path
  full_given kind hash path some f = record {
    answer = f.answer;
    given = gives path some f.answer f.given;
    wrong = f.wrong;
  }

  under_given : (edge : Edge) (kind : FullFile) (level index : ℕ) (path : Path) → path ≢ Tile 0 0 0 →
      IsFalseUnder digest new edge kind level index path → IsFalseUnder digest old edge kind level index path
  under_given edge kind level index path some f = record {
    above = f.above;
    shown = f.shown;
    within = f.within;
    wrong = full_given kind (get_or f.above (index % 256) []) path some f.wrong;
  }

  pub false_given : (edge : Edge) (path : Path) → IsFalseFile digest new edge path → IsFalseFile digest old edge path
  false_given edge Checkpoint f = absurd f
  false_given edge (Tile level index width) f = (
    f.0,
    under_given edge full.Tile level index (Tile level index width) (not_empty level index width f.0) f.1,
  )
  false_given edge (Entries index width) (inl f) =
      inl (f.0, under_given edge full.Bundle 0 index (Entries index width) (not_tile index width) f.1)
  false_given edge (Entries index width) (inr f) =
      let path = Entries index (length (row_at edge 0)) in
      inr (
        f.0,
        false_at_given old new gives path (not_tile index (length (row_at edge 0))) (not_tile index 256)
            (λ bytes. HasLeaves digest (length (row_at edge 0)) bytes (row_at edge 0)) (Entries index width) f.1,
      )

  names_given : (edge : Edge) (fault : ReadFault) → NamesFalse digest new edge fault → NamesFalse digest old edge fault
  names_given edge fault h =
      names_more (IsFalseFile digest new edge) (IsFalseFile digest old edge) (false_given edge) fault h

  files_given : (edge : Edge) (fault : ReadFault) → NamesFalseIfFile digest new edge fault →
      NamesFalseIfFile digest old edge fault
  files_given edge (NoFile path) h = false_given edge path h
  files_given edge (FalseFile path) h = false_given edge path h
  files_given edge Collision h = tt
  files_given edge Source h = tt
  files_given edge OutOfMemory h = tt

-- ---- an earlier state of the source, and the same edge

module _ (digest : List ℕ → List ℕ) (old new : Path → Option (List ℕ) → Type 0) (stays : StaysWithin old new) (edge now : Edge)
    (same : now ≡ edge) where
  gives : (path : Path) → path ≢ Tile 0 0 0 → (answer : Option (List ℕ)) → new path answer → old path answer
  gives path some answer may = stays.stays path answer may

  pub names_before : (fault : ReadFault) → NamesFalse digest new now fault → NamesFalse digest old edge fault
  names_before fault h =
      names_given digest old new gives edge fault (subst (λ e. NamesFalse digest new e fault) same h)

  pub files_before : (fault : ReadFault) → NamesFalseIfFile digest new now fault → NamesFalseIfFile digest old edge fault
  files_before fault h =
      files_given digest old new gives edge fault (subst (λ e. NamesFalseIfFile digest new e fault) same h)

pub names_if : (digest : List ℕ → List ℕ) (may : Path → Option (List ℕ) → Type 0) (edge : Edge) (fault : ReadFault) →
    NamesFalse digest may edge fault → NamesFalseIfFile digest may edge fault
names_if digest may edge (NoFile path) h = h
names_if digest may edge (FalseFile path) h = h
names_if digest may edge Collision h = absurd h
names_if digest may edge Source h = tt
names_if digest may edge OutOfMemory h = tt
