-- A copy whose note was replaced by another one of its size and root.
use Rattle.std.proofs.Common.{◌≡◌, ◌≢◌, ◌⊎◌, inl, inr, ℕ, ◌<◌, List, [], ◌∷◌, ◌++◌, length, Option, Some, None, refl, sym, subst, ◌∙◌, ap, arith, length-append}
use Rattle.std.specs.List.{Contains}
use Rattle.std.proofs.lemmas.Bool.{cases_lt}
use Rattle.std.proofs.lemmas.List.{append-nil, nil_from_length}
use Rattle.std.proofs.lemmas.List.Elements.{All-cons, All-contains, All-nil}
use Rattle.std.specs.Prelude.{Ok}
use Rattle.tlog_hash.specs.Tree.{mth}
use Rattle.tlog_tiles.specs.declared.paths.Path.{Path}
use Rattle.tlog_tiles.specs.declared.paths.Path.TheVariants.{Checkpoint, Tile, Entries}
use Rattle.tlog_tiles.specs.Tiles.{IsWithin}
use Rattle.tlog_tiles.proofs.EdgeLemmas.{contains_one}
use Rattle.mirror_model.specs.Heads.{IsHead}
use Rattle.mirror_model.proofs.HeadNotes.{head_once}
use Rattle.mirror_sources.specs.Recorded.{AddsToRecord}
use Rattle.mirror_sources.specs.Files.{full_of}
use Rattle.mirror_sources.specs.Honest.{true_bytes}
use Rattle.mirror_folders.specs.Shelf.{Put, HasPut, Stands, RecordsRead}
use Rattle.mirror_folders.specs.Holding.{IsMoment}
use Rattle.mirror_folders.specs.Files.{paths_of, served_bytes}
use Rattle.mirror_folders.proofs.AllFiles.{files_are_all}
use Rattle.mirror_folders.proofs.Standing.{stands_more, has_after}
use Rattle.log_reader.specs.Holding.{IsTreeFile}
use Rattle.copy_follow.specs.Copies.{IsCopy}
use Rattle.copy_follow.specs.Moments.{AtEachMoment, InTheEnd, IsBroughtTo, IsGrownCopy, KeepsCopy, PutsBeyond}
use Rattle.copy_follow.specs.Pruned.{HasGivenWay, IsGrownPruned, IsPrunedCopy, LeavesPruned}
use Rattle.copy_follow.proofs.CopyMoments.{copy_files}
use Rattle.copy_follow.proofs.TipReads.{stands_one}
use Rattle.copy_follow.proofs.WholeMoments.{none_found}
use Rattle.copy_places.specs.Candidates.{note_of}
use Rattle.copy_places.specs.declared.candidate.Candidate.{Candidate}
use Rattle.copy_follow.specs.Edges.{IsNotePut}
use Rattle.copy_follow.specs.Runs.{KeepsUnder}
use Rattle.copy_follow.specs.RunStanding.{EachIsBrought, IsHeadOf}
use Rattle.copy_follow.proofs.Runs.{each_one}

-- at each moment of one put, nothing was put yet, or the put was made
moments_are : (held : List Put) (put : Put) (now : List Put) → IsMoment held (held ++ put ∷ []) now →
    (now ≡ held) ⊎ (held ++ put ∷ [] ≡ now)
moments_are held put now at = elim (cases_lt 0 (length at.so_far)) [
  | inl some ↦
      let none : length at.later ≡ 0 = omega (
        arith,
        some,
        ap length at.new_is,
        ap length at.now_is,
        length-append held (put ∷ []),
        length-append held at.so_far,
        length-append now at.later,
      ) in
      inr (at.new_is ∙ (ap (λ (l : List Put). now ++ l) (nil_from_length at.later none) ∙ append-nil now))
  | inr none ↦
      let empty : length at.so_far ≡ 0 = omega (arith, none) in
      inl (at.now_is ∙ (ap (λ (l : List Put). held ++ l) (nil_from_length at.so_far empty) ∙ append-nil held))
]

module _ (digest : List ℕ → List ℕ) (origin note : List ℕ) where
  abbrev put : Put
  put = (Checkpoint, note)

  only : (path : Path) (bytes : List ℕ) → Contains (put ∷ []) (path, bytes) → path ≡ Checkpoint
  only path bytes has =
      All-contains (λ (p : Put). p.0 ≡ Checkpoint) (put ∷ []) (path, bytes)
      (All-cons (λ (p : Put). p.0 ≡ Checkpoint) put [] refl (All-nil (λ (p : Put). p.0 ≡ Checkpoint))) has

  module _ (held : List Put) (there : List ℕ) (stood : Stands held Checkpoint there) (size : ℕ) (root : List ℕ)
      (first : IsHead there origin size root) (second : IsHead note origin size root) (old_note : List ℕ)
      (entries : List (List ℕ)) (copy : IsCopy digest origin old_note entries held) where
    abbrev after : List Put
    after = held ++ put ∷ []

    was : there ≡ old_note
    was = stands_one held Checkpoint there old_note stood
        (copy.holds Checkpoint ((files_are_all (length entries) Checkpoint).1 tt))

    new_head : IsHead note origin (length entries) (mth digest entries)
    new_head =
        let once = head_once old_note origin origin size (length entries) root (mth digest entries)
        (subst (λ n. IsHead n origin size root) was first) copy.is_head in
        subst (λ n. IsHead note origin n (mth digest entries)) once.size_is
        (subst (λ r. IsHead note origin size r) once.root_is second)

    here : Stands after Checkpoint note
    here = record {
      before = held;
      after = [];
      puts_are = refl;
      kept = λ other has. absurd (let lt : has.0 < 0 = has.1 in omega (arith, lt));
    }

    other_stands : (path : Path) → path ≢ Checkpoint → (bytes : List ℕ) → Stands held path bytes → Stands after path bytes
    other_stands path other bytes s = stands_more held (put ∷ []) path bytes s (λ b has. absurd (other (only path b has)))

    by_path : (path : Path) → Contains (paths_of (length entries)) path →
        Stands after path (served_bytes digest note entries path)
    by_path Checkpoint listed = here
    by_path (Tile level index width) listed =
        let path = Tile level index width in
        let other : path ≢ Checkpoint = λ e. cc in
        other_stands path other (served_bytes digest note entries path) (copy.holds path listed)
    by_path (Entries index width) listed =
        let path = Entries index width in
        let other : path ≢ Checkpoint = λ e. cc in
        other_stands path other (served_bytes digest note entries path) (copy.holds path listed)

    renoted : IsCopy digest origin note entries after
    renoted = record { short = copy.short; is_head = new_head; holds = by_path }

    pub renoted_grown : IsGrownCopy digest origin note entries after
    renoted_grown = record {
      more = [];
      copy = subst (λ (l : List (List ℕ)). IsCopy digest origin note l after) (sym (append-nil entries)) renoted;
      kept = copy_files digest origin note entries after renoted;
    }

    pub renoted_moment : (new now : List Put) → new ≡ after → IsMoment held new now →
        IsCopy digest origin old_note entries now ⊎ IsGrownCopy digest origin note entries now
    renoted_moment new now is at = elim (moments_are held put now (subst (λ l. IsMoment held l now) is at)) [
      | inl before ↦ inl (subst (IsCopy digest origin old_note entries) (sym before) copy)
      | inr last ↦ inr (subst (IsGrownCopy digest origin note entries) last renoted_grown)
    ]

  -- the same for a copy whose partial files may be replaced by full ones
  module _ (held : List Put) (there : List ℕ) (stood : Stands held Checkpoint there) (size : ℕ) (root : List ℕ)
      (first : IsHead there origin size root) (second : IsHead note origin size root) (old_note : List ℕ)
      (entries : List (List ℕ)) (copy : IsPrunedCopy digest origin old_note entries held) where
    abbrev next : List Put
    next = held ++ put ∷ []

    still : (path : Path) → path ≢ Checkpoint → (bytes : List ℕ) → Stands held path bytes → Stands next path bytes
    still path other bytes s = stands_more held (put ∷ []) path bytes s (λ b has. absurd (other (only path b has)))

    not_checkpoint : (path : Path) → IsTreeFile (length entries) path → (path ≢ Checkpoint) × (full_of path ≢ Checkpoint)
    not_checkpoint Checkpoint file = absurd file
    not_checkpoint (Tile level index width) file = (λ e. cc, λ e. cc)
    not_checkpoint (Entries index width) file = (λ e. cc, λ e. cc)

    way : (path : Path) → IsTreeFile (length entries) path → HasGivenWay digest entries held path →
        HasGivenWay digest entries next path
    way path file g = record {
      partial = g.partial;
      gone = λ has. (not_checkpoint path file).0
          (sym (contains_one Checkpoint path (has_after held (put ∷ []) path g.gone has)));
      full = g.full;
      stands = still (full_of path) (not_checkpoint path file).1 g.full g.stands;
      begins = g.begins;
    }

    replaced_head : IsHead note origin (length entries) (mth digest entries)
    replaced_head =
        let was : there ≡ old_note = stands_one held Checkpoint there old_note stood copy.note_stands in
        let once = head_once old_note origin origin size (length entries) root (mth digest entries)
        (subst (λ n. IsHead n origin size root) was first) copy.is_head in
        subst (λ n. IsHead note origin n (mth digest entries)) once.size_is
        (subst (λ r. IsHead note origin size r) once.root_is second)

    replaced : IsPrunedCopy digest origin note entries next
    replaced = record {
      short = copy.short;
      is_head = replaced_head;
      note_stands = record {
        before = held;
        after = [];
        puts_are = refl;
        kept = λ other has. absurd (let lt : has.0 < 0 = has.1 in omega (arith, lt));
      };
      files = λ path file. elim (copy.files path file) [
        | inl s ↦ inl (still path (not_checkpoint path file).0 (true_bytes digest entries path) s)
        | inr g ↦ inr (way path file g)
      ];
    }

    pub replaced_grown : IsGrownPruned digest origin note entries next
    replaced_grown = record {
      more = [];
      copy = subst (λ (l : List (List ℕ)). IsPrunedCopy digest origin note l next) (sym (append-nil entries)) replaced;
      kept = replaced.files;
    }

    pub replaced_moment : (new now : List Put) → new ≡ next → IsMoment held new now →
        IsPrunedCopy digest origin old_note entries now ⊎ IsGrownPruned digest origin note entries now
    replaced_moment new now is at = elim (moments_are held put now (subst (λ l. IsMoment held l now) is at)) [
      | inl before ↦ inl (subst (IsPrunedCopy digest origin old_note entries) (sym before) copy)
      | inr last ↦ inr (subst (IsGrownPruned digest origin note entries) last replaced_grown)
    ]

  module _ (x z : Option (List Put)) (there : List ℕ) (size : ℕ) (root : List ℕ) (first : IsHead there origin size root)
      (second : IsHead note origin size root) (p : IsNotePut x z (Some there) note) where
    stood_at : (held : List Put) → x ≡ Some held → Stands held Checkpoint there
    stood_at held is = subst (λ o. RecordsRead o Checkpoint (Some there)) is p.stood

    recorded_at : (held : List Put) → x ≡ Some held → AddsToRecord (Some held) z (put ∷ [])
    recorded_at held is = subst (λ o. AddsToRecord o z (put ∷ [])) is p.recorded

    no_none : (held : List Put) → x ≡ Some held → (HasPut held Checkpoint → ⊥) → ⊥
    no_none held is none = cc (none_found held (Some there) (stood_at held is) none)

    each : (held : List Put) (z : Option (List Put)) → AddsToRecord (Some held) z (put ∷ []) → (so : List Put → Type 0) →
        ((new : List Put) → new ≡ held ++ put ∷ [] → (now : List Put) → IsMoment held new now → so now) →
        AtEachMoment held z so
    each held None recorded so all = absurd recorded
    each held (Some new) recorded so all = λ now at. all new recorded now at

    last : (held : List Put) (z : Option (List Put)) → AddsToRecord (Some held) z (put ∷ []) → (so : List Put → Type 0) →
        so (held ++ put ∷ []) → InTheEnd z so
    last held None recorded so h = absurd recorded
    last held (Some new) recorded so h = subst so (sym recorded) h

    beyond : (n : ℕ) (held : List Put) → x ≡ Some held → PutsBeyond n held z
    beyond n held is = record {
      puts = put ∷ [];
      recorded = recorded_at held is;
      are_beyond =
          let P : Put → Type 0 = λ put. ¬ IsWithin n put.0 in All-cons P put [] (λ within. within) (All-nil P);
    }

    note_keeps : KeepsCopy digest origin note x z
    note_keeps = record {
      copy = λ held is old_note entries copy.
          each held z (recorded_at held is)
          (λ now. IsCopy digest origin old_note entries now ⊎ IsGrownCopy digest origin note entries now)
          (λ new e now at. renoted_moment held there (stood_at held is) size root first second old_note entries copy new now e at);
      none = λ held is none. absurd (no_none held is none);
      beyond = λ held is old_note entries copy. beyond (length entries) held is;
      beyond_none = λ held is none. absurd (no_none held is none);
    }

    pub note_leaves : {T E : Type 0} (a : T) → LeavesPruned digest origin {E = E} note x z (Ok a)
    note_leaves a held is old_note entries copy = record {
      moments = each held z (recorded_at held is)
          (λ now. IsPrunedCopy digest origin old_note entries now ⊎ IsGrownPruned digest origin note entries now)
          (λ new e now at. replaced_moment held there (stood_at held is) size root first second old_note entries copy new now e at);
      beyond = beyond (length entries) held is;
      brought = last held z (recorded_at held is) (IsGrownPruned digest origin note entries)
          (replaced_grown held there (stood_at held is) size root first second old_note entries copy);
      stays = tt;
    }

    note_brought : IsBroughtTo digest origin note x z
    note_brought = record {
      copy = λ held is old_note entries copy.
          last held z (recorded_at held is) (IsGrownCopy digest origin note entries)
          (renoted_grown held there (stood_at held is) size root first second old_note entries copy);
      none = λ held is none. absurd (no_none held is none);
    }

    pub note_follows : EachIsBrought digest origin note x z
    note_follows = record {
      whole = note_brought;
      pruned = λ held is old_note entries copy.
          (note_leaves {T = ℕ} {E = ℕ} 0 held is old_note entries copy).brought;
    }

    pub note_kept : KeepsUnder digest origin note x z
    note_kept = λ notes listed.
        each_one digest origin notes {T = ℕ} {E = ℕ} note x z (Ok 0) listed note_keeps (note_leaves {T = ℕ} {E = ℕ} 0)

-- a checkpoint of the size and root of another
pub head_as : (origin : List ℕ) (a b : Candidate) → IsHeadOf origin a → a.size.0 ≡ b.size.0 → a.root ≡ b.root →
    IsHead (note_of a) origin b.size.0 b.root
head_as origin a b head size root =
    subst (λ n. IsHead (note_of a) origin n b.root) size (subst (λ r. IsHead (note_of a) origin a.size.0 r) root head)
