-- The copy of a run, turn after turn.
use Rattle.std.proofs.Common.{◌≡◌, ℕ, List, [], ◌++◌, length, Option, Some, None, Result, Ok, Err, IfOk, IfSome, refl, sym, subst, ◌∙◌, append_assoc}
use Rattle.std.proofs.lemmas.List.{append-nil}
use Rattle.tlog_hash.specs.Tree.{mth}
use Rattle.tlog_tiles.specs.declared.paths.Path.TheVariants.{Checkpoint}
use Rattle.mirror_model.specs.Heads.{IsHead}
use Rattle.mirror_model.proofs.HeadNotes.{head_once}
use Rattle.mirror_sources.specs.Recorded.{KeepsRecord}
use Rattle.mirror_folders.specs.Shelf.{Put, HasPut, Stands, RecordsRead}
use Rattle.mirror_folders.proofs.AllFiles.{files_are_all}
use Rattle.copy_follow.specs.Copies.{IsCopy}
use Rattle.copy_follow.specs.Moments.{CopyStays, InTheEnd, IsBroughtTo, IsGrownCopy}
use Rattle.copy_follow.specs.Pruned.{HadSize, IsGrownPruned, IsPrunedCopy, LeavesPruned}
use Rattle.copy_follow.proofs.PrunedFiles.{copies_are_pruned}
use Rattle.copy_follow.proofs.PrunedMoments.{leaves_same}
use Rattle.copy_follow.proofs.Stays.{stays_same}
use Rattle.copy_follow.proofs.TipReads.{stands_has, stands_one}
use Rattle.copy_follow.proofs.WholeMoments.{copy_found, none_found}
use Rattle.copy_places.specs.Candidates.{IsSame, note_of}
use Rattle.copy_places.specs.declared.candidate.Candidate.{Candidate}
use Rattle.copy_follow.specs.Rule.{copy_point}
use Rattle.copy_follow.specs.RunStanding.{EachIsBrought, EachStays, HadCopy, HasCopy, HasCopyOrNone, HasPruned, HasStanding, IsCopyNow, IsCopyOfRun, IsFollowed, IsFoundCopy, IsHeadOf, KnowsAfter, PrunedAs, PrunedUnder, StandsAfter, StandsAs, StandsOrNone, StandsUnder, size_of_copy}
use Rattle.copy_follow.specs.declared.report.Followed.{Followed}
use Rattle.copy_follow.specs.declared.run.Outcome.{Outcome}
use Rattle.copy_follow.specs.declared.run.Outcome.TheVariants as turn

-- a fact at the end, and its consequence
pub end_weaker : (w : Option (List Put)) (so also : List Put → Type 0) → ((now : List Put) → so now → also now) →
    InTheEnd w so → InTheEnd w also
end_weaker None so also f h = h
end_weaker (Some new) so also f h = f new h

module _ (digest : List ℕ → List ℕ) (origin : List ℕ) where
  abbrev Known : Option (List Put) → Option (List Put) → Option Candidate → Type 0
  Known x y copy = IsCopyOfRun digest origin x y copy

  abbrev Under : Candidate → List (List ℕ) → List Put → Type 0
  Under c entries puts = StandsUnder digest origin c entries puts

  -- ---- a call that does not change the copy

  under_stays : (c : Candidate) (entries : List (List ℕ)) (y w : Option (List Put)) → InTheEnd y (Under c entries) →
      CopyStays digest origin y w → InTheEnd w (Under c entries)
  under_stays c entries None w h s = absurd h
  under_stays c entries (Some ys) w h s =
      end_weaker w (IsCopy digest origin (note_of c) (entries ++ h.more)) (Under c entries)
      (λ now copy. record { more = h.more; copy = copy; size_is = h.size_is; root_is = h.root_is })
      (s.copy ys refl (note_of c) (entries ++ h.more) h.copy)

  as_stays : (copy : Option Candidate) (entries : List (List ℕ)) (y w : Option (List Put)) →
      StandsAs digest origin copy entries y → CopyStays digest origin y w → StandsAs digest origin copy entries w
  as_stays None entries y w h s = absurd h
  as_stays (Some c) entries y w h s = under_stays c entries y w h s

  none_end : (y w : Option (List Put)) → InTheEnd y (λ now. HasPut now Checkpoint → ⊥) → CopyStays digest origin y w →
      InTheEnd w (λ now. HasPut now Checkpoint → ⊥)
  none_end None w h s = absurd h
  none_end (Some ys) w h s = s.none ys refl h

  none_stays : (copy : Option Candidate) (y w : Option (List Put)) → StandsOrNone digest origin copy y →
      CopyStays digest origin y w → StandsOrNone digest origin copy w
  none_stays None y w h s = none_end y w h s
  none_stays (Some c) y w h s = under_stays c [] y w h s

  replaced_stays : (copy : Option Candidate) (entries : List (List ℕ)) (y w : Option (List Put)) →
      PrunedAs digest origin copy entries y → EachStays digest origin y w → PrunedAs digest origin copy entries w
  replaced_stays None entries y w h s = absurd h
  replaced_stays (Some c) entries None w h s = absurd h
  replaced_stays (Some c) entries (Some ys) w h s =
      end_weaker w (IsPrunedCopy digest origin (note_of c) (entries ++ h.more)) (PrunedUnder digest origin c entries)
      (λ now copy. record { more = h.more; copy = copy; size_is = h.size_is; root_is = h.root_is })
      (s.pruned ys refl (note_of c) (entries ++ h.more) h.copy)

  pub known_stays : (x y w : Option (List Put)) (copy : Option Candidate) → Known x y copy →
      EachStays digest origin y w → Known x w copy
  known_stays x y w copy k s = record {
    some = λ held is note entries c. as_stays copy entries y w (k.some held is note entries c) s.whole;
    pruned = λ held is note entries c. replaced_stays copy entries y w (k.pruned held is note entries c) s;
    none = λ held is none. none_stays copy y w (k.none held is none) s.whole;
  }

  -- a call that puts nothing
  pub each_same : (y w : Option (List Put)) → KeepsRecord y w → EachStays digest origin y w
  each_same y w kept = record {
    whole = stays_same digest origin y w kept;
    pruned = λ held is note entries copy.
        (leaves_same digest origin note {T = ℕ} {E = ℕ} y w kept 0 held is note entries copy).stays;
  }

  -- ---- a call that brings the copy to a candidate

  module _ (c : Candidate) (head : IsHeadOf origin c) where
    -- a copy that was grown from a copy of those entries
    grown_under : (entries more : List (List ℕ)) (now : List Put) →
        IsGrownCopy digest origin (note_of c) (entries ++ more) now → Under c entries now
    grown_under entries more now g =
        let all = entries ++ (more ++ g.more) in
        let copy : IsCopy digest origin (note_of c) all now =
        subst (λ (l : List (List ℕ)). IsCopy digest origin (note_of c) l now) (append_assoc entries more g.more) g.copy in
        let once = head_once (note_of c) origin origin c.size.0 (length all) c.root (mth digest all) head copy.is_head in
        record { more = more ++ g.more; copy = copy; size_is = once.size_is; root_is = once.root_is }

    new_under : (now : List Put) → IsGrownCopy digest origin (note_of c) [] now → Under c [] now
    new_under now g =
        let once = head_once (note_of c) origin origin c.size.0 (length g.more) c.root (mth digest g.more) head g.copy.is_head in
        record { more = g.more; copy = g.copy; size_is = once.size_is; root_is = once.root_is }

    under_brought : (old : Candidate) (entries : List (List ℕ)) (y w : Option (List Put)) → InTheEnd y (Under old entries) →
        IsBroughtTo digest origin (note_of c) y w → InTheEnd w (Under c entries)
    under_brought old entries None w h b = absurd h
    under_brought old entries (Some ys) w h b =
        end_weaker w (IsGrownCopy digest origin (note_of c) (entries ++ h.more)) (Under c entries)
        (λ now g. grown_under entries h.more now g) (b.copy ys refl (note_of old) (entries ++ h.more) h.copy)

    as_brought : (copy : Option Candidate) (entries : List (List ℕ)) (y w : Option (List Put)) →
        StandsAs digest origin copy entries y → IsBroughtTo digest origin (note_of c) y w → InTheEnd w (Under c entries)
    as_brought None entries y w h b = absurd h
    as_brought (Some old) entries y w h b = under_brought old entries y w h b

    first_brought : (y w : Option (List Put)) → InTheEnd y (λ now. HasPut now Checkpoint → ⊥) →
        IsBroughtTo digest origin (note_of c) y w → InTheEnd w (Under c [])
    first_brought None w h b = absurd h
    first_brought (Some ys) w h b =
        end_weaker w (IsGrownCopy digest origin (note_of c) []) (Under c []) (λ now g. new_under now g) (b.none ys refl h)

    none_brought : (copy : Option Candidate) (y w : Option (List Put)) → StandsOrNone digest origin copy y →
        IsBroughtTo digest origin (note_of c) y w → InTheEnd w (Under c [])
    none_brought None y w h b = first_brought y w h b
    none_brought (Some old) y w h b = under_brought old [] y w h b

    replaced_under : (entries more : List (List ℕ)) (now : List Put) →
        IsGrownPruned digest origin (note_of c) (entries ++ more) now → PrunedUnder digest origin c entries now
    replaced_under entries more now g =
        let all = entries ++ (more ++ g.more) in
        let copy : IsPrunedCopy digest origin (note_of c) all now =
        subst (λ (l : List (List ℕ)). IsPrunedCopy digest origin (note_of c) l now) (append_assoc entries more g.more) g.copy in
        let once = head_once (note_of c) origin origin c.size.0 (length all) c.root (mth digest all) head copy.is_head in
        record { more = more ++ g.more; copy = copy; size_is = once.size_is; root_is = once.root_is }

    replaced_brought : (copy : Option Candidate) (entries : List (List ℕ)) (y w : Option (List Put)) →
        PrunedAs digest origin copy entries y → EachIsBrought digest origin (note_of c) y w →
        InTheEnd w (PrunedUnder digest origin c entries)
    replaced_brought None entries y w h b = absurd h
    replaced_brought (Some old) entries None w h b = absurd h
    replaced_brought (Some old) entries (Some ys) w h b =
        end_weaker w (IsGrownPruned digest origin (note_of c) (entries ++ h.more)) (PrunedUnder digest origin c entries)
        (λ now g. replaced_under entries h.more now g) (b.pruned ys refl (note_of old) (entries ++ h.more) h.copy)

    pub known_brought : (x y w : Option (List Put)) (copy : Option Candidate) → Known x y copy →
        EachIsBrought digest origin (note_of c) y w → Known x w (Some c)
    known_brought x y w copy k b = record {
      some = λ held is note entries h. as_brought copy entries y w (k.some held is note entries h) b.whole;
      pruned = λ held is note entries h. replaced_brought copy entries y w (k.pruned held is note entries h) b;
      none = λ held is none. none_brought copy y w (k.none held is none) b.whole;
    }

  -- ---- the shelf has the copy of a run

  all_under : (c : Candidate) (entries : List (List ℕ)) (now : List Put) → Under c entries now →
      PrunedUnder digest origin c entries now
  all_under c entries now u = record {
    more = u.more;
    copy = copies_are_pruned digest origin (note_of c) (entries ++ u.more) now u.copy;
    size_is = u.size_is;
    root_is = u.root_is;
  }

  pub standing_as : (copy : Option Candidate) (entries : List (List ℕ)) (w : Option (List Put)) →
      PrunedAs digest origin copy entries w → HasStanding digest origin copy w
  standing_as None entries w h = absurd h
  standing_as (Some c) entries None h = absurd h
  standing_as (Some c) entries (Some now) h = record { held = now; puts_are = refl; entries = entries; under = h }

  pub standing_none : (copy : Option Candidate) (w : Option (List Put)) → StandsOrNone digest origin copy w →
      HasStanding digest origin copy w
  standing_none None None h = absurd h
  standing_none None (Some now) h = record { held = now; is = refl; none = h }
  standing_none (Some c) None h = absurd h
  standing_none (Some c) (Some now) h =
      record { held = now; puts_are = refl; entries = []; under = all_under c [] now h }

  -- ---- a call of bring_copy

  pub brought_after : {T E : Type 0} (note : List ℕ) (y w : Option (List Put)) (a : T) → IsBroughtTo digest origin note y w →
      LeavesPruned digest origin {E = E} note y w (Ok a) → EachIsBrought digest origin note y w
  brought_after note y w a brought leaves = record {
    whole = brought;
    pruned = λ held is old_note entries copy. (leaves held is old_note entries copy).brought;
  }

  pub stayed_after : {T E : Type 0} (note : List ℕ) (y w : Option (List Put)) (e : E) → CopyStays digest origin y w →
      LeavesPruned digest origin {T = T} note y w (Err e) → EachStays digest origin y w
  stayed_after note y w e stays leaves = record {
    whole = stays;
    pruned = λ held is old_note entries copy. (leaves held is old_note entries copy).stays;
  }

  -- ---- a turn

  same_head : (c d : Candidate) → IsSame c d → IsHeadOf origin c → IsHeadOf origin d
  same_head c d s head =
      subst (λ note. IsHead note origin d.size.0 d.root) (sym s.note_is)
      (subst (λ size. IsHead (note_of c) origin size d.root) (sym s.size_is)
      (subst (λ root. IsHead (note_of c) origin c.size.0 root) (sym s.root_is) head))

  known_now : (c : Candidate) (x w : Option (List Put)) (copy : Option Candidate) → IsHeadOf origin c →
      IsCopyNow c copy → ((d : Candidate) → IsHeadOf origin d → note_of d ≡ note_of c → Known x w (Some d)) →
      Known x w copy
  known_now c x w copy head n f =
      subst (λ o. Known x w o) (sym n.is) (f n.now (same_head c n.now n.same head) n.same.note_is)

  kept_known : (x y w : Option (List Put)) (old new : Option Candidate) → new ≡ old → Known x y old →
      EachStays digest origin y w → Known x w new
  kept_known x y w old new e k s = subst (λ o. Known x w o) (sym e) (known_stays x y w old k s)

  pub known_after : (c : Candidate) (x y w : Option (List Put)) (old new : Option Candidate) (t : Outcome) →
      IsHeadOf origin c → Known x y old → StandsAfter digest origin c y w t → KnowsAfter c t old new → Known x w new
  known_after c x y w old new turn.Agrees head k s n = kept_known x y w old new n k s
  known_after c x y w old new turn.Brought head k s n =
      known_now c x w new head n (λ d is e. known_brought d is x y w old k
      (subst (λ note. EachIsBrought digest origin note y w) (sym e) s))
  known_after c x y w old new (turn.Forks proof) head k s n = kept_known x y w old new n k s
  known_after c x y w old new turn.Contradicts head k s n = kept_known x y w old new n k s
  known_after c x y w old new (turn.NotHad fault) head k s n = kept_known x y w old new n k s

  -- ---- the copy that is read first

  -- the checkpoint of a copy is its note
  pub checkpoint_one : (note : List ℕ) (entries : List (List ℕ)) (held : List Put) → IsCopy digest origin note entries held →
      (bytes : List ℕ) → Stands held Checkpoint bytes → bytes ≡ note
  checkpoint_one note entries held copy bytes there =
      stands_one held Checkpoint bytes note there
      (copy.holds Checkpoint ((files_are_all (length entries) Checkpoint).1 tt))

  known_first : (x y : Option (List Put)) (c : Candidate) → IsHeadOf origin c → RecordsRead x Checkpoint (Some (note_of c)) →
      KeepsRecord x y → Known x y (Some c)
  known_first x y c head there kept = record {
    some = λ held is note entries copy.
        under_stays c entries (Some held) y (read_under held note entries copy (subst (λ o. RecordsRead o Checkpoint (Some (note_of c))) is there))
        (subst (λ o. CopyStays digest origin o y) is (stays_same digest origin x y kept));
    pruned = λ held is note entries copy.
        replaced_stays (Some c) entries (Some held) y
        (read_replaced held note entries copy (subst (λ o. RecordsRead o Checkpoint (Some (note_of c))) is there))
        (subst (λ o. EachStays digest origin o y) is (each_same x y kept));
    none = λ held is none.
        absurd (cc (none_found held (Some (note_of c)) (subst (λ o. RecordsRead o Checkpoint (Some (note_of c))) is there) none));
  }
    where
      read_replaced : (held : List Put) (note : List ℕ) (entries : List (List ℕ)) → IsPrunedCopy digest origin note entries held →
          Stands held Checkpoint (note_of c) → PrunedUnder digest origin c entries held
      read_replaced held note entries copy there =
          let e : note_of c ≡ note = stands_one held Checkpoint (note_of c) note there copy.note_stands in
          let all : entries ++ [] ≡ entries = append-nil entries in
          let copy' : IsPrunedCopy digest origin (note_of c) (entries ++ []) held =
          subst (λ (l : List (List ℕ)). IsPrunedCopy digest origin (note_of c) l held) (sym all)
          (subst (λ n. IsPrunedCopy digest origin n entries held) (sym e) copy) in
          let once = head_once (note_of c) origin origin c.size.0 (length (entries ++ [])) c.root (mth digest (entries ++ []))
          head copy'.is_head in
          record { more = []; copy = copy'; size_is = once.size_is; root_is = once.root_is }

      read_under : (held : List Put) (note : List ℕ) (entries : List (List ℕ)) → IsCopy digest origin note entries held →
          Stands held Checkpoint (note_of c) → Under c entries held
      read_under held note entries copy there =
          let e : note_of c ≡ note = checkpoint_one note entries held copy (note_of c) there in
          let all : entries ++ [] ≡ entries = append-nil entries in
          let copy' : IsCopy digest origin (note_of c) (entries ++ []) held =
          subst (λ (l : List (List ℕ)). IsCopy digest origin (note_of c) l held) (sym all)
          (subst (λ n. IsCopy digest origin n entries held) (sym e) copy) in
          let once = head_once (note_of c) origin origin c.size.0 (length (entries ++ [])) c.root (mth digest (entries ++ []))
          head copy'.is_head in
          record { more = []; copy = copy'; size_is = once.size_is; root_is = once.root_is }

  not_replaced : (x : Option (List Put)) → RecordsRead x Checkpoint None → (held : List Put) → x ≡ Some held →
      (note : List ℕ) (entries : List (List ℕ)) → IsPrunedCopy digest origin note entries held → ⊥
  not_replaced x there held is note entries copy =
      (subst (λ o. RecordsRead o Checkpoint None) is there) (stands_has held Checkpoint note copy.note_stands)

  known_none : (x y : Option (List Put)) → RecordsRead x Checkpoint None → KeepsRecord x y → Known x y None
  known_none x y there kept = record {
    some = λ held is note entries copy.
        absurd (copy_found digest origin note entries held None copy (subst (λ o. RecordsRead o Checkpoint None) is there) refl);
    pruned = λ held is note entries copy. absurd (not_replaced x there held is note entries copy);
    none = λ held is none.
        none_end (Some held) y none (subst (λ o. CopyStays digest origin o y) is (stays_same digest origin x y kept));
  }

  -- the note and the size that were read are those of a copy whose partial files may be replaced
  replaced_once : (x : Option (List Put)) (c : Candidate) → IsHeadOf origin c → RecordsRead x Checkpoint (Some (note_of c)) →
      (held : List Put) → x ≡ Some held → (note : List ℕ) (entries : List (List ℕ)) →
      IsPrunedCopy digest origin note entries held → (note_of c ≡ note) × (c.size.0 ≡ length entries)
  replaced_once x c head there held is note entries copy =
      let e : note_of c ≡ note = stands_one held Checkpoint (note_of c) note
      (subst (λ o. RecordsRead o Checkpoint (Some (note_of c))) is there) copy.note_stands in (
        e,
        (head_once note origin origin c.size.0 (length entries) c.root (mth digest entries)
            (subst (λ b. IsHead b origin c.size.0 c.root) e head) copy.is_head).size_is,
      )

  had_first : (x : Option (List Put)) (c : Candidate) → IsHeadOf origin c → RecordsRead x Checkpoint (Some (note_of c)) →
      HadSize digest origin x c.size.0
  had_first x c head there = record {
    copy = λ held is note entries copy.
        (head_once note origin origin c.size.0 (length entries) c.root (mth digest entries)
        (subst (λ b. IsHead b origin c.size.0 c.root)
        (checkpoint_one note entries held copy (note_of c) (subst (λ o. RecordsRead o Checkpoint (Some (note_of c))) is there)) head)
        copy.is_head).size_is;
    pruned = λ held is note entries copy. (replaced_once x c head there held is note entries copy).1;
    none = λ held is none.
        absurd (cc (none_found held (Some (note_of c)) (subst (λ o. RecordsRead o Checkpoint (Some (note_of c))) is there) none));
  }

  -- the copy that was read is the shelf's
  read_first : (x : Option (List Put)) (c : Candidate) → IsHeadOf origin c → RecordsRead x Checkpoint (Some (note_of c)) →
      HadCopy digest origin x (Some c)
  read_first x c head there = record {
    some = λ held is note entries copy.
        let e : note_of c ≡ note =
        checkpoint_one note entries held copy (note_of c) (subst (λ o. RecordsRead o Checkpoint (Some (note_of c))) is there) in (
          e,
          (head_once note origin origin c.size.0 (length entries) c.root (mth digest entries)
              (subst (λ b. IsHead b origin c.size.0 c.root) e head) copy.is_head).size_is,
        );
    pruned = λ held is note entries copy. replaced_once x c head there held is note entries copy;
    none = λ held is none.
        absurd (cc (none_found held (Some (note_of c)) (subst (λ o. RecordsRead o Checkpoint (Some (note_of c))) is there) none));
  }

  read_none : (x : Option (List Put)) → RecordsRead x Checkpoint None → HadCopy digest origin x None
  read_none x there = record {
    some = λ held is note entries copy.
        absurd (copy_found digest origin note entries held None copy (subst (λ o. RecordsRead o Checkpoint None) is there) refl);
    pruned = λ held is note entries copy. absurd (not_replaced x there held is note entries copy);
    none = λ held is none. refl;
  }

  had_none : (x : Option (List Put)) → RecordsRead x Checkpoint None → HadSize digest origin x 0
  had_none x there = record {
    copy = λ held is note entries copy.
        absurd (copy_found digest origin note entries held None copy (subst (λ o. RecordsRead o Checkpoint None) is there) refl);
    pruned = λ held is note entries copy. absurd (not_replaced x there held is note entries copy);
    none = λ held is none. refl;
  }

  pub known_found : (x y : Option (List Put)) (copy : Option Candidate) → IsFoundCopy origin x copy → KeepsRecord x y →
      Known x y copy
  known_found x y None f kept = known_none x y f kept
  known_found x y (Some c) f kept = known_first x y c f.1 f.0 kept

  pub had_found : (x : Option (List Put)) (copy : Option Candidate) → IsFoundCopy origin x copy →
      HadSize digest origin x (size_of_copy copy)
  had_found x None f = had_none x f
  had_found x (Some c) f = had_first x c f.1 f.0

  pub read_found : (x : Option (List Put)) (copy : Option Candidate) → IsFoundCopy origin x copy → HadCopy digest origin x copy
  read_found x None f = read_none x f
  read_found x (Some c) f = read_first x c f.1 f.0

  -- ---- the answer

  point_for : (c : Candidate) (point : Option (ℕ × List ℕ)) (n : ℕ) (root : List ℕ) → point ≡ copy_point (Some c) →
      c.size.0 ≡ n → c.root ≡ root → point ≡ Some (n, root)
  point_for c point n root is size root_is = is ∙ (λ i. Some (size i, root_is i))

  has_copy : (c : Candidate) (point : Option (ℕ × List ℕ)) (entries : List (List ℕ)) (now : List Put) →
      point ≡ copy_point (Some c) → Under c entries now → HasCopy digest origin point entries now
  has_copy c point entries now is u = record {
    note = note_of c;
    more = u.more;
    copy = u.copy;
    point_is = point_for c point (length (entries ++ u.more)) (mth digest (entries ++ u.more)) is u.size_is u.root_is;
  }

  pub followed : (x w : Option (List Put)) (copy : Option Candidate) (f : Followed) → f.copy ≡ copy_point copy →
      HadSize digest origin x f.old → Known x w copy → IsFollowed digest origin x w f
  followed x w None f is had k = record {
    had = had;
    some = λ held e note entries h. absurd (k.some held e note entries h);
    pruned = λ held e note entries h. absurd (k.pruned held e note entries h);
    none = λ held e none.
        end_weaker w (λ now. HasPut now Checkpoint → ⊥) (HasCopyOrNone digest origin f.copy)
        (λ now no. subst (λ o. HasCopyOrNone digest origin o now) (sym is) no) (k.none held e none);
  }
  followed x w (Some c) f is had k = record {
    had = had;
    some = λ held e note entries h.
        end_weaker w (Under c entries) (HasCopy digest origin f.copy entries)
        (λ now u. has_copy c f.copy entries now is u) (k.some held e note entries h);
    pruned = λ held e note entries h.
        end_weaker w (PrunedUnder digest origin c entries) (HasPruned digest origin f.copy entries)
        (λ now u. record {
          note = note_of c;
          more = u.more;
          copy = u.copy;
          point_is = point_for c f.copy (length (entries ++ u.more)) (mth digest (entries ++ u.more)) is u.size_is u.root_is;
        })
        (k.pruned held e note entries h);
    none = λ held e none.
        end_weaker w (Under c []) (HasCopyOrNone digest origin f.copy)
        (λ now u. subst (λ o. HasCopyOrNone digest origin o now) (sym is) (has_copy c (copy_point (Some c)) [] now refl u))
        (k.none held e none);
  }

same_head_of : (origin : List ℕ) (c d : Candidate) → IsSame c d → IsHeadOf origin c → IsHeadOf origin d
same_head_of origin c d s head =
    subst (λ note. IsHead note origin d.size.0 d.root) (sym s.note_is)
    (subst (λ size. IsHead (note_of c) origin size d.root) (sym s.size_is)
    (subst (λ root. IsHead (note_of c) origin c.size.0 root) (sym s.root_is) head))

-- the copy of the run after a turn is a checkpoint of the origin
head_now : (origin : List ℕ) (c : Candidate) (copy : Option Candidate) → IsHeadOf origin c → IsCopyNow c copy →
    IfSome copy (IsHeadOf origin)
head_now origin c copy head n =
    subst (λ o. IfSome o (IsHeadOf origin)) (sym n.is) (same_head_of origin c n.now n.same head)

pub head_after : (origin : List ℕ) (c : Candidate) (old new : Option Candidate) (t : Outcome) → IsHeadOf origin c →
    KnowsAfter c t old new → IfSome old (IsHeadOf origin) → IfSome new (IsHeadOf origin)
head_after origin c old new turn.Agrees head e h = subst (λ o. IfSome o (IsHeadOf origin)) (sym e) h
head_after origin c old new turn.Brought head n h = head_now origin c new head n
head_after origin c old new (turn.Forks proof) head e h = subst (λ o. IfSome o (IsHeadOf origin)) (sym e) h
head_after origin c old new turn.Contradicts head e h = subst (λ o. IfSome o (IsHeadOf origin)) (sym e) h
head_after origin c old new (turn.NotHad fault) head e h = subst (λ o. IfSome o (IsHeadOf origin)) (sym e) h

-- a call that puts nothing, and does not bring the copy to the candidate
pub after_same : (digest : List ℕ → List ℕ) (origin : List ℕ) (c : Candidate) (x y : Option (List Put)) {E : Type 0}
    (r : Result Outcome E) → KeepsRecord x y →
    IfOk r (λ t. (digest : List ℕ → List ℕ) (origin : List ℕ) (old new : Option (List Put)) →
    EachStays digest origin old new → StandsAfter digest origin c old new t) →
    IfOk r (λ t. StandsAfter digest origin c x y t)
after_same digest origin c x y (Ok t) kept h = h digest origin x y (each_same digest origin x y kept)
after_same digest origin c x y (Err e) kept h = tt

-- the answer of a report
pub followed_by : (digest : List ℕ → List ℕ) (origin : List ℕ) (x w : Option (List Put)) (copy : Option Candidate) (had : ℕ)
    {E : Type 0} (r : Result Followed E) →
    IfOk r (λ f. f.copy ≡ copy_point copy) → IfOk r (λ f. f.old ≡ had) → HadSize digest origin x had →
    IsCopyOfRun digest origin x w copy → IfOk r (IsFollowed digest origin x w)
followed_by digest origin x w copy had (Err e) is old h k = tt
followed_by digest origin x w copy had (Ok f) is old h k =
    followed digest origin x w copy f is (subst (λ n. HadSize digest origin x n) (sym old) h) k

-- a call of bring_copy that ended by a fault
pub turned_after : (digest : List ℕ → List ℕ) (origin : List ℕ) (c : Candidate) (x y : Option (List Put)) {E : Type 0}
    (r : Result Outcome E) → EachStays digest origin x y →
    IfOk r (λ t. (digest : List ℕ → List ℕ) (origin : List ℕ) (candidate : Candidate) (old new : Option (List Put)) →
    EachStays digest origin old new → StandsAfter digest origin candidate old new t) →
    IfOk r (λ t. StandsAfter digest origin c x y t)
turned_after digest origin c x y (Ok t) stays h = h digest origin c x y stays
turned_after digest origin c x y (Err e) stays h = tt
