-- An update keeps a log complete: the files that its parts put, beside those that were there.
use Rattle.std.proofs.Common.{◌≡◌, ℕ, ◌≤◌, List, ◌++◌, length, take, Option, Some, None, Result, Ok, Err, sym, ap}
use Rattle.std.proofs.Common.{subst, ◌∙◌, inl, inr, arith}
use Rattle.std.proofs.lemmas.List.{append-nil, take_all}
use Rattle.tlog_tiles.specs.declared.paths.Path.TheVariants.{Checkpoint}
use Rattle.mirror_model.specs.View.{View}
use Rattle.mirror_model.proofs.HeadNotes.{head_once}
use Rattle.mirror_model.specs.Reports.{SaysServed}
use Rattle.mirror_trees.specs.Tops.{Top, IsListOf, IsServedTop}
use Rattle.mirror_trees.proofs.ServedParts.{list_of}
use Rattle.mirror_sources.specs.Recorded.{KeepsRecord}
use Rattle.mirror_folders.specs.Shelf.{Put, Stands, RecordsRead}
use Rattle.mirror_folders.specs.Since.{files_since}
use Rattle.mirror_folders.specs.Holding.{HoldsFiles, HoldsLog}
use Rattle.mirror_files.specs.UpdateLaws.{IsWholeAt}
use Rattle.mirror_files.specs.Beginnings.{PutsPrefixTop, PutsTop, TopGoesOnFound, UpdatesTop}
use Rattle.mirror_folders.specs.Holding.{IsMoment}
use Rattle.mirror_files.specs.Updates.{GoesOn, KeepsWhole, StaysWhole}
use Rattle.mirror_files.specs.declared.export_fault.UpdateFault.{UpdateFault}
use Rattle.mirror_files.specs.declared.export_fault.UpdateFault.TheVariants.{NothingComplete, OtherLog, ShelfFault, OutOfMemory}
use Rattle.mirror_folders.proofs.FoundOnce.{read_once}
use Rattle.mirror_files.proofs.UpdateMoments.{all_stand, log_of, updates_stay_whole}
use Rattle.mirror_files.proofs.Updated.{served_listed, served_top}

module _ (digest : List ℕ → List ℕ) (v : View) (top : Top) (is : IsServedTop digest v top) where
  -- both sizes are the checkpoint's
  one_size : (found : Option (List ℕ)) (m k : ℕ) → GoesOn digest v found m → TopGoesOnFound digest top v.origin found k →
      k ≡ m
  one_size None m k p q = q ∙ sym p
  one_size (Some checkpoint) m k p q =
      (head_once checkpoint v.origin v.origin k m q.root p.root q.is_head p.is_head).size_is

  module _ (old new : List Put) (found : Option (List ℕ)) (m : ℕ) (entries : List (List ℕ))
      (read : RecordsRead (Some old) Checkpoint found) (on : GoesOn digest v found m)
      (listed : IsListOf digest top entries) (holds : HoldsFiles digest (take m entries) old) where
    within : (f : Option (List ℕ)) → GoesOn digest v f m → m ≤ length entries
    within None p = omega (arith, p)
    within (Some checkpoint) p =
        let other = served_listed digest v top is p.begins.entries p.begins.served in
        let le = p.begins.within in
        let one = other.size_is in
        let two = listed.size_is in
        omega (arith, le, one, two)

    le : m ≤ length entries
    le = within found on

    -- the checkpoint that the update found is the one on the shelf
    same_size : (other : Option (List ℕ)) (k : ℕ) → RecordsRead (Some old) Checkpoint other →
        TopGoesOnFound digest top v.origin other k → k ≡ m
    same_size other k other_read q =
        one_size found m k on (subst (λ (f : Option (List ℕ)). TopGoesOnFound digest top v.origin f k)
        (read_once old Checkpoint other found other_read read) q)

    abbrev files : List Put
    files = files_since digest top.note entries m (length entries)

    files_are : (k : ℕ) → k ≡ m → files_since digest top.note entries k top.size ≡ files
    files_are k e = ap (λ j. files_since digest top.note entries j top.size) e
        ∙ ap (λ n. files_since digest top.note entries m n) (sym listed.size_is)

    moments_at : (count : ℕ) → new ≡ old ++ take count files → (now : List Put) → IsMoment old new now →
        IsWholeAt digest top.note entries found m old now
    moments_at count e now at =
        updates_stay_whole digest top.note entries found m count le old new now read holds e at

    kept_moments : new ≡ old → (now : List Put) → IsMoment old new now →
        IsWholeAt digest top.note entries found m old now
    kept_moments e now at = moments_at 0 (e ∙ sym (append-nil old)) now at

    module _ (T : Type 0) where
      cut_off : (fault : UpdateFault) → new ≡ old →
          KeepsWhole digest {T = T} top.note entries found m old new (Err fault)
      cut_off fault e = record { moments = kept_moments e; done = tt }

      first_put : (fault : UpdateFault) → PutsPrefixTop digest top v.origin entries (Some old) (Some new) →
          KeepsWhole digest {T = T} top.note entries found m old new (Err fault)
      first_put fault p = record {
        moments = moments_at p.front.count (p.front.recorded ∙ ap (λ (l : List Put). old ++ take p.front.count l)
            (files_are p.m (same_size p.found p.m p.read p.goes_on)));
        done = tt;
      }

      all_put : (x : T) → PutsTop digest top v.origin entries (Some old) (Some new) →
          KeepsWhole digest {T = T} top.note entries found m old new (Ok x)
      all_put x p =
          let size_is : p.m ≡ m = same_size p.found p.m p.read p.goes_on in
          elim p.recorded [
            | inl put ↦ (
                let e : new ≡ old ++ files = put.1 ∙ ap (λ (l : List Put). old ++ l) (files_are p.m size_is) in
                record {
                  moments = moments_at (length files)
                      (e ∙ ap (λ (l : List Put). old ++ l) (sym (take_all (length files) files (omega arith))));
                  done = all_stand digest top.note entries m le old new holds e;
                }
                )
            | inr kept ↦ record {
              moments = kept_moments kept.1;
              done = subst (λ (l : List Put). HoldsLog digest top.note entries l) (sym kept.1)
                  (standing (subst (λ (f : Option (List ℕ)). RecordsRead (Some old) Checkpoint f) kept.0 p.read)
                  (subst (λ (f : Option (List ℕ)). TopGoesOnFound digest top v.origin f p.m) kept.0 p.goes_on) size_is);
            }
          ]
        where
          -- the served note is on the shelf, with all files
          standing : Stands old Checkpoint top.note → TopGoesOnFound digest top v.origin (Some top.note) p.m →
              p.m ≡ m → HoldsLog digest top.note entries old
          standing stands q e =
              let served = is.served.served.holds.is_head in
              let one : p.m ≡ top.size =
              (head_once top.note v.origin v.origin p.m top.size q.root top.root q.is_head served).size_is in
              let long : length entries ≤ m = omega (arith, one, e, listed.size_is) in
              log_of digest entries top.note old
              (subst (λ (es : List (List ℕ)). HoldsFiles digest es old) (take_all m entries long) holds) stands

      keeps_whole : (r : Result T UpdateFault) → UpdatesTop digest top v.origin entries (Some old) (Some new) r →
          KeepsWhole digest top.note entries found m old new r
      keeps_whole (Ok x) p = all_put x p
      keeps_whole (Err NothingComplete) p = absurd p
      keeps_whole (Err OtherLog) p = cut_off OtherLog p.0
      keeps_whole (Err ShelfFault) p =
          elim p [ inl kept ↦ cut_off ShelfFault kept | inr some ↦ first_put ShelfFault some ]
      keeps_whole (Err OutOfMemory) p =
          elim p [ inl kept ↦ cut_off OutOfMemory kept | inr some ↦ first_put OutOfMemory some ]

  -- a shelf that records its puts still records them afterwards
  records : (T : Type 0) (old : List Put) (entries : List (List ℕ)) (r : Result T UpdateFault) →
      UpdatesTop digest top v.origin entries (Some old) None r → ⊥
  records T old entries (Ok x) p = elim p.recorded [ inl put ↦ put.1 | inr kept ↦ kept.1 ]
  records T old entries (Err NothingComplete) p = p
  records T old entries (Err OtherLog) p = p.0
  records T old entries (Err ShelfFault) p = elim p [ inl kept ↦ kept | inr some ↦ some.front.recorded ]
  records T old entries (Err OutOfMemory) p = elim p [ inl kept ↦ kept | inr some ↦ some.front.recorded ]

  pub stays_whole : {T : Type 0} (old new : Option (List Put)) (r : Result T UpdateFault) →
      ((entries : List (List ℕ)) → IsListOf digest top entries → UpdatesTop digest top v.origin entries old new r) →
      StaysWhole digest v old new r
  stays_whole None new r h = tt
  stays_whole {T} (Some old) None r h = records T old is.served.entries r (h is.served.entries (list_of digest v top is))
  stays_whole {T} (Some old) (Some new) r h = λ found m note size root entries read on served holds.
      let same = served_top digest v top is note size root entries served in
      subst (λ (n : List ℕ). KeepsWhole digest n entries found m old new r) same.note_is
      (keeps_whole old new found m entries read on same.listed holds T r (h entries same.listed))

-- if nothing is served, the statement says nothing
pub nothing_whole : {T : Type 0} (digest : List ℕ → List ℕ) (v : View) → SaysServed digest v None →
    (old new : Option (List Put)) (r : Result T UpdateFault) → KeepsRecord old new → StaysWhole digest v old new r
nothing_whole digest v nothing None new r kept = tt
nothing_whole digest v nothing (Some old) None r kept = kept
nothing_whole digest v nothing (Some old) (Some new) r kept = λ found m note size root entries read on served holds.
    absurd (nothing note size root entries served)
