-- The files that an update puts, by the answers of its parts.
use Rattle.std.proofs.Common.{◌≡◌, ℕ, ◌+◌, ◌<◌, ◌≤◌, List, length, Option, Some, None, Result, Ok, Err, refl, sym, subst, ◌∙◌}
use Rattle.std.proofs.Common.{inl, inr, arith}
use Rattle.node_store.specs.Strings.{Strings}
use Rattle.tlog_hash.specs.Tree.{mth}
use Rattle.tlog_hash.specs.Rows.{part}
use Rattle.mirror_model.specs.View.{View}
use Rattle.mirror_model.specs.Complete.{IsTreeOf}
use Rattle.mirror_model.specs.Served.{IsCompleteNote, IsServedList, Served}
use Rattle.mirror_model.specs.Heads.{IsHead}
use Rattle.mirror_model.proofs.HeadNotes.{head_once}
use Rattle.mirror_model.proofs.OneLists.{at_most_both}
use Rattle.mirror_model.specs.Reports.{SaysServed}
use Rattle.mirror_trees.specs.Tops.{Top, IsListOf, IsServedTop}
use Rattle.mirror_trees.proofs.ServedParts.{list_of, listed}
use Rattle.mirror_sources.specs.Recorded.{Rose}
use Rattle.mirror_folders.specs.Shelf.{CountsError, Put}
use Rattle.mirror_files.specs.Faults.{update_of_shelf}
use Rattle.mirror_folders.specs.Since.{files_since}
use Rattle.mirror_files.specs.Beginnings.{Begins, FindsSince, FindsSize, PutsPrefixTop, ReadsPoint, TopGoesOn}
use Rattle.mirror_files.specs.Beginnings.{TopGoesOnFound, TopStandsOther, UpdatesTop}
use Rattle.mirror_files.specs.Updates.{CountsUpdate, GoesOn, GoesOnFrom, IsFilesSince, PutsPrefixSince, StandsOther}
use Rattle.mirror_files.specs.Updates.{Updates}
use Rattle.mirror_folders.specs.declared.shelf.ShelfError.{ShelfError}
use Rattle.mirror_folders.specs.declared.shelf.ShelfError.TheVariants.{Failed}
use Rattle.mirror_folders.specs.declared.shelf.ShelfError.TheVariants as shelf
use Rattle.mirror_files.specs.declared.export_fault.UpdateFault.{UpdateFault}
use Rattle.mirror_files.specs.declared.export_fault.UpdateFault.TheVariants.{NothingComplete, OtherLog, ShelfFault, OutOfMemory}
use Rattle.mirror_files.proofs.Exported.{one_more_rose}

-- ---- the size that is found

pub no_point : (digest : List ℕ → List ℕ) (top : Top) (origin checkpoint : List ℕ) (fault : UpdateFault) →
    ReadsPoint checkpoint origin (Err fault) → FindsSize digest top origin checkpoint (Err fault)
no_point digest top origin checkpoint NothingComplete h = h
no_point digest top origin checkpoint OtherLog h = λ m root entries head is begins. h m root head
no_point digest top origin checkpoint ShelfFault h = h
no_point digest top origin checkpoint OutOfMemory h = tt

module _ (digest : List ℕ → List ℕ) (top : Top) (origin checkpoint : List ℕ) (size : ℕ) (root : List ℕ)
    (is : IsHead checkpoint origin size root) where
  pub found : (hash : List ℕ) → ((entries : List (List ℕ)) → IsListOf digest top entries →
      (0 + size ≤ length entries) × (hash ≡ mth digest (part 0 size entries))) → hash ≡ root →
      TopGoesOn digest top origin checkpoint size
  found hash h same = record {
    root = root;
    is_head = is;
    begins = λ entries listed_in. record {
      within = (h entries listed_in).0;
      root_is = sym same ∙ (h entries listed_in).1;
    };
  }

  pub other_root : (hash : List ℕ) → ((entries : List (List ℕ)) → IsListOf digest top entries →
      (0 + size ≤ length entries) × (hash ≡ mth digest (part 0 size entries))) → (hash ≡ root → ⊥) →
      (m : ℕ) (r : List ℕ) (entries : List (List ℕ)) → IsHead checkpoint origin m r → IsListOf digest top entries →
      Begins digest entries m r → ⊥
  other_root hash h other m r entries head listed_in begins =
      let one = head_once checkpoint origin origin size m root r is head in
      let same : r ≡ mth digest (part 0 size entries) =
      subst (λ k. r ≡ mth digest (part 0 k entries)) (sym one.size_is) begins.root_is in
      other ((h entries listed_in).1 ∙ (sym same ∙ sym one.root_is))

  pub too_large : ((entries : List (List ℕ)) → IsListOf digest top entries → length entries < 0 + size) →
      (m : ℕ) (r : List ℕ) (entries : List (List ℕ)) → IsHead checkpoint origin m r → IsListOf digest top entries →
      Begins digest entries m r → ⊥
  too_large h m r entries head listed_in begins =
      let one = head_once checkpoint origin origin size m root r is head in
      let size_is = one.size_is in
      let short = h entries listed_in in
      let within = begins.within in
      omega (arith, size_is, short, within)

-- ---- the count of failures

pub count_of : (T : Type 0) (old new : ℕ) (e : ShelfError) → CountsError old new e →
    CountsUpdate {T = T} old new (Err (update_of_shelf e))
count_of T old new Failed p = subst (λ n. Rose old n) (sym p) (one_more_rose old)
count_of T old new shelf.OutOfMemory p = p

abbrev pub answer_of : (T : Type 0) → UpdateFault → Result T UpdateFault
answer_of T fault = Err fault

pub not_counted : (digest : List ℕ → List ℕ) (T : Type 0) (top : Top) (origin : List ℕ) (found : Option (List ℕ))
    (old new : ℕ) (fault : UpdateFault) → FindsSince digest top origin found (Err fault) → new ≡ old →
    CountsUpdate old new (answer_of T fault)
not_counted digest T top origin None old new fault h e = absurd h
not_counted digest T top origin (Some checkpoint) old new NothingComplete h e = absurd h
not_counted digest T top origin (Some checkpoint) old new OtherLog h e = e
not_counted digest T top origin (Some checkpoint) old new ShelfFault h e = absurd h
not_counted digest T top origin (Some checkpoint) old new OutOfMemory h e = e

-- ---- the files that were put, in terms of the top

-- the size that was found
pub top_goes_on : (digest : List ℕ → List ℕ) (top : Top) (origin : List ℕ) (found : Option (List ℕ)) (m : ℕ) →
    FindsSince digest top origin found (Ok m) → TopGoesOnFound digest top origin found m
top_goes_on digest top origin None m h = h
top_goes_on digest top origin (Some checkpoint) m h = h

-- ---- the files that were put, in terms of the served log

module _ (digest : List ℕ → List ℕ) (v : View) (top : Top) (is : IsServedTop digest v top) where
  -- the served log is that of the top
  pub record IsTop (note : List ℕ) (size : ℕ) (entries : List (List ℕ)) : Type 0 where
    pub note_is : top.note ≡ note
    pub size_is : top.size ≡ size
    pub listed : IsListOf digest top entries

  pub served_top : (note : List ℕ) (size : ℕ) (root : List ℕ) (es : List (List ℕ)) → Served digest v note size root es →
      IsTop note size es
  served_top note size root es q =
      let p = is.served.served in
      let is_p : IsCompleteNote digest v top.note top.size top.root =
      record { holds = p.holds; built = record { entries = is.served.entries; is = p.tree } } in
      let is_q : IsCompleteNote digest v note size root =
      record { holds = q.holds; built = record { entries = es; is = q.tree } } in
      let le : size ≤ top.size = p.greatest_size note size root is_q in
      let ge : top.size ≤ size = q.greatest_size top.note top.size top.root is_p in
      let size_is : top.size ≡ size = omega (arith, le, ge) in
      let q_size : IsCompleteNote digest v note top.size root =
      subst (λ m. IsCompleteNote digest v note m root) (sym size_is) is_q in
      let p_size : IsCompleteNote digest v top.note size top.root =
      subst (λ m. IsCompleteNote digest v top.note m top.root) size_is is_p in
      let root_is : top.root ≡ root =
      at_most_both top.root root (p.least_root note root q_size) (q.least_root top.note top.root p_size) in
      let q_root : IsCompleteNote digest v note top.size top.root =
      subst (λ h. IsCompleteNote digest v note top.size h) (sym root_is) q_size in
      let p_root : IsCompleteNote digest v top.note size root =
      subst (λ h. IsCompleteNote digest v top.note size h) root_is p_size in
      record {
        note_is = at_most_both top.note note (p.least_note note q_root) (q.least_note top.note p_root);
        size_is = size_is;
        listed = subst (λ (s : Strings). IsTreeOf digest s top.size top.root es) (sym is.strings_are)
            (subst (λ n. IsTreeOf digest v.strings n top.root es) (sym size_is)
            (subst (λ r. IsTreeOf digest v.strings size r es) (sym root_is) q.tree));
      }

  pub served_listed : (es : List (List ℕ)) → IsServedList digest v es → IsListOf digest top es
  served_listed es q = (served_top q.note q.size q.root es q.served).listed

  goes_on : (found : Option (List ℕ)) (m : ℕ) → TopGoesOnFound digest top v.origin found m → GoesOn digest v found m
  goes_on None m h = h
  goes_on (Some checkpoint) m h =
      let begins = h.begins is.served.entries (list_of digest v top is) in
      record {
        root = h.root;
        is_head = h.is_head;
        begins = record {
          entries = is.served.entries;
          served = listed digest v top is;
          within = begins.within;
          hash_is = begins.root_is;
        };
      }

  not_on : (checkpoint : List ℕ) → FindsSize digest top v.origin checkpoint (Err OtherLog) →
      (m : ℕ) → GoesOnFrom digest v checkpoint m → ⊥
  not_on checkpoint h m on =
      h m on.root on.begins.entries on.is_head (served_listed on.begins.entries on.begins.served)
      (record { within = on.begins.within; root_is = on.begins.hash_is })

  pub not_nothing : SaysServed digest v None → ⊥
  not_nothing nothing = nothing top.note top.size top.root is.served.entries is.served.served

  abbrev E : List (List ℕ)
  E = is.served.entries

  abbrev files : ℕ → List Put
  files m = files_since digest top.note E m top.size

  abbrev are_since : (found : Option (List ℕ)) (m : ℕ) → TopGoesOnFound digest top v.origin found m →
      IsFilesSince digest v found (files m)
  are_since found m on = record {
    note = top.note;
    size = top.size;
    root = top.root;
    entries = E;
    m = m;
    served = is.served.served;
    goes_on = goes_on found m on;
    files_are = refl;
  }

  put_first : (old new : Option (List Put)) → PutsPrefixTop digest top v.origin E old new →
      PutsPrefixSince digest v old new
  put_first old new p = record {
    found = p.found;
    read = p.read;
    files = files p.m;
    are_since = are_since p.found p.m p.goes_on;
    front = p.front;
  }

  stands_other : (old : Option (List Put)) → TopStandsOther digest top v.origin old → StandsOther digest v old
  stands_other None h = tt
  stands_other (Some puts) h = (h.0, h.1, not_on h.0 h.2)

  pub updates_of : {T : Type 0} (old new : Option (List Put)) (r : Result T UpdateFault) →
      UpdatesTop digest top v.origin E old new r → Updates digest v old new r
  updates_of old new (Ok x) p = record {
    found = p.found;
    read = p.read;
    files = files p.m;
    are_since = are_since p.found p.m p.goes_on;
    recorded = p.recorded;
  }
  updates_of old new (Err NothingComplete) p = absurd p
  updates_of old new (Err OtherLog) p = (p.0, stands_other old p.1)
  updates_of old new (Err ShelfFault) p = elim p [ inl kept ↦ inl kept | inr some ↦ inr (put_first old new some) ]
  updates_of old new (Err OutOfMemory) p = elim p [ inl kept ↦ inl kept | inr some ↦ inr (put_first old new some) ]
