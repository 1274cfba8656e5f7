-- Notes that are put in order.
use Rattle.std.proofs.Common.{◌≡◌, ℕ, ◌+◌, ◌<◌, ◌≤◌, zero, suc, List, [], ◌∷◌, ◌++◌, length, map, take, drop, get_or}
use Rattle.std.proofs.Common.{Option, Some, None, Result, Ok, Err, Bool, true, false, refl, sym, ap, subst, ◌∙◌, inl}
use Rattle.std.proofs.Common.{inr, arith}
use Rattle.std.specs.Prelude.{All, if◌then◌else◌, is_some}
use Rattle.std.specs.Str.{bytes_eq}
use Rattle.std.proofs.lemmas.List.{append-nil, append_assoc, map-append, take_more, take_all, take-append-drop}
use Rattle.std.proofs.lemmas.List.Elements.{All-cons, All-nil, All-weaker}
use Rattle.std.proofs.lemmas.Option.{none-some, same_Some}
use Rattle.std.proofs.lemmas.Slice.Eq.{bytes_eq-Decides}
use Rattle.program_io.specs.Named.{NamedFile}
use Rattle.program_io.specs.Named.{HasContents, LacksFile, RecordsReplace, contents_of}
use Rattle.state_commands.specs.NoteTexts.{IsRecorded, PutsEach, PutsFront, PutsOnce, PutsOne, RecordsOther}
use Rattle.state_commands.specs.NoteLaws.{KeepsFiles, NotesStand, PutsMissing}
use Rattle.program_io.specs.declared.file_fault.NamedFault.{NamedFault}
use Rattle.program_io.specs.declared.file_fault.NamedFault.TheVariants as named
use Rattle.program_io.proofs.NamedLemmas.{newer_named, standing_push}

-- ---- consequences of puts

kept_newer : (test : Bool) (found : Option (List ℕ)) (bytes given : List ℕ) → (test ≡ true → found ≡ None) →
    found ≡ Some bytes → (if test then Some given else found) ≡ Some bytes
kept_newer true found bytes given none is = absurd (none-some bytes (sym (none refl) ∙ is))
kept_newer false found bytes given none is = is

kept_once : (file : NamedFile) (old new : List NamedFile) (name bytes : List ℕ) → PutsOnce file old new →
    contents_of old name ≡ Some bytes → contents_of new name ≡ Some bytes
kept_once file old new name bytes (inl left) is = ap (λ puts. contents_of puts name) left.1 ∙ is
kept_once file old new name bytes (inr put) is =
    let none : bytes_eq file.0 name ≡ true → contents_of old name ≡ None =
    λ same. ap (contents_of old) (sym ((bytes_eq-Decides file.0 name).0 same)) ∙ put.0 in
    ap (λ puts. contents_of puts name) put.1 ∙
    (standing_push old file name ∙ kept_newer (bytes_eq file.0 name) (contents_of old name) bytes file.1 none is)

pub kept_files : KeepsFiles
kept_files [] old new name bytes puts is = ap (λ list. contents_of list name) puts ∙ is
kept_files (file ∷ files) old new name bytes puts is =
    kept_files files puts.0 new name bytes puts.2 (kept_once file old puts.0 name bytes puts.1 is)

stands_once : (file : NamedFile) (old new : List NamedFile) → PutsOnce file old new → contents_of new file.0 ≡ Some file.1
stands_once file old new (inl left) = ap (λ puts. contents_of puts file.0) left.1 ∙ left.0
stands_once file old new (inr put) =
    ap (λ puts. contents_of puts file.0) put.1 ∙
    (standing_push old file file.0 ∙
    newer_named (contents_of old file.0) file file.0 ((bytes_eq-Decides file.0 file.0).1 refl))

notes_stand_at : (files old new : List NamedFile) (file : NamedFile) (k : ℕ) → PutsEach files old new →
    k < length files → get_or files k file ≡ file → contents_of new file.0 ≡ Some file.1
notes_stand_at [] old new file k puts lt at = absurd (omega (arith, lt))
notes_stand_at (first ∷ files) old new file zero puts lt at =
    kept_files files puts.0 new file.0 file.1 puts.2
    (subst (λ f. contents_of puts.0 f.0 ≡ Some f.1) at (stands_once first old puts.0 puts.1))
notes_stand_at (first ∷ files) old new file (suc k) puts lt at =
    notes_stand_at files puts.0 new file k puts.2 (omega (arith, lt)) at

pub notes_stand : NotesStand
notes_stand files old new file puts listed = notes_stand_at files old new file listed.0 puts listed.1 listed.2

missing_before : (file : NamedFile) (old new : List NamedFile) (name : List ℕ) → PutsOnce file old new →
    contents_of new name ≡ None → contents_of old name ≡ None
missing_before file old new name once none = elim (contents_of old name) as (λ o. contents_of old name ≡ o → o ≡ None) [
  | None ↦ λ is. refl
  | Some bytes ↦ λ is. absurd (none-some bytes (sym none ∙ kept_once file old new name bytes once is))
] refl

pub puts_missing : PutsMissing
puts_missing [] old new puts = ([], puts ∙ sym (append-nil old), All-nil (λ (f : NamedFile). contents_of old f.0 ≡ None))
puts_missing (file ∷ files) old new puts =
    let rest = puts_missing files puts.0 new puts.2 in
    let still : All (λ (f : NamedFile). contents_of old f.0 ≡ None) rest.0 =
    All-weaker (λ (f : NamedFile). contents_of puts.0 f.0 ≡ None) (λ (f : NamedFile). contents_of old f.0 ≡ None)
    (λ f none. missing_before file old puts.0 f.0 puts.1 none) rest.0 rest.2 in
    elim puts.1 [
      | inl left ↦ (rest.0, rest.1 ∙ ap (λ (list : List NamedFile). list ++ rest.0) left.1, still)
      | inr put ↦ (
        file ∷ rest.0,
        rest.1 ∙ (ap (λ (list : List NamedFile). list ++ rest.0) put.1 ∙ append_assoc old (file ∷ []) rest.0),
        All-cons (λ (f : NamedFile). contents_of old f.0 ≡ None) file rest.0 put.0 still,
      )
    ]

-- ---- puts that may be recorded

each_push : (files : List NamedFile) (file : NamedFile) (old between new : List NamedFile) →
    PutsEach files old between → PutsOnce file between new → PutsEach (files ++ file ∷ []) old new
each_push [] file old between new is once = (new, subst (λ puts. PutsOnce file puts new) is once, refl)
each_push (first ∷ files) file old between new each once =
    (each.0, each.1, each_push files file each.0 between new each.2 once)

pub recorded_more : (files : List NamedFile) (file : NamedFile) (old between new : Option (List NamedFile)) →
    IsRecorded (PutsEach files) old between → IsRecorded (PutsOnce file) between new →
    IsRecorded (PutsEach (files ++ file ∷ [])) old new
recorded_more files file None between new each once = tt
recorded_more files file (Some old) None new each once = absurd each
recorded_more files file (Some old) (Some between) None each once = absurd once
recorded_more files file (Some old) (Some between) (Some new) each once = each_push files file old between new each once

-- ---- one note

pub put_new : {T : Type 0} (old new : Option (List NamedFile)) (file : NamedFile) (r : Result T NamedFault) →
    LacksFile old file.0 → RecordsReplace old new file r → PutsOne old new file r
put_new None new file (Ok x) absent recorded = tt
put_new (Some old) None file (Ok x) absent recorded = absurd recorded
put_new (Some old) (Some new) file (Ok x) absent recorded = inr (absent, recorded)
put_new None new file (Err named.FileFault) absent recorded = (recorded.0, tt)
put_new (Some old) new file (Err named.FileFault) absent recorded = absurd (none-some old (sym recorded.1))
put_new old new file (Err named.OutOfMemory) absent recorded = (recorded.0, tt)

-- a file with this name has other bytes
pub other_recorded : (recorded : Option (List NamedFile)) (file : NamedFile) (there : List ℕ) → HasContents recorded file.0 there →
    (there ≡ file.1 → ⊥) → RecordsOther recorded file
other_recorded None file there stands other = tt
other_recorded (Some puts) file there stands other =
    record {
      present = ap is_some stands;
      differs = λ is. absurd (other (same_Some there file.1 (sym stands ∙ is)));
    }

-- ---- several notes

module _ {X : Type 0} (seen : X → NamedFile) (xs : List X) (i : ℕ) (x : X) (within : i < length xs)
    (at : x ≡ get_or xs i x) where
  abbrev so_far : List NamedFile
  so_far = map seen (take i xs)

  more : map seen (take (i + 1) xs) ≡ so_far ++ seen x ∷ []
  more = ap (map seen) (take_more xs i x within ∙ ap (λ y. take i xs ++ y ∷ []) (sym at)) ∙
      map-append seen (take i xs) (x ∷ [])

  parts : map seen xs ≡ so_far ++ seen x ∷ map seen (drop (i + 1) xs)
  parts =
      ap (map seen) (sym (take-append-drop (i + 1) xs)) ∙ (map-append seen (take (i + 1) xs) (drop (i + 1) xs)
      ∙ (ap (λ list. list ++ map seen (drop (i + 1) xs)) more ∙
      append_assoc so_far (seen x ∷ []) (map seen (drop (i + 1) xs))))

  pub puts_more : (old between new : Option (List NamedFile)) → IsRecorded (PutsEach so_far) old between →
      IsRecorded (PutsOnce (seen x)) between new → IsRecorded (PutsEach (map seen (take (i + 1) xs))) old new
  puts_more old between new each once =
      subst (λ files. IsRecorded (PutsEach files) old new) (sym more) (recorded_more so_far (seen x) old between new each once)

  pub puts_front : (old between new : Option (List NamedFile)) (fault : NamedFault) →
      IsRecorded (PutsEach so_far) old between → PutsOne {T = Unit {0}} between new (seen x) (Err fault) →
      PutsFront (map seen xs) old new fault
  puts_front old between new fault each one =
      record {
        before =
            so_far;
        file =
            seen x;
        after =
            map seen (drop (i + 1) xs);
        stopped = between;
        files_are = parts;
        recorded = each;
        stops = one.1;
        kept = one.0;
      }

pub puts_all : {X : Type 0} (seen : X → NamedFile) (xs : List X) (i : ℕ) (old new : Option (List NamedFile)) →
    length xs ≤ i → IsRecorded (PutsEach (map seen (take i xs))) old new → IsRecorded (PutsEach (map seen xs)) old new
puts_all seen xs i old new le each = subst (λ list. IsRecorded (PutsEach (map seen list)) old new) (take_all i xs le) each
