-- A walk over the notes of a mirror: the notes so far, and their files.
use Rattle.std.proofs.Common.{◌≡◌, ℕ, suc, ◌+◌, ◌<◌, ◌≤◌, List, [], ◌∷◌, ◌++◌, Some, None, Result, Ok, Err, inl, inr, length, map, take, drop, All}
use Rattle.std.proofs.Common.{refl, sym, ap, subst, ◌∙◌, get_or, arith}
use Rattle.std.specs.Prelude.{Bool, cond, Contains, IfOk, count_by, option_map, sum, slice_get}
use Rattle.std.proofs.lemmas.Option.{slice_get_within, slice_get-get_or, slice_get-map, get_or_from_slice_get, slice_get_cases, none-some}
use Rattle.std.proofs.lemmas.List.{append-nil, append_assoc, map-append, take_more, take_all, take-append-drop, take-map}
use Rattle.std.proofs.lemmas.List.Elements.{All-nil, All-cons, All-append, Contains-append_right}
use Rattle.std.proofs.lemmas.List.Sums.{sum-map}
use Rattle.std.proofs.lemmas.Simd.{map-map}
use Rattle.std.proofs.Math.Seq.{drop-cons}
use Rattle.mirror_model.specs.View.{View}
use Rattle.mirror_model.specs.Listed.{ListsNotes}
use Rattle.mirror_model.proofs.Listing.{notes_are_listed_once}
use Rattle.tlog_mirror.specs.NoteLists.{IsNoteAt}
use Rattle.program_io.specs.Named.{NamedFile}
use Rattle.state_commands.specs.NoteFiles.{HasHeads, HeadNote, IsFileAt, IsHeadNote, file_after, files_after, head_note, note_file}
use Rattle.state_commands.specs.NoteFiles.{files_of}
use Rattle.state_commands.specs.declared.note_list.HeadNote.{HeadNote as LentNote}
use Rattle.state_commands.specs.declared.note_list.NoteFile.{NoteFile}

-- counting in a mapped list is counting in the list with the test after the map
pub count_by-map :
    {X Y : Type 0} (p : Y → Bool) (f : X → Y) (xs : List X) →
    count_by p (map f xs) ≡ count_by (λ x. p (f x)) xs
count_by-map p f xs =
    sym (sum-map (λ y. cond (p y) 1 0) (map f xs)) ∙ ap sum (map-map (λ y. cond (p y) 1 0) f xs)
    ∙ sum-map (λ x. cond (p (f x)) 1 0) xs

-- the files of two lists of notes, one after the other
files_after-both :
    (before xs ys : List HeadNote) →
    files_after before (xs ++ ys) ≡ files_after before xs ++ files_after (before ++ xs) ys
files_after-both before [] ys = ap (λ (b : List HeadNote). files_after b ys) (sym (append-nil before))
files_after-both before (x ∷ xs) ys =
    let rest : List HeadNote → List NamedFile = λ b. files_after (before ++ x ∷ []) xs ++ files_after b ys in
    ap (λ (files : List NamedFile). file_after before x ∷ files)
    (files_after-both (before ++ x ∷ []) xs ys ∙ ap rest (append_assoc before (x ∷ []) xs))

module _ (heads : List HeadNote) (i : ℕ) (file : NamedFile) (at : IsFileAt heads i file) where
  within : i < length heads
  within = slice_get_within heads i at.head at.is_there

  here : get_or heads i at.head ≡ at.head
  here = get_or_from_slice_get heads i at.head at.head at.is_there

  -- the file of one more note is the last one
  pub files_more : (files : List NamedFile) → files ≡ files_of (take i heads) → files ++ file ∷ [] ≡ files_of (take (i + 1) heads)
  files_more files so_far =
      let more : take (i + 1) heads ≡ take i heads ++ at.head ∷ [] =
      take_more heads i at.head within ∙ ap (λ (h : HeadNote). take i heads ++ h ∷ []) here in
      ap (λ (fs : List NamedFile). fs ++ file ∷ []) so_far
      ∙ ap (λ (f : NamedFile). files_of (take i heads) ++ f ∷ []) at.file_is
      ∙ sym (ap files_of more ∙ files_after-both [] (take i heads) (at.head ∷ []))

  -- the file of each note is in the list of all files
  pub file_listed : Contains (files_of heads) file
  file_listed =
      let rest : List HeadNote = drop (suc i) heads in
      let parts : heads ≡ take i heads ++ at.head ∷ rest =
      sym (take-append-drop i heads)
      ∙ ap (λ (hs : List HeadNote). take i heads ++ hs) (drop-cons heads i at.head within)
      ∙ ap (λ (h : HeadNote). take i heads ++ h ∷ rest) here in
      let own : NamedFile = file_after (take i heads) at.head in
      let behind : List NamedFile = files_after (take i heads ++ at.head ∷ []) rest in
      let first : Contains (own ∷ behind) own = (0, omega arith, refl) in
      let split : files_of heads ≡ files_of (take i heads) ++ own ∷ behind =
      ap files_of parts ∙ files_after-both [] (take i heads) (at.head ∷ rest) in
      let listed : Contains (files_of heads) own =
      subst (λ (fs : List NamedFile). Contains fs own) (sym split)
      (Contains-append_right (files_of (take i heads)) (own ∷ behind) own first) in
      subst (λ (f : NamedFile). Contains (files_of heads) f) (sym at.file_is) listed

-- the file that a note gets after the earlier notes is the file at its index
pub file_found :
    {E : Type 0} (heads : List LentNote) (i : ℕ) (d : LentNote) (r : Result NoteFile E) → i < length heads →
    IfOk r (λ file. note_file file ≡ file_after (map head_note (take i heads)) (head_note (get_or heads i d))) →
    IfOk r (λ file. IsFileAt (map head_note heads) i (note_file file))
file_found heads i d (Ok file) lt is =
    let head : HeadNote = head_note (get_or heads i d) in
    record {
      head = head;
      is_there = slice_get-map head_note heads i ∙ ap (option_map head_note) (slice_get-get_or heads i d lt);
      file_is = is ∙ ap (λ (hs : List HeadNote). file_after hs head) (sym (take-map head_note i heads));
    }
file_found heads i d (Err fault) lt is = tt

abbrev pub notes_of : List HeadNote → List (List ℕ)
notes_of heads = map (λ (head : HeadNote). head.note) heads

-- these are the first `count` notes of the view, with their sizes and roots
pub record MeetsFirst (v : View) (count : ℕ) (heads : List HeadNote) : Type 0 where
  pub are_heads : All IsHeadNote heads
  pub begin : (notes : List (List ℕ)) → ListsNotes v notes → notes_of heads ≡ take count notes

pub meets_none : (v : View) → MeetsFirst v 0 []
meets_none v = record { are_heads = All-nil IsHeadNote; begin = λ notes lists. refl }

pub meets_more :
    (v : View) (count : ℕ) (heads : List HeadNote) (head : HeadNote) → IsHeadNote head →
    IsNoteAt v count (Some head.note) → MeetsFirst v count heads → MeetsFirst v (count + 1) (heads ++ head ∷ [])
meets_more v count heads head is at met =
    record {
      are_heads = All-append IsHeadNote heads (head ∷ []) met.are_heads
          (All-cons IsHeadNote head [] is (All-nil IsHeadNote));
      begin = λ notes lists.
          let same : at.0 ≡ notes = notes_are_listed_once v at.0 notes at.1 lists in
          let got : slice_get notes count ≡ Some head.note =
          subst (λ (ns : List (List ℕ)). slice_get ns count ≡ Some head.note) same at.2 in
          let within : count < length notes = slice_get_within notes count head.note got in
          let next : take (count + 1) notes ≡ take count notes ++ head.note ∷ [] =
          take_more notes count head.note within
          ∙ ap (λ (note : List ℕ). take count notes ++ note ∷ [])
          (get_or_from_slice_get notes count head.note head.note got) in
          let all : notes_of (heads ++ head ∷ []) ≡ notes_of heads ++ head.note ∷ [] =
          map-append (λ (h : HeadNote). h.note) heads (head ∷ []) in
          all ∙ ap (λ (ns : List (List ℕ)). ns ++ head.note ∷ []) (met.begin notes lists) ∙ sym next;
    }

-- after the last note, these are all notes
pub meets_all :
    (v : View) (count : ℕ) (heads : List HeadNote) → IsNoteAt v count None → MeetsFirst v count heads →
    HasHeads v heads
meets_all v count heads at met =
    let notes = at.0 in
    let past : length notes ≤ count =
    elim (slice_get_cases notes count).1 as (λ _. length notes ≤ count) [
      | inl found ↦ absurd (none-some found.0 (sym at.2 ∙ found.2))
      | inr end ↦ end.0
    ] in
    let same : notes_of heads ≡ notes = met.begin notes at.1 ∙ take_all count notes past in
    record { notes = subst (ListsNotes v) (sym same) at.1; are_heads = met.are_heads }
