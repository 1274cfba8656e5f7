-- The order in which notes are put.
use Rattle.std.proofs.Common.{◌≡◌, ℕ, ◌+◌, ◌<◌, ◌≤◌, List, length, map, take, Option, Some, None, refl, sym, ap, subst, ◌∙◌}
use Rattle.std.proofs.Common.{inl, inr, arith, slice_get}
use Rattle.std.specs.Prelude.{Contains, ◌≢◌, ⊤}
use Rattle.std.specs.List.Sorted.{IsPermutation}
use Rattle.std.proofs.lemmas.Bool.{cases_eq}
use Rattle.std.proofs.lemmas.List.Elements.{All-contains}
use Rattle.std.proofs.lemmas.List.Sorted.{IsPermutation-refl, IsPermutation-trans}
use Rattle.std.proofs.lemmas.Option.{none-some, same_Some}
use Rattle.program_io.specs.declared.named.TheConstants.{MAX_FILE_LEN}
use Rattle.program_io.specs.Named.{NamedFile, HasContents, LacksFile, RecordsLong, contents_of}
use Rattle.program_io.proofs.NamedLemmas.{named_here}
use Rattle.state_commands.specs.NoteFiles.{HeadNote, IsFileAt, IsHeadNote, file_after, files_of}
use Rattle.state_commands.specs.NoteTexts.{HasReason, Reorders, RecordsOther, RecordsStanding, files_in, in_folder, note_place}
use Rattle.state_commands.specs.Ordered.{AreHeads, IsNoteWith, IsOrdered, RecordsFirst, SettlesFirst}
use Rattle.state_commands.proofs.NoteWalks.{file_listed}
use Rattle.state_commands.proofs.PutNotes.{other_recorded}
use Rattle.state_commands.proofs.Standing.{Exchanged, alike_sym, exchanged_points, heads_moved, listed_at, others_exchanged}
use Rattle.state_commands.proofs.Standing.{settled_all, settled_exchanged, settled_other, settled_same}

-- ---- one more name

-- the first notes are settled, and so are those with one more
abbrev Settles : Option (List NamedFile) → List ℕ → List HeadNote → ℕ → Type 0
Settles None folder heads i = ⊤
Settles (Some puts) folder heads i = SettlesFirst puts folder heads i → SettlesFirst puts folder heads (i + 1)

-- a note is short enough to be read
short_head : (heads : List HeadNote) (index : ℕ) (head : HeadNote) → AreHeads heads → slice_get heads index ≡ Some head →
    length head.note ≤ MAX_FILE_LEN
short_head heads index head are at =
    let is_head = All-contains IsHeadNote heads head are.are_heads (listed_at heads index head at) in
    let short : length head.note ≤ 1000000 = is_head.1.is_note.short in
    let most : MAX_FILE_LEN ≡ 16777472 = refl in
    omega (arith, short, most)

module _ (folder : List ℕ) (heads : List HeadNote) (i : ℕ) (file : NamedFile) (at : IsFileAt heads i file) where
  abbrev path : List ℕ
  path = (in_folder folder file).0

  path_is : path ≡ note_place folder (file_after (take i heads) at.head).0
  path_is = ap (λ (f : NamedFile). note_place folder f.0) at.file_is

  bytes_are : file.1 ≡ at.head.note
  bytes_are = ap (λ (f : NamedFile). f.1) at.file_is

  bytes_at : (puts : List NamedFile) →
      contents_of puts path ≡ contents_of puts (note_place folder (file_after (take i heads) at.head).0)
  bytes_at puts = ap (contents_of puts) path_is

  -- there is no such file
  pub settles_missing : (recorded : Option (List NamedFile)) → LacksFile recorded path → Settles recorded folder heads i
  settles_missing None lacks = tt
  settles_missing (Some puts) lacks = settled_other puts folder heads i at.head at.is_there
      (λ index head at_index alike is. none-some head.note (sym lacks ∙ (bytes_at puts ∙ is)))

  -- it is too long for a note
  pub settles_long : (recorded : Option (List NamedFile)) → AreHeads heads → RecordsLong recorded path →
      Settles recorded folder heads i
  settles_long None are long = tt
  settles_long (Some puts) are long = settled_other puts folder heads i at.head at.is_there
      (λ index head at_index alike is.
      let same : long.0 ≡ head.note = same_Some long.0 head.note (sym long.1 ∙ (bytes_at puts ∙ is)) in
      let more : MAX_FILE_LEN < length head.note = subst (λ bytes. MAX_FILE_LEN < length bytes) same long.2 in
      let short = short_head heads index head are at_index in
      omega (arith, more, short))

  -- it has the bytes of the note
  pub settles_same : (recorded : Option (List NamedFile)) (there : List ℕ) → AreHeads heads → HasContents recorded path there →
      there ≡ file.1 → Settles recorded folder heads i
  settles_same None there are has same = tt
  settles_same (Some puts) there are has same = settled_same puts folder heads i at.head are at.is_there
      (sym (bytes_at puts) ∙ (has ∙ ap Some (same ∙ bytes_are)))

  -- it has the bytes of no note of this size and root
  pub settles_strange : (recorded : Option (List NamedFile)) (there : List ℕ) → HasContents recorded path there →
      (there ≡ file.1 → ⊥) → ((j : ℕ) → j ≢ i → ¬ IsNoteWith heads i there j) → Settles recorded folder heads i
  settles_strange None there has other none = tt
  settles_strange (Some puts) there has other none = settled_other puts folder heads i at.head at.is_there
      (λ index head at_index alike is.
      let same : there ≡ head.note = same_Some there head.note (sym has ∙ (bytes_at puts ∙ is)) in
      elim (cases_eq index i) [
        | inl here ↦
            let own : head ≡ at.head = same_Some head at.head (sym at_index ∙ (ap (slice_get heads) here ∙ at.is_there)) in
            other (same ∙ (ap (λ (h : HeadNote). h.note) own ∙ sym bytes_are))
        | inr elsewhere ↦ none index elsewhere record {
          head = at.head;
          other = head;
          is_head = at.is_there;
          is_other = at_index;
          alike = alike_sym at.head head alike;
          bytes_are = sym same;
        }
      ])

module _ (recorded : Option (List NamedFile)) (folder : List ℕ) where
  ordered_first : (old heads : List HeadNote) (i : ℕ) → Settles recorded folder heads i → RecordsFirst recorded folder old heads i →
      RecordsFirst recorded folder old heads (i + 1)
  ordered_first old heads i settles before = recorded_first recorded settles before
    where
      recorded_first : (r : Option (List NamedFile)) → Settles r folder heads i → RecordsFirst r folder old heads i →
          RecordsFirst r folder old heads (i + 1)
      recorded_first None settles before = tt
      recorded_first (Some puts) settles before = (settles before.0, before.1)

  -- the notes stay as they were
  pub ordered_same : (old heads : List HeadNote) (i : ℕ) → (AreHeads heads → Settles recorded folder heads i) →
      IsOrdered recorded folder old heads i → IsOrdered recorded folder old heads (i + 1)
  ordered_same old heads i settles before = record {
    are_heads = before.are_heads;
    same_notes = before.same_notes;
    same_points = before.same_points;
    reason = before.reason;
    first = ordered_first old heads i (settles before.are_heads) before.first;
  }

  -- ---- two notes are exchanged

  abbrev FindsOther : List HeadNote → Type 0
  FindsOther heads = (file : NamedFile) × Contains (files_in folder heads) file × RecordsOther recorded file

  reason_trans : (a b c : List HeadNote) → HasReason recorded folder a b → HasReason recorded folder b c → HasReason recorded folder a c
  reason_trans a b c (inl same) (inl kept) = inl (kept ∙ same)
  reason_trans a b c (inl same) (inr found) = inr (subst FindsOther same found)
  reason_trans a b c (inr found) more = inr found

  in_listed : (files : List NamedFile) (file : NamedFile) → Contains files file →
      Contains (map (in_folder folder) files) (in_folder folder file)
  in_listed files file listed =
      subst (λ f. Contains (map (in_folder folder) files) (in_folder folder f)) listed.2
      (named_here (in_folder folder) files listed.0 file listed.1)

  pub ordered_exchanged :
      (old xs ys : List HeadNote) (i j : ℕ) (file : NamedFile) (there : List ℕ) → IsFileAt xs i file →
      IsNoteWith xs i there j → HasContents recorded (in_folder folder file).0 there → (there ≡ file.1 → ⊥) →
      IsPermutation xs ys → Exchanged xs ys i j → IsOrdered recorded folder old xs i →
      IsOrdered recorded folder old ys (i + 1)
  ordered_exchanged old xs ys i j file there at found has other permuted moved before =
      record {
        are_heads = heads_moved xs ys permuted before.are_heads;
        same_notes = IsPermutation-trans old xs ys before.same_notes permuted;
        same_points = exchanged_points xs ys i j found.head found.other found.is_head found.is_other found.alike moved
            ∙ before.same_points;
        reason = reason_trans old xs ys before.reason (inr (
          in_folder folder file,
          in_listed (files_of xs) file (file_listed xs i file at),
          other_recorded recorded (in_folder folder file) there has other,
        ));
        first = first_of_both recorded has before.first;
      }
    where
      own : at.head ≡ found.head
      own = same_Some at.head found.head (sym at.is_there ∙ found.is_head)

      first_of_both : (r : Option (List NamedFile)) → HasContents r (in_folder folder file).0 there →
          RecordsFirst r folder old xs i → RecordsFirst r folder old ys (i + 1)
      first_of_both None has first = tt
      first_of_both (Some puts) has first =
          let stands : contents_of puts (note_place folder (file_after (take i xs) found.head).0) ≡ Some found.other.note =
          sym (bytes_at folder xs i file at puts ∙
          ap (λ (h : HeadNote). contents_of puts (note_place folder (file_after (take i xs) h).0)) own)
          ∙ (has ∙ ap Some (sym found.bytes_are)) in
          let differs : found.other.note ≡ found.head.note → ⊥ =
          λ same. other (sym found.bytes_are ∙ (same ∙ sym (bytes_are folder xs i file at ∙ ap (λ (h : HeadNote). h.note) own))) in (
            settled_exchanged puts folder xs ys i j found.head found.other found.is_head found.is_other found.alike
                stands differs moved before.are_heads first.0,
            others_exchanged puts folder xs ys i j found.head found.other found.is_head found.is_other found.alike
                stands differs moved old before.same_notes before.same_points first.1,
          )

  -- ---- the first and the last index

  pub ordered_none : (heads : List HeadNote) → AreHeads heads → IsOrdered recorded folder heads heads 0
  ordered_none heads are = record {
    are_heads = are;
    same_notes = IsPermutation-refl heads;
    same_points = refl;
    reason = inl refl;
    first = first_none recorded;
  }
    where
      first_none : (r : Option (List NamedFile)) → RecordsFirst r folder heads heads 0
      first_none None = tt
      first_none (Some puts) = (
        λ index first head other at_index at_first lt alike under. absurd (omega (arith, lt)),
        λ index head at. inl at,
      )

  pub reordered : (old new : List HeadNote) (count : ℕ) → length new ≤ count → IsOrdered recorded folder old new count →
      Reorders recorded folder old new
  reordered old new count all ordered = record {
    same_notes = ordered.same_notes;
    same_points = ordered.same_points;
    reason = ordered.reason;
    standing = standing_all recorded ordered.first;
  }
    where
      standing_all : (r : Option (List NamedFile)) → RecordsFirst r folder old new count → RecordsStanding r folder old new
      standing_all None first = tt
      standing_all (Some puts) first = record {
        standing = settled_all puts folder old new count ordered.same_points all first.0;
        others = first.1;
      }
