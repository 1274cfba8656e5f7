use Rattle.std.proofs.Common.{◌≡◌, ℕ, List, map, Ok, Err, true, not, sym, ap, subst, ◌∙◌}
use Rattle.std.specs.Prelude.{option_map, ◌≢◌}
use Rattle.std.specs.Str.{bytes_eq}
use Rattle.std.proofs.lemmas.Bool.{false≢true, not-false}
use Rattle.std.proofs.lemmas.Slice.Eq.{bytes_eq-Decides}
use Rattle.std.proofs.lemmas.List.Sorted.{IsPermutation-map}
use Rattle.program_io.specs.Named.{FindsFile, HasContents, LacksFile, RecordsLong}
use Rattle.program_io.specs.declared.file_fault.NamedFault.{NamedFault}
use Rattle.state_commands.specs.NoteFiles.{head_note, note_file}
use Rattle.state_commands.specs.NoteTexts.{in_folder, note_place}
use Rattle.state_commands.specs.Ordered.{IsNoteWith}
use Rattle.state_commands.proofs.Reordering.{ordered_exchanged, ordered_same, settles_long, settles_missing, settles_same, settles_strange}
use Rattle.state_commands.proofs.Standing.{exchanged}
use Rattle.state_commands.proofs.noted.exchange_found.Goals as goal
use Rattle.state_commands.proofs.noted.exchange_found.Goals.{in-Ok-Some, then-ne+in-Some, then-ne+in-None, else-ne, in-Ok-None, in-Err-FileFault}

pub returns : goal.returns
returns g c =
    let recorded = g.F.NamedFiles.puts c.args.files.now in
    let folder = c.args.folder.now in
    let i = c.args.i in
    let heads = map head_note c.args.heads.now in
    let file = note_file c.in_ok-file.file in
    let at = c.in_ok-file.ensures in
    let named : c.deref-2.result.now ≡ (in_folder folder file).0 =
    c.deref-2.ensures ∙ (c.in_ok-place.ensures ∙ ap (note_place folder) c.deref.ensures) in
    elim c.match-find.branch [
      | in-Ok-Some w ↦
          let there = w.in-Ok-Some.there.items in
          let found : HasContents recorded c.deref-2.result.now there =
          subst (λ o. FindsFile recorded c.deref-2.result.now (Ok (option_map (λ b. b.items) o)))
          w.in-Ok-Some.field-0-is w.in-Ok-Some.ensures in
          let stands : HasContents recorded (in_folder folder file).0 there =
          subst (λ (name : List ℕ). HasContents recorded name there) named found in
          elim w.if-ne.branch [
            | then-ne+in-Some v ↦ rw (w.heads-is, v.heads-is) (λ first before.
                let j = v.in-Some.j in
                let ys = v.swap.new.self in
                let other : there ≡ file.1 → ⊥ = λ same.
                let yes : bytes_eq w.as_slice.result.now file.1 ≡ true =
                (bytes_eq-Decides w.as_slice.result.now file.1).1 (w.as_slice.ensures.value ∙ same) in
                false≢true (sym (ap not yes) ∙ (sym w.ne.ensures ∙ v.if-ne.true)) in
                let found : IsNoteWith heads i there j =
                subst (λ bytes. IsNoteWith heads i bytes j) v.deref-then-ne.ensures.value v.in-Some.ensures.found in
                ordered_exchanged recorded folder first heads (map head_note ys) i j file there at found stands other
                (IsPermutation-map head_note c.args.heads.now ys v.swap.ensures.permutation)
                (exchanged head_note c.args.heads.now ys i j c.requires v.in-Some.ensures.within v.swap.ensures.len
                v.swap.ensures.by_index) before)
            | then-ne+in-None v ↦ rw (w.heads-is, v.heads-is) (λ first before.
                let other : there ≡ file.1 → ⊥ = λ same.
                let yes : bytes_eq w.as_slice.result.now file.1 ≡ true =
                (bytes_eq-Decides w.as_slice.result.now file.1).1 (w.as_slice.ensures.value ∙ same) in
                false≢true (sym (ap not yes) ∙ (sym w.ne.ensures ∙ v.if-ne.true)) in
                let none : (j : ℕ) → j ≢ i → ¬ IsNoteWith heads i there j =
                subst (λ bytes. (j : ℕ) → j ≢ i → ¬ IsNoteWith heads i bytes j) v.deref-then-ne.ensures.value
                v.in-None.ensures.none in
                ordered_same recorded folder first heads i
                (λ are. settles_strange folder heads i file at recorded there stands other none) before)
            | else-ne v ↦ rw (w.heads-is, v.heads-is) (λ first before.
                let same : bytes_eq w.as_slice.result.now file.1 ≡ true =
                not-false (bytes_eq w.as_slice.result.now file.1) (sym w.ne.ensures ∙ v.if-ne.false) in
                let is : there ≡ file.1 =
                sym w.as_slice.ensures.value ∙ (bytes_eq-Decides w.as_slice.result.now file.1).0 same in
                ordered_same recorded folder first heads i
                (λ are. settles_same folder heads i file at recorded there are stands is) before)
          ]
      | in-Ok-None w ↦ rw w.heads-is (λ first before.
          let found : LacksFile recorded c.deref-2.result.now =
          subst (λ o. FindsFile recorded c.deref-2.result.now (Ok (option_map (λ b. b.items) o)))
          w.in-Ok-None.field-0-is w.in-Ok-None.ensures in
          let lacks : LacksFile recorded (in_folder folder file).0 =
          subst (λ (name : List ℕ). LacksFile recorded name) named found in
          ordered_same recorded folder first heads i (λ are. settles_missing folder heads i file at recorded lacks) before)
      | in-Err-FileFault w ↦ rw w.heads-is (λ first before.
          let found : RecordsLong recorded c.deref-2.result.now =
          subst (λ (fault : NamedFault). FindsFile recorded c.deref-2.result.now (Err fault)) w.in-Err-FileFault.field-0-is
          w.in-Err-FileFault.ensures in
          let long : RecordsLong recorded (in_folder folder file).0 =
          subst (λ (name : List ℕ). RecordsLong recorded name) named found in
          ordered_same recorded folder first heads i (λ are. settles_long folder heads i file at recorded are long) before)
    ]
