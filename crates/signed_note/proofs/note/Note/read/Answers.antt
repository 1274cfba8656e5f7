use Rattle.std.proofs.Common.{◌≡◌, ◌<◌, ◌≤◌, [], List, ℕ, sym, ◌∙◌, ap, arith}
use Rattle.std.specs.List.{list_all}
use Rattle.std.specs.Str.{chars}
use Rattle.std.proofs.lemmas.Bool.{false≢true}
use Rattle.std.proofs.lemmas.Result.{err_from_is_err_and}
use Rattle.signed_note.specs.Names.{is_note_char, IsNoteText}
use Rattle.signed_note.specs.Notes.{IsNoteSplit}
use Rattle.signed_note.specs.Reading.{line_count}
use Rattle.signed_note.specs.declared.limits.TheConstants.{MAX_LINES}
use Rattle.signed_note.proofs.Splits.{split_once, text_front}
use Rattle.signed_note.proofs.Readings.{no_bytes, note_text, passes_from_text, part_of, note_from_lines, note_refused}
use Rattle.signed_note.proofs.note.Note.read.Goals as goal

pub returns-then-not-is_note_text : goal.returns-then-not-is_note_text
returns-then-not-is_note_text c =
    let same = c.in-Ok.ensures.cases.0 in (
      omega arith,
      λ h.
          let passes = passes_from_text c.args.bytes.now h in
          let passed = c.is_note_text.ensures ∙ (ap (λ (x : List ℕ). list_all is_note_char (chars x)) same ∙ passes) in
          false≢true (sym c.if-not-is_note_text.true ∙ passed),
    )

pub returns-then-is_empty : goal.returns-then-is_empty
returns-then-is_empty c =
    let same = c.in-Ok.ensures.cases.0 in
    let readable : IsNoteText c.args.bytes.now =
    note_text c.args.bytes.now c.in-Ok.ensures.cases.1
    (ap (λ (x : List ℕ). list_all is_note_char (chars x)) (sym same) ∙
    (sym c.is_note_text.ensures ∙ c.if-not-is_note_text.false)) in
    let split : IsNoteSplit c.args.bytes.now c.in-Some.text.now c.in-Some.signed.now =
    rw same at c.in-Some.ensures.found in
    let empty : c.in-Some.signed.now ≡ [] =
    no_bytes c.in-Some.signed.now (sym c.is_empty.ensures ∙ c.if-is_empty.true) in (
      record { short = omega arith; readable = readable },
      λ text signed other.
          (split_once c.args.bytes.now text signed c.in-Some.text.now c.in-Some.signed.now other split).1 ∙ empty,
    )

pub returns-in_err-lines : goal.returns-in_err-lines
returns-in_err-lines c =
    let same = c.in-Ok.ensures.cases.0 in
    let part = part_of c.args.bytes.now _ c.in-Some.text.now c.in-Some.signed.now (omega arith) same
    c.in-Ok.ensures.cases.1 (sym c.is_note_text.ensures ∙ c.if-not-is_note_text.false) c.in-Some.ensures.found
    (sym c.is_empty.ensures ∙ c.if-is_empty.false) in
    let few : line_count c.in-Some.signed.now ≤ MAX_LINES =
    omega (arith, c.count_lines.ensures ∙ ap line_count c.as_bytes.ensures.value) in
    let p = err_from_is_err_and c.from_residual.result c.from_residual.ensures.1 in
    rw (p.1, p.2)
    (note_refused c.args.bytes.now c.in-Some.text.now c.in-Some.signed.now c.in_err-lines.field-0.0 part few
    c.in_err-lines.ensures)

pub invariant_of-result : goal.invariant_of-result
invariant_of-result c =
    let same = c.in-Ok.ensures.cases.0 in
    let part = part_of c.args.bytes.now _ c.in-Some.text.now c.in-Some.signed.now (omega arith) same
    c.in-Ok.ensures.cases.1 (sym c.is_note_text.ensures ∙ c.if-not-is_note_text.false) c.in-Some.ensures.found
    (sym c.is_empty.ensures ∙ c.if-is_empty.false) in
    let few : line_count c.in-Some.signed.now ≤ MAX_LINES =
    omega (arith, c.count_lines.ensures ∙ ap line_count c.as_bytes.ensures.value) in
    rw (
      c.in_ok-from_str.ensures.ok,
      same,
      text_front c.args.bytes.now c.in-Some.text.now c.in-Some.signed.now part.split,
    )
    (note_from_lines c.args.bytes.now c.in-Some.text.now c.in-Some.signed.now c.in_ok-lines.lines.items part few
    c.in_ok-lines.ensures)

pub returns : goal.returns
returns c =
    let same = c.in-Ok.ensures.cases.0 in
    let part = part_of c.args.bytes.now _ c.in-Some.text.now c.in-Some.signed.now (omega arith) same
    c.in-Ok.ensures.cases.1 (sym c.is_note_text.ensures ∙ c.if-not-is_note_text.false) c.in-Some.ensures.found
    (sym c.is_empty.ensures ∙ c.if-is_empty.false) in
    let few : line_count c.in-Some.signed.now ≤ MAX_LINES =
    omega (arith, c.count_lines.ensures ∙ ap line_count c.as_bytes.ensures.value) in (
      c.in_ok-from_str.ensures.ok ∙ same,
      rw (
        c.in_ok-from_str.ensures.ok,
        same,
        text_front c.args.bytes.now c.in-Some.text.now c.in-Some.signed.now part.split,
      )
          (note_from_lines c.args.bytes.now c.in-Some.text.now c.in-Some.signed.now c.in_ok-lines.lines.items part few
          c.in_ok-lines.ensures),
    )

pub returns-in_err-from_str : goal.returns-in_err-from_str
returns-in_err-from_str c =
    let exit = c.from_residual-in_err-from_str in
    let p = err_from_is_err_and exit.result exit.ensures.1 in
    rw (p.1, p.2) tt

pub returns-then-count_lines-gt-MAX_LINES : goal.returns-then-count_lines-gt-MAX_LINES
returns-then-count_lines-gt-MAX_LINES c =
    let same = c.in-Ok.ensures.cases.0 in
    let part = part_of c.args.bytes.now _ c.in-Some.text.now c.in-Some.signed.now (omega arith) same
    c.in-Ok.ensures.cases.1 (sym c.is_note_text.ensures ∙ c.if-not-is_note_text.false) c.in-Some.ensures.found
    (sym c.is_empty.ensures ∙ c.if-is_empty.false) in
    let many : MAX_LINES < line_count c.in-Some.signed.now =
    omega (arith, c.count_lines.ensures ∙ ap line_count c.as_bytes.ensures.value) in
    (c.in-Some.text.now, c.in-Some.signed.now, part, many)
