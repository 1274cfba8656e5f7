use Rattle.std.proofs.Common.{◌≡◌, ◌+◌, take, get_or, arith}
use Rattle.std.specs.Prelude.{slice_range}
use Rattle.std.proofs.lemmas.Str.{IsCharBoundary-after_ascii}
use Rattle.std.specs.Str.{IsCharBoundary}
use Rattle.signed_note.specs.Names.{newline}
use Rattle.signed_note.specs.Notes.{IsBlank}
use Rattle.signed_note.proofs.Splits.{split_at_blank}
use Rattle.signed_note.proofs.parts.parts_of.Goals as goal

pub range_from-requires : goal.range_from-requires
range_from-requires c =
    let blank : IsBlank c.args.whole.now c.in_ok-at.at = rw c.as_bytes.ensures.value at c.in_ok-at.ensures.found in
    let here : get_or c.args.whole.now (c.in_ok-at.at + 1) 0 ≡ newline = blank.second in
    let two : c.in_ok-at.at + 1 + 1 ≡ c.in_ok-at.at + 2 = omega arith in
    let cut : IsCharBoundary c.args.whole.now (c.in_ok-at.at + 2) =
    rw two at
    (IsCharBoundary-after_ascii c.args.whole.now (c.in_ok-at.at + 1) c.utf8.whole blank.within
    (omega (arith, here))) in
    λ _. cut

pub returns-clause-found : goal.returns-clause-found
returns-clause-found c =
    let blank : IsBlank c.args.whole.now c.in_ok-at.at = rw c.as_bytes.ensures.value at c.in_ok-at.ensures.found in
    let front : slice_range c.args.whole.now 0 (c.in_ok-at.at + 1) ≡ take (c.in_ok-at.at + 1) c.args.whole.now =
    grind arith in
    rw (c.range.ensures.value, c.range_from.ensures.value, front)
    (split_at_blank c.args.whole.now c.in_ok-at.at blank (rw c.as_bytes.ensures.value at c.in_ok-at.ensures.last))

pub returns-in_err-at-clause-found : goal.returns-in_err-at-clause-found
returns-in_err-at-clause-found c = rw c.from_residual.ensures tt
