use Rattle.std.proofs.Common.{lit<}
use Rattle.std.specs.Prelude.{Some, None}
use Rattle.std.proofs.lemmas.Str.Pattern.{split_parts}
use Rattle.signed_note.specs.Names.{space}
use Rattle.signed_note.proofs.Lacking.{Lacks-from_reads}
use Rattle.signed_note.proofs.KeyWords.{no_space, one_space, no_id}
use Rattle.signed_note.proofs.key_words.words_of.Goals as goal

pub returns-in_err-name-clause-none : goal.returns-in_err-name-clause-none
returns-in_err-name-clause-none c =
    let none = split_parts space c.args.text.now None c.in_err-name.ensures.cases (lit< tt) in
    rw c.from_residual.ensures
    (λ name digits id own w. no_space c.args.text.now name digits id
    (Lacks-from_reads space c.args.text.now none) w)

pub returns-in_err-id_digits-clause-none : goal.returns-in_err-id_digits-clause-none
returns-in_err-id_digits-clause-none c =
    let first =
    split_parts space c.args.text.now (Some (c.in_ok-name.name, c.in_ok-name.rest)) c.in_ok-name.ensures.cases
    (lit< tt) in
    let none = split_parts space c.in_ok-name.rest.now None c.in_err-id_digits.ensures.cases (lit< tt) in
    rw c.from_residual-in_err-id_digits.ensures (λ name digits id own w.
    one_space c.args.text.now c.in_ok-name.name.now c.in_ok-name.rest.now name digits id first.0
    (Lacks-from_reads space c.in_ok-name.name.now first.1)
    (Lacks-from_reads space c.in_ok-name.rest.now none) own w)

pub returns-in_err-id-clause-none : goal.returns-in_err-id-clause-none
returns-in_err-id-clause-none c =
    let first =
    split_parts space c.args.text.now (Some (c.in_ok-name.name, c.in_ok-name.rest)) c.in_ok-name.ensures.cases
    (lit< tt) in
    let second =
    split_parts space c.in_ok-name.rest.now
    (Some (c.in_ok-id_digits.id_digits, c.in_ok-id_digits.digits)) c.in_ok-id_digits.ensures.cases (lit< tt) in
    rw c.from_residual-in_err-id.ensures (λ name digits id own w.
    no_id c.args.text.now c.in_ok-name.name.now c.in_ok-id_digits.id_digits.now c.in_ok-id_digits.digits.now name digits
    id (rw second.0 at first.0)
    (Lacks-from_reads space c.in_ok-name.name.now first.1)
    (Lacks-from_reads space c.in_ok-id_digits.id_digits.now second.1) c.in_err-id.ensures.none own w)

pub returns-clause-first : goal.returns-clause-first
returns-clause-first c =
    let first =
    split_parts space c.args.text.now (Some (c.in_ok-name.name, c.in_ok-name.rest)) c.in_ok-name.ensures.cases
    (lit< tt) in
    first.1

pub returns-in_err-name-clause-found : goal.returns-in_err-name-clause-found
returns-in_err-name-clause-found c = rw c.from_residual.ensures tt

pub returns-in_err-name-clause-first : goal.returns-in_err-name-clause-first
returns-in_err-name-clause-first c = rw c.from_residual.ensures tt

pub returns-in_err-id_digits-clause-found : goal.returns-in_err-id_digits-clause-found
returns-in_err-id_digits-clause-found c = rw c.from_residual-in_err-id_digits.ensures tt

pub returns-in_err-id_digits-clause-first : goal.returns-in_err-id_digits-clause-first
returns-in_err-id_digits-clause-first c = rw c.from_residual-in_err-id_digits.ensures tt

pub returns-in_err-id-clause-found : goal.returns-in_err-id-clause-found
returns-in_err-id-clause-found c = rw c.from_residual-in_err-id.ensures tt

pub returns-in_err-id-clause-first : goal.returns-in_err-id-clause-first
returns-in_err-id-clause-first c = rw c.from_residual-in_err-id.ensures tt
