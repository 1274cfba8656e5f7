use Rattle.std.proofs.lemmas.Result.{IfOk-from_err}
use Rattle.mirror_files.specs.declared.items.Form.TheVariants.{Short, Long, Hashes}
use Rattle.mirror_files.proofs.ListLemmas.{parted_notes, next_stands, last_stands, parted_found}
use Rattle.mirror_files.proofs.lists.parted_at.Goals as goal

pub returns-in_default-2-clause-none : goal.returns-in_default-2-clause-none
returns-in_default-2-clause-none c = λ origin notes pairs entries rest h.
    let o = c.in-Some.ensures.found in
    let none = rw c.in_default-2.is at c.in_ok-notes.ensures.none in
    none notes _ (parted_notes _ _ _ rest origin notes pairs entries o.0 o.1 h)

pub returns-in_default-3-clause-none : goal.returns-in_default-3-clause-none
returns-in_default-3-clause-none c = λ origin notes pairs entries rest h.
    let o = c.in-Some.ensures.found in
    let n = rw c.in-Some-2.is at c.in_ok-notes.ensures.found in
    let none = rw c.in_default-3.is at c.in_ok-pairs.ensures.none in
    none pairs _ (next_stands Long Hashes _ _ _ rest _ notes pairs n
    (parted_notes _ _ _ rest origin notes pairs entries o.0 o.1 h) h.are_parts.pairs_fit)

pub returns-in_default-4-clause-none : goal.returns-in_default-4-clause-none
returns-in_default-4-clause-none c = λ origin notes pairs entries rest h.
    let o = c.in-Some.ensures.found in
    let n = rw c.in-Some-2.is at c.in_ok-notes.ensures.found in
    let p = rw c.in-Some-3.is at c.in_ok-pairs.ensures.found in
    let none = rw c.in_default-4.is at c.in_ok-entries.ensures.none in
    let q = next_stands Long Hashes _ _ _ rest _ notes pairs n
    (parted_notes _ _ _ rest origin notes pairs entries o.0 o.1 h) h.are_parts.pairs_fit in
    none entries _ (last_stands Hashes Short _ _ rest _ pairs entries p q h.are_parts.entries_fit)

pub returns-clause-found : goal.returns-clause-found
returns-clause-found c =
    let o = c.in-Some.ensures.found in
    let n = rw c.in-Some-2.is at c.in_ok-notes.ensures.found in
    let p = rw c.in-Some-3.is at c.in_ok-pairs.ensures.found in
    let e = rw c.in-Some-4.is at c.in_ok-entries.ensures.found in
    parted_found _ _ _ _ _ _ _ _ _ o.0 o.1 n p e

pub returns-in_err-notes : goal.returns-in_err-notes
returns-in_err-notes c = record {
  found = IfOk-from_err _ _ c.from_residual.ensures.0;
  version = IfOk-from_err _ _ c.from_residual.ensures.0;
  none = IfOk-from_err _ _ c.from_residual.ensures.0;
}

pub returns-in_err-pairs : goal.returns-in_err-pairs
returns-in_err-pairs c = record {
  found = IfOk-from_err _ _ c.from_residual-in_err-pairs.ensures.0;
  version = IfOk-from_err _ _ c.from_residual-in_err-pairs.ensures.0;
  none = IfOk-from_err _ _ c.from_residual-in_err-pairs.ensures.0;
}

pub returns-in_err-entries : goal.returns-in_err-entries
returns-in_err-entries c = record {
  found = IfOk-from_err _ _ c.from_residual-in_err-entries.ensures.0;
  version = IfOk-from_err _ _ c.from_residual-in_err-entries.ensures.0;
  none = IfOk-from_err _ _ c.from_residual-in_err-entries.ensures.0;
}
