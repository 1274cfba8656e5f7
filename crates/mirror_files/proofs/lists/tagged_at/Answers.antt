use Rattle.std.proofs.lemmas.Result.{IfOk-from_err}
use Rattle.mirror_files.specs.declared.items.Form.TheVariants.{Long}
use Rattle.mirror_files.proofs.ListLemmas.{tagged_notes, last_stands}
use Rattle.mirror_files.proofs.lists.tagged_at.Goals as goal

pub returns-in_default-2-clause-none : goal.returns-in_default-2-clause-none
returns-in_default-2-clause-none c = λ origin notes strings rest h.
    let o = c.in-Some.ensures.found in
    let none = rw c.in_default-2.is at c.in_ok-notes.ensures.none in
    none notes _ (tagged_notes _ _ _ rest origin notes strings o.0 o.1 h)

pub returns-in_default-3-clause-none : goal.returns-in_default-3-clause-none
returns-in_default-3-clause-none c = λ origin notes strings rest h.
    let o = c.in-Some.ensures.found in
    let n = rw c.in-Some-2.is at c.in_ok-notes.ensures.found in
    let none = rw c.in_default-3.is at c.in_ok-strings.ensures.none in
    none strings _ (last_stands Long Long _ _ rest _ notes strings n
    (tagged_notes _ _ _ rest origin notes strings o.0 o.1 h) h.are_parts.strings_fit)

pub returns-in_err-notes : goal.returns-in_err-notes
returns-in_err-notes c = record {
  found = IfOk-from_err _ _ c.from_residual.ensures.0;
  version = IfOk-from_err _ _ c.from_residual.ensures.0;
  none = IfOk-from_err _ _ c.from_residual.ensures.0;
}

pub returns-in_err-strings : goal.returns-in_err-strings
returns-in_err-strings c = record {
  found = IfOk-from_err _ _ c.from_residual-in_err-strings.ensures.0;
  version = IfOk-from_err _ _ c.from_residual-in_err-strings.ensures.0;
  none = IfOk-from_err _ _ c.from_residual-in_err-strings.ensures.0;
}
