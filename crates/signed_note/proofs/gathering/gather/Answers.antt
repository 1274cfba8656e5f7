use Rattle.std.proofs.Common.{ap, ◌∙◌, ◌++◌}
use Rattle.std.proofs.lemmas.List.{get_or_default}
use Rattle.std.proofs.lemmas.Result.{on_ok_weaker}
use Rattle.std.proofs.lemmas.Result.{IfOk-from_err}
use Rattle.signed_note.specs.KeyKinds.{Pins}
use Rattle.signed_note.proofs.JoinedPins.{joined_at}
use Rattle.signed_note.proofs.gathering.gather.Goals as goal

pub returns-in-Some : goal.returns-in-Some
returns-in-Some c =
    let within = rw c.deref.ensures.value at c.in-Some.ensures.within in
    on_ok_weaker c.append.result (λ is. joined_at c.args.gathered.now.items c.in-Some.at c.append.new.self c.args.texts
    within (rw c.deref.ensures.value at c.in-Some.ensures.found)
    (λ d. is ∙ ap (λ (old : Pins). record old { digests = old.digests ++ c.args.texts.digests })
    (c.index_mut.ensures.value ∙ get_or_default c.args.gathered.now.items c.in-Some.at _ d within))) c.append.ensures

pub returns-in_err-push : goal.returns-in_err-push
returns-in_err-push c = IfOk-from_err c.from_residual.result _ c.from_residual.ensures.0
