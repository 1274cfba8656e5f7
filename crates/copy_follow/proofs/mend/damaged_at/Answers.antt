use Rattle.std.proofs.Common.{refl, sym, ◌∙◌}
use Rattle.std.proofs.lemmas.Bool.{false≢true}
use Rattle.copy_follow.proofs.Lacking.{none_noted, none_recorded, one_recorded}
use Rattle.copy_follow.proofs.mend.damaged_at.Goals as goal

pub returns-else-is_same-clause-damaged : goal.returns-else-is_same-clause-damaged
returns-else-is_same-clause-damaged g c =
    let x = g.D.Shelf.puts c.args.shelf.now in
    let read = rw c.in-Some.is at c.in_ok-there.ensures.answer in
    record {
      path_is = refl;
      damaged = λ there. false≢true (sym c.if-is_same.false ∙ c.is_same.ensures.1
          (c.deref.ensures.value ∙ one_recorded x c.args.path.now c.args.bytes.now c.in-Some.there.items read there));
      missing = λ yes. absurd (false≢true yes);
    }

pub returns-in-None-clause-damaged : goal.returns-in-None-clause-damaged
returns-in-None-clause-damaged g c =
    let x = g.D.Shelf.puts c.args.shelf.now in
    let read = rw c.in-None.is at c.in_ok-there.ensures.answer in
    record {
      path_is = refl;
      damaged = λ there. none_recorded x c.args.path.now c.args.bytes.now read there;
      missing = λ yes. none_noted x c.args.path.now read;
    }
