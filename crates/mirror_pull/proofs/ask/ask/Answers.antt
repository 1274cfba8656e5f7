use Rattle.std.proofs.Common.{Contains, ◌∷◌, [], refl}
use Rattle.std.proofs.lemmas.Result.{err_from_is_err_and}
use Rattle.mirror_pull.proofs.Askings.{adds_some_none, adds_to_none, adds_one, some_get}
use Rattle.mirror_pull.proofs.Gains.{early_of_source, late_of_source, stays_itself}
use Rattle.std.proofs.Common.{None}
use Rattle.mirror_pull.specs.Replying.{Asks, AsksNew, AsksAgain}
use Rattle.mirror_pull.proofs.Replies.{gathers_none}
use Rattle.mirror_pull.proofs.Early.{ask_refused, ask_fails}
use Rattle.mirror_pull.proofs.ask.ask.Goals as goal

pub returns-in_err-push-clause-recorded : goal.returns-in_err-push-clause-recorded
returns-in_err-push-clause-recorded g c =
    let p = err_from_is_err_and c.from_residual.result c.from_residual.ensures.1 in
    rw p.1 (adds_some_none c.args.asked.now.items (g.S.Source.asked c.args.source.now))

pub returns-in_err-get-clause-recorded : goal.returns-in_err-get-clause-recorded
returns-in_err-get-clause-recorded g c =
    let p = err_from_is_err_and c.from_residual-in_err-get.result c.from_residual-in_err-get.ensures.1 in
    let fresh : Contains c.args.asked.now.items c.args.path → ⊥ =
    λ has. let t = c.is_asked.ensures.1 has in absurd cc in
    rw p.1 (some_get c.args.asked.now.items c.args.path (g.S.Source.asked c.args.source.now)
    (g.S.Source.asked c.get.new.self) c.in_err-get.field-0.0 fresh c.in_err-get.ensures.recorded)

pub returns-clause-recorded : goal.returns-clause-recorded
returns-clause-recorded g c =
    let fresh : Contains c.args.asked.now.items c.args.path → ⊥ =
    λ has. let t = c.is_asked.ensures.1 has in absurd cc in
    record {
      more = c.args.path ∷ [];
      list = c.in_ok-push.ensures.items;
      adds = adds_one c.args.asked.now.items c.args.path (g.S.Source.asked c.args.source.now)
          (g.S.Source.asked c.get.new.self) fresh c.in_ok-get.ensures.recorded;
    }

pub returns-in_err-get-clause-early : goal.returns-in_err-get-clause-early
returns-in_err-get-clause-early g c =
    let p = err_from_is_err_and c.from_residual-in_err-get.result c.from_residual-in_err-get.ensures.1 in
    rw (p.1, p.2) (early_of_source c.in_err-get.field-0.0)

pub returns-in_err-get-clause-late : goal.returns-in_err-get-clause-late
returns-in_err-get-clause-late g c =
    let p = err_from_is_err_and c.from_residual-in_err-get.result c.from_residual-in_err-get.ensures.1 in
    rw (p.1, p.2) (late_of_source c.in_err-get.field-0.0)

pub returns-clause-early : goal.returns-clause-early
returns-clause-early g c = tt

pub returns-clause-late : goal.returns-clause-late
returns-clause-late g c = tt

pub returns-clause-grown : goal.returns-clause-grown
returns-clause-grown g c = λ unasked. c.in_ok-push.ensures.items

pub returns-clause-later : goal.returns-clause-later
returns-clause-later g c = c.in_ok-get.ensures.later

pub returns-in_err-get-clause-later : goal.returns-in_err-get-clause-later
returns-in_err-get-clause-later g c = c.in_err-get.ensures.later

pub returns-in_err-get-clause-answer : goal.returns-in_err-get-clause-answer
returns-in_err-get-clause-answer g c =
    let p = err_from_is_err_and c.from_residual-in_err-get.result c.from_residual-in_err-get.ensures.1 in
    rw p.1 tt

pub returns-in_err-push-clause-answer : goal.returns-in_err-push-clause-answer
returns-in_err-push-clause-answer g c =
    let p = err_from_is_err_and c.from_residual.result c.from_residual.ensures.1 in
    rw p.1 tt

pub returns-in_err-get-clause-grown : goal.returns-in_err-get-clause-grown
returns-in_err-get-clause-grown g c =
    let p = err_from_is_err_and c.from_residual-in_err-get.result c.from_residual-in_err-get.ensures.1 in
    rw p.1 tt

pub returns-in_err-push-clause-grown : goal.returns-in_err-push-clause-grown
returns-in_err-push-clause-grown g c =
    let p = err_from_is_err_and c.from_residual.result c.from_residual.ensures.1 in
    rw p.1 tt

pub returns-in_err-push-clause-counted : goal.returns-in_err-push-clause-counted
returns-in_err-push-clause-counted g c =
    let p = err_from_is_err_and c.from_residual.result c.from_residual.ensures.1 in
    rw (p.1, p.2) refl

pub returns-in_err-push-clause-early : goal.returns-in_err-push-clause-early
returns-in_err-push-clause-early g c =
    let p = err_from_is_err_and c.from_residual.result c.from_residual.ensures.1 in
    rw (p.1, p.2) tt

pub returns-then-is_asked-clause-early : goal.returns-then-is_asked-clause-early
returns-then-is_asked-clause-early g c = tt

pub returns-in_err-push-clause-late : goal.returns-in_err-push-clause-late
returns-in_err-push-clause-late g c =
    let p = err_from_is_err_and c.from_residual.result c.from_residual.ensures.1 in
    rw (p.1, p.2) tt

pub returns-then-is_asked-clause-late : goal.returns-then-is_asked-clause-late
returns-then-is_asked-clause-late g c = tt

pub returns-in_err-push-clause-later : goal.returns-in_err-push-clause-later
returns-in_err-push-clause-later g c = stays_itself (g.S.Source.may_answer c.args.source.now)

pub returns-then-is_asked-clause-later : goal.returns-then-is_asked-clause-later
returns-then-is_asked-clause-later g c = stays_itself (g.S.Source.may_answer c.args.source.now)

pub returns-then-is_asked-clause-counted : goal.returns-then-is_asked-clause-counted
returns-then-is_asked-clause-counted g c = refl

pub returns-then-is_asked-clause-recorded : goal.returns-then-is_asked-clause-recorded
returns-then-is_asked-clause-recorded g c = adds_to_none c.args.asked.now.items (g.S.Source.asked c.args.source.now)

pub returns-then-is_asked-clause-replied : goal.returns-then-is_asked-clause-replied
returns-then-is_asked-clause-replied g c =
    let has : Contains c.args.asked.now.items c.args.path =
    c.is_asked.ensures.0 c.if-is_asked.true in
    gathers_none (g.S.Source.may_answer c.args.source.now) (g.S.Source.asked c.args.source.now) c.args.asked.now.items
    (λ xs. Asks c.args.asked.now.items c.args.path xs None) (AsksAgain has)

pub returns-in_err-push-clause-replied : goal.returns-in_err-push-clause-replied
returns-in_err-push-clause-replied g c =
    let p = err_from_is_err_and c.from_residual.result c.from_residual.ensures.1 in
    let fresh : Contains c.args.asked.now.items c.args.path → ⊥ =
    λ has. let t = c.is_asked.ensures.1 has in absurd cc in
    rw (p.1, p.2) (ask_refused (g.S.Source.may_answer c.args.source.now) c.args.asked.now.items c.args.path
    (g.S.Source.asked c.args.source.now) fresh)

pub returns-in_err-get-clause-replied : goal.returns-in_err-get-clause-replied
returns-in_err-get-clause-replied g c =
    let p = err_from_is_err_and c.from_residual-in_err-get.result c.from_residual-in_err-get.ensures.1 in
    let fresh : Contains c.args.asked.now.items c.args.path → ⊥ =
    λ has. let t = c.is_asked.ensures.1 has in absurd cc in
    rw (p.1, p.2) (ask_fails (g.S.Source.may_answer c.args.source.now) c.args.asked.now.items c.args.path
    (g.S.Source.asked c.args.source.now) (g.S.Source.asked c.get.new.self) c.in_err-get.field-0.0 fresh
    c.in_err-get.ensures.recorded)

pub returns-clause-replied : goal.returns-clause-replied
returns-clause-replied g c =
    let fresh : Contains c.args.asked.now.items c.args.path → ⊥ =
    λ has. let t = c.is_asked.ensures.1 has in absurd cc in
    record {
      replies = _;
      are = AsksNew _ fresh;
      may_reply = (c.in_ok-get.ensures.answer, tt);
      list = c.in_ok-push.ensures.items;
      recorded = c.in_ok-get.ensures.recorded;
    }
