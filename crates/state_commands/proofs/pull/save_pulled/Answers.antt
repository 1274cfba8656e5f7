use Rattle.std.proofs.Common.{inr, refl}
use Rattle.state_commands.proofs.Keeping.{saves_pulled}
use Rattle.state_commands.proofs.pull.save_pulled.Goals as goal

pub returns-then-is_held : goal.returns-then-is_held
returns-then-is_held g c = λ state start held. inr (held c.if-is_held.true, refl)

pub returns : goal.returns
returns g c = λ state start held. saves_pulled state start c.args.mirror.now.view c.args.out.now _ _
    c.write_state.result c.write_state.ensures
