use Rattle.program_io.proofs.Exchanges.{one_answered}
use Rattle.copy_commands.specs.Clients.{IsMirrorAnswer}
use Rattle.copy_commands.proofs.state_serve.serve_all.Goals as goal

pub loop-preserved : goal.loop-preserved
loop-preserved g c =
    one_answered (IsMirrorAnswer g.H.TreeHash.digest c.args.mirror.now.view) c.loop.counter
    (g.S.Clients.exchanges c.args.clients.now) (g.S.Clients.exchanges c.loop.clients)
    (g.S.Clients.exchanges c.answer_next.new.self) c.in_ok-answer_next.field-0 c.answer_next.result
    c.in_ok-answer_next.was c.loop.invariant c.answer_next.ensures
