use Rattle.program_io.specs.Exchanges.{AnswersMore}
use Rattle.copy_commands.specs.Clients.{IsMirrorAnswer}
use Rattle.copy_commands.proofs.state_serve.serve_all.Given as goal

-- each iteration so far answered one client
abbrev pub invariant-loop : goal.invariant-loop
invariant-loop g l =
    AnswersMore (IsMirrorAnswer g.H.TreeHash.digest l.mirror.view) l.counter (g.S.Clients.exchanges l.fn.clients)
    (g.S.Clients.exchanges l.clients)
