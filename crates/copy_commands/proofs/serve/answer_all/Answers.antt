use Rattle.sha2.specs.Sha256.{sha256}
use Rattle.log_reader.proofs.Kept.{kept_twice}
use Rattle.copy_commands.proofs.Serving.{last_chain, one_served}
use Rattle.copy_commands.proofs.serve.answer_all.Goals as goal

pub loop-preserved : goal.loop-preserved
loop-preserved g c = (
  kept_twice (g.D.Shelf.puts c.args.folders.now) (g.D.Shelf.puts c.loop.folders) (g.D.Shelf.puts c.answer_next_from_copy.new.folders)
      c.loop.invariant.0 c.answer_next_from_copy.ensures.same,
  one_served sha256 _ _ (g.D.Shelf.puts c.args.folders.now) (g.D.Shelf.puts c.loop.folders) c.loop.invariant.0
      c.loop.counter (g.S.Clients.exchanges c.args.clients.now) (g.S.Clients.exchanges c.loop.clients)
      (g.S.Clients.exchanges c.answer_next_from_copy.new.self) c.in_ok-answer_next_from_copy.field-0 c.answer_next_from_copy.result
      c.in_ok-answer_next_from_copy.was c.loop.invariant.1 (c.answer_next_from_copy.ensures.answer c.loop.invariant.2),
  last_chain _ _ c.loop.kept c.answer_next_from_copy.new.kept c.loop.invariant.2 c.answer_next_from_copy.ensures.last,
)
