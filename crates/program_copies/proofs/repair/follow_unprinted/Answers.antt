use Rattle.std.proofs.Common.{refl}
use Rattle.program_copies.proofs.repair.follow_unprinted.Goals as goal

pub returns-in-Ok : goal.returns-in-Ok
returns-in-Ok g c = record {
  lost = c.follow_open.new.output.items;
  answer = c.follow_open.result;
  follows = rw c.new-lost.ensures.items at (c.follow_open.ensures.runs (g.D.Shelf.puts c.args.folders.now));
  fault_is = rw c.in-Ok.is refl;
}

pub returns : goal.returns
returns g c = record {
  lost = c.follow_open.new.output.items;
  answer = c.follow_open.result;
  follows = rw c.new-lost.ensures.items at (c.follow_open.ensures.runs (g.D.Shelf.puts c.args.folders.now));
  fault_is = rw c.in-Err.is refl;
}
