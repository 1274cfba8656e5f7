use Rattle.bench.proofs.Origin.{bench_is_origin}
use Rattle.bench.proofs.list.source_of.Goals as goal

pub new-requires-clause-origin : goal.new-requires-clause-origin
new-requires-clause-origin c d = bench_is_origin
