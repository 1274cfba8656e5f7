use Rattle.bench.proofs.Origin.{bench_is_origin}
use Rattle.bench.proofs.files.load_count.Goals as goal

pub load_bytes-requires : goal.load_bytes-requires
load_bytes-requires c _ = bench_is_origin
