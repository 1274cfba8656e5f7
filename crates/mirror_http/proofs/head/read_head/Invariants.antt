use Rattle.std.proofs.Common.{◌<◌, vec_len}
use Rattle.std.specs.Io.KnownBytes.{Consumes}
use Rattle.httparse.specs.Grammar.{HasNoRequest}
use Rattle.mirror_http.specs.declared.limits.TheConstants.{MAX_REQUEST_LEN}
use Rattle.mirror_http.proofs.head.read_head.Given as goal

abbrev pub invariant-loop : goal.invariant-loop
invariant-loop g l = record {
  room : vec_len l.received < MAX_REQUEST_LEN;
  taken : Consumes (g.R.Read.remaining l.fn.reader) (g.R.Read.remaining l.reader) l.received.items;
  unended : 0 < vec_len l.received → HasNoRequest l.received.items;
}
