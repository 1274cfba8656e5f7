use Rattle.std.proofs.Common.{[], take, arith, subst, length-take, ℕ}
use Rattle.std.specs.Io.KnownBytes.{Consumes}
use Rattle.std.proofs.KnownBytes.{Consumes-kept, Consumes-nil}
use Rattle.mirror_http.proofs.head.read_more.Goals as goal

pub returns-in-Ok-eq0-clause-limit : goal.returns-in-Ok-eq0-clause-limit
returns-in-Ok-eq0-clause-limit g c =
    let recorded = g.R.Read.remaining in
    record {
      taken = [];
      within = omega arith;
      consumes = subst (λ k. Consumes (recorded c.args.reader.now) (recorded c.read.new.self) (take k c.read.new.buf))
          c.in-Ok-eq0.field-0-test c.in-Ok-eq0.ensures.bytes.0;
    }

pub returns-in_ok-extend_from_slice-in-Ok-clause-limit : goal.returns-in_ok-extend_from_slice-in-Ok-clause-limit
returns-in_ok-extend_from_slice-in-Ok-clause-limit g c = record {
  taken = take c.in-Ok.n c.read.new.buf;
  within = omega (
    arith,
    length-take {A = ℕ},
    c.in-Ok.ensures.bound.0,
    c.in-Ok.ensures.bound.1,
    c.read.auto.buf,
    c.min-room.ensures,
    c.len.ensures,
  );
  consumes = c.in-Ok.ensures.bytes.0;
}

pub returns-in_err-extend_from_slice-in-Ok-clause-limit : goal.returns-in_err-extend_from_slice-in-Ok-clause-limit
returns-in_err-extend_from_slice-in-Ok-clause-limit g c = record {
  taken = take c.in-Ok.n c.read.new.buf;
  within = omega (
    arith,
    length-take {A = ℕ},
    c.in-Ok.ensures.bound.0,
    c.in-Ok.ensures.bound.1,
    c.read.auto.buf,
    c.min-room.ensures,
    c.len.ensures,
  );
  consumes = c.in-Ok.ensures.bytes.0;
}

pub returns-then-eq-clause-limit : goal.returns-then-eq-clause-limit
returns-then-eq-clause-limit g c =
    let recorded = g.R.Read.remaining in
    let before = recorded c.args.reader.now in
    record {
      taken = [];
      within = omega arith;
      consumes = Consumes-kept before before (recorded c.read.new.self) [] (Consumes-nil before) c.in-Err.ensures.bytes;
    }

pub returns-else-eq-clause-limit : goal.returns-else-eq-clause-limit
returns-else-eq-clause-limit g c =
    let recorded = g.R.Read.remaining in
    let before = recorded c.args.reader.now in
    record {
      taken = [];
      within = omega arith;
      consumes = Consumes-kept before before (recorded c.read.new.self) [] (Consumes-nil before) c.in-Err.ensures.bytes;
    }
