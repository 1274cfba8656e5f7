use Rattle.std.proofs.Common.{map}
use Rattle.std.proofs.lemmas.Result.{err_from_is_err_and}
use Rattle.program_io.proofs.NamedLemmas.{named_here, read_failed, tells_more}
use Rattle.program_io.proofs.several.read_files.Goals as goal

pub returns-in_err-bytes : goal.returns-in_err-bytes
returns-in_err-bytes g c =
    let p = err_from_is_err_and c.from_residual.result c.from_residual.ensures.1 in
    rw (p.1, p.2) (read_failed (g.F.NamedFiles.puts c.args.files.now) (map (λ name. name.now) c.args.names.now) _ c.in_err-bytes.field-0.0
    (named_here
    (λ name. name.now) c.args.names.now c.loop-name.name-index _ c.loop-name-test.true) c.in_err-bytes.ensures.bytes)

pub loop-name-preserved : goal.loop-name-preserved
loop-name-preserved g c =
    tells_more (g.F.NamedFiles.puts c.args.files.now) (λ bytes. bytes.items)
    (λ name. name.now) c.loop-name.held.items c.push.new.self.items c.in_ok-bytes.bytes c.args.names.now
    c.loop-name.name-index _ c.in-Ok.ensures.items c.in_ok-bytes.ensures.bytes c.loop-name-test.true
    c.loop-name.invariant
