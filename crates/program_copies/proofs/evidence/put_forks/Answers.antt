use Rattle.std.proofs.Common.{map}
use Rattle.std.proofs.lemmas.Result.{err_from_is_err_and}
use Rattle.program_copies.specs.Evidence.{fork_files}
use Rattle.program_copies.proofs.Putting.{each_more, front_here}
use Rattle.program_copies.proofs.evidence.put_forks.Goals as goal

pub returns-in_err-put_fork : goal.returns-in_err-put_fork
returns-in_err-put_fork g c =
    let puts = g.F.NamedFiles.puts in
    let origin = c.args.origin.now in
    let keys = map (λ v. (goal.Verifier-dyn g (v.vtable, v.value)).key v.value) c.args.keys.now in
    let p = err_from_is_err_and c.from_residual.result c.from_residual.ensures.1 in
    rw (p.1, p.2)
    (front_here origin keys (fork_files c.args.folder.now) c.args.lines.now c.loop-line.line-index c.line-item.result
    c.loop-line-test.true c.line-item.is (puts c.args.files.now) (puts c.loop-line.files) (puts c.put_fork.new.files)
    c.in_err-put_fork.field-0.0 c.loop-line.invariant c.in_err-put_fork.ensures)

pub loop-line-preserved : goal.loop-line-preserved
loop-line-preserved g c =
    let puts = g.F.NamedFiles.puts in
    let origin = c.args.origin.now in
    let keys = map (λ v. (goal.Verifier-dyn g (v.vtable, v.value)).key v.value) c.args.keys.now in
    each_more origin keys (fork_files c.args.folder.now) c.args.lines.now c.loop-line.line-index c.line-item.result
    c.loop-line-test.true c.line-item.is (puts c.args.files.now) (puts c.loop-line.files) (puts c.put_fork.new.files)
    c.loop-line.invariant c.in_ok-put_fork.ensures
