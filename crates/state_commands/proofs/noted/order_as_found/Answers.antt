use Rattle.std.proofs.Common.{map, length, arith, ◌≤◌}
use Rattle.std.proofs.lemmas.List.{length-map}
use Rattle.state_commands.specs.NoteFiles.{head_note}
use Rattle.state_commands.proofs.Reordering.{ordered_none, reordered}
use Rattle.state_commands.proofs.noted.order_as_found.Goals as goal

pub loop-i-init : goal.loop-i-init
loop-i-init g c = λ are. ordered_none (g.F.NamedFiles.puts c.args.files.now) c.args.folder.now (map head_note c.args.heads.now) are

pub loop-i-preserved : goal.loop-i-preserved
loop-i-preserved g c = λ are.
    c.in_ok-exchange_found.ensures (map head_note c.args.heads.now) (c.loop-i.invariant are)

pub returns : goal.returns
returns g c = λ are.
    let size = length-map c.loop-i.heads head_note in
    let all : length (map head_note c.loop-i.heads) ≤ c.loop-i.i = omega (arith, size, c.loop-i-test.false, c.loop-i.auto.heads) in
    reordered (g.F.NamedFiles.puts c.args.files.now) c.args.folder.now (map head_note c.args.heads.now)
    (map head_note c.loop-i.heads) c.loop-i.i all (c.loop-i.invariant are)
