use Rattle.std.proofs.Common.{◌≡◌, ◌++◌, length, map, take, drop, ap, ◌∙◌, arith}
use Rattle.std.proofs.Math.Seq.{take-append_seam}
use Rattle.state_commands.specs.NoteFiles.{head_note}
use Rattle.state_commands.specs.NoteTexts.{PutsHeads, Reorders}
use Rattle.program_io.proofs.NamedLemmas.{kept_itself}
use Rattle.state_commands.proofs.Leaving.{written_heads}
use Rattle.state_commands.proofs.Standing.{listed_heads}
use Rattle.state_commands.proofs.noted.write_notes.Goals as goal

pub returns-in_default : goal.returns-in_default
returns-in_default g c = λ origin keys state opened.
    ((c.args.mirror.now.view, opened), kept_itself (g.F.NamedFiles.puts c.args.files.now))

pub returns-in-Err : goal.returns-in-Err
returns-in-Err g c = λ origin keys state opened. (
  (c.args.mirror.now.view, opened),
  c.in-Err.ensures.made,
  rw c.in-Err.ensures.same (kept_itself (g.F.NamedFiles.puts c.args.files.now)),
)

pub returns-in-Ok-order_as_found : goal.returns-in-Ok-order_as_found
returns-in-Ok-order_as_found g c = λ origin keys state opened.
    let puts = g.F.NamedFiles.puts in
    let listed = map head_note c.in-Ok.heads.items in
    let heads = map head_note c.deref.result.now in
    let taken = c.deref_mut.ensures.value in
    let same = c.in-Ok-make_folder.ensures.same in
    let moved = c.order_as_found.new.heads in
    let rest = drop (length moved) c.in-Ok.heads.items in
    let size : c.in-Ok.heads.len ≡ length moved = omega (arith, c.order_as_found.auto.heads, c.deref_mut.ensures.len) in
    let back : c.deref.result.now ≡ moved =
    c.deref.ensures.value ∙ (ap (λ n. take n (moved ++ rest)) size ∙ take-append_seam moved rest) in
    let order : Reorders (puts c.args.files.now) c.args.folder.now listed heads =
    rw (← same, ← taken, back)
    (c.in-Ok-order_as_found.ensures (rw taken (listed_heads c.args.mirror.now.view listed c.in-Ok.ensures))) in
    let put : PutsHeads c.args.folder.now heads (puts c.args.files.now) (puts c.put_heads.new.files) c.put_heads.result =
    rw (← same) c.put_heads.ensures in
    written_heads g.H.TreeHash.digest origin keys (puts c.args.files.now) (puts c.put_heads.new.files) state
    c.args.folder.now c.args.mirror.now.view listed heads opened c.in-Ok.ensures order c.put_heads.result put

pub returns : goal.returns
returns g c = λ origin keys state opened. (
  (c.args.mirror.now.view, opened),
  rw c.in-Ok-make_folder.ensures.same (kept_itself (g.F.NamedFiles.puts c.args.files.now)),
)
