use Rattle.std.proofs.Common.{◌≡◌, ◌+◌, ◌∙◌, ap, sym, arith}
use Rattle.mirror_folders.specs.Total.{new_at, new_below}
use Rattle.mirror_folders.proofs.Totals.{length-since_paths}
use Rattle.mirror_folders.proofs.total.files_to_put.Goals as goal

pub returns : goal.returns
returns c =
    let since = c.args.since in
    let size = c.args.size in
    let end : c.loop-level.level ≡ 8 = omega (arith, c.loop-level-test.false, c.loop-level.auto.level-end) in
    let tiles : c.loop-level.tiles ≡ new_below since size 8 =
    c.loop-level.invariant.files ∙ ap (λ k. new_below since size k) end
    in
    let rest : c.new_files.result ≡ new_at since size 0 = c.new_files.ensures.files in
    ap (λ t. t + c.new_files.result + 1) tiles ∙ (ap (λ r. new_below since size 8 + r + 1) rest
    ∙ sym (length-since_paths since size))
