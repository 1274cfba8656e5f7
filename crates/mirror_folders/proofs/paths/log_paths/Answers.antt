use Rattle.std.proofs.Common.{◌≡◌, arith}
use Rattle.mirror_folders.proofs.PathLists.{all_listed}
use Rattle.mirror_folders.proofs.paths.log_paths.Goals as goal

pub returns : goal.returns
returns c =
    let all : c.loop-level.level ≡ 8 = omega (arith, c.loop-level-test.false, c.loop-level.auto.level-end) in
    all_listed c.args.size c.loop-level.level c.loop-level.paths.items c.push_kind-2.new.paths.items c.push.new.self.items
    all c.loop-level.invariant.so_far c.in_ok-push_kind-2.ensures c.in_ok-push.ensures.items
