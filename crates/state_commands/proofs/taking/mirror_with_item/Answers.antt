use Rattle.std.proofs.Common.{map}
use Rattle.std.specs.Prelude.{option_map}
use Rattle.state_commands.proofs.Leaving.{begun_untaken}
use Rattle.state_commands.proofs.taking.mirror_with_item.Goals as goal

pub returns-in-Err-take_item : goal.returns-in-Err-take_item
returns-in-Err-take_item g c =
    begun_untaken g.H.TreeHash.digest c.args.origin.now
    (map (λ b. (goal.Verifier-dyn g (b.vtable, b.value)).key b.value) c.args.keys.now)
    (g.F.NamedFiles.puts c.args.files.now)
    (option_map (λ name. name.now) c.args.state) c.args.item c.in-Ok.mirror.view c.take_item.new.mirror.view
    c.in-Err-take_item.fault c.in-Ok.ensures c.in-Err-take_item.ensures
