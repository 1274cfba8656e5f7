use Rattle.std.proofs.Common.{refl}
use Rattle.std.proofs.KnownBytes.{Keeps-refl}
use Rattle.program_copies.proofs.Repaired.{runs_held}
use Rattle.program_copies.proofs.repair.run_repair.Goals as goal

pub returns-in-Err : goal.returns-in-Err
returns-in-Err g c = record {
  ends = c.in-Err.ensures.early;
  text = Keeps-refl (g.W.Write.contents c.args.output.now);
  files = refl;
  places_are = refl;
  count = refl;
  counted = c.begin_run.ensures.counted;
}

pub returns : goal.returns
returns g c =
    runs_held g.H.TreeHash.digest g.S.Source.may_answer g.S.Source.failed g.S.Source.asked _ _ c.args.places.now
    c.repair_and_follow.new.places _ _ (g.D.NamedFolders.held c.args.folders.now c.args.following.now.folder.now) _
    (g.D.Shelf.puts c.repair_and_follow.new.folders) (g.D.Shelf.failed c.args.folders.now)
    (g.D.Shelf.failed c.repair_and_follow.new.folders) _ _ _ _ c.args.repaired.now c.repair_and_follow.new.repaired
    (g.D.Shelf.puts c.begin_run.new.folders) (g.D.Shelf.failed c.begin_run.new.folders) c.in-Ok.ensures.opened
    c.begin_run.ensures.counted c.repair_and_follow.result c.repair_and_follow.ensures
