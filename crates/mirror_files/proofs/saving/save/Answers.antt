use Rattle.mirror_files.proofs.Saved.{keeps_itself}
use Rattle.mirror_files.proofs.saving.save.Goals as goal

pub returns-in-Err : goal.returns-in-Err
returns-in-Err g c = keeps_itself (g.W.Write.contents c.args.writer.now)
