use Rattle.program_io.proofs.Written.{front_written}
use Rattle.program_io.proofs.front.write_front.Goals as goal

pub returns : goal.returns
returns g c =
    front_written c.write_whole.result (g.W.Write.contents c.args.writer.now)
    (g.W.Write.contents c.write_whole.new.writer) c.args.text.now c.write_whole.ensures.ok c.write_whole.ensures.err
