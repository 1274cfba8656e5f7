use Rattle.std.specs.Prelude.{codes}
use Rattle.program_io.specs.ProgressText.{count_text}
use Rattle.program_io.proofs.Appended.{appended_four}
use Rattle.program_io.proofs.line.push_older.Goals as goal

pub returns : goal.returns
returns c =
    appended_four c.push_count-2.result c.args.text.now.items c.extend_from_slice.new.self.items
    c.push_count.new.text.items c.extend_from_slice-2.new.self.items c.push_count-2.new.text.items
    (codes "pull: checkpoint of ") (count_text c.args.size) (codes " entries, older than one held of ")
    (count_text c.args.held) c.in_ok-extend_from_slice.ensures.items c.in_ok-push_count.ensures
    c.in_ok-extend_from_slice-2.ensures.items c.push_count-2.ensures
