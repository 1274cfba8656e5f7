use Rattle.std.specs.Prelude.{codes, string_bytes}
use Rattle.mirror_model.specs.Texts.{point_text}
use Rattle.program_copies.proofs.Lines.{five_added}
use Rattle.program_copies.proofs.text.push_fork.Goals as goal

pub returns : goal.returns
returns c =
    five_added c.push_str-3.result (string_bytes c.args.text.now) (codes "fork ")
    (point_text c.args.line.now.small.size.0 c.args.line.now.small.root) _
    (point_text c.args.line.now.large.size.0 c.args.line.now.large.root) _
    (string_bytes c.push_str.new.self) (string_bytes c.push_point.new.text) (string_bytes c.push_str-2.new.self)
    (string_bytes c.push_point-2.new.text) (string_bytes c.push_str-3.new.self)
    c.in_ok-push_str.ensures.bytes c.in_ok-push_point.ensures c.in_ok-push_str-2.ensures.bytes
    c.in_ok-push_point-2.ensures c.push_str-3.ensures.bytes
