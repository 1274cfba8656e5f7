use Rattle.std.specs.Prelude.{codes, string_bytes}
use Rattle.std.specs.Fmt.{decimal}
use Rattle.mirror_model.specs.Texts.{point_text}
use Rattle.program_copies.proofs.Lines.{five_added}
use Rattle.program_copies.proofs.text.push_followed.Goals as goal

pub returns : goal.returns
returns c =
    five_added c.push_str-3.result (string_bytes c.args.text.now) (codes "followed ")
    (point_text c.args.size c.args.root.now) (codes " from ") (decimal c.args.old) _
    (string_bytes c.push_str.new.self) (string_bytes c.push_point.new.text) (string_bytes c.push_str-2.new.self)
    (string_bytes c.push_number.new.text) (string_bytes c.push_str-3.new.self)
    c.in_ok-push_str.ensures.bytes c.in_ok-push_point.ensures c.in_ok-push_str-2.ensures.bytes
    c.in_ok-push_number.ensures.ok c.push_str-3.ensures.bytes
