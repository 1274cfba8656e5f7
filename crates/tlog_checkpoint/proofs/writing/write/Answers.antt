use Rattle.std.proofs.Common.{◌≡◌, string_bytes}
use Rattle.std.specs.Fmt.{decimal}
use Rattle.tlog_text.specs.Hash.{base64_of}
use Rattle.tlog_checkpoint.specs.Lines.{ended}
use Rattle.tlog_checkpoint.proofs.Written.{written, joined_lines}
use Rattle.tlog_checkpoint.proofs.writing.write.Goals as goal

pub returns : goal.returns
returns c =
    let first : string_bytes c.add_line.new.text ≡ ended c.args.checkpoint.now.origin =
    rw (c.new-text.ensures.bytes, c.as_str.ensures) at c.in_ok-add_line.ensures in
    let size = decimal c.args.checkpoint.now.size in
    let root = base64_of c.args.checkpoint.now.root in
    let rest = rw c.as_slice.ensures at c.in_ok-add_lines.ensures in
    let text =
    joined_lines _ _ _
    (string_bytes c.add_lines.new.text) c.args.checkpoint.now.origin size root c.args.checkpoint.now.extensions first
    c.in_ok-add_size.ensures.ok c.in_ok-add_root.ensures.ok rest in
    written (string_bytes c.add_lines.new.text) size root c.args.checkpoint.now c.requires
    c.in_ok-add_size.ensures.spelled c.in_ok-add_root.ensures.spelled text
