use Rattle.std.proofs.Common.{◌≡◌, ◌++◌, map, take}
use Rattle.std.specs.String.{string_bytes}
use Rattle.tlog_checkpoint.specs.Lines.{text_of}
use Rattle.tlog_checkpoint.proofs.writing.add_lines.Given as goal

abbrev pub invariant-loop-line : goal.invariant-loop-line
invariant-loop-line l =
    string_bytes l.text ≡ string_bytes l.initial.text ++ text_of (map string_bytes (take l.line-index l.lines))
