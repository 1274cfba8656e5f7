use Rattle.std.proofs.Common.{◌≡◌, take, string_bytes}
use Rattle.tlog_mirror.specs.Compared.{compared_text}
use Rattle.tlog_mirror.proofs.compared.comparison_text.Given as goal

abbrev pub invariant-loop-one : goal.invariant-loop-one
invariant-loop-one l = string_bytes l.text ≡ compared_text (take l.one-index l.compared)
