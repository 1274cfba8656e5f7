use Rattle.std.proofs.Common.{◌≡◌, ◌++◌, take, string_bytes}
use Rattle.std.specs.List.{flat_map}
use Rattle.mirror_model.specs.Texts.{head_line}
use Rattle.tlog_mirror.proofs.report_texts.push_heads.Given as goal

abbrev pub invariant-loop-head : goal.invariant-loop-head
invariant-loop-head l =
    string_bytes l.text ≡ string_bytes l.initial.text ++ flat_map head_line (take l.head-index l.heads)
