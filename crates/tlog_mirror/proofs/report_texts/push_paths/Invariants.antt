use Rattle.std.proofs.Common.{◌≡◌, ◌++◌, take, string_bytes}
use Rattle.mirror_model.specs.Texts.{missing_text}
use Rattle.tlog_mirror.proofs.report_texts.push_paths.Given as goal

abbrev pub invariant-loop-path : goal.invariant-loop-path
invariant-loop-path l = string_bytes l.text ≡ string_bytes l.initial.text ++ missing_text (take l.path-index l.paths)
