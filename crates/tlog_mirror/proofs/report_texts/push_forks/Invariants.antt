use Rattle.std.proofs.Common.{◌≡◌, ◌++◌, take, string_bytes}
use Rattle.mirror_model.specs.Texts.{forks_text}
use Rattle.tlog_mirror.proofs.report_texts.push_forks.Given as goal

abbrev pub invariant-loop-fork : goal.invariant-loop-fork
invariant-loop-fork l = string_bytes l.text ≡ string_bytes l.initial.text ++ forks_text (take l.fork-index l.forks)
