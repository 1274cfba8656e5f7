use Rattle.std.proofs.Common.{List, Option, inl, inr, option_map, refl, subst}
use Rattle.std.specs.Prelude.{IsTrue}
use Rattle.program_io.specs.Named.{NamedFile}
use Rattle.state_commands.specs.Pulls.{IsHeld, PrintsPulled}
use Rattle.state_commands.proofs.Keeping.{held_still}
use Rattle.program_io.proofs.Written.{keeps_itself}
use Rattle.state_commands.proofs.pull.run_pull.Goals as goal

pub returns-in-Err-clause-answer : goal.returns-in-Err-clause-answer
returns-in-Err-clause-answer g c =
    rw c.new.ensures (inl ((c.in-Err.ensures.begins, refl), keeps_itself (g.W.Write.contents c.args.output.now)))

pub returns-in-Ok-pull_kept-clause-answer : goal.returns-in-Ok-pull_kept-clause-answer
returns-in-Ok-pull_kept-clause-answer g c =
    let state = option_map (λ name. name.now) c.args.words.now.state in
    let start = c.in-Ok.mirror.view in
    let view = c.pull_kept.new.mirror.view in
    let out = c.args.words.now.mirror.out.now in
    let recorded = g.F.NamedFiles.puts c.args.files.now in
    let held : IsTrue c.is_held-held.result → IsHeld state start view out (g.F.NamedFiles.puts c.pull_kept.new.files) =
    λ is. held_still state start view out recorded (g.F.NamedFiles.puts c.pull_kept.new.files)
    c.in-Ok-pull_kept.ensures.same (c.in-Ok.ensures.saved (c.is_held-held.ensures.saved is))
    (c.in-Ok-pull_kept.ensures.gained (c.is_held-held.ensures.nothing is)) in
    inr record {
      view = view;
      pulled = c.in-Ok-pull_kept.pulled;
      pulls = record {
        start = start;
        begun = c.in-Ok.ensures.begins;
        pulls = c.in-Ok-pull_kept.ensures.pulls;
        reads = c.in-Ok-pull_kept.ensures.reads;
        lawful = c.in-Ok-pull_kept.ensures.lawful;
      };
      tells = subst (λ (before : Option (List NamedFile)). PrintsPulled state start view c.in-Ok-pull_kept.pulled out before
          (g.F.NamedFiles.puts c.report_pulled-answer.new.files)
          (g.W.Write.contents c.args.output.now) (g.W.Write.contents c.report_pulled-answer.new.output)
          c.report_pulled-answer.result)
          c.in-Ok-pull_kept.ensures.same (c.report_pulled-answer.ensures.answer state start held);
    }

pub returns-in-Err-pull_kept-clause-answer : goal.returns-in-Err-pull_kept-clause-answer
returns-in-Err-pull_kept-clause-answer g c = rw c.into_error.ensures (inl (
  record {
    view = c.pull_kept.new.mirror.view;
    pulls = record {
      start = c.in-Ok.mirror.view;
      begun = c.in-Ok.ensures.begins;
      pulls = c.in-Err-pull_kept.ensures.pulls;
      reads = c.in-Err-pull_kept.ensures.reads;
      lawful = c.in-Err-pull_kept.ensures.lawful;
    };
    written = c.in-Err-pull_kept.ensures.early.0;
    leaves = c.in-Err-pull_kept.ensures.early.1;
  },
  keeps_itself (g.W.Write.contents c.args.output.now),
))
