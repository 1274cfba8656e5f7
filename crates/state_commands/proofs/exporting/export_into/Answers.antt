use Rattle.state_commands.proofs.exporting.export_into.Goals as goal

pub returns-in-Err-clause-answer : goal.returns-in-Err-clause-answer
returns-in-Err-clause-answer g c = λ origin keys recorded state opened.
    ((c.args.mirror.now.view, opened), c.in-Err.ensures.same)

pub returns-in-Ok-export-clause-answer : goal.returns-in-Ok-export-clause-answer
returns-in-Ok-export-clause-answer g c = λ origin keys recorded state opened.
    let done = c.in-Ok-export.ensures in
    rw (← c.in-Ok.ensures.opened) record {
      view = c.args.mirror.now.view;
      opened = opened;
      puts = done.puts;
      nothing = done.nothing;
      last = done.last;
    }

pub returns-in-Err-export-clause-answer : goal.returns-in-Err-export-clause-answer
returns-in-Err-export-clause-answer g c = λ origin keys recorded state opened.
    let failed = c.in-Err-export.ensures in
    rw (← c.in-Ok.ensures.opened) record {
      view = c.args.mirror.now.view;
      opened = opened;
      puts = failed.puts;
      nothing = failed.nothing;
      last = failed.last;
    }
