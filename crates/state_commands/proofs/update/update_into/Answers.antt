use Rattle.state_commands.proofs.update.update_into.Goals as goal

pub returns-in-Err-clause-answer : goal.returns-in-Err-clause-answer
returns-in-Err-clause-answer g c = λ origin keys recorded state opened.
    ((c.args.mirror.now.view, opened), c.in-Err.ensures.same)

pub returns-in-Ok-update-clause-answer : goal.returns-in-Ok-update-clause-answer
returns-in-Ok-update-clause-answer g c = λ origin keys recorded state opened.
    let done = c.in-Ok-update.ensures in
    rw (← c.in-Ok.ensures.opened) record {
      view = c.args.mirror.now.view;
      opened = opened;
      puts = done.puts;
      nothing = done.nothing;
      whole = done.whole;
    }

pub returns-in-Err-update-clause-answer : goal.returns-in-Err-update-clause-answer
returns-in-Err-update-clause-answer g c = λ origin keys recorded state opened.
    let failed = c.in-Err-update.ensures in
    rw (← c.in-Ok.ensures.opened) record {
      view = c.args.mirror.now.view;
      opened = opened;
      puts = failed.puts;
      nothing = failed.nothing;
      whole = failed.whole;
    }
