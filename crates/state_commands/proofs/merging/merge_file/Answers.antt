use Rattle.state_commands.proofs.merging.merge_file.Goals as goal

pub returns-in-Err-merged : goal.returns-in-Err-merged
returns-in-Err-merged g c = λ first opened. (
  c.merge-merged.new.self.view,
  record {
    before = c.args.mirror.now.view;
    other = c.in-Ok.other.view;
    first_is = opened;
    second_is = c.in-Ok.ensures;
    merges = c.in-Err-merged.ensures.merges;
  },
)
