use Rattle.state_commands.proofs.merging.mirror_of_both.Goals as goal

pub returns-in-Ok-merge_file : goal.returns-in-Ok-merge_file
returns-in-Ok-merge_file g c = c.in-Ok-merge_file.ensures _ c.in-Ok.ensures

pub returns-in-Err-merge_file : goal.returns-in-Err-merge_file
returns-in-Err-merge_file g c = c.in-Err-merge_file.ensures _ c.in-Ok.ensures
