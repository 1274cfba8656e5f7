use Rattle.mirror_files.proofs.put.put_item.Goals as goal

pub returns-in-Short : goal.returns-in-Short
returns-in-Short g c = rw c.in-Short.is c.put_short.ensures

pub returns-in-Long : goal.returns-in-Long
returns-in-Long g c = rw c.in-Long.is c.put_long.ensures

pub returns-in-Hashes : goal.returns-in-Hashes
returns-in-Hashes g c = rw c.in-Hashes.is c.put.ensures
