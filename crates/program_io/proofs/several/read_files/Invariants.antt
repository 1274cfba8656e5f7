use Rattle.std.proofs.Common.{map, take}
use Rattle.program_io.specs.Named.{HaveContents}
use Rattle.program_io.proofs.several.read_files.Given as goal

-- the files so far have these bytes
abbrev pub invariant-loop-name : goal.invariant-loop-name
invariant-loop-name g l =
    HaveContents (g.F.NamedFiles.puts l.files) (map (λ name. name.now) (take l.name-index l.names))
    (map (λ bytes. bytes.items) l.held.items)
