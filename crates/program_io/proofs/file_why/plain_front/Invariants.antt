use Rattle.std.specs.Prelude.{string_bytes}
use Rattle.program_io.specs.FileWhy.{IsWhyFront}
use Rattle.program_io.proofs.file_why.plain_front.Given as goal

-- the text so far may begin a line
abbrev pub invariant-loop-character : goal.invariant-loop-character
invariant-loop-character l = IsWhyFront (string_bytes l.front)
