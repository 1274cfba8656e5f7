-- The line that says why a command failed.
use Rattle.std.proofs.Common.{ℕ, List, Option, Bool, IsTrue, inl, inr}
use Rattle.byte_streams.specs.Streams.{AppendsPrefix}
use Rattle.program_io.specs.FileWhy.{IsWhyLine}
use Rattle.program_io.specs.Whys.{PrintsLine, PrintsWhy}
use Rattle.program_io.proofs.Written.{keeps_itself}

-- nothing was written
pub no_line : (c : Option (List ℕ)) → PrintsLine c c
no_line c = inl (keeps_itself c)

pub nothing_recorded : (asked : Bool) (c : Option (List ℕ)) → PrintsWhy asked c c
nothing_recorded asked c = inl (keeps_itself c)

-- one line was written
pub one_line : (line : List ℕ) (old new : Option (List ℕ)) → IsWhyLine line → AppendsPrefix old new line → PrintsLine old new
one_line line old new is front = inr (line, is, front)

-- a line was written on request
pub asked_recorded : (asked : Bool) (old new : Option (List ℕ)) → IsTrue asked → PrintsLine old new → PrintsWhy asked old new
asked_recorded asked old new is (inl keeps) = inl keeps
asked_recorded asked old new is (inr writes) = inr (is, writes)
