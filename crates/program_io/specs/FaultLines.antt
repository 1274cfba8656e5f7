-- The line of a fault on standard error.
use Rattle.std.specs.Prelude.{ℕ, List, ◌++◌, codes}

-- the line of the fault with this name
abbrev pub fault_line : List ℕ → List ℕ
fault_line name = codes "tlogmirror: " ++ (name ++ codes "\n")
