use Rattle.std.proofs.Common.{inr, refl, rules}
use Rattle.program_library.proofs.ending.print_ending.Goals as goal

pub returns-in-Errors : goal.returns-in-Errors
returns-in-Errors g c =
    inr (c.in-Errors.is, search rules, rw (← c.as_bytes-text.ensures) c.write_front-in-Errors.ensures, refl)
