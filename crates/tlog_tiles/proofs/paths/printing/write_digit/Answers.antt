use Rattle.std.proofs.Common.{List, ℕ, subst}
use Rattle.std.specs.Fmt.{HasWritten}
use Rattle.std.proofs.lemmas.Fmt.{decimal_digit}
use Rattle.tlog_tiles.proofs.paths.printing.write_digit.Goals as goal

pub returns : goal.returns
returns g c = λ plain ok.
    subst (λ (bytes : List ℕ). HasWritten g.W.Write.write_str_gives c.args.f.now bytes c.write.new.self)
    (decimal_digit c.args.digit c.requires) (c.write.ensures.writes plain ok)
