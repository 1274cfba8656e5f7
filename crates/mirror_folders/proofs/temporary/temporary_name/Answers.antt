use Rattle.std.proofs.Common.{arith}
use Rattle.std.specs.Prelude.{codes}
use Rattle.std.specs.Fmt.{decimal}
use Rattle.std.proofs.lemmas.Fmt.{length-decimal-le}
use Rattle.mirror_folders.proofs.Names.{name_len}
use Rattle.mirror_folders.proofs.temporary.temporary_name.Goals as goal

pub returns : goal.returns
returns c =
    let number = c.args.number in
    let few = length-decimal-le 20 number (omega arith) (omega (arith, c.ranges.number.fits)) c.ranges.number.fits in
    let len = name_len _ c.args.stem.now (codes ".tlogmirror-") (decimal number) (codes ".tmp") c.in_ok-name.ensures.ok in
    record { fits = omega (arith, few, len, c.requires) }
