use Rattle.std.proofs.Common.{◌∙◌, arith}
use Rattle.mirror_files.proofs.Gathered.{front_key}
use Rattle.mirror_files.proofs.listing.pair_of.Goals as goal

pub returns-clause-keyed : goal.returns-clause-keyed
returns-clause-keyed c = record {
  sized = c.told-left;
  small = c.fits-left;
  key_is = c.from_be_bytes-key.ensures ∙ front_key c.args.left.now (omega (arith, c.told-left));
}
