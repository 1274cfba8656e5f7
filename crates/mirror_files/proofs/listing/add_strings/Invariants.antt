use Rattle.mirror_files.specs.Listing.{HasGathered}
use Rattle.mirror_files.proofs.listing.add_strings.Given as goal

-- the strings so far are listed
abbrev pub invariant-loop-string : goal.invariant-loop-string
invariant-loop-string g l = HasGathered l.store l.held l.string-iterator
