-- Faults of the files with which a copy is compared.
use Rattle.std.proofs.Common.{◌≡◌, ℕ, List, Option, Err}
use Rattle.signed_note.specs.Keys.{Key}
use Rattle.mirror_folders.specs.Shelf.{Put}
use Rattle.program_io.specs.Named.{NamedFile}
use Rattle.program_reports.specs.declared.reports.Report.{Report as Printout}
use Rattle.program_copies.specs.Comparisons.{GivesHeads, ReportsCompared}
use Rattle.program_copies.specs.Printed.{CountsAsk}
use Rattle.copy_reader.specs.declared.fault.CopyFault.TheVariants.{BadOrigin, Head, CopyDamaged, ShelfFault, OutOfMemory}
use Rattle.program_copies.specs.declared.fault.CopyAskFault.{CopyAskFault}
use Rattle.program_copies.specs.declared.fault.CopyAskFault.TheVariants.{Copy, Heads, Ask}

module _ (origin : List ℕ) (keys : List Key) (files : Option (List NamedFile)) (names : List (List ℕ)) where
  -- if the tree heads cannot be read, nothing is reported, for that reason
  pub given_fault : (digest : List ℕ → List ℕ) (held : Option (List Put)) (fault : CopyAskFault) →
      GivesHeads origin keys files names (Err fault) → ReportsCompared origin keys files names digest held (Err fault)
  given_fault digest held (Copy BadOrigin) h = record { refused = h; named = tt }
  given_fault digest held (Copy (Head f)) h = absurd h
  given_fault digest held (Copy (CopyDamaged path)) h = absurd h
  given_fault digest held (Copy ShelfFault) h = absurd h
  given_fault digest held (Copy OutOfMemory) h = record { refused = tt; named = tt }
  given_fault digest held (Heads f) h = h
  given_fault digest held (Ask f) h = absurd h

  -- and the shelf did not fail
  pub given_counts : (old new : ℕ) (fault : CopyAskFault) → GivesHeads origin keys files names (Err fault) →
      new ≡ old → CountsAsk {T = Printout} old new (Err fault)
  given_counts old new (Copy BadOrigin) h same = same
  given_counts old new (Copy (Head f)) h same = same
  given_counts old new (Copy (CopyDamaged path)) h same = same
  given_counts old new (Copy ShelfFault) h same = absurd h
  given_counts old new (Copy OutOfMemory) h same = same
  given_counts old new (Heads f) h same = same
  given_counts old new (Ask f) h same = same
