-- What is put together of a run that repairs the copy first.
use Rattle.std.proofs.Common.{◌≡◌, ℕ, List, Bool, true, false, Option, Result, Ok, Err, subst, sym}
use Rattle.tlog_tiles.specs.declared.paths.Path.{Path}
use Rattle.signed_note.specs.Keys.{Key}
use Rattle.mirror_folders.specs.Shelf.{Put}
use Rattle.copy_places.specs.declared.places.Places.{Places}
use Rattle.copy_follow.specs.Faults.{CountsFault}
use Rattle.copy_follow.specs.declared.bring_fault.BringFault.{BringFault}
use Rattle.copy_follow.specs.declared.repaired.Repaired.{Repaired}
use Rattle.program_io.specs.Named.{NamedFile}
use Rattle.program_copies.specs.Following.{ReadsNote, RunsFollow}
use Rattle.program_copies.specs.Repairing.{CountsRepairFault, FollowsLost, FollowsPrinted, PrintsRepair, RepairsCopy, RunsOpen, RunsRepair}
use Rattle.program_copies.specs.declared.follow_fault.FollowRunFault.{FollowRunFault}
use Rattle.program_copies.specs.declared.repair_fault.RepairFault.{RepairFault}
use Rattle.program_copies.specs.declared.repair_fault.RepairFault.TheVariants.{Note, Copy}
use Rattle.program_copies.specs.declared.repair_fault.RepairRunFault.{RepairRunFault}
use Rattle.program_copies.specs.declared.repair_fault.RepairRunFault.TheVariants.{Early, OutOfMemory, Repair, RepairAndOutput, Followed, Unprinted}

-- the count of failures after a call that left it
pub counted_later : (a b c : ℕ) (fault : BringFault) → b ≡ a → CountsFault b c fault → CountsFault a c fault
counted_later a b c fault same counted = subst (λ n. CountsFault n c fault) same counted

-- the same of each fault of a repair
pub counts_after : (a b : ℕ) (fault : RepairFault) → b ≡ a → CountsRepairFault a a fault → CountsRepairFault a b fault
counts_after a b (Note fault) same counted = same
counts_after a b (Copy fault) same counted = subst (λ n. CountsFault a n fault) (sym same) counted

-- a repair between two calls that put nothing and did not fail
pub repairs_between : (digest : List ℕ → List ℕ) {S : Type 0} (may : S → Path → Option (List ℕ) → Type 0) (failed : S → ℕ)
    (asked : S → Option (List Path)) (origin : List ℕ) (keys : List Key) (places left : Places S)
    (held a b put : Option (List Put)) (failures m n more : ℕ) (from to : Repaired) (answer : Result (Unit {0}) RepairFault) →
    a ≡ held → put ≡ b → m ≡ failures → more ≡ n →
    RepairsCopy digest may failed asked origin keys places left a b m n from to answer →
    RepairsCopy digest may failed asked origin keys places left held put failures more from to answer
repairs_between digest may failed asked origin keys places left held a b put failures m n more from to answer p q r s h =
    subst (λ o. RepairsCopy digest may failed asked origin keys places left o put failures more from to answer) p
    (subst (λ o. RepairsCopy digest may failed asked origin keys places left a o failures more from to answer) (sym q)
    (subst (λ k. RepairsCopy digest may failed asked origin keys places left a b k more from to answer) r
    (subst (λ k. RepairsCopy digest may failed asked origin keys places left a b m k from to answer) (sym s) h)))

module _ (digest : List ℕ → List ℕ) {S : Type 0} (may : S → Path → Option (List ℕ) → Type 0) (failed : S → ℕ)
    (asked : S → Option (List Path)) (origin : List ℕ) (keys : List Key) (places left_places : Places S)
    (name forks : Option (List ℕ)) (held before put : Option (List Put)) (failures more_failures : ℕ)
    (recorded left : Option (List NamedFile)) (old new : Option (List ℕ)) (from to : Repaired) where
  abbrev Open : Result ℕ RepairRunFault → Type 0
  Open r =
      RunsOpen digest may failed asked origin keys places left_places name forks held put failures more_failures recorded left
      old new from to r

  -- the run ended with its repair
  pub ends_printed : (given : Option (List ℕ)) → ReadsNote recorded name (Ok given) → (answer : Result (Unit {0}) RepairFault) →
      RepairsCopy digest may failed asked origin keys places left_places held put failures more_failures from to answer →
      left ≡ recorded → (fault : RepairRunFault) → PrintsRepair to.put old new answer (Err fault) → Open (Err fault)
  ends_printed given reads answer repairs same OutOfMemory p =
      (answer, record { given = given; reads = reads; repairs = repairs; files = same; line = p })
  ends_printed given reads answer repairs same (Repair fault) p = record {
    given = given;
    reads = reads;
    repairs = subst (λ a. RepairsCopy digest may failed asked origin keys places left_places held put failures more_failures from to a) p.0 repairs;
    files = same;
    line = p.1;
  }
  ends_printed given reads answer repairs same (RepairAndOutput fault) p = record {
    given = given;
    reads = reads;
    repairs = subst (λ a. RepairsCopy digest may failed asked origin keys places left_places held put failures more_failures from to a) p.0 repairs;
    files = same;
    line = p.1;
  }
  ends_printed given reads answer repairs same (Early fault) p = absurd p
  ends_printed given reads answer repairs same (Followed fault) p = absurd p
  ends_printed given reads answer repairs same (Unprinted fault) p = absurd p

  -- the repair has no fault, and its line was written whole or not
  line_of : (text : Option (List ℕ)) (answer : Result (Unit {0}) RepairFault) (printed is : Bool) → printed ≡ is →
      PrintsRepair to.put old text answer (Ok printed) → PrintsRepair to.put old text answer (Ok is)
  line_of text answer printed is same p = subst (λ (b : Bool). PrintsRepair to.put old text answer (Ok b)) same p

  -- then the copy was followed
  pub printed_done : (mid_places : Places S) (mid : Option (List Put)) (mid_failures : ℕ) (answer : Result (Unit {0}) RepairFault) →
      RepairsCopy digest may failed asked origin keys places mid_places held mid failures mid_failures from to answer →
      (text : Option (List ℕ)) (printed : Bool) → printed ≡ true → PrintsRepair to.put old text answer (Ok printed) →
      (r : Result ℕ FollowRunFault) →
      RunsFollow digest may failed asked origin keys mid_places left_places name forks mid mid put mid_failures more_failures recorded left
      text new r →
      FollowsPrinted digest may failed asked origin keys places left_places name forks held put failures more_failures recorded
      left old new from to r
  printed_done mid_places mid mid_failures answer repairs text printed is p r follows =
      let q = line_of text answer printed true is p in
      record {
        text = text;
        line = q.1;
        does = record {
          mid_places = mid_places;
          mid = mid;
          mid_failures = mid_failures;
          repairs = subst (λ a. RepairsCopy digest may failed asked origin keys places mid_places held mid failures mid_failures from to a)
              q.0 repairs;
          follows = follows;
        };
      }

  pub unprinted_done : (mid_places : Places S) (mid : Option (List Put)) (mid_failures : ℕ) (answer : Result (Unit {0}) RepairFault) →
      RepairsCopy digest may failed asked origin keys places mid_places held mid failures mid_failures from to answer →
      (printed : Bool) → printed ≡ false → PrintsRepair to.put old new answer (Ok printed) → (fault : FollowRunFault) →
      FollowsLost digest may failed asked origin keys mid_places left_places name forks mid put mid_failures more_failures recorded left fault →
      Open (Err (Unprinted fault))
  unprinted_done mid_places mid mid_failures answer repairs printed is p fault follows =
      let q = line_of new answer printed false is p in
      record {
        line = q.1;
        does = record {
          mid_places = mid_places;
          mid = mid;
          mid_failures = mid_failures;
          repairs = subst (λ a. RepairsCopy digest may failed asked origin keys places mid_places held mid failures mid_failures from to a)
              q.0 repairs;
          follows = follows;
        };
      }

  -- a run in the folder that was opened
  pub runs_opened : (r : Result ℕ RepairRunFault) → Open r →
      RunsRepair digest may failed asked origin keys places left_places name forks held before put failures more_failures recorded
      left old new from to r
  runs_opened (Ok status) h = h
  runs_opened (Err (Early fault)) h = absurd h
  runs_opened (Err OutOfMemory) h = h
  runs_opened (Err (Repair fault)) h = h
  runs_opened (Err (RepairAndOutput fault)) h = h
  runs_opened (Err (Followed fault)) h = h
  runs_opened (Err (Unprinted fault)) h = h

  -- the same for a folder whose puts and count are these
  pub runs_held : (o : Option (List Put)) (n : ℕ) → o ≡ held → n ≡ failures → (r : Result ℕ RepairRunFault) →
      RunsOpen digest may failed asked origin keys places left_places name forks o put n more_failures recorded left old new
      from to r →
      RunsRepair digest may failed asked origin keys places left_places name forks held before put failures more_failures recorded
      left old new from to r
  runs_held o n same count r h =
      let puts = subst (λ p. RunsOpen digest may failed asked origin keys places left_places name forks p put n more_failures recorded
      left old new from to r) same h in
      runs_opened r (subst (λ m. RunsOpen digest may failed asked origin keys places left_places name forks held put m more_failures
      recorded left old new from to r) count puts)
