-- How a command over places ends, given the answer of its call. The answers of the commands cite one lemma each.
use Rattle.std.proofs.Common.{◌≡◌, ◌⊎◌, inl, inr, ℕ, List, Option, Result, Ok, Err, subst}
use Rattle.std.specs.Io.KnownBytes.{Keeps}
use Rattle.std.specs.Result.{result_map_both}
use Rattle.signed_note.specs.Keys.{Key}
use Rattle.tlog_tiles.specs.declared.paths.Path.{Path}
use Rattle.copy_places.specs.declared.places.Places.{Places}
use Rattle.program_copies.specs.declared.follow_fault.FollowRunFault.{FollowRunFault}
use Rattle.program_copies.specs.declared.follow_fault.FollowRunFault.TheVariants as follow
use Rattle.program_copies.specs.declared.repair_fault.RepairRunFault.{RepairRunFault}
use Rattle.program_copies.specs.declared.repair_fault.RepairRunFault.TheVariants as repair
use Rattle.program_copies.specs.Audits.{BlamesRun, RunsAudit}
use Rattle.program_copies.specs.declared.entries_fault.AuditRunFault.{AuditRunFault}
use Rattle.program_copies.specs.declared.entries_fault.AuditRunFault.TheVariants as audit
use Rattle.program_words.specs.declared.commands.audit.Audit.{Audit as AuditWords}
use Rattle.program_words.specs.declared.commands.follow.Follow.{Follow as FollowWords}
use Rattle.program_io.specs.Moment.{Moment}
use Rattle.program_io.specs.Performing.{MayLeave, Performs, Stays}
use Rattle.program_io.specs.Places.{World}
use Rattle.program_io.specs.PlaceWords.{words_of}
use Rattle.copy_commands.specs.PlaceFaults.{IsLate}
use Rattle.copy_commands.specs.Audit.{AnswersPlace, AuditsPlace, DoesAudit}
use Rattle.copy_commands.specs.Follow.{AnswersAmong, DoesFollow}
use Rattle.copy_commands.specs.Places.{ArePlacesOf}
use Rattle.copy_commands.specs.declared.place_fault.PlaceRunFault.{PlaceRunFault}
use Rattle.copy_commands.specs.declared.place_fault.PlaceRunFault.TheVariants.{Audit, Follow, Origin, OutOfMemory, Repair}
use Rattle.program_io.proofs.Performing.{performs, performs_done}

-- ---- follow

-- the answer of the call is that of the command
pub same_answer : (digest : List ℕ → List ℕ) {S : Type 0} (may : S → Path → Option (List ℕ) → Type 0) (failed : S → ℕ)
    (asked : S → Option (List Path)) (keys : List Key) (old new : Moment) (places : Places S) (c : FollowWords)
    (answer is : Result ℕ PlaceRunFault) → is ≡ result_map_both (λ status. status) (λ fault. fault) answer →
    AnswersAmong digest may failed asked keys old new places c answer →
    AnswersAmong digest may failed asked keys old new places c is
same_answer digest may failed asked keys old new places c (Ok status) is same h = rw same h
same_answer digest may failed asked keys old new places c (Err fault) is same h = rw same h

module _ (world : World) (digest : List ℕ → List ℕ) (keys : List Key) (old new : Moment) (c : FollowWords)
    (places : Places world.Place) (are : ArePlacesOf world.at c.places.items places.list.items) where
  abbrev Among : Result ℕ PlaceRunFault → Type 0
  Among answer = AnswersAmong digest world.may world.failed world.asked keys old new places c answer

  quiet : (fault : FollowRunFault) → Among (Err (Follow fault)) → (¬ IsLate (Follow fault)) → Keeps old.output new.output
  quiet (follow.File fault) h other = h.1.runs.follows.text
  quiet follow.CopyInUse h other = h.1.runs.follows.text
  quiet follow.OutOfMemory h other = h.1.runs.follows.text
  quiet (follow.Follow fault) h other = h.1.runs.follows.text
  quiet follow.WriteFault h other = absurd (other tt)
  quiet (follow.Evidence fault) h other = absurd (other tt)
  quiet (follow.EvidenceAndOutput fault) h other = absurd (other tt)

  quiet_repair : (fault : RepairRunFault) → Among (Err (Repair fault)) → (¬ IsLate (Repair fault)) → Keeps old.output new.output
  quiet_repair (repair.Early fault) h other = h.1.runs.text
  quiet_repair repair.OutOfMemory h other = h.1.runs.1.line
  quiet_repair (repair.Repair fault) h other = absurd (other tt)
  quiet_repair (repair.RepairAndOutput fault) h other = absurd (other tt)
  quiet_repair (repair.Followed fault) h other = absurd (other tt)
  quiet_repair (repair.Unprinted fault) h other = absurd (other tt)

  status_of : (status : ℕ) → Among (Ok status) → (status ≡ 0) ⊎ (status ≡ 3)
  status_of status (inl h) = h.1.runs.status
  status_of status (inr h) = h.1.runs.does.follows.status

  pub performed : (is : Result ℕ PlaceRunFault) → Among is → Performs (DoesFollow world) IsLate MayLeave digest keys old new c is
  performed (Ok status) h =
      performs_done (DoesFollow world) IsLate MayLeave digest keys old new c tt status (status_of status h)
      (record { places = places; are = are; among = h })
  performed (Err (Follow fault)) h =
      performs (DoesFollow world) IsLate MayLeave digest keys old new c tt (Err (Follow fault)) tt (quiet fault h)
      (record { places = places; are = are; among = h })
  performed (Err (Repair fault)) h =
      performs (DoesFollow world) IsLate MayLeave digest keys old new c tt (Err (Repair fault)) tt (quiet_repair fault h)
      (record { places = places; are = are; among = h })
  performed (Err OutOfMemory) h = absurd h
  performed (Err (Origin fault)) h = absurd h
  performed (Err (Audit fault)) h = absurd h

-- ---- audit, over this place

module _ (digest : List ℕ → List ℕ) {S : Type 0} (may : S → Path → Option (List ℕ) → Type 0)
    (asked : S → Option (List Path)) (failed : S → ℕ) (keys : List Key) (old new : Moment) (c : AuditWords) where
  passed_on : (place : S) (answer : Result ℕ AuditRunFault) → AuditsPlace digest may asked failed keys old new place c answer →
      (is : Result ℕ PlaceRunFault) → is ≡ result_map_both (λ status. status) (λ fault. Audit fault) answer →
      AnswersPlace digest may asked failed keys old new place c is
  passed_on place (Ok status) h is same = rw same h
  passed_on place (Err fault) h is same = rw same h

  -- the place was audited, through a source that is the place
  pub audits : (place : S) → (source : S) → source ≡ place →
      (answer : Result ℕ AuditRunFault) (left : S) →
      RunsAudit digest c.log.origin.now keys (may source) (may left) (asked source) (asked left) old.output new.output answer →
      BlamesRun (failed source) (failed left) answer → (is : Result ℕ PlaceRunFault) →
      is ≡ result_map_both (λ status. status) (λ fault. Audit fault) answer →
      AnswersPlace digest may asked failed keys old new place c is
  audits place source at answer left h b is same =
      passed_on place answer (record {
        left = left;
        audits = subst (λ s. RunsAudit digest c.log.origin.now keys (may s) (may left) (asked s) (asked left) old.output
            new.output answer) at h;
        blamed = subst (λ s. BlamesRun (failed s) (failed left) answer) at b;
      }) is same

-- ---- audit, over the place of the words

module _ (world : World) (digest : List ℕ → List ℕ) (keys : List Key) (old new : Moment) (c : AuditWords) (stays : Stays old new)
    (place : world.Place) (is_at : world.at (words_of c.place) place) where
  abbrev Answers : Result ℕ PlaceRunFault → Type 0
  Answers answer = AnswersPlace digest world.may world.asked world.failed keys old new place c answer

  quiet_audit : (fault : AuditRunFault) → Answers (Err (Audit fault)) →
      (¬ IsLate (Audit fault)) → Keeps old.output new.output
  quiet_audit audit.WriteFault h other = absurd (other tt)
  quiet_audit (audit.Audit fault) h other = h.audits.2

  pub audited : (is : Result ℕ PlaceRunFault) → Answers is →
      Performs (DoesAudit world) IsLate Stays digest keys old new c is
  audited (Ok status) h =
      performs_done (DoesAudit world) IsLate Stays digest keys old new c stays status (inl h.audits.0)
      (record { place = place; is_at = is_at; answers = h })
  audited (Err (Audit fault)) h =
      performs (DoesAudit world) IsLate Stays digest keys old new c stays (Err (Audit fault)) tt (quiet_audit fault h)
      (record { place = place; is_at = is_at; answers = h })
  audited (Err OutOfMemory) h = absurd h
  audited (Err (Origin fault)) h = absurd h
  audited (Err (Follow fault)) h = absurd h
  audited (Err (Repair fault)) h = absurd h
