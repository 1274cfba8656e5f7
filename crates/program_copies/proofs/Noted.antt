-- The facts about the note, the copy, the output and the evidence of a run.
use Rattle.std.proofs.Common.{◌≡◌, ◌⊎◌, inl, inr, ℕ, List, IfErr, IfOk, Option, Some, None, Result, Ok, Err, refl, sym, subst, ◌∙◌}
use Rattle.std.proofs.KnownBytes.{Keeps-refl}
use Rattle.std.specs.Io.KnownBytes.{Keeps}
use Rattle.std.proofs.lemmas.List.Elements.{All-weaker}
use Rattle.std.proofs.lemmas.Option.{none-some}
use Rattle.tlog_tiles.specs.declared.paths.Path.{Path}
use Rattle.tlog_tiles.specs.declared.paths.Path.TheVariants.{Checkpoint}
use Rattle.signed_note.specs.Keys.{Key}
use Rattle.mirror_folders.specs.Shelf.{Put, RecordsRead}
use Rattle.copy_places.specs.declared.places.Places.{Places}
use Rattle.copy_places.specs.Requests.{IsGivenOrMayGive}
use Rattle.copy_places.specs.AskedOnce.{AsksEachOnce}
use Rattle.copy_places.specs.GatheredFrom.{AreCandidates, AreFirstCandidates}
use Rattle.copy_follow.proofs.Noted.{says_so}
use Rattle.copy_places.specs.Candidates.{note_of}
use Rattle.copy_places.specs.declared.candidate.Candidate.{Candidate}
use Rattle.copy_follow.specs.Blame.{CountsFollowFault}
use Rattle.copy_follow.specs.Ending.{EndsFor, EndsOnce}
use Rattle.copy_follow.specs.Looks.{EndsLooking, IsLookedAt}
use Rattle.copy_follow.specs.OneHonestRun.{IsHonestAmong, IsHonestRun, ReachesLog, ReachesSize}
use Rattle.copy_follow.specs.Runs.{FollowsCandidates}
use Rattle.copy_follow.specs.Says.{Says}
use Rattle.copy_follow.specs.RunStanding.{IsFollowed}
use Rattle.copy_follow.specs.Told.{TellsLarger}
use Rattle.copy_follow.specs.declared.follow_fault.FollowFault.{FollowFault}
use Rattle.copy_follow.specs.declared.follow_fault.FollowFault.TheVariants as following
use Rattle.copy_follow.specs.declared.report.Followed.{Followed}
use Rattle.program_io.specs.Named.{HasContents, NamedFile}
use Rattle.program_copies.specs.Following.{AreRunCandidates, CopyFollowed, CountsRun, EndsBefore, EndsByRunLook, EndsFollowing, Follows, IsNoteOf, HonestSuffices, LooksRun, PrintsSettled, ReachesRun, ReadsGiven, ReadsNote, PrintsDone, RunsFollow, SettlesRun, SufficesForRun}
use Rattle.program_copies.specs.declared.follow_fault.FollowRunFault.{FollowRunFault}
use Rattle.program_copies.specs.declared.follow_fault.FollowRunFault.TheVariants.{File, CopyInUse, OutOfMemory, Follow, WriteFault, Evidence, EvidenceAndOutput}

-- the given note is that of the named file
pub note_had : {S : Type 0} (may : S → Path → Option (List ℕ) → Type 0) (recorded : Option (List NamedFile))
    (name : Option (List ℕ)) (places : Places S) (given : Option (List ℕ)) → ReadsNote recorded name (Ok given) →
    (note : List ℕ) → IsGivenOrMayGive may given places note → IsNoteOf may recorded name places note
note_had may recorded None places None reads note had = had
note_had may recorded None places (Some bytes) reads note had = absurd (none-some bytes (sym reads))
note_had may recorded (Some name) places None reads note had = absurd reads
note_had may recorded (Some name) places (Some bytes) reads note had =
    subst (λ (given : List ℕ). HasContents recorded name given) (sym had) reads

-- the named note was read before the result was written
pub given_recorded : (recorded : Option (List NamedFile)) (name given : Option (List ℕ)) → ReadsNote recorded name (Ok given) →
    (origin : List ℕ) (keys : List Key) (forks : Option (List ℕ)) (done : Followed) (from left : Option (List NamedFile))
    (old new : Option (List ℕ)) (r : Result ℕ FollowRunFault) → PrintsDone origin keys forks done from left old new r →
    ReadsGiven recorded name r
given_recorded recorded name given reads origin keys forks done from left old new (Ok status) tells = (given, reads)
given_recorded recorded name given reads origin keys forks done from left old new (Err (File fault)) tells = absurd tells
given_recorded recorded name given reads origin keys forks done from left old new (Err CopyInUse) tells = absurd tells
given_recorded recorded name given reads origin keys forks done from left old new (Err OutOfMemory) tells = absurd tells
given_recorded recorded name given reads origin keys forks done from left old new (Err (Follow fault)) tells = (given, reads)
given_recorded recorded name given reads origin keys forks done from left old new (Err WriteFault) tells = (given, reads)
given_recorded recorded name given reads origin keys forks done from left old new (Err (Evidence fault)) tells = (given, reads)
given_recorded recorded name given reads origin keys forks done from left old new (Err (EvidenceAndOutput fault)) tells = (given, reads)

module _ (digest : List ℕ → List ℕ) (origin : List ℕ) (keys : List Key) (so other : List ℕ → Type 0)
    (weaker : (note : List ℕ) → so note → other note) (held before put : Option (List Put))
    (forks : Option (List ℕ)) (recorded left : Option (List NamedFile)) (old new : Option (List ℕ)) where
  follows_had : FollowsCandidates digest origin keys so held put → FollowsCandidates digest origin keys other held put
  follows_had follows = record {
    candidates = follows.candidates;
    opened = follows.opened;
    had = All-weaker (λ candidate. so (note_of candidate)) (λ candidate. other (note_of candidate))
        (λ candidate. weaker (note_of candidate)) follows.candidates follows.had;
    keeps = follows.keeps;
    pruned = follows.pruned;
  }

  copy_had : (done : Followed) → CopyFollowed digest origin keys so held put done →
      CopyFollowed digest origin keys other held put done
  copy_had done copy = record { whole = follows_had copy.whole; brought = copy.brought; forks = copy.forks }

  -- the copy was followed, and then the result was written
  pub follows_recorded : (done : Followed) (r : Result ℕ FollowRunFault) → CopyFollowed digest origin keys so held put done →
      PrintsDone origin keys forks done recorded left old new r →
      Follows digest origin keys other forks held before put recorded left old new r
  follows_recorded done (Ok status) copy tells = record { done = done; copy = copy_had done copy; tells = tells }
  follows_recorded done (Err (File fault)) copy tells = absurd tells
  follows_recorded done (Err CopyInUse) copy tells = absurd tells
  follows_recorded done (Err OutOfMemory) copy tells = absurd tells
  follows_recorded done (Err (Follow fault)) copy tells =
      record { copy = follows_had copy.whole; text = tells.text; files = tells.files }
  follows_recorded done (Err WriteFault) copy tells = record { done = done; copy = copy_had done copy; tells = tells }
  follows_recorded done (Err (Evidence fault)) copy tells = record { done = done; copy = copy_had done copy; tells = tells }
  follows_recorded done (Err (EvidenceAndOutput fault)) copy tells = record { done = done; copy = copy_had done copy; tells = tells }

  -- `follow` ended, and nothing was written
  pub follows_ended : (fault : FollowFault) → FollowsCandidates digest origin keys so held put → Keeps old new →
      left ≡ recorded → Follows digest origin keys other forks held before put recorded left old new (Err (Follow fault))
  follows_ended fault copy text files = record { copy = follows_had copy; text = text; files = files }

module _ (origin : List ℕ) (keys : List Key) (forks : Option (List ℕ)) (done : Followed)
    (recorded left : Option (List NamedFile)) (old new : Option (List ℕ)) where
  -- the output after a run counts no failure
  pub recorded_counts : (r : Result ℕ FollowRunFault) (count counted : ℕ) → PrintsDone origin keys forks done recorded left old new r →
      counted ≡ count → CountsRun count counted r
  recorded_counts (Ok status) count counted tells same = same
  recorded_counts (Err (File fault)) count counted tells same = same
  recorded_counts (Err CopyInUse) count counted tells same = same
  recorded_counts (Err OutOfMemory) count counted tells same = same
  recorded_counts (Err (Follow fault)) count counted tells same =
      subst (λ (f : FollowFault). CountsFollowFault count counted f) (sym tells.fault_is) same
  recorded_counts (Err WriteFault) count counted tells same = same
  recorded_counts (Err (Evidence fault)) count counted tells same = same
  recorded_counts (Err (EvidenceAndOutput fault)) count counted tells same = same

-- a fact about the gathered candidates holds for the candidates of the run, and for the printed result
module _ {S : Type 0} (digest : List ℕ → List ℕ) (origin : List ℕ) (keys : List Key)
    (may : S → Path → Option (List ℕ) → Type 0) (failed : S → ℕ) (asked : S → Option (List Path))
    (places left_places : Places S) (files : Option (List NamedFile)) (name given : Option (List ℕ)) (held put : Option (List Put)) (forks : Option (List ℕ)) (done : Followed)
    (recorded left : Option (List NamedFile)) (old new : Option (List ℕ)) (reads : ReadsNote files name (Ok given))
    (says : Says digest origin (AreFirstCandidates may failed asked origin keys places left_places given) held put done)
    (larger : TellsLarger digest may failed asked places left_places done) where
  abbrev Settled : Result ℕ FollowRunFault → Type 0
  Settled r =
      PrintsSettled digest may failed asked origin keys places left_places
      (AreRunCandidates may failed asked origin keys places left_places files name) held put forks recorded left old new r

  settled : (r : Result ℕ FollowRunFault) → PrintsDone origin keys forks done recorded left old new r → Settled r
  settled r tells = record {
    done = done;
    says = says_so digest origin (AreFirstCandidates may failed asked origin keys places left_places given)
        (AreRunCandidates may failed asked origin keys places left_places files name)
        (λ candidates are. record { given = given; reads = reads; are = are }) held put {E = FollowRunFault} (Ok done) says;
    larger = larger;
    tells = tells;
  }

  pub says_printed : (r : Result ℕ FollowRunFault) → PrintsDone origin keys forks done recorded left old new r →
      SettlesRun digest may failed asked origin keys places left_places
      (AreRunCandidates may failed asked origin keys places left_places files name) held put forks recorded left old new r
  says_printed (Ok status) tells = settled (Ok status) tells
  says_printed (Err (File fault)) tells = tt
  says_printed (Err CopyInUse) tells = tt
  says_printed (Err OutOfMemory) tells = tt
  says_printed (Err (Follow fault)) tells = tt
  says_printed (Err WriteFault) tells = settled (Err WriteFault) tells
  says_printed (Err (Evidence fault)) tells = settled (Err (Evidence fault)) tells
  says_printed (Err (EvidenceAndOutput fault)) tells = settled (Err (EvidenceAndOutput fault)) tells

-- ---- the reasons why `follow` ends

module _ (so other : List ℕ → Type 0) (weaker : (note : List ℕ) → so note → other note) (held now : Option (List Put)) where
  had_so : (found : Option (List ℕ)) → RecordsRead held Checkpoint found ⊎ ((note : List ℕ) × (found ≡ Some note) × so note) →
      RecordsRead held Checkpoint found ⊎ ((note : List ℕ) × (found ≡ Some note) × other note)
  had_so found (inl h) = inl h
  had_so found (inr h) = inr (h.0, h.1, weaker h.0 h.2)

  looked_so : (fault : FollowFault) → IsLookedAt so held now fault → IsLookedAt other held now fault
  looked_so fault l = record { found = l.found; had = had_so l.found l.had; ends = l.ends }

  looks_so : (fault : FollowFault) → EndsLooking so held now fault → EndsLooking other held now fault
  looks_so following.NoCheckpoint h = tt
  looks_so (following.Head fault) h = tt
  looks_so following.CopyDamaged h = looked_so following.CopyDamaged h
  looks_so following.CopyInUse h = looked_so following.CopyInUse h
  looks_so following.ShelfFault h = tt
  looks_so following.Contradiction h = tt
  looks_so following.Collision h = tt
  looks_so following.NoFile h = tt
  looks_so following.Source h = tt
  looks_so following.OutOfMemory h = tt

module _ (digest : List ℕ → List ℕ) {S : Type 0} (may : S → Path → Option (List ℕ) → Type 0) (asked : S → Option (List Path))
    (origin : List ℕ) (keys : List Key) (held : Option (List Put)) (x y : Places S) (recorded : Option (List NamedFile))
    (name : Option (List ℕ)) (given : Option (List ℕ)) (reads : ReadsNote recorded name (Ok given)) where
  memory_ends : (g : Option (List ℕ)) → EndsFor digest may origin keys held x y g following.OutOfMemory
  memory_ends None = tt
  memory_ends (Some note) = tt

  ends_so : (fault : FollowFault) → EndsFor digest may origin keys held x y given fault →
      EndsOnce (AsksEachOnce asked (λ k path. path ≡ Checkpoint) x y) (RecordsRead held Checkpoint None) fault →
      EndsFollowing digest may asked origin keys held x y recorded name fault
  ends_so fault ends passed = record { given = given; reads = reads; ends = ends; passed = passed }

  pub ends_same : (fault other : FollowFault) → fault ≡ other → EndsFor digest may origin keys held x y given fault →
      EndsOnce (AsksEachOnce asked (λ k path. path ≡ Checkpoint) x y) (RecordsRead held Checkpoint None) fault →
      EndsFollowing digest may asked origin keys held x y recorded name other
  ends_same fault other same ends passed =
      subst (λ f. EndsFollowing digest may asked origin keys held x y recorded name f) same (ends_so fault ends passed)

  -- memory for the text was refused, after the copy was followed
  pub ends_recorded : (forks : Option (List ℕ)) (done : Followed) (from left : Option (List NamedFile))
      (old new : Option (List ℕ)) (r : Result ℕ FollowRunFault) → PrintsDone origin keys forks done from left old new r →
      IfErr r (λ e. (fault : FollowFault) → e ≡ Follow fault →
      EndsFollowing digest may asked origin keys held x y recorded name fault)
  ends_recorded forks done from left old new (Ok status) tells = tt
  ends_recorded forks done from left old new (Err (File f)) tells = λ fault e. absurd tells
  ends_recorded forks done from left old new (Err CopyInUse) tells = λ fault e. absurd tells
  ends_recorded forks done from left old new (Err OutOfMemory) tells = λ fault e. absurd tells
  ends_recorded forks done from left old new (Err (Follow f)) tells = λ fault e.
      let same : f ≡ fault = cc in
      subst (λ g. EndsFollowing digest may asked origin keys held x y recorded name g) (sym tells.fault_is ∙ same)
      (ends_so following.OutOfMemory (memory_ends given) tt)
  ends_recorded forks done from left old new (Err WriteFault) tells = λ fault e. absurd cc
  ends_recorded forks done from left old new (Err (Evidence f)) tells = λ fault e. absurd cc
  ends_recorded forks done from left old new (Err (EvidenceAndOutput f)) tells = λ fault e. absurd cc

-- the look at the folder's checkpoint, with the note of the named file, if one is named
module _ {D S : Type 0} (puts : D → Option (List Put)) (may : S → Path → Option (List ℕ) → Type 0)
    (recorded : Option (List NamedFile)) (name given : Option (List ℕ)) (x : Places S) (held : Option (List Put))
    (reads : ReadsNote recorded name (Ok given)) where
  abbrev LookedAt : FollowFault → Type 0
  LookedAt fault = EndsByRunLook puts (IsNoteOf may recorded name x) held fault

  pub looks_ended : (fault : FollowFault) → EndsByRunLook puts (IsGivenOrMayGive may given x) held fault →
      LooksRun puts may recorded name x held (Err (Follow fault))
  looks_ended fault l = λ other e.
      let same : fault ≡ other = cc in
      let seen : LookedAt fault = record {
        look = l.look;
        ends = looks_so (IsGivenOrMayGive may given x) (IsNoteOf may recorded name x)
            (note_had may recorded name x given reads) held (puts l.look) fault l.ends;
      } in
      subst LookedAt same seen

  -- memory for the text was refused, after the copy was followed
  pub looks_recorded : (look : D) (origin : List ℕ) (keys : List Key) (forks : Option (List ℕ)) (done : Followed)
      (from left : Option (List NamedFile)) (old new : Option (List ℕ)) (r : Result ℕ FollowRunFault) →
      PrintsDone origin keys forks done from left old new r → LooksRun puts may recorded name x held r
  looks_recorded look origin keys forks done from left old new (Ok status) tells = tt
  looks_recorded look origin keys forks done from left old new (Err (File f)) tells = λ fault e. absurd tells
  looks_recorded look origin keys forks done from left old new (Err CopyInUse) tells = λ fault e. absurd tells
  looks_recorded look origin keys forks done from left old new (Err OutOfMemory) tells = λ fault e. absurd tells
  looks_recorded look origin keys forks done from left old new (Err (Follow f)) tells = λ fault e.
      let same : f ≡ fault = cc in
      let memory : LookedAt following.OutOfMemory = record { look = look; ends = tt } in
      subst LookedAt (sym tells.fault_is ∙ same) memory
  looks_recorded look origin keys forks done from left old new (Err WriteFault) tells = λ fault e. absurd cc
  looks_recorded look origin keys forks done from left old new (Err (Evidence f)) tells = λ fault e. absurd cc
  looks_recorded look origin keys forks done from left old new (Err (EvidenceAndOutput f)) tells = λ fault e. absurd cc

-- a run that ends before the folder is open has no such fault
pub looks_early : {D S : Type 0} (puts : D → Option (List Put)) (may : S → Path → Option (List ℕ) → Type 0)
    (recorded : Option (List NamedFile)) (name : Option (List ℕ)) (x : Places S) (held before put : Option (List Put))
    (fault : FollowRunFault) → EndsBefore recorded name before put fault → LooksRun puts may recorded name x held (Err fault)
looks_early puts may recorded name x held before put (File fault) ends = λ other e. absurd cc
looks_early puts may recorded name x held before put CopyInUse ends = λ other e. absurd cc
looks_early puts may recorded name x held before put OutOfMemory ends = λ other e. absurd cc
looks_early puts may recorded name x held before put (Follow fault) ends = absurd ends.is_early
looks_early puts may recorded name x held before put WriteFault ends = absurd ends.is_early
looks_early puts may recorded name x held before put (Evidence fault) ends = absurd ends.is_early
looks_early puts may recorded name x held before put (EvidenceAndOutput fault) ends = absurd ends.is_early

-- ---- one honest place

module _ (digest : List ℕ → List ℕ) {S : Type 0} (may : S → Path → Option (List ℕ) → Type 0) (origin : List ℕ)
    (keys : List Key) (held put : Option (List Put)) (x y : Places S) (recorded : Option (List NamedFile))
    (name : Option (List ℕ)) (old new : Option (List ℕ)) (given : Option (List ℕ))
    (reads : ReadsNote recorded name (Ok given)) where
  abbrev Greatest : Type 0
  Greatest = IsHonestRun digest may held x y origin (AreCandidates may origin keys x y given)

  abbrev Among : Type 0
  Among = IsHonestAmong digest may put x y origin held (AreCandidates may origin keys x y given)

  abbrev Suffices : Result ℕ FollowRunFault → Type 0
  Suffices r = SufficesForRun digest may origin keys held put x y recorded name old new r

  -- the output after the copy was followed
  reaches_told : (so : Followed → Type 0) (forks : Option (List ℕ)) (done : Followed) (from left : Option (List NamedFile))
      (r : Result ℕ FollowRunFault) → IsFollowed digest origin held put done → so done →
      PrintsDone origin keys forks done from left old new r → ReachesRun digest origin held put old new so r
  reaches_told so forks done from left (Ok status) brought is tells =
      record { done = done; brought = brought; is_so = is; written = tells.whole.text }
  reaches_told so forks done from left (Err (File f)) brought is tells = tt
  reaches_told so forks done from left (Err CopyInUse) brought is tells = tt
  reaches_told so forks done from left (Err OutOfMemory) brought is tells = tt
  reaches_told so forks done from left (Err (Follow f)) brought is tells = inr tells.fault_is
  reaches_told so forks done from left (Err WriteFault) brought is tells =
      record { done = done; brought = brought; is_so = is; written = tells.text }
  reaches_told so forks done from left (Err (Evidence f)) brought is tells =
      record { done = done; brought = brought; is_so = is; written = tells.text }
  reaches_told so forks done from left (Err (EvidenceAndOutput f)) brought is tells =
      record { done = done; brought = brought; is_so = is; written = tells.text }

  for_run : (r : Result ℕ FollowRunFault) → HonestSuffices digest may origin keys held put x y recorded name old new r →
      Suffices r
  for_run (Ok status) h = h
  for_run (Err (File f)) h = tt
  for_run (Err CopyInUse) h = h
  for_run (Err OutOfMemory) h = h
  for_run (Err (Follow f)) h = h
  for_run (Err WriteFault) h = h
  for_run (Err (Evidence f)) h = h
  for_run (Err (EvidenceAndOutput f)) h = h

  -- the copy was followed, and then the result was written
  pub suffices_recorded : (forks : Option (List ℕ)) (done : Followed) (from left : Option (List NamedFile))
      (r : Result ℕ FollowRunFault) → IsFollowed digest origin held put done →
      ((h : Greatest) → ReachesLog digest h.entries h.size (Ok done)) → ((h : Among) → ReachesSize h.size (Ok done)) →
      PrintsDone origin keys forks done from left old new r → Suffices r
  suffices_recorded forks done from left r brought log size tells = for_run r (record {
    given = given;
    reads = reads;
    suffices = λ h. reaches_told (λ f. ReachesLog digest h.entries h.size (Ok f)) forks done from left r brought (log h) tells;
    reaches = λ h. reaches_told (λ f. ReachesSize h.size (Ok f)) forks done from left r brought (size h) tells;
  })

-- the folder has the same content
module _ (digest : List ℕ → List ℕ) {S : Type 0} (may : S → Path → Option (List ℕ) → Type 0) (origin : List ℕ)
    (x y : Places S) (so : List Candidate → Type 0) (r : Result Followed FollowFault) where
  pub greatest_same : (a b : Option (List Put)) → b ≡ a →
      ((h : IsHonestRun digest may b x y origin so) → ReachesLog digest h.entries h.size r) →
      (h : IsHonestRun digest may a x y origin so) → ReachesLog digest h.entries h.size r
  greatest_same a b same f =
      subst (λ o. (h : IsHonestRun digest may o x y origin so) → ReachesLog digest h.entries h.size r) same f

  pub among_same : (a b last put : Option (List Put)) → b ≡ a → last ≡ put →
      ((h : IsHonestAmong digest may put x y origin b so) → ReachesSize h.size r) →
      (h : IsHonestAmong digest may last x y origin a so) → ReachesSize h.size r
  among_same a b last put same kept f =
      subst (λ o. (h : IsHonestAmong digest may o x y origin a so) → ReachesSize h.size r) (sym kept)
      (subst (λ o. (h : IsHonestAmong digest may put x y origin o so) → ReachesSize h.size r) same f)

-- the copy at each moment, between two calls that put nothing
pub whole_same : (digest : List ℕ → List ℕ) (origin : List ℕ) (keys : List Key) (so : List ℕ → Type 0)
    (a b put last : Option (List Put)) → b ≡ a → last ≡ put → FollowsCandidates digest origin keys so b put →
    FollowsCandidates digest origin keys so a last
whole_same digest origin keys so a b put last same kept f =
    subst (λ o. FollowsCandidates digest origin keys so o last) same
    (subst (λ o. FollowsCandidates digest origin keys so b o) (sym kept) f)

-- the facts about the candidates, between two calls that put nothing
pub says_same : (digest : List ℕ → List ℕ) (origin : List ℕ) (so : List Candidate → Type 0)
    (a b put last : Option (List Put)) → b ≡ a → last ≡ put → (r : Result Followed FollowFault) →
    IfOk r (Says digest origin so b put) → IfOk r (Says digest origin so a last)
says_same digest origin so a b put last same kept r h =
    subst (λ o. IfOk r (Says digest origin so o last)) same (subst (λ o. IfOk r (Says digest origin so b o)) (sym kept) h)

-- what a fault says of the places, and of the copy, after a call that puts nothing
pub passed_same : (once : Type 0) (a b : Option (List Put)) → b ≡ a → (r : Result Followed FollowFault) →
    IfErr r (EndsOnce once (RecordsRead b Checkpoint None)) → IfErr r (EndsOnce once (RecordsRead a Checkpoint None))
passed_same once a b same r h = subst (λ o. IfErr r (EndsOnce once (RecordsRead o Checkpoint None))) same h

pub looks_same : {D : Type 0} (puts : D → Option (List Put)) (so : List ℕ → Type 0) (a b : Option (List Put)) → b ≡ a →
    (r : Result Followed FollowFault) → IfErr r (λ e. (look : D) × EndsLooking so b (puts look) e) →
    IfErr r (EndsByRunLook puts so a)
looks_same puts so a b same (Ok done) h = tt
looks_same puts so a b same (Err fault) h = record {
  look = h.0;
  ends = subst (λ o. EndsLooking so o (puts h.0) fault) same h.1;
}

-- ---- a run that ends before the folder is open

module _ (digest : List ℕ → List ℕ) {S : Type 0} (may : S → Path → Option (List ℕ) → Type 0) (failed : S → ℕ)
    (asked : S → Option (List Path)) (origin : List ℕ) (keys : List Key) (places : Places S)
    (name forks : Option (List ℕ)) (held before put : Option (List Put)) (failures more_failures : ℕ)
    (recorded : Option (List NamedFile)) (old : Option (List ℕ)) where
  pub runs_early : (fault : FollowRunFault) → EndsBefore recorded name before put fault → more_failures ≡ failures →
      RunsFollow digest may failed asked origin keys places places name forks held before put failures more_failures recorded
      recorded old old (Err fault)
  runs_early (File fault) ends counted = record {
    follows = record { copy = ends.copy; text = Keeps-refl old; files = refl };
    says = tt;
    ends = λ other e. absurd cc;
    given = ends.given;
    counted = counted;
    status = tt;
    suffices = tt;
  }
  runs_early CopyInUse ends counted = record {
    follows = record { copy = ends.copy; text = Keeps-refl old; files = refl };
    says = tt;
    ends = λ other e. absurd cc;
    given = ends.given;
    counted = counted;
    status = tt;
    suffices = record { given = ends.given.0; reads = ends.given.1; suffices = λ h. tt; reaches = λ h. tt };
  }
  runs_early OutOfMemory ends counted = record {
    follows = record { copy = ends.copy; text = Keeps-refl old; files = refl };
    says = tt;
    ends = λ other e. absurd cc;
    given = ends.given;
    counted = counted;
    status = tt;
    suffices = record { given = ends.given.0; reads = ends.given.1; suffices = λ h. tt; reaches = λ h. tt };
  }
  runs_early (Follow fault) ends counted = absurd ends.is_early
  runs_early WriteFault ends counted = absurd ends.is_early
  runs_early (Evidence fault) ends counted = absurd ends.is_early
  runs_early (EvidenceAndOutput fault) ends counted = absurd ends.is_early
