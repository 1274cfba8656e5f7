-- A fault of the copy, by a second look at its checkpoint.
use Rattle.std.proofs.Common.{◌≡◌, ◌⊎◌, inl, inr, ℕ, ◌<◌, List, [], ◌∷◌, length, arith, take, All, Option, Some, None, Result, Ok, Err, IfErr, option_map, refl, sym, subst, ◌∙◌}
use Rattle.std.proofs.lemmas.List.Elements.{All-contains}
use Rattle.tlog_tiles.specs.declared.paths.Path.TheVariants.{Checkpoint}
use Rattle.mirror_folders.specs.Shelf.{Put, RecordsRead}
use Rattle.copy_places.specs.Candidates.{note_of}
use Rattle.copy_places.specs.declared.candidate.Candidate.{Candidate}
use Rattle.copy_places.specs.declared.candidate_fault.CandidateFault.{CandidateFault}
use Rattle.copy_places.specs.declared.candidate_fault.CandidateFault.TheVariants as none
use Rattle.copy_follow.specs.Blame.{of_candidates}
use Rattle.copy_follow.specs.Ending.{EndsRun, IsFaultOf, KeepsFault}
use Rattle.copy_follow.specs.Looks.{EndsByLook, EndsLooking, EndsTurns, IsHeldOf}
use Rattle.copy_follow.specs.RunStanding.{IsFoundCopy}
use Rattle.copy_follow.specs.TurnsTaken.{HasTakenRun, IsGrown, IsOneOf}
use Rattle.copy_follow.specs.declared.follow_fault.FollowFault.{FollowFault}
use Rattle.copy_follow.specs.declared.follow_fault.FollowFault.TheVariants as fault
use Rattle.copy_follow.specs.declared.run.Run.{Run}
use Rattle.copy_follow.proofs.Ending.{Reported, first_fault_of}
use Rattle.copy_follow.proofs.Lining.{listed_of_take}

-- ---- the copy of a run

held_of : (first copy : Option Candidate) (done : List Candidate) → IsGrown first copy → IsOneOf first done copy →
    IsHeldOf first done copy
held_of None None done grown one = refl
held_of (Some f) None done grown one = absurd grown
held_of first (Some c) done grown one = one

held_more : (first copy : Option Candidate) (cs : List Candidate) (i : ℕ) → IsHeldOf first (take i cs) copy → IsHeldOf first cs copy
held_more first None cs i h = h
held_more first (Some c) cs i (inl one) = inl one
held_more first (Some c) cs i (inr one) = inr (one.0, listed_of_take cs i one.0 one.1, one.2)

held_first : (first : Option Candidate) (cs : List Candidate) → IsHeldOf first cs first
held_first None cs = refl
held_first (Some f) cs = inl (record { size_is = refl; root_is = refl; note_is = refl })

pub ends_turns : (digest : List ℕ → List ℕ) (first : Option Candidate) (cs : List Candidate) (i : ℕ) (run : Run)
    (now : Option (List Put)) (e : FollowFault) → HasTakenRun digest first (take i cs) run →
    EndsByLook now (option_map note_of run.copy) e → EndsTurns first cs now e
ends_turns digest first cs i run now e h ends = record {
  copy = run.copy;
  held = held_more first run.copy cs i (held_of first run.copy (take i cs) h.taken.grown h.taken.one_of);
  ends = ends;
}

-- a fault that is none of the copy
look_none : (now : Option (List Put)) (found : Option (List ℕ)) (e : FollowFault) → EndsRun ⊥ ⊥ e → EndsByLook now found e
look_none now found fault.NoCheckpoint h = tt
look_none now found (fault.Head f) h = tt
look_none now found fault.CopyDamaged h = absurd h
look_none now found fault.CopyInUse h = absurd h
look_none now found fault.ShelfFault h = tt
look_none now found fault.Contradiction h = tt
look_none now found fault.Collision h = tt
look_none now found fault.NoFile h = tt
look_none now found fault.Source h = tt
look_none now found fault.OutOfMemory h = tt

turns_none : (first : Option Candidate) (cs : List Candidate) (now : Option (List Put)) (e : FollowFault) → EndsRun ⊥ ⊥ e →
    EndsTurns first cs now e
turns_none first cs now e h = record {
  copy = first;
  held = held_first first cs;
  ends = look_none now (option_map note_of first) e h;
}

pub turns_later : (first : Option Candidate) (cs : List Candidate) (rises : Type 0) {D T : Type 0} (puts : D → Option (List Put))
    (shelf : D) (r : Result T FollowFault) → IfErr r (EndsRun ⊥ ⊥) →
    IfErr r (λ e. rises → (look : D) × EndsTurns first cs (puts look) e)
turns_later first cs rises puts shelf (Ok x) h = tt
turns_later first cs rises puts shelf (Err e) h = λ sorted. (shelf, turns_none first cs (puts shelf) e h)

-- ---- a whole call

module _ (so : List ℕ → Type 0) (old : Option (List Put)) where
  by_found : (now : Option (List Put)) (found : Option (List ℕ)) →
      RecordsRead old Checkpoint found ⊎ ((note : List ℕ) × (found ≡ Some note) × so note) → (e : FollowFault) →
      EndsByLook now found e → EndsLooking so old now e
  by_found now found had fault.NoCheckpoint h = tt
  by_found now found had (fault.Head f) h = tt
  by_found now found had fault.CopyDamaged h = record { found = found; had = had; ends = h }
  by_found now found had fault.CopyInUse h = record { found = found; had = had; ends = h }
  by_found now found had fault.ShelfFault h = tt
  by_found now found had fault.Contradiction h = tt
  by_found now found had fault.Collision h = tt
  by_found now found had fault.NoFile h = tt
  by_found now found had fault.Source h = tt
  by_found now found had fault.OutOfMemory h = tt

  -- the checkpoint of the run's copy was found first, or is a candidate's note
  had_of : (origin : List ℕ) (first : Option Candidate) (cs : List Candidate) → IsFoundCopy origin old first →
      All (λ c. so (note_of c)) cs → (copy : Option Candidate) → IsHeldOf first cs copy →
      RecordsRead old Checkpoint (option_map note_of copy)
      ⊎ ((note : List ℕ) × (option_map note_of copy ≡ Some note) × so note)
  had_of origin first cs found notes None held = inl (subst (IsFoundCopy origin old) held found)
  had_of origin None cs found notes (Some c) (inl one) = absurd one
  had_of origin (Some f) cs found notes (Some c) (inl one) =
      inl (subst (λ (n : List ℕ). RecordsRead old Checkpoint (Some n)) (sym one.note_is) found.0)
  had_of origin first cs found notes (Some c) (inr one) =
      inr (note_of c, refl, subst so (sym one.2.note_is) (All-contains (λ c. so (note_of c)) cs one.0 notes one.1))

  pub looks_turns : (origin : List ℕ) (first : Option Candidate) (cs : List Candidate) → IsFoundCopy origin old first →
      All (λ c. so (note_of c)) cs → (now : Option (List Put)) (e : FollowFault) → EndsTurns first cs now e →
      EndsLooking so old now e
  looks_turns origin first cs found notes now e h =
      by_found now (option_map note_of h.copy) (had_of origin first cs found notes h.copy h.held) e h.ends

  -- the first look at the copy
  pub looks_first : (damaged : Type 0) (e : FollowFault) → EndsRun damaged ⊥ e →
      (e ≡ fault.CopyDamaged → (note : List ℕ) × RecordsRead old Checkpoint (Some note)) → EndsLooking so old old e
  looks_first damaged fault.NoCheckpoint h some = tt
  looks_first damaged (fault.Head f) h some = tt
  looks_first damaged fault.CopyDamaged h some =
      let there = some refl in record { found = Some there.0; had = inl there.1; ends = there.1 }
  looks_first damaged fault.CopyInUse h some = absurd h
  looks_first damaged fault.ShelfFault h some = tt
  looks_first damaged fault.Contradiction h some = tt
  looks_first damaged fault.Collision h some = tt
  looks_first damaged fault.NoFile h some = tt
  looks_first damaged fault.Source h some = tt
  looks_first damaged fault.OutOfMemory h some = tt

  -- there are no candidates
  pub looks_lacking : (now : Option (List Put)) (e : CandidateFault) → EndsLooking so old now (of_candidates e)
  looks_lacking now none.NoCheckpoint = tt
  looks_lacking now (none.Head f) = tt
  looks_lacking now none.Source = tt
  looks_lacking now none.OutOfMemory = tt

  looks_fault : (digest : List ℕ → List ℕ) (now : Option (List Put)) (c : Candidate) (e : FollowFault) → IsFaultOf digest c e →
      EndsLooking so old now e
  looks_fault digest now c fault.NoCheckpoint h = tt
  looks_fault digest now c (fault.Head f) h = tt
  looks_fault digest now c fault.CopyDamaged h = absurd h
  looks_fault digest now c fault.CopyInUse h = absurd h
  looks_fault digest now c fault.ShelfFault h = tt
  looks_fault digest now c fault.Contradiction h = tt
  looks_fault digest now c fault.Collision h = tt
  looks_fault digest now c fault.NoFile h = tt
  looks_fault digest now c fault.Source h = tt
  looks_fault digest now c fault.OutOfMemory h = tt

  -- the copy was brought to no candidate
  pub looks_report : {D : Type 0} (digest : List ℕ → List ℕ) (shelf : D) (cs : List Candidate) (run : Run)
      {T : Type 0} (puts : D → Option (List Put)) (r : Result T FollowFault) → 0 < length cs → KeepsFault digest cs run →
      IfErr r (Reported cs run) → IfErr r (λ e. (look : D) × EndsLooking so old (puts look) e)
  looks_report digest shelf cs run puts (Ok x) some keeps h = tt
  looks_report digest shelf cs run puts (Err e) some keeps (inl memory) =
      (shelf, subst (EndsLooking so old (puts shelf)) (sym memory) tt)
  looks_report digest shelf [] run puts (Err e) some keeps (inr first) = absurd (omega (arith, some))
  looks_report digest shelf (c ∷ cs) run puts (Err e) some keeps (inr first) = (
    shelf,
    looks_fault digest (puts shelf) c e (first_fault_of digest c cs run.first_fault e (keeps first.0) first.2),
  )
