-- One more answer is gathered.
use Rattle.std.proofs.Common.{◌≡◌, ◌≢◌, ℕ, ◌+◌, ◌<◌, List, [], ◌∷◌, ◌++◌, length, map, Option, Some, None, Ok, Err, refl, sym, ◌∙◌, ap, subst, inl, inr, ◌⊎◌, Vec, Global, arith, length-append}
use Rattle.std.proofs.lemmas.List.{map-append}
use Rattle.std.specs.Prelude.{All, Contains}
use Rattle.std.proofs.lemmas.List.Elements.{All-nil, All-push, All-weaker, Contains-append_left, Contains-push, Contains-push_cases}
use Rattle.signed_note.specs.Keys.{Key}
use Rattle.mirror_model.specs.Heads.{IsOpenHead}
use Rattle.mirror_model.specs.Refusals.{ReadsHead}
use Rattle.mirror_model.proofs.RefusedHeads.{head_notes_are_read_once, open_heads_are_read}
use Rattle.mirror_model.specs.declared.fault.TakeFault.{TakeFault}
use Rattle.mirror_model.specs.declared.fault.TakeFault.TheVariants.{OutOfMemory}
use Rattle.copy_places.specs.declared.place.PlaceAnswer.{PlaceAnswer}
use Rattle.copy_places.specs.declared.place.PlaceAnswer.TheVariants.{File, NotFound, Failed}
use Rattle.copy_places.specs.Candidates.{IsCandidateOf, note_of}
use Rattle.copy_places.specs.Gathering.{Gathers, Gave, IsFirstReason, IsGiven, IsNote, IsReason, or_first}
use Rattle.copy_places.specs.declared.candidate.Candidate.{Candidate}
use Rattle.copy_places.specs.declared.candidate_fault.CandidateFault.{CandidateFault}
use Rattle.copy_places.specs.declared.candidate_fault.CandidateFault.TheVariants as follow

-- a list with one more element is not empty
not_empty : {X : Type 0} (xs : List X) (x : X) → xs ++ x ∷ [] ≡ [] → ⊥
not_empty xs x e =
    let len : length xs + 1 ≡ 0 = sym (length-append xs (x ∷ [])) ∙ ap length e in absurd (omega (arith, len))

module _ (origin : List ℕ) (keys : List Key) where
  -- a note that was refused does not open
  not_open : (bytes : List ℕ) (size : ℕ) (root : List ℕ) (head : TakeFault) → head ≢ OutOfMemory →
      ReadsHead bytes origin keys (Err head) → ¬ IsOpenHead bytes origin keys size root
  not_open bytes size root head differs reads is_open =
      let o = (open_heads_are_read bytes origin keys size root).0 is_open in
      let e : Err head ≡ Ok o.checkpoint =
      head_notes_are_read_once bytes origin keys (Err head) (Ok o.checkpoint) reads o.is_open
      (λ e. differs (cc e)) (λ e. cc e) in absurd (cc e)

  -- an answer without a candidate is not a note that opens
  no_note : (answer : PlaceAnswer) (fault : CandidateFault) (note : List ℕ) (size : ℕ) (root : List ℕ) →
      IsReason origin keys answer fault → IsNote note answer → ¬ IsOpenHead note origin keys size root
  no_note (File bytes) fault note size root reason is is_open =
      not_open bytes.items size root reason.0 reason.1 reason.3
      (subst (λ n. IsOpenHead n origin keys size root) (sym is) is_open)
  no_note NotFound fault note size root reason is is_open = is
  no_note Failed fault note size root reason is is_open = is

  -- a note that was given is still given after one more answer
  gave_more : (answers : List PlaceAnswer) (answer : PlaceAnswer) (note : List ℕ) → Gave answers note →
      Gave (answers ++ answer ∷ []) note
  gave_more answers answer note g = record {
    answer = g.answer;
    among = Contains-append_left answers (answer ∷ []) g.answer g.among;
    is_note = g.is_note;
  }

  given_more : (answers : List PlaceAnswer) (answer : PlaceAnswer) (candidates : List Candidate) →
      All (IsGiven origin keys answers) candidates → All (IsGiven origin keys (answers ++ answer ∷ [])) candidates
  given_more answers answer candidates given =
      All-weaker (IsGiven origin keys answers) (IsGiven origin keys (answers ++ answer ∷ []))
      (λ c g. record { gave = gave_more answers answer (note_of c) g.gave; is_candidate = g.is_candidate })
      candidates given

  -- a note that is given after one more answer was given before, or is that answer
  pub gave_cases : (answers : List PlaceAnswer) (answer : PlaceAnswer) (note : List ℕ) → Gave (answers ++ answer ∷ []) note →
      Gave answers note ⊎ IsNote note answer
  gave_cases answers answer note g = elim (Contains-push_cases answers answer g.answer g.among) [
    | inl before ↦ inl (record { answer = g.answer; among = before; is_note = g.is_note })
    | inr last ↦ inr (subst (λ a. IsNote note a) (sym last) g.is_note)
  ]

  first_more : (answers : List PlaceAnswer) (answer : PlaceAnswer) (first : Option CandidateFault) (fault : CandidateFault) →
      IsReason origin keys answer fault → IsFirstReason origin keys answers first →
      IsFirstReason origin keys (answers ++ answer ∷ []) (or_first first fault)
  first_more [] answer None fault reason is = reason
  first_more [] answer (Some f) fault reason is = absurd (cc is)
  first_more (a ∷ answers) answer None fault reason is = absurd is
  first_more (a ∷ answers) answer (Some f) fault reason is = is

  -- an answer without a candidate
  pub gathers_none : (answers : List PlaceAnswer) (answer : PlaceAnswer) (fault : CandidateFault)
      (candidates : List Candidate) (first : Option CandidateFault) → IsReason origin keys answer fault →
      Gathers origin keys answers candidates first →
      Gathers origin keys (answers ++ answer ∷ []) candidates (or_first first fault)
  gathers_none answers answer fault candidates first reason g = record {
    are_of = record {
      each = given_more answers answer candidates g.are_of.each;
      every = λ note size root gave is_open. elim (gave_cases answers answer note gave) [
        | inl before ↦ g.are_of.every note size root before is_open
        | inr last ↦ absurd (no_note answer fault note size root reason last is_open)
      ];
    };
    none = λ empty. first_more answers answer first fault reason (g.none empty);
  }

  -- a note that opens
  pub gathers_one : (answers : List PlaceAnswer) (bytes : Vec ℕ Global) (candidates : List Candidate)
      (first : Option CandidateFault) (candidate : Candidate) →
      IsCandidateOf bytes.items origin keys candidate → Gathers origin keys answers candidates first →
      Gathers origin keys (answers ++ File bytes ∷ []) (candidates ++ candidate ∷ []) first
  gathers_one answers bytes candidates first candidate is g = record {
    are_of = record {
      each = All-push (IsGiven origin keys (answers ++ File bytes ∷ [])) candidates candidate
          (given_more answers (File bytes) candidates g.are_of.each)
          (record {
            gave = record { answer = File bytes; among = Contains-push answers (File bytes); is_note = sym is.note_is };
            is_candidate = subst (λ n. IsCandidateOf n origin keys candidate) (sym is.note_is) is;
          });
      every = λ note size root gave is_open.
          subst (λ l. Contains l note) (sym (map-append note_of candidates (candidate ∷ [])))
          (elim (gave_cases answers (File bytes) note gave) [
            | inl before ↦ Contains-append_left (map note_of candidates) (note_of candidate ∷ []) note
                (g.are_of.every note size root before is_open)
            | inr last ↦ subst (λ n. Contains (map note_of candidates ++ note_of candidate ∷ []) n) (is.note_is ∙ last)
                (Contains-push (map note_of candidates) (note_of candidate))
          ]);
    };
    none = λ empty. absurd (not_empty candidates candidate empty);
  }

  -- an answer that was skipped
  pub gathers_passed : (answers : List PlaceAnswer) (answer : PlaceAnswer) (fault : CandidateFault)
      (old new : List Candidate) (first last : Option CandidateFault) → new ≡ old → last ≡ or_first first fault →
      IsReason origin keys answer fault → Gathers origin keys answers old first →
      Gathers origin keys (answers ++ answer ∷ []) new last
  gathers_passed answers answer fault old new first last same kept reason g =
      subst (λ l. Gathers origin keys (answers ++ answer ∷ []) l last) (sym same)
      (subst (λ f. Gathers origin keys (answers ++ answer ∷ []) old f) (sym kept)
      (gathers_none answers answer fault old first reason g))

  -- a note that opens was added
  pub gathers_added : (answers : List PlaceAnswer) (bytes : Vec ℕ Global) (old new : List Candidate)
      (first : Option CandidateFault) (candidate : Candidate) → new ≡ old ++ candidate ∷ [] →
      IsCandidateOf bytes.items origin keys candidate → Gathers origin keys answers old first →
      Gathers origin keys (answers ++ File bytes ∷ []) new first
  gathers_added answers bytes old new first candidate added is g =
      subst (λ l. Gathers origin keys (answers ++ File bytes ∷ []) l first) (sym added)
      (gathers_one answers bytes old first candidate is g)

  -- an answer of a place without a checkpoint, or that failed
  pub not_found : (answer : PlaceAnswer) → answer ≡ NotFound → IsReason origin keys answer follow.NoCheckpoint
  not_found answer is = subst (λ a. IsReason origin keys a follow.NoCheckpoint) (sym is) refl

  pub failed : (answer : PlaceAnswer) → answer ≡ Failed → IsReason origin keys answer follow.Source
  failed answer is = subst (λ a. IsReason origin keys a follow.Source) (sym is) refl

  -- no answers give no candidates
  gathers_nothing : Gathers origin keys [] [] None
  gathers_nothing = record {
    are_of = record {
      each = All-nil (IsGiven origin keys []);
      every = λ note size root gave is_open. absurd (let lt : gave.among.0 < 0 = gave.among.1 in omega arith);
    };
    none = λ empty. refl;
  }

  pub gathers_new : (candidates : List Candidate) (first : Option CandidateFault) → candidates ≡ [] → first ≡ None →
      Gathers origin keys [] candidates first
  gathers_new candidates first empty none =
      subst (λ l. Gathers origin keys [] l first) (sym empty)
      (subst (λ f. Gathers origin keys [] [] f) (sym none) gathers_nothing)
