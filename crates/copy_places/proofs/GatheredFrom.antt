-- The candidates of the places of a run, place after place.
use Rattle.std.proofs.Common.{◌≡◌, ◌≢◌, inl, inr, ℕ, ◌+◌, ◌<◌, List, [], ◌∷◌, ◌++◌, All, Option, Some, None, refl, sym, subst, ◌∙◌, ap, arith, Global, Vec, Result, Ok, Err, map, get_or, length, length-append}
use Rattle.std.specs.List.{Contains}
use Rattle.std.specs.List.Sorted.{IsPermutation}
use Rattle.std.specs.Prelude.{IfErr, IfOk}
use Rattle.std.proofs.Math.Seq.{get_or-append_seam}
use Rattle.std.proofs.lemmas.Bool.{cases_lt}
use Rattle.std.proofs.lemmas.List.{get_or_append_left, nil_from_length}
use Rattle.std.proofs.lemmas.List.Elements.{All-weaker, Contains-append_left, Contains-push, Contains-push_cases}
use Rattle.std.proofs.lemmas.List.Sorted.{All-permutation, Contains-permutation, IsPermutation-map, length_permutation}
use Rattle.tlog_tiles.specs.declared.paths.Path.{Path}
use Rattle.tlog_tiles.specs.declared.paths.Path.TheVariants.{Checkpoint}
use Rattle.signed_note.specs.Keys.{Key}
use Rattle.copy_places.specs.declared.place.Place.{Place}
use Rattle.copy_places.specs.declared.places.Places.{Places}
use Rattle.copy_places.specs.declared.place.PlaceAnswer.{PlaceAnswer}
use Rattle.copy_places.specs.declared.place.PlaceAnswer.TheVariants.{File, NotFound, Failed}
use Rattle.copy_places.specs.Requests.{AsksAny, MayGiveNote, PlaceFails}
use Rattle.copy_places.specs.GatheredFrom.{AnswerEach, AreCandidates, AreFirstCandidates, GathersFrom, GiveCandidates, GiveNone, GiveNoneFor, MayAnswer}
use Rattle.copy_places.specs.Gathering.{AreCandidatesOf, Gathers, IsFirstReason, IsGiven, IsNote, IsReason, option_or}
use Rattle.copy_places.specs.Candidates.{note_of}
use Rattle.copy_places.specs.declared.candidate.Candidate.{Candidate}
use Rattle.copy_places.specs.declared.candidate_fault.CandidateFault.{CandidateFault}
use Rattle.copy_places.specs.declared.candidate_fault.CandidateFault.TheVariants as fault
use Rattle.copy_places.specs.declared.gather.Gathered.{Gathered}
use Rattle.copy_places.proofs.Requests.{fails_later, fails_then, gives_before}
use Rattle.copy_places.proofs.Gathering.{gave_cases}

-- the candidates in the order of turns are not empty if the gathered ones are not
pub turns_some : (g : Gathered) (r : Result (Vec Candidate Global) CandidateFault) →
    IfOk r (λ c. IsPermutation g.candidates.items c.items) → IfOk r (λ c. g.candidates.items ≢ []) →
    IfOk r (λ c. 0 < length c.items)
turns_some g (Err e) same some = tt
turns_some g (Ok c) same some = elim (cases_lt 0 (length c.items)) [
  | inl lt ↦ lt
  | inr le ↦
      let none : length g.candidates.items ≡ 0 =
      omega (arith, length_permutation g.candidates.items c.items same, le) in
      absurd (some (nil_from_length g.candidates.items none))
]

module _ (origin : List ℕ) (keys : List Key) where
  reason_failed : (answer : PlaceAnswer) (f : CandidateFault) → IsReason origin keys answer f → f ≡ fault.Source →
      answer ≡ Failed
  reason_failed (File bytes) f reason is = absurd (cc (reason.2, is))
  reason_failed NotFound f reason is = absurd (cc (reason, is))
  reason_failed Failed f reason is = refl

  head_among : (answer : PlaceAnswer) (answers : List PlaceAnswer) → answer ≡ Failed → Contains (answer ∷ answers) Failed
  head_among answer answers is =
      subst (λ a. Contains (a ∷ answers) Failed) (sym is)
      (Contains-append_left (Failed ∷ []) answers Failed (Contains-push [] Failed))

  -- if the reason of the first place is Source, an answer is Failed
  first_failed : (answers : List PlaceAnswer) (first : Option CandidateFault) → IsFirstReason origin keys answers first →
      option_or first fault.NoCheckpoint ≡ fault.Source → Contains answers Failed
  first_failed [] None is e = absurd (cc e)
  first_failed [] (Some f) is e = absurd (cc is)
  first_failed (a ∷ answers) None is e = absurd is
  first_failed (a ∷ answers) (Some f) is e = head_among a answers (reason_failed a f is e)

  module _ {S : Type 0} (may : S → Path → Option (List ℕ) → Type 0) (failed : S → ℕ) (asked : S → Option (List Path)) where
    -- an answer before requests to other places
    answer_then : (x y z : Places S) (k : ℕ) (d : Place S) (a : PlaceAnswer) → AsksAny may failed asked y z →
        MayAnswer may (get_or x.list.items k d) (get_or y.list.items k d) a →
        MayAnswer may (get_or x.list.items k d) (get_or z.list.items k d) a
    answer_then x y z k d (File bytes) q h = h
    answer_then x y z k d NotFound q h = h
    answer_then x y z k d Failed q h =
        let n = (q.each k d).more in
        elim h [
          | inl rose ↦ inl (omega (arith, rose, n))
          | inr given ↦ inr given
        ]

    -- an answer after requests to other places
    answer_later : (x y z : Places S) (k : ℕ) (d : Place S) (a : PlaceAnswer) → AsksAny may failed asked x y →
        AsksAny may failed asked y z → MayAnswer may (get_or y.list.items k d) (get_or z.list.items k d) a →
        MayAnswer may (get_or x.list.items k d) (get_or z.list.items k d) a
    answer_later x y z k d (File bytes) p q h = (p.each k d).later.stays Checkpoint (Some bytes.items) h
    answer_later x y z k d NotFound p q h = (p.each k d).later.stays Checkpoint None h
    answer_later x y z k d Failed p q h =
        let m = (p.each k d).more in
        let n = (q.each k d).more in
        elim h [
          | inl rose ↦ inl (omega (arith, m, rose))
          | inr given ↦ elim (cases_lt (get_or x.list.items k d).failures 8) [
            | inl few ↦ inl (omega (arith, few, given, n))
            | inr many ↦ inr many
          ]
        ]

    none_answered : (x : Places S) → AnswerEach may x x [] 0
    none_answered x = record { count_is = refl; each = λ k d a lt. absurd (omega (arith, lt)) }

    answered_then : (x y z : Places S) (answers : List PlaceAnswer) (count : ℕ) (answer : PlaceAnswer) →
        AsksAny may failed asked x y → AsksAny may failed asked y z → AnswerEach may x y answers count →
        ((d : Place S) → MayAnswer may (get_or y.list.items count d) (get_or z.list.items count d) answer) →
        AnswerEach may x z (answers ++ answer ∷ []) (count + 1)
    answered_then x y z answers count answer p q are is = record {
      count_is = length-append answers (answer ∷ []) ∙ ap (λ n. n + 1) are.count_is;
      each = λ k d a lt. elim (cases_lt k count) [
        | inl less ↦
            let within : k < length answers = omega (arith, are.count_is, less) in
            subst (λ b. MayAnswer may (get_or x.list.items k d) (get_or z.list.items k d) b)
            (sym (get_or_append_left answers (answer ∷ []) a k within))
            (answer_then x y z k d (get_or answers k a) q (are.each k d a less))
        | inr le ↦
            let same : count ≡ k = omega (arith, lt, le) in
            let added : get_or (answers ++ answer ∷ []) count a ≡ answer =
            ap (λ n. get_or (answers ++ answer ∷ []) n a) (sym are.count_is) ∙ get_or-append_seam answers answer [] a in
            subst (λ n. MayAnswer may (get_or x.list.items n d) (get_or z.list.items n d)
            (get_or (answers ++ answer ∷ []) n a)) same
            (subst (λ b. MayAnswer may (get_or x.list.items count d) (get_or z.list.items count d) b) (sym added)
            (answer_later x y z count d answer p q (is d)))
      ];
    }

    abbrev From : Places S → Places S → ℕ → Gathered → Type 0
    From x y count g = GathersFrom may origin keys x y count g

    pub gathered_first : (x : Places S) (g : Gathered) → Gathers origin keys [] g.candidates.items g.first → From x x 0 g
    gathered_first x g is = record {
      answers = [];
      gathers = is;
      answer_each = none_answered x;
      gave = λ note gave. absurd (let lt : gave.among.0 < 0 = gave.among.1 in omega arith);
      failed = λ among. absurd (let lt : among.0 < 0 = among.1 in omega arith);
    }

    pub gathered_then : (x y z : Places S) (count : ℕ) (g next : Gathered) (answer : PlaceAnswer) →
        AsksAny may failed asked x y → AsksAny may failed asked y z → From x y count g →
        ((d : Place S) → MayAnswer may (get_or y.list.items count d) (get_or z.list.items count d) answer) →
        ((note : List ℕ) → IsNote note answer → MayGiveNote may y note) → (answer ≡ Failed → PlaceFails y z) →
        ((answers : List PlaceAnswer) → Gathers origin keys answers g.candidates.items g.first →
        Gathers origin keys (answers ++ answer ∷ []) next.candidates.items next.first) → From x z (count + 1) next
    gathered_then x y z count g next answer p q is answered gives fails more = record {
      answers = is.answers ++ answer ∷ [];
      gathers = more is.answers is.gathers;
      answer_each = answered_then x y z is.answers count answer p q is.answer_each answered;
      gave = λ note gave. elim (gave_cases origin keys is.answers answer note gave) [
        | inl before ↦ is.gave note before
        | inr last ↦ gives_before may failed asked x y note p (gives note last)
      ];
      failed = λ among. elim (Contains-push_cases is.answers answer Failed among) [
        | inl before ↦ fails_then may failed asked x y z (is.failed before) q
        | inr last ↦ fails_later may failed asked x y z p q (fails last)
      ];
    }

    -- the answers of all places
    pub gathered_all : (x y : Places S) (count n : ℕ) (g : Gathered) → count ≡ n → From x y count g → From x y n g
    gathered_all x y count n g e is = subst (λ k. From x y k g) e is

    pub turns_gave : (x y : Places S) (n : ℕ) (g : Gathered) (r : Result (Vec Candidate Global) CandidateFault) → From x y n g →
        IfOk r (λ c. IsPermutation g.candidates.items c.items) →
        IfOk r (λ c. All (λ candidate. MayGiveNote may x (note_of candidate)) c.items)
    turns_gave x y n g (Err e) is same = tt
    turns_gave x y n g (Ok c) is same =
        All-permutation (λ candidate. MayGiveNote may x (note_of candidate)) g.candidates.items c.items same
        (All-weaker (IsGiven origin keys is.answers) (λ candidate. MayGiveNote may x (note_of candidate))
        (λ candidate given. is.gave (note_of candidate) given.gave) g.candidates.items is.gathers.are_of.each)

    -- the given candidates, in the order of turns
    turns_given : (x y : Places S) (g : Gathered) (candidates : List Candidate) → From x y (length x.list.items) g →
        IsPermutation g.candidates.items candidates → GiveCandidates may origin keys x y candidates
    turns_given x y g candidates is same = record {
      answers = is.answers;
      answer_each = is.answer_each;
      are_of = record {
        each = All-permutation (IsGiven origin keys is.answers) g.candidates.items candidates same is.gathers.are_of.each;
        every = λ note size root gave is_open.
            Contains-permutation (map note_of g.candidates.items) (map note_of candidates) note
            (IsPermutation-map note_of g.candidates.items candidates same)
            (is.gathers.are_of.every note size root gave is_open);
      };
    }

    pub turns_give : (x y : Places S) (g : Gathered) (r : Result (Vec Candidate Global) CandidateFault) →
        From x y (length x.list.items) g → IfOk r (λ c. IsPermutation g.candidates.items c.items) →
        IfOk r (λ c. GiveCandidates may origin keys x y c.items)
    turns_give x y g (Err e) is same = tt
    turns_give x y g (Ok c) is same = turns_given x y g c.items is same

    -- the places get requests for files after that
    pub candidates_later : (x y z : Places S) (given : Option (List ℕ)) (candidates : List Candidate) →
        AsksAny may failed asked y z → AreCandidates may origin keys x y given candidates →
        AreCandidates may origin keys x z given candidates
    candidates_later x y z None candidates q are = record {
      answers = are.answers;
      answer_each = record {
        count_is = are.answer_each.count_is;
        each = λ k d a lt.
            answer_then x y z k d (get_or are.answers k a) q (are.answer_each.each k d a lt);
      };
      are_of = are.are_of;
    }
    candidates_later x y z (Some note) candidates q are = are

    pub first_candidates : (x z : Places S) (given : Option (List ℕ)) (candidates : List Candidate) →
        AreFirstCandidates may failed asked origin keys x z given candidates → AreCandidates may origin keys x z given candidates
    first_candidates x z given candidates h = candidates_later x h.moment z given candidates h.after h.are

    module _ (x y : Places S) (g : Gathered) (is : From x y (length x.list.items) g) (none : g.candidates.items ≡ []) where
      -- there are no candidates
      give_none : (f : CandidateFault) → f ≡ option_or g.first fault.NoCheckpoint → GiveNone may origin keys x y f
      give_none f because = record {
        answers = is.answers;
        answer_each = is.answer_each;
        are_of = subst (AreCandidatesOf origin keys is.answers) none is.gathers.are_of;
        reason = (g.first, is.gathers.none none, because);
      }

      give_none_for : (f : CandidateFault) → f ≡ option_or g.first fault.NoCheckpoint → GiveNoneFor may origin keys x y f
      give_none_for fault.NoCheckpoint because = give_none fault.NoCheckpoint because
      give_none_for (fault.Head f) because = give_none (fault.Head f) because
      give_none_for fault.Source because = (
        is.failed (first_failed is.answers g.first (is.gathers.none none) (sym because)),
        give_none fault.Source because,
      )
      give_none_for fault.OutOfMemory because = tt

    pub none_given : (x y : Places S) (g : Gathered) (r : Result (Vec Candidate Global) CandidateFault) →
        From x y (length x.list.items) g → IfErr r (λ f. g.candidates.items ≡ []) →
        IfErr r (λ f. f ≡ option_or g.first fault.NoCheckpoint) → IfErr r (GiveNoneFor may origin keys x y)
    none_given x y g (Ok c) is none because = tt
    none_given x y g (Err f) is none because = give_none_for x y g is none f because
