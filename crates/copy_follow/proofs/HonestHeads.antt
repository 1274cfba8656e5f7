-- The greatest candidate is a checkpoint of the log.
use Rattle.std.proofs.Common.{◌≡◌, inl, inr, ℕ, ◌<◌, ◌≤◌, Contains, List, [], ◌∷◌, length, get_or, take, Option, Some, None, refl, sym, ap, subst, ◌∙◌, arith}
use Rattle.std.specs.List.Sorted.{IsSorted}
use Rattle.std.proofs.lemmas.List.{get_or-map, length-map}
use Rattle.std.proofs.lemmas.List.Elements.{All-contains, All-head, Contains-get_or}
use Rattle.signed_note.specs.Keys.{Key}
use Rattle.tlog_hash.specs.Tree.{mth}
use Rattle.tlog_tiles.specs.declared.paths.Path.{Path}
use Rattle.tlog_tiles.specs.declared.paths.Path.TheVariants.{Checkpoint}
use Rattle.mirror_model.specs.Heads.{IsOpenHead}
use Rattle.copy_reader.proofs.OpenNotes.{given_same_head}
use Rattle.copy_places.specs.Candidates.{note_of, turn_cmp}
use Rattle.copy_places.specs.GatheredFrom.{GiveCandidates}
use Rattle.copy_places.specs.Gathering.{Gave, IsGiven, IsNote}
use Rattle.copy_places.specs.PlaceGets.{AnswersGet}
use Rattle.copy_places.specs.Requests.{MayGiveNote}
use Rattle.copy_places.specs.declared.candidate.Candidate.{Candidate}
use Rattle.copy_places.specs.declared.place.PlaceAnswer.{PlaceAnswer}
use Rattle.copy_places.specs.declared.place.PlaceAnswer.TheVariants.{File, NotFound, Failed}
use Rattle.copy_places.specs.declared.places.Places.{Places}
use Rattle.copy_follow.specs.HonestHeads.{AreNotesTrue, HasNotedPlace, NotedPlacesLead, ScriptsMakeHonestRuns}
use Rattle.copy_follow.specs.OneHonestRun.{IsFirstPoint}
use Rattle.copy_follow.proofs.Scripted.{scripts_are_clear}
use Rattle.copy_follow.proofs.TurnOrder.{none_above}

-- the sizes of one note
one_size : (first second origin : List ℕ) (keys : List Key) (m n : ℕ) (a b : List ℕ) → second ≡ first →
    IsOpenHead first origin keys m a → IsOpenHead second origin keys n b → m ≡ n
one_size first second origin keys m n a b e p q =
    (given_same_head second first origin keys m a e p
    (record { origin = origin; size = n; root = b; extensions = q.extensions })
    (record {
      text = q.text;
      lines = q.lines;
      is = record { is_note = q.is_note; is_checkpoint = q.is_checkpoint };
      origin_is = refl;
      opens = q.opens;
    })).0

module _ (may : Path → Option (List ℕ) → Type 0) (m n : ℕ) (note : List ℕ) where
  -- the answer of a place that may give nothing but the note
  its_note : ((answer : Option (List ℕ)) → may Checkpoint answer → answer ≡ Some note) → m < 8 → n ≡ m → (a : PlaceAnswer) →
      AnswersGet may Checkpoint m n a → IsNote note a
  its_note gives asked answers (File bytes) h = let e = gives (Some bytes.items) h in cc
  its_note gives asked answers NotFound h = let e = gives None h in absurd (cc e)
  its_note gives asked answers Failed (inl more) = absurd (omega (arith, more, answers))
  its_note gives asked answers Failed (inr many) = absurd (omega (arith, many, asked))

  -- an answer that is a note is one that the place may give
  might : (a : PlaceAnswer) → AnswersGet may Checkpoint m n a → IsNote note a → may Checkpoint (Some note)
  might (File bytes) h is = subst (λ (b : List ℕ). may Checkpoint (Some b)) is h
  might NotFound h is = absurd is
  might Failed h is = absurd is

module _ {S : Type 0} (may : S → Path → Option (List ℕ) → Type 0) (digest : List ℕ → List ℕ) (origin : List ℕ) (keys : List Key)
    (old new : Places S) (note : List ℕ) (entries : List (List ℕ)) (size : ℕ)
    (opens : IsOpenHead note origin keys size (mth digest (take size entries))) (noted : HasNotedPlace may old new note)
    (notes : AreNotesTrue digest origin keys may old entries size) where
  gave_note : (candidates : List Candidate) (g : GiveCandidates may origin keys old new candidates) → Gave g.answers note
  gave_note candidates g =
      let at = noted.index in
      let place = get_or old.list.items at noted.none in
      let own = get_or g.answers at NotFound in
      let listed = noted.listed in
      let count = g.answer_each.count_is in record {
        answer = own;
        among = Contains-get_or g.answers at NotFound (omega (arith, listed, count));
        is_note = its_note (may place.source) place.failures (get_or new.list.items at noted.none).failures note noted.gives noted.asked
            noted.answers own (g.answer_each.each at noted.none NotFound listed);
      }

  may_give : (candidates : List Candidate) (g : GiveCandidates may origin keys old new candidates) (q : List ℕ) → Gave g.answers q →
      MayGiveNote may old q
  may_give candidates g q gave =
      let k = gave.among.0 in
      let within = gave.among.1 in
      let count = g.answer_each.count_is in
      let listed : k < length old.list.items = omega (arith, within, count) in record {
        index = k;
        listed = listed;
        gives = λ none.
            might (may (get_or old.list.items k none).source) (get_or old.list.items k none).failures
            (get_or new.list.items k none).failures q gave.answer
            (subst (λ (a : PlaceAnswer). AnswersGet (may (get_or old.list.items k none).source) Checkpoint
            (get_or old.list.items k none).failures (get_or new.list.items k none).failures a) gave.among.2
            (g.answer_each.each k none gave.answer listed))
            gave.is_note;
      }

  leads : (candidates : List Candidate) → GiveCandidates may origin keys old new candidates → IsSorted turn_cmp candidates →
      IsFirstPoint candidates size (mth digest (take size entries))
  leads [] g rises =
      let there = g.are_of.every note size (mth digest (take size entries)) (gave_note [] g) opens in
      let bad : there.0 < 0 = there.1 in absurd (omega (arith, bad))
  leads (first ∷ others) g rises =
      let cs : List Candidate = first ∷ others in
      let root = mth digest (take size entries) in
      let there = g.are_of.every note size root (gave_note cs g) opens in
      let k = there.0 in
      let lt : k < length cs = omega (arith, there.1, length-map cs note_of) in
      let c = get_or cs k first in
      let listed : Contains cs c = Contains-get_or cs k first lt in
      let is : note_of c ≡ note = sym (get_or-map note_of cs k first note lt) ∙ there.2 in
      let given = All-contains (IsGiven origin keys g.answers) cs c g.are_of.each listed in
      let same : size ≡ c.size.0 =
      one_size note (note_of c) origin keys size c.size.0 root c.root is opens given.is_candidate.is_open in
      let up : c.size.0 ≤ first.size.0 = none_above cs rises first others refl c listed in
      let head = All-head (IsGiven origin keys g.answers) first others g.are_of.each in
      let true_note = notes.each (note_of first) (may_give cs g (note_of first) head.gave) first.size.0 first.root head.is_candidate.is_open in
      let most = true_note.0 in
      let size_is : first.size.0 ≡ size = omega (arith, most, up, same) in
      (size_is, true_note.1 ∙ ap (λ n. mth digest (take n entries)) size_is)

pub noted_places_lead : {S : Type 0} → (may : S → Path → Option (List ℕ) → Type 0) → NotedPlacesLead may
noted_places_lead may digest origin keys old new note entries size opens noted notes candidates are rises =
    leads may digest origin keys old new note entries size opens noted notes candidates are rises

pub scripts_make_honest_runs : {S : Type 0} → (may : S → Path → Option (List ℕ) → Type 0) → ScriptsMakeHonestRuns may
scripts_make_honest_runs may digest entries short size upto old new true_place scripts answer held clear origin keys note opens noted notes
    some holds =
    record {
      entries = entries;
      size = size;
      root = mth digest (take size entries);
      some = some;
      greatest = leads may digest origin keys old new note entries size opens noted notes;
      honest = (scripts_are_clear may digest entries short size upto old new true_place scripts answer held clear).honest;
      holds = holds;
    }
