-- A run keeps views lawful, and only makes them grow.
use Rattle.std.proofs.Common.{◌≡◌, ℕ, List, [], ◌∷◌, sym, refl, ap, ◌∙◌, subst, ◌⊎◌, inl, inr}
use Rattle.std.specs.Prelude.{slice_get}
use Rattle.std.specs.List.{Contains}
use Rattle.std.specs.FinSet as set
use Rattle.std.proofs.lemmas.List.Elements.{All-contains, All-nil, All-from_recursion}
use Rattle.node_store.specs.Strings.{Has, NoClash}
use Rattle.mirror_model.specs.View.{View, union, IsSubview}
use Rattle.mirror_model.specs.declared.items.Item.{Item}
use Rattle.mirror_model.specs.declared.items.Item.TheVariants.{Head, Tile, Bundle}
use Rattle.mirror_model.specs.Item.{IsGood, notes_of, plus}
use Rattle.mirror_model.specs.Heads.{IsHead}
use Rattle.mirror_model.specs.Complete.{IsLawful, HasEdge}
use Rattle.mirror_model.specs.declared.events.Event.TheVariants.{Take, Merge}
use Rattle.mirror_model.specs.Steps.{Answer, Done, Refused, Clashed, Exhausted, IsBetween, Answers}
use Rattle.mirror_model.specs.EventLaws.{EventKeepsLawful, NewNoteMeansWholeItem, BetweenIsLawful}
use Rattle.mirror_model.specs.RunLaws.{AreLawful, RunIsLawful, RunGrows}
use Rattle.mirror_model.proofs.StringSets.{has_cases, listed_from_has, held_more, no_clash_within}
use Rattle.mirror_model.proofs.Views.{within_itself, within_trans, edge_stays, same_is_one, union_is_lawful}
use Rattle.mirror_model.proofs.ItemStrings.{plus_is_lawful}
use Rattle.mirror_model.proofs.Steps.{one_of_list}
use Rattle.mirror_model.proofs.Playing.{event_grows, set_back}

-- ---- notes

only_note : (item : Item) (note other : List ℕ) → Contains (notes_of item) note → Contains (notes_of item) other →
    other ≡ note
only_note (Head bytes rows) note other a b = one other b ∙ sym (one note a)
  where
    one : (n : List ℕ) → Contains (bytes ∷ []) n → n ≡ bytes
    one n c =
        All-contains (λ m. m ≡ bytes) (bytes ∷ []) n (All-from_recursion (λ m. m ≡ bytes) (bytes ∷ []) (refl, tt)) c
only_note (Tile width bytes) note other a b = absurd (All-contains (λ m. ⊥) [] note (All-nil (λ m. ⊥)) a)
only_note (Bundle width bytes) note other a b = absurd (All-contains (λ m. ⊥) [] note (All-nil (λ m. ⊥)) a)

note_between : (digest : List ℕ → List ℕ) (old new : View) (item : Item) (note : List ℕ) →
    IsBetween old (plus digest old item) new → Has new.notes note → Has old.notes note ⊎ (new ≡ plus digest old item)
note_between digest old new item note b has =
    elim (b.notes_last note has) [
      | inl was ↦ inl was
      | inr all ↦ elim (has_cases old.notes (set.from_list (notes_of item)) note (b.within.notes_are note has)) [
        | inl was ↦ inl was
        | inr is ↦ inr (same_is_one new (plus digest old item) b.within (record {
          origin_is = sym b.within.origin_is;
          notes_are = λ other h. elim (has_cases old.notes (set.from_list (notes_of item)) other h) [
            | inl was ↦ b.grows.notes_are other was
            | inr too ↦ subst (Has new.notes)
                (sym (only_note item note other (listed_from_has _ note is) (listed_from_has _ other too))) has
          ];
          strings_are = all;
        }))
      ]
    ]

pub note_is_last : NewNoteMeansWholeItem
note_is_last digest keys old new item note (inl same) has = inl (subst (λ v. Has v.notes note) same has)
note_is_last digest keys old new item note (inr h) has = note_between digest old new item note h.2 has

-- ---- lawful views

pub between_is_lawful : BetweenIsLawful
between_is_lawful digest old full new p q b = record {
  no_clash = no_clash_within digest new.strings full.strings b.within.strings_are q.no_clash;
  are_strings = λ s h. q.are_strings s (b.within.strings_are s h);
  leaves_short = λ e h. q.leaves_short e (b.within.strings_are _ h);
  edges = λ note h. elim (b.notes_last note h) [
    | inl was ↦ edge_stays digest old new b.grows note (p.edges note was)
    | inr all ↦ from_full note (q.edges note (b.within.notes_are note h)) all
  ];
}
  where
    from_full : (note : List ℕ) → HasEdge digest full note → ((s : List ℕ) → Has full.strings s → Has new.strings s) →
        HasEdge digest new note
    from_full note e all = record {
      size = e.size;
      root = e.root;
      is_head = subst (λ o. IsHead note o e.size e.root) (sym b.within.origin_is) e.is_head;
      edge = record {
        rows = e.edge.rows;
        has_edge =
            e.edge.has_edge;
        are_held = held_more full.strings new.strings _ all e.edge.are_held;
      };
    }

pub answer_lawful : (digest : List ℕ → List ℕ) (Allowed : Type 0) (full old : View) → IsLawful digest old →
    (Allowed → NoClash digest full.strings → IsLawful digest full) → (a : Answer) (new : View) →
    Answers digest old Allowed full a new → IsLawful digest new
answer_lawful digest Allowed full old p whole Done new h = subst (IsLawful digest) (sym h.2) (whole h.0 h.1)
answer_lawful digest Allowed full old p whole Refused new h = subst (IsLawful digest) (sym h.1) p
answer_lawful digest Allowed full old p whole Clashed new h = subst (IsLawful digest) (sym h.2) p
answer_lawful digest Allowed full old p whole Exhausted new (inl same) = subst (IsLawful digest) (sym same) p
answer_lawful digest Allowed full old p whole Exhausted new (inr h) =
    between_is_lawful digest old full new p (whole h.0 h.1) h.2

pub event_keeps_lawful : EventKeepsLawful
event_keeps_lawful digest hash keys old new (Take target item) a all h number v found =
    elim (set_back digest keys old new target h.after h.set h.before h.found number v found) [
      | inl same ↦ all number v same
      | inr b ↦
          let p = all target h.before h.found in
          subst (IsLawful digest) (sym b.1)
          (answer_lawful digest (IsGood digest h.before.origin keys item) (plus digest h.before item) h.before p
          (λ good clean. plus_is_lawful digest hash keys h.before item p good clean) a h.after h.takes)
    ]
event_keeps_lawful digest hash keys old new (Merge target source) a all h number v found =
    elim (set_back digest keys old new target h.after h.set h.before h.found number v found) [
      | inl same ↦ all number v same
      | inr b ↦
          let p = all target h.before h.found in
          let q = all source h.other h.found_other in
          subst (IsLawful digest) (sym b.1)
          (answer_lawful digest (h.before.origin ≡ h.other.origin) (union h.before h.other) h.before p
          (λ same clean. union_is_lawful digest h.before h.other p q same clean) a h.after h.merges)
    ]

pub run_is_lawful : RunIsLawful
run_is_lawful digest hash keys old new [] [] all run = subst (AreLawful digest) (sym run) all
run_is_lawful digest hash keys old new (e ∷ es) (a ∷ answers) all run =
    run_is_lawful digest hash keys run.0 new es answers
    (event_keeps_lawful digest hash keys old run.0 e a all run.1) run.2
run_is_lawful digest hash keys old new [] (a ∷ answers) all run = absurd run
run_is_lawful digest hash keys old new (e ∷ es) [] all run = absurd run

pub run_grows : RunGrows
run_grows digest keys old new [] [] run number v w found found' =
    let same : v ≡ w = one_of_list old number v w found (ap (λ xs. slice_get xs number) (sym run) ∙ found') in
    subst (IsSubview v) same (within_itself v)
run_grows digest keys old new (e ∷ es) (a ∷ answers) run number v w found found' =
    let g = event_grows digest keys old run.0 e a run.1 number v found in
    within_trans v g.after w g.grows (run_grows digest keys run.0 new es answers run.2 number g.after w g.is found')
run_grows digest keys old new [] (a ∷ answers) run number v w found found' = absurd run
run_grows digest keys old new (e ∷ es) [] run number v w found found' = absurd run
