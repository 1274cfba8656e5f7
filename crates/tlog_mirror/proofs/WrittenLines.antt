-- Lines that are written in order.
use Rattle.std.proofs.Common.{◌≡◌, ℕ, List, [], ◌∷◌, ◌++◌, Bool, sym, refl, ap, subst, ◌∙◌, ◌⊎◌, inl, inr, append_assoc, append-nil, Option}
use Rattle.std.specs.Prelude.{IsTrue, ◌↔◌, ◌≢◌}
use Rattle.std.specs.List.{flat_map}
use Rattle.std.proofs.KnownBytes.{Appends-nil}
use Rattle.std.proofs.lemmas.List.Concat.{flat_map-append}
use Rattle.byte_streams.specs.Streams.{AppendsPrefix}
use Rattle.tlog_mirror.specs.Pieces.{Sends}
use Rattle.tlog_mirror.proofs.SentPieces.{prefix_more, sends_then, fails_then}

module _ {X : Type 0} (line : X → List ℕ) where
  abbrev lines_of : List X → List ℕ
  lines_of xs = flat_map line xs

  pub text_append : (xs ys : List X) → lines_of (xs ++ ys) ≡ lines_of xs ++ lines_of ys
  text_append xs ys = flat_map-append line xs ys

  pub one_text : (x : X) → lines_of (x ∷ []) ≡ line x
  one_text x = append-nil (line x)

  -- some of the lines were written, or are held back, and the rest will follow
  pub record IsWritten (old now : Option (List ℕ)) (had held : List ℕ) (before any : Bool) (all rest : List X) : Type 0
    where
      pub done : List X
      pub is : all ≡ done ++ rest
      pub sends : Sends old now held (had ++ lines_of done)
      pub tells : IsTrue any ↔ (IsTrue before ⊎ (done ≢ []))

  -- none yet
  pub starts : (old : Option (List ℕ)) (held back : List ℕ) (before : Bool) (all : List X) → back ≡ held →
      IsWritten old old held back before before all all
  starts old held back before all same = record {
    done = [];
    is = refl;
    sends = record { bytes = []; appends = Appends-nil old; is = same ∙ sym (append-nil held) };
    tells = (λ h. inl h, λ h. elim h [ inl was ↦ was | inr some ↦ absurd (some refl) ]);
  }

  module _ (old now : Option (List ℕ)) (had held : List ℕ) (before any : Bool) (all : List X) where
    -- some more
    module _ (more rest : List X) (w : IsWritten old now had held before any all (more ++ rest)) (new : Option (List ℕ)) where
      whole : all ≡ (w.done ++ more) ++ rest
      whole = w.is ∙ sym (append_assoc w.done more rest)

      text : had ++ (lines_of w.done ++ lines_of more) ≡ had ++ lines_of (w.done ++ more)
      text = ap (λ ts. had ++ ts) (sym (text_append w.done more))

      pub writes : (back : List ℕ) (some_now : Bool) → Sends now new back (held ++ lines_of more) →
          IsTrue some_now ↔ (IsTrue any ⊎ (more ≢ [])) → IsWritten old new had back before some_now all rest
      writes back some_now sends tells = record {
        done = w.done ++ more;
        is = whole;
        sends =
            subst (Sends old new back) text
            (sends_then old now new had held (lines_of w.done) (lines_of more) w.sends back sends);
        tells = (
          λ y. elim (tells.0 y) [
            | inl was ↦ elim (w.tells.0 was) [ inl first ↦ inl first | inr some ↦ inr (λ e. some (left_nil w.done more e)) ]
            | inr some ↦ inr (λ e. some (right_nil w.done more e))
          ],
          λ h. elim h [
            | inl first ↦ tells.1 (inl (w.tells.1 (inl first)))
            | inr some ↦ by_parts w.done refl some
          ],
        );
      }
        where
          left_nil : (xs ys : List X) → xs ++ ys ≡ [] → xs ≡ []
          left_nil [] ys e = refl
          left_nil (x ∷ xs) ys e = absurd (cc e)

          right_nil : (xs ys : List X) → xs ++ ys ≡ [] → ys ≡ []
          right_nil [] ys e = e
          right_nil (x ∷ xs) ys e = absurd (cc e)

          by_parts : (xs : List X) → xs ≡ w.done → (w.done ++ more ≢ []) → IsTrue some_now
          by_parts [] e some = tells.1 (inr (λ none. some (λ i. sym e i ++ none i)))
          by_parts (x ∷ xs) e some = tells.1 (inl (w.tells.1 (inr (λ none. let wrong : x ∷ xs ≡ [] = e ∙ none in cc wrong))))

      pub breaks : AppendsPrefix now new (held ++ lines_of more) → AppendsPrefix old new (had ++ lines_of all)
      breaks q =
          subst (λ ts. AppendsPrefix old new (had ++ ts)) (sym (ap lines_of whole ∙ text_append (w.done ++ more) rest))
          (subst (AppendsPrefix old new) (append_assoc had (lines_of (w.done ++ more)) (lines_of rest))
          (prefix_more old new (had ++ lines_of (w.done ++ more)) (lines_of rest)
          (subst (AppendsPrefix old new) text
          (fails_then old now new had held (lines_of w.done) (lines_of more) w.sends q))))

    -- no more lines
    module _ (rest : List X) (none : rest ≡ []) (w : IsWritten old now had held before any all rest) where
      all_is : all ≡ w.done
      all_is = w.is ∙ ap (λ xs. w.done ++ xs) none ∙ append-nil w.done

      pub all_sends : Sends old now held (had ++ lines_of all)
      all_sends = subst (λ xs. Sends old now held (had ++ lines_of xs)) (sym all_is) w.sends

      pub all_records : IsTrue any ↔ (IsTrue before ⊎ (all ≢ []))
      all_records = subst (λ xs. IsTrue any ↔ (IsTrue before ⊎ (xs ≢ []))) (sym all_is) w.tells
