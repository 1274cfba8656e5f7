-- Bytes are read as a state text in only one way.
use Rattle.std.proofs.Common.{◌≡◌, ℕ, ◌+◌, List, [], ◌∷◌, ◌++◌, length, refl, sym, ap, ◌∙◌, append_assoc, arith, Ok}
use Rattle.std.proofs.Common.{Err, length-append}
use Rattle.std.proofs.lemmas.List.{append-nil}
use Rattle.sha2.specs.Sha256.{sha256}
use Rattle.sha2.proofs.Facts256.{length-sha256}
use Rattle.mirror_files.specs.declared.parts.PartsFault.TheVariants.{StateMagic, StateShort, StateLong, StateDigest}
use Rattle.mirror_files.specs.declared.parts.PartsFault.TheVariants.{OutOfMemory}
use Rattle.std.specs.Ordering.{nat_cmp}
use Rattle.std.specs.Cmp.Lexicographic.{slice_cmp, nat_list_cmp_total}
use Rattle.mirror_model.proofs.Listing.{same_lists, notes_are_listed_once}
use Rattle.mirror_files.specs.StateText.{Parts, VersionTwo, body_text, IsText}
use Rattle.mirror_files.specs.Reading.{HasBody, HasText, IsSpoiled}
use Rattle.mirror_files.specs.Laws.{TextsHaveOneAnswer, TextListsOneState, NoTextBeginsAnother, ViewHasOneText}
use Rattle.mirror_files.proofs.BodyLemmas.{body_one, has_magic}

body_in : (bytes : List ℕ) (p : Parts) → IsText bytes p → HasBody bytes p (sha256 (body_text p))
body_in bytes p t = record { are_parts = t.are_parts; text = t.text }

text_in : (bytes : List ℕ) (p : Parts) → IsText bytes p → HasText bytes p (sha256 (body_text p)) []
text_in bytes p t = record {
  has_body = record {
    are_parts = t.are_parts;
    text = t.text ∙ ap (λ (x : List ℕ). body_text p ++ x) (sym (append-nil (sha256 (body_text p))));
  };
  digest_len = length-sha256 (body_text p);
}

pub text_one : TextListsOneState
text_one bytes p q s t = (body_one bytes p q _ _ (body_in bytes p s) (body_in bytes q t)).0

-- the bytes after a body have one length in every reading
same_end : (bytes : List ℕ) (p q : Parts) (a b : List ℕ) → HasBody bytes p a → HasBody bytes q b → length a ≡ length b
same_end bytes p q a b x y = ap length (body_one bytes p q a b x y).1

not_long : (bytes : List ℕ) (p q : Parts) (a digest : List ℕ) (next : ℕ) (rest : List ℕ) → length a ≡ 32 →
    HasBody bytes p a → HasText bytes q digest (next ∷ rest) → ⊥
not_long bytes p q a digest next rest len x y =
    let same : length a ≡ length (digest ++ (next ∷ rest)) =
    same_end bytes p q a (digest ++ (next ∷ rest)) x y.has_body in
    let sum : length (digest ++ (next ∷ rest)) ≡ length digest + length (next ∷ rest) =
    length-append digest (next ∷ rest) in
    let digest_len : length digest ≡ 32 = y.digest_len in
    let more : length (next ∷ rest) ≡ length rest + 1 = omega arith in
    absurd (omega arith)

spoiled_len : (bytes : List ℕ) (s : IsSpoiled bytes) → length (s.digest ++ []) ≡ 32
spoiled_len bytes s = ap length (append-nil s.digest) ∙ s.has.digest_len

not_spoiled : (bytes : List ℕ) (p : Parts) → IsText bytes p → IsSpoiled bytes → ⊥
not_spoiled bytes p t s =
    let one = body_one bytes p s.parts (sha256 (body_text p)) (s.digest ++ []) (body_in bytes p t) s.has.has_body in
    s.differs (sym (append-nil s.digest) ∙ (sym one.1 ∙ ap (λ (x : Parts). sha256 (body_text x)) one.0))

pub text_not_cut : NoTextBeginsAnother
text_not_cut bytes next rest p q s t =
    let more : HasText (bytes ++ (next ∷ rest)) p (sha256 (body_text p)) (next ∷ rest) =
    record {
      has_body = record {
        are_parts = s.are_parts;
        text = ap (λ (x : List ℕ). x ++ (next ∷ rest)) s.text
            ∙ append_assoc (body_text p) (sha256 (body_text p)) (next ∷ rest);
      };
      digest_len = length-sha256 (body_text p);
    } in
    not_long (bytes ++ (next ∷ rest)) q p (sha256 (body_text q)) (sha256 (body_text p)) next rest
    (length-sha256 (body_text q)) (body_in _ q t) more

pub text_has_one_answer : TextsHaveOneAnswer
text_has_one_answer bytes (Ok p) (Ok q) m n s t = ap (λ (x : Parts). Ok x) (text_one bytes p q s t)
text_has_one_answer bytes (Ok p) (Err StateMagic) m n s t = absurd (t (has_magic bytes p _ (body_in bytes p s)))
text_has_one_answer bytes (Ok p) (Err StateShort) m n s t = absurd (t.1 p (sha256 (body_text p)) [] (text_in bytes p s))
text_has_one_answer bytes (Ok p) (Err StateLong) m n s t =
    absurd (not_long bytes p t.0 _ t.1 t.2 t.3 (length-sha256 (body_text p)) (body_in bytes p s) t.4)
text_has_one_answer bytes (Ok p) (Err StateDigest) m n s t = absurd (not_spoiled bytes p s t)
text_has_one_answer bytes (Err StateMagic) (Ok q) m n s t = absurd (s (has_magic bytes q _ (body_in bytes q t)))
text_has_one_answer bytes (Err StateMagic) (Err StateMagic) m n s t = refl
text_has_one_answer bytes (Err StateMagic) (Err StateShort) m n s t = absurd (s t.0)
text_has_one_answer bytes (Err StateMagic) (Err StateLong) m n s t = absurd (s (has_magic bytes t.0 _ t.4.has_body))
text_has_one_answer bytes (Err StateMagic) (Err StateDigest) m n s t =
    absurd (s (has_magic bytes t.parts _ t.has.has_body))
text_has_one_answer bytes (Err StateShort) (Ok q) m n s t = absurd (s.1 q (sha256 (body_text q)) [] (text_in bytes q t))
text_has_one_answer bytes (Err StateShort) (Err StateMagic) m n s t = absurd (t s.0)
text_has_one_answer bytes (Err StateShort) (Err StateShort) m n s t = refl
text_has_one_answer bytes (Err StateShort) (Err StateLong) m n s t = absurd (s.1 t.0 t.1 (t.2 ∷ t.3) t.4)
text_has_one_answer bytes (Err StateShort) (Err StateDigest) m n s t = absurd (s.1 t.parts t.digest [] t.has)
text_has_one_answer bytes (Err StateLong) (Ok q) m n s t =
    absurd (not_long bytes q s.0 _ s.1 s.2 s.3 (length-sha256 (body_text q)) (body_in bytes q t) s.4)
text_has_one_answer bytes (Err StateLong) (Err StateMagic) m n s t = absurd (t (has_magic bytes s.0 _ s.4.has_body))
text_has_one_answer bytes (Err StateLong) (Err StateShort) m n s t = absurd (t.1 s.0 s.1 (s.2 ∷ s.3) s.4)
text_has_one_answer bytes (Err StateLong) (Err StateLong) m n s t = refl
text_has_one_answer bytes (Err StateLong) (Err StateDigest) m n s t =
    absurd (not_long bytes t.parts s.0 _ s.1 s.2 s.3 (spoiled_len bytes t) t.has.has_body s.4)
text_has_one_answer bytes (Err StateDigest) (Ok q) m n s t = absurd (not_spoiled bytes q t s)
text_has_one_answer bytes (Err StateDigest) (Err StateMagic) m n s t =
    absurd (t (has_magic bytes s.parts _ s.has.has_body))
text_has_one_answer bytes (Err StateDigest) (Err StateShort) m n s t = absurd (t.1 s.parts s.digest [] s.has)
text_has_one_answer bytes (Err StateDigest) (Err StateLong) m n s t =
    absurd (not_long bytes s.parts t.0 _ t.1 t.2 t.3 (spoiled_len bytes s) s.has.has_body t.4)
text_has_one_answer bytes (Err StateDigest) (Err StateDigest) m n s t = refl
text_has_one_answer bytes (Err OutOfMemory) b m n s t = absurd (m refl)
text_has_one_answer bytes a (Err OutOfMemory) m n s t = absurd (n refl)

-- ---- one text of a view

abbrev whole : Parts → List ℕ
whole parts = body_text parts ++ sha256 (body_text parts)

pub text_is_one : ViewHasOneText
text_is_one v a b s t =
    let notes : s.notes ≡ t.notes = notes_are_listed_once v s.notes t.notes s.notes_are t.notes_are in
    let pairs : s.pairs ≡ t.pairs =
    same_lists (slice_cmp nat_cmp) nat_list_cmp_total.antisymm s.pairs t.pairs s.pairs_rise t.pairs_rise
    (λ z c. (t.pairs_are z).1 ((s.pairs_are z).0 c)) (λ z c. (s.pairs_are z).1 ((t.pairs_are z).0 c)) in
    let entries : s.entries ≡ t.entries =
    same_lists (slice_cmp nat_cmp) nat_list_cmp_total.antisymm s.entries t.entries s.entries_rise t.entries_rise
    (λ z c. (t.entries_are z).1 ((s.entries_are z).0 c)) (λ z c. (s.entries_are z).1 ((t.entries_are z).0 c)) in
    s.is_text.text ∙ (λ i. whole (VersionTwo v.origin (notes i) (pairs i) (entries i))) ∙ sym t.is_text.text
