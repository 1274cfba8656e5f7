-- The test whether a note opens decides the relation.
use Rattle.std.proofs.Common.{◌≡◌, ℕ, Bool, true, nat_eq, ◌||◌, ◌&&◌, List, [], ◌∷◌, map, refl, sym, ◌∙◌, ap}
use Rattle.std.proofs.Common.{Any}
use Rattle.std.specs.List.{list_any}
use Rattle.std.specs.Str.{bytes_eq}
use Rattle.std.proofs.lemmas.Bool.{and_parts}
use Rattle.std.proofs.lemmas.List.Folds.{Any-from_list_any, list_any-from_Any}
use Rattle.std.proofs.lemmas.Slice.Eq.{bytes_eq-Decides}
use Rattle.std.proofs.lemmas.Bool.Decides.{Decides-eqb}
use Rattle.signed_note.specs.Keys.{Key}
use Rattle.signed_note.specs.Notes.{SignatureParts, IsAcceptedBy, is_accepted_by, Opens}

pub list_any-map : {X Y : Type 0} (f : X → Y) (p : Y → Bool) (xs : List X) →
    list_any p (map f xs) ≡ list_any (λ x. p (f x)) xs
list_any-map f p [] = refl
list_any-map f p (x ∷ xs) = ap (λ b. p (f x) || b) (list_any-map f p xs)

pub accepted : (text : List ℕ) (line : SignatureParts) (key : Key) → is_accepted_by text line key ≡ true →
    IsAcceptedBy text line key
accepted text line key h =
    let one = and_parts (bytes_eq key.name line.name) (nat_eq key.id line.id && key.accepts text line.signature) h in
    let two = and_parts (nat_eq key.id line.id) (key.accepts text line.signature) one.1 in
    record {
      name =
          (bytes_eq-Decides key.name line.name).0 one.0;
      id = (Decides-eqb key.id line.id).0 two.0;
      signature = two.1;
    }

pub accepts : (text : List ℕ) (line : SignatureParts) (key : Key) → IsAcceptedBy text line key →
    is_accepted_by text line key ≡ true
accepts text line key h =
    let name = (bytes_eq-Decides key.name line.name).1 h.name in
    let id = (Decides-eqb key.id line.id).1 h.id in
    rw (name, id, h.signature) refl

pub list_any_same : {X : Type 0} (p q : X → Bool) (xs : List X) → ((x : X) → p x ≡ q x) → list_any p xs ≡ list_any q xs
list_any_same p q [] h = refl
list_any_same p q (x ∷ xs) h = ap (λ b. b || list_any p xs) (h x) ∙ ap (λ b. q x || b) (list_any_same p q xs h)

pub Any-weaker : {X : Type 0} (P Q : X → Type 0) (xs : List X) → ((x : X) → P x → Q x) → Any P xs → Any Q xs
Any-weaker P Q xs f h = (h.0, h.1, h.2, h.3, f h.1 h.4)

pub opens_is : {X : Type 0} (key_of : X → Key) (text : List ℕ) (lines : List SignatureParts) (keys : List X)
    (r : Bool) →
    r ≡ list_any (λ line. list_any (λ k. is_accepted_by text line (key_of k)) keys) lines
    → (r ≡ true → Opens text lines (map key_of keys)) × (Opens text lines (map key_of keys) → r ≡ true)
unfolding Opens
opens_is key_of text lines keys r e =
    let inner = λ (line : SignatureParts). list_any (is_accepted_by text line) (map key_of keys) in
    let seen : list_any inner lines ≡ r =
    list_any_same inner (λ line. list_any (λ k. is_accepted_by text line (key_of k)) keys) lines
    (λ line. list_any-map key_of (is_accepted_by text line) keys) ∙ sym e in (
      λ h. Any-weaker (λ line. inner line ≡ true) (λ line. Any (IsAcceptedBy text line) (map key_of keys)) lines
          (λ line p. Any-weaker (λ key. is_accepted_by text line key ≡ true) (IsAcceptedBy text line) (map key_of keys)
          (λ key q. accepted text line key q) (Any-from_list_any (is_accepted_by text line) (map key_of keys) p))
          (Any-from_list_any inner lines (seen ∙ h)),
      λ h. sym seen ∙ list_any-from_Any inner lines
          (Any-weaker (λ line. Any (IsAcceptedBy text line) (map key_of keys)) (λ line. inner line ≡ true) lines
          (λ line p. list_any-from_Any (is_accepted_by text line) (map key_of keys)
          (Any-weaker (IsAcceptedBy text line) (λ key. is_accepted_by text line key ≡ true) (map key_of keys)
          (λ key q. accepts text line key q) p)) h),
    )
