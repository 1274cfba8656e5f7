-- The bytes determine lists in order.
use Rattle.std.proofs.Common.{◌≡◌, ℕ, List, ◌++◌, length, take, drop, sym, ap, ◌∙◌, append_assoc}
use Rattle.std.specs.Int.{w64, to_be_bytes, from_be_bytes}
use Rattle.std.proofs.lemmas.Nat.{from_be_bytes-to_be_bytes_8}
use Rattle.mirror_files.specs.declared.items.Form.{Form}
use Rattle.mirror_files.specs.declared.items.Form.TheVariants.{Short, Long, Hashes}
use Rattle.mirror_files.specs.Items.{item_text, items_text, list_text, IsItem, AreItems}
use Rattle.mirror_files.specs.StateText.{VersionTwo, VersionOne}
use Rattle.mirror_files.specs.Stands.{HasList, HasLists}
use Rattle.mirror_files.proofs.ItemLemmas.{item_one, items_one}

-- the bytes determine the list at their start
pub list_one : (form : Form) (bytes : List ℕ) (xs ys : List (List ℕ)) (a b : List ℕ) → HasList form bytes xs a →
    HasList form bytes ys b → (xs ≡ ys) × (a ≡ b)
list_one form bytes xs ys a b p q =
    let same : list_text form xs ++ a ≡ list_text form ys ++ b = sym p.text ∙ q.text in
    let front : to_be_bytes w64 (length xs) ≡ to_be_bytes w64 (length ys) = ap (λ (x : List ℕ). take 8 x) same in
    let after : items_text form xs ++ a ≡ items_text form ys ++ b = ap (λ (x : List ℕ). drop 8 x) same in
    let len : length xs ≡ length ys = sym (from_be_bytes-to_be_bytes_8 (length xs) p.are_items.count)
    ∙ (ap (λ (x : List ℕ). from_be_bytes w64 x) front
    ∙ from_be_bytes-to_be_bytes_8 (length ys) q.are_items.count) in
    items_one form xs ys a b len p.are_items.fits q.are_items.fits after

-- the bytes after the origin
pub origin_rest : (bytes o o' a others r : List ℕ) → IsItem Short o → IsItem Short o' → bytes ≡ item_text Short o ++ a →
    bytes ≡ (item_text Short o' ++ others) ++ r → (o ≡ o') × (a ≡ others ++ r)
origin_rest bytes o o' a others r p q e f =
    item_one Short o o' a (others ++ r) p q (sym e ∙ (f ∙ append_assoc (item_text Short o') others r))

-- the list after a list; it is the last one
pub last_stands : (f g : Form) (a b r : List ℕ) (xs ys zs : List (List ℕ)) → HasList f a xs b →
    HasList f a ys (list_text g zs ++ r) → AreItems g zs → HasList g b zs r
last_stands f g a b r xs ys zs p q fits =
    record { are_items = fits; text = (list_one f a xs ys b (list_text g zs ++ r) p q).1 }

-- the list after a list, and the bytes that follow it
pub next_stands : (f g : Form) (a b others r : List ℕ) (xs ys zs : List (List ℕ)) → HasList f a xs b →
    HasList f a ys ((list_text g zs ++ others) ++ r) → AreItems g zs → HasList g b zs (others ++ r)
next_stands f g a b others r xs ys zs p q fits = record {
  are_items = fits;
  text = (list_one f a xs ys b ((list_text g zs ++ others) ++ r) p q).1 ∙ append_assoc (list_text g zs) others r;
}

-- if the bytes have the lists of version 2, each list follows the one before
pub parted_notes : (bytes o a r origin : List ℕ) (notes pairs entries : List (List ℕ)) →
    IsItem Short o → bytes ≡ item_text Short o ++ a → HasLists bytes (VersionTwo origin notes pairs entries) r →
    HasList Long a notes ((list_text Hashes pairs ++ list_text Short entries) ++ r)
parted_notes bytes o a r origin notes pairs entries p e h =
    record {
      are_items = h.are_parts.notes_fit;
      text =
          (origin_rest bytes o origin a (list_text Long notes ++ (list_text Hashes pairs ++ list_text Short entries))
          r p h.are_parts.origin_fits e h.text).1
          ∙ append_assoc (list_text Long notes) (list_text Hashes pairs ++ list_text Short entries) r;
    }

-- the same for version 1
pub tagged_notes : (bytes o a r origin : List ℕ) (notes strings : List (List ℕ)) → IsItem Short o →
    bytes ≡ item_text Short o ++ a → HasLists bytes (VersionOne origin notes strings) r →
    HasList Long a notes (list_text Long strings ++ r)
tagged_notes bytes o a r origin notes strings p e h =
    record {
      are_items = h.are_parts.notes_fit;
      text = (origin_rest bytes o origin a (list_text Long notes ++ list_text Long strings)
          r p h.are_parts.origin_fits e h.text).1 ∙ append_assoc (list_text Long notes) (list_text Long strings) r;
    }

-- lists in order are the lists of version 2
pub parted_found : (bytes o a b c r : List ℕ) (notes pairs entries : List (List ℕ)) → IsItem Short o →
    bytes ≡ item_text Short o ++ a → HasList Long a notes b → HasList Hashes b pairs c → HasList Short c entries r →
    HasLists bytes (VersionTwo o notes pairs entries) r
parted_found bytes o a b c r notes pairs entries p e n q s =
    let O = item_text Short o in
    let N = list_text Long notes in
    let P = list_text Hashes pairs in
    let E = list_text Short entries in
    let last : b ≡ (P ++ E) ++ r = q.text ∙ (ap (λ (x : List ℕ). P ++ x) s.text ∙ sym (append_assoc P E r)) in
    let next : a ≡ (N ++ (P ++ E)) ++ r =
    n.text ∙ (ap (λ (x : List ℕ). N ++ x) last ∙ sym (append_assoc N (P ++ E) r)) in
    record {
      are_parts = record {
        origin_fits = p;
        notes_fit = n.are_items;
        pairs_fit = q.are_items;
        entries_fit = s.are_items;
      };
      text = e ∙ (ap (λ (x : List ℕ). O ++ x) next ∙ sym (append_assoc O (N ++ (P ++ E)) r));
    }
