-- Notes that are checked in order.
use Rattle.std.proofs.Common.{◌≡◌, ℕ, ◌+◌, ◌<◌, List, [], ◌∷◌, ◌++◌, length, map, take, get_or, Err, sym, subst, ap, ◌∙◌}
use Rattle.std.specs.List.{AllZip}
use Rattle.std.proofs.lemmas.List.{map-append, take_more, take-map, get_or-map, length-map}
use Rattle.signed_note.specs.Keys.{Key}
use Rattle.tlog_checkpoint.specs.declared.Checkpoint.{Checkpoint}
use Rattle.tlog_checkpoint.specs.Grammar.{IsCheckpoint}
use Rattle.mirror_model.specs.Heads.{IsOpenHead}
use Rattle.mirror_model.specs.Refusals.{IsOpenCheckpoint, ReadsHead}
use Rattle.mirror_model.specs.declared.fault.TakeFault.{TakeFault}
use Rattle.program_io.specs.HeadFiles.{AreOpen, RefusesNote}

zip_push : {A B : Type 0} (R : A → B → Type 0) (xs : List A) (ys : List B) (x : A) (y : B) → AllZip R xs ys → R x y →
    AllZip R (xs ++ x ∷ []) (ys ++ y ∷ [])
zip_push R [] [] x y h r = (r, tt)
zip_push R [] (b ∷ ys) x y h r = absurd h
zip_push R (a ∷ xs) [] x y h r = absurd h
zip_push R (a ∷ xs) (b ∷ ys) x y h r = (h.0, zip_push R xs ys x y h.1 r)

module _ (origin : List ℕ) (keys : List Key) where
  -- an open checkpoint is an open tree head of its size and root
  open_head : (note : List ℕ) (c : Checkpoint) → IsOpenCheckpoint note origin keys c →
      IsOpenHead note origin keys c.size c.root
  open_head note c o = record {
    text = o.text;
    lines = o.lines;
    extensions = c.extensions;
    is_note = o.is.is_note;
    is_checkpoint = subst (λ x. IsCheckpoint o.text x c.size c.root c.extensions) o.origin_is o.is.is_checkpoint;
    opens = o.opens;
  }

  module _ {A : Type 0} (bytes_of : A → List ℕ) (notes : List A) (i : ℕ) (d : A) (within : i < length notes) where
    -- one more note
    pub opened_more : (heads grown : List (ℕ × List ℕ)) (c : Checkpoint) → grown ≡ heads ++ (c.size, c.root) ∷ [] →
        AreOpen origin keys (map bytes_of (take i notes)) heads →
        IsOpenCheckpoint (bytes_of (get_or notes i d)) origin keys c →
        AreOpen origin keys (map bytes_of (take (i + 1) notes)) grown
    opened_more heads grown c is before opens =
        let more : map bytes_of (take (i + 1) notes) ≡ map bytes_of (take i notes) ++ bytes_of (get_or notes i d) ∷ [] =
        ap (map bytes_of) (take_more notes i d within) ∙ map-append bytes_of (take i notes) (get_or notes i d ∷ []) in
        rw (more, is)
        (zip_push (λ note head. IsOpenHead note origin keys head.0 head.1) (map bytes_of (take i notes)) heads
        (bytes_of (get_or notes i d)) (c.size, c.root) before (open_head (bytes_of (get_or notes i d)) c opens))

    -- this note is refused
    pub refused_here : (heads : List (ℕ × List ℕ)) (fault : TakeFault) (bytes : List ℕ) →
        AreOpen origin keys (map bytes_of (take i notes)) heads → bytes ≡ bytes_of (get_or notes i d) →
        ReadsHead bytes origin keys (Err fault) → RefusesNote origin keys (map bytes_of notes) fault
    refused_here heads fault bytes before is refused = record {
      at = i;
      note = bytes_of (get_or notes i d);
      heads = heads;
      within = subst (λ n. i < n) (sym (length-map notes bytes_of)) within;
      is_there = get_or-map bytes_of notes i d (bytes_of (get_or notes i d)) within;
      before = subst (λ xs. AreOpen origin keys xs heads) (sym (take-map bytes_of i notes)) before;
      refused = subst (λ b. ReadsHead b origin keys (Err fault)) is refused;
    }
