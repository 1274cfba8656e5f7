-- The written text is that of the checkpoint: its fields are lines and not empty.
use Rattle.std.proofs.Common.{◌≡◌, ◌≢◌, ℕ, ◌<◌, List, [], ◌∷◌, ◌++◌, length, refl, sym, ◌∙◌, ap, subst, arith}
use Rattle.std.proofs.Common.{append_assoc}
use Rattle.tlog_checkpoint.specs.declared.Checkpoint.{Checkpoint}
use Rattle.tlog_checkpoint.specs.Lines.{ended, text_of, IsTextLine}
use Rattle.tlog_text.specs.Number.{IsDecimal}
use Rattle.tlog_text.specs.Hash.{base64_of, IsHashText}
use Rattle.tlog_checkpoint.specs.Laws.{EachWritableHasText}
use Rattle.tlog_text.proofs.Decimals.{decimal_written}
use Rattle.tlog_text.proofs.Newlines.{digits_lack_newline, base64_lacks_newline}
use Rattle.tlog_text.proofs.Hashes.{length-hash}
use Rattle.std.specs.Fmt.{decimal}
use Rattle.tlog_checkpoint.specs.Grammar.{IsFullLine, IsCheckpoint, IsWritableCheckpoint}

some_full : (line : List ℕ) → 0 < length line → line ≢ []
some_full line h none = omega (arith, ap length none)

pub decimal_full : (ds : List ℕ) (n : ℕ) → IsDecimal ds n → IsFullLine ds
decimal_full ds n is = record { not_empty = some_full ds is.numeral.0; is_line = digits_lack_newline ds is.numeral.1 }

pub root_full : (line root : List ℕ) → IsHashText line root → IsFullLine line
root_full line root is =
    let some : 0 < length line = omega (arith, ap length is.is_base64, length-hash root is.is_hash) in
    record { not_empty = some_full line some; is_line = subst IsTextLine (sym is.is_base64) (base64_lacks_newline root) }

-- the text was made line by line
pub joined_lines : (one two three text origin size root : List ℕ) (extensions : List (List ℕ)) → one ≡ ended origin →
    two ≡ one ++ ended size → three ≡ two ++ ended root → text ≡ three ++ text_of extensions
    → text ≡ text_of (origin ∷ size ∷ root ∷ extensions)
joined_lines one two three text o s r e a b c d =
    d ∙ (rw (c, b, a)
    (append_assoc (ended o ++ ended s) (ended r) (text_of e) ∙
    append_assoc (ended o) (ended s) (ended r ++ text_of e)))

-- the text of a checkpoint's lines is the text of the checkpoint
pub written : (text size root : List ℕ) (c : Checkpoint) → IsWritableCheckpoint c → IsDecimal size c.size →
    IsHashText root c.root
    → text ≡ text_of (c.origin ∷ size ∷ root ∷ c.extensions) → IsCheckpoint text c.origin c.size c.root c.extensions
written text size root c can has_size has_root is = record {
  size_line = size;
  root_line = root;
  fields = record {
    is_text =
        is;
    are_full =
        (can.origin, (decimal_full size c.size has_size, (root_full root c.root has_root, can.extensions)));
  };
  has_size = has_size;
  in_range = can.size;
  has_root = has_root;
}

pub each_written : EachWritableHasText
each_written c can hash = (
  text_of (c.origin ∷ decimal c.size ∷ base64_of c.root ∷ c.extensions),
  written _ (decimal c.size) (base64_of c.root) c can (decimal_written c.size (omega (arith, can.size)))
      (record { is_base64 = refl; is_hash = hash }) refl,
)
