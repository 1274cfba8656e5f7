-- Entries gathered step by step.
use Rattle.std.proofs.Common.{◌≡◌, ℕ, ◌+◌, ◌*◌, ◌/◌, ◌^◌, ◌≤◌, ◌<◌, max, List, [], ◌∷◌, ◌++◌, length}
use Rattle.std.proofs.Common.{◌⊎◌, inl, inr, Result, Ok, Err, OnOk, Option, Some, None, refl, sym, ap, subst, ◌∙◌, arith, append_assoc, length-append, All}
use Rattle.std.proofs.lemmas.List.{append-nil}
use Rattle.std.proofs.lemmas.List.Elements.{All-nil, All-append, All-weaker, All-cons}
use Rattle.tlog_shape.specs.Edge.{width_of, edge_index_of}
use Rattle.tlog_hash.specs.Rows.{part, level_row}
use Rattle.tlog_tiles.specs.Bundle.{bundle_text}
use Rattle.tlog_tiles.proofs.EdgeLemmas.{hashes_of}
use Rattle.std.proofs.Math.Nat.{div-mul-le_self}
use Rattle.mirror_model.specs.TrueLaws.{AreShort}
use Rattle.mirror_sources.specs.Recorded.{AddsToRecord, KeepsRecord}
use Rattle.mirror_folders.specs.Shelf.{Put}
use Rattle.copy_follow.specs.Growing.{IsNewFile, Obtains, IsKnown, IsBrought, IsCutShort, BringsTile, Tip}
use Rattle.copy_places.proofs.Prefixes.{bytes_front, within_more, level_row_front, part_front}

pub kept_adds : (a b : Option (List Put)) → KeepsRecord a b → AddsToRecord a b []
kept_adds None b k = tt
kept_adds (Some xs) None k = absurd k
kept_adds (Some xs) (Some ys) k = k ∙ sym (append-nil xs)

pub kept_same : (a : Option (List Put)) → KeepsRecord a a
kept_same None = tt
kept_same (Some xs) = refl

pub adds_then : (a b c : Option (List Put)) (xs ys : List Put) → AddsToRecord a b xs → AddsToRecord b c ys →
    AddsToRecord a c (xs ++ ys)
adds_then None b c xs ys p q = tt
adds_then (Some us) None c xs ys p q = absurd p
adds_then (Some us) (Some vs) None xs ys p q = absurd q
adds_then (Some us) (Some vs) (Some ws) xs ys p q = q ∙ (ap (λ (l : List Put). l ++ ys) p ∙ append_assoc us xs ys)

module _ (digest : List ℕ → List ℕ) (m : ℕ) where
  new_more : (a b : List (List ℕ)) (put : Put) → IsNewFile digest m a put → IsNewFile digest m (a ++ b) put
  new_more a b put h = record {
    new = h.new;
    within = within_more (length a) (length (a ++ b)) put.0 (omega (arith, length-append a b)) h.within;
    bytes_are = h.bytes_are ∙ sym (bytes_front digest a b put.0 h.within);
  }

  pub gathers_none : (known : List (List ℕ)) (old new : Option (List Put)) → KeepsRecord old new →
      Obtains digest m known known old new
  gathers_none known old new kept = record {
    more = [];
    next_is = sym (append-nil known);
    short = All-nil (λ (e : List ℕ). length e < 2 ^ 16);
    puts = [];
    recorded = kept_adds old new kept;
    are_new = All-nil (IsNewFile digest m known);
  }

  pub gathers_put : (known : List (List ℕ)) (old new : Option (List Put)) (put : Put) → AddsToRecord old new (put ∷ []) →
      IsNewFile digest m known put → Obtains digest m known known old new
  gathers_put known old new put recorded is = record {
    more = [];
    next_is = sym (append-nil known);
    short = All-nil (λ (e : List ℕ). length e < 2 ^ 16);
    puts = put ∷ [];
    recorded = recorded;
    are_new = All-cons (IsNewFile digest m known) put [] is (All-nil (IsNewFile digest m known));
  }

  -- a file is put, if the shelf lacks it
  pub gathers_keep : (known : List (List ℕ)) (old new : Option (List Put)) (put : Put) →
      (KeepsRecord old new) ⊎ (AddsToRecord old new (put ∷ [])) → IsNewFile digest m known put →
      Obtains digest m known known old new
  gathers_keep known old new put (inl kept) is = gathers_none known old new kept
  gathers_keep known old new put (inr recorded) is = gathers_put known old new put recorded is

  pub gathers_then : (a b c : List (List ℕ)) (x y z : Option (List Put)) → Obtains digest m a b x y →
      Obtains digest m b c y z → Obtains digest m a c x z
  gathers_then a b c x y z p q = record {
    more = p.more ++ q.more;
    next_is = q.next_is ∙ (ap (λ (l : List (List ℕ)). l ++ q.more) p.next_is ∙ append_assoc a p.more q.more);
    short = All-append (λ (e : List ℕ). length e < 2 ^ 16) p.more q.more p.short q.short;
    puts = p.puts ++ q.puts;
    recorded = adds_then x y z p.puts q.puts p.recorded q.recorded;
    are_new = All-append (IsNewFile digest m c) p.puts q.puts
        (subst (λ (l : List (List ℕ)). All (IsNewFile digest m l) p.puts) (sym q.next_is)
        (All-weaker (IsNewFile digest m b) (IsNewFile digest m (b ++ q.more)) (new_more b q.more) p.puts p.are_new))
        q.are_new;
  }

  pub left_none : (known : List (List ℕ)) (old new : Option (List Put)) → KeepsRecord old new →
      IsCutShort digest m known old new
  left_none known old new kept = record { next = known; gathers = gathers_none known old new kept }

  pub left_then : (known : List (List ℕ)) (x y z : Option (List Put)) → KeepsRecord x y → IsCutShort digest m known y z →
      IsCutShort digest m known x z
  left_then known x y z kept b = record {
    next = b.next;
    gathers = gathers_then known known b.next x y z (gathers_none known x y kept) b.gathers;
  }

  -- entries are known to be those of the log, before a file of them is put
  pub gathers_more : (known more : List (List ℕ)) (old new : Option (List Put)) → AreShort more →
      KeepsRecord old new → Obtains digest m known (known ++ more) old new
  gathers_more known more old new short kept = record {
    more = more;
    next_is = refl;
    short = short;
    puts = [];
    recorded = kept_adds old new kept;
    are_new = All-nil (IsNewFile digest m (known ++ more));
  }

-- the answer of the last call is the answer
pub brings_ok : (digest : List ℕ → List ℕ) (tip : Tip) (level index : ℕ) (hash : List ℕ) (known : List (List ℕ))
    (x y : Option (List Put)) {T E : Type 0} (r : Result T E) (P : Type 0) → OnOk r P →
    (P → IsBrought digest tip level index hash known x y) → IsCutShort digest tip.size known x y →
    BringsTile digest tip level index hash known x y r
brings_ok digest tip level index hash known x y (Ok a) P p f left = f p
brings_ok digest tip level index hash known x y (Err e) P p f left = left

-- ---- the tip

module _ (digest : List ℕ → List ℕ) (tip : Tip) where
  abbrev m : ℕ
  m = tip.size

  edge_within : (level : ℕ) → (256 * edge_index_of m level + width_of m level) * 256 ^ level ≤ m
  edge_within level =
      let h : (256 * edge_index_of m level + width_of m level) * 256 ^ level ≡ m / 256 ^ level * 256 ^ level =
      ap (λ k. k * 256 ^ level) (hashes_of m level) in
      omega (arith, h, div-mul-le_self m (256 ^ level))

  pub known_more : (start later : ℕ) (known next : List (List ℕ)) (x y : Option (List Put)) →
      IsKnown digest tip start known → Obtains digest m known next x y → length next ≡ max m later →
      IsKnown digest tip later next
  known_more start later known next x y is g size =
      let long = is.size_is in
      record {
        size_is = size;
        short = subst (λ (l : List (List ℕ)). AreShort l) (sym g.next_is)
            (All-append (λ (e : List ℕ). length e < 2 ^ 16) known g.more is.short g.short);
        rows_are = λ level upto. is.rows_are level upto ∙ sym
            (ap (λ (l : List (List ℕ)). level_row digest l level (256 * edge_index_of m level) (width_of m level))
            g.next_is
            ∙ level_row_front digest known g.more level (256 * edge_index_of m level) (width_of m level)
            (omega (arith, edge_within level, long)));
        bundle_is = is.bundle_is ∙ sym (ap bundle_text
            (ap (part (256 * edge_index_of m 0) (width_of m 0)) g.next_is
            ∙ part_front (256 * edge_index_of m 0) (width_of m 0) known g.more (omega (arith, edge_within 0, long))));
      }
