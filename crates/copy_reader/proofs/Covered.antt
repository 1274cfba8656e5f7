-- Ranges of entries that were read, one after another.
use Rattle.std.proofs.Common.{◌≡◌, ◌⊎◌, inl, inr, ℕ, ◌+◌, ◌^◌, ◌≤◌, ◌<◌, List, [], ◌++◌, length, take, Option}
use Rattle.std.proofs.Common.{refl, sym, ap, subst, ◌∙◌, arith, append_assoc, length-append}
use Rattle.std.proofs.lemmas.List.{append-nil, take_at, drop_at}
use Rattle.std.proofs.lemmas.List.Elements.{All-append, All-nil}
use Rattle.tlog_hash.specs.Rows.{part}
use Rattle.tlog_tiles.specs.declared.paths.Path.{Path}
use Rattle.mirror_sources.specs.Honest.{true_bytes}
use Rattle.copy_reader.specs.Covering.{Covers, HasAt}
use Rattle.copy_reader.proofs.Given.{given_none, given_then, had_left, had_right}

module _ (start : ℕ) (entries : List (List ℕ)) where
  pub has_part : (more : List (List ℕ)) → HasAt start more entries → part start (length more) entries ≡ more
  has_part more h =
      ap (part start (length more)) h.list_is
      ∙ (ap (take (length more)) (drop_at h.front (more ++ h.back) start h.start_is)
      ∙ take_at more h.back (length more) refl)

  pub has_within : (more : List (List ℕ)) → HasAt start more entries → start + length more ≤ length entries
  has_within more h =
      let all : length entries ≡ length h.front + length (more ++ h.back) =
      ap length h.list_is ∙ length-append h.front (more ++ h.back) in
      omega (arith, all, length-append more h.back, h.start_is)

  pub has_left : (a b : List (List ℕ)) → HasAt start (a ++ b) entries → HasAt start a entries
  has_left a b h = record {
    front = h.front;
    back = b ++ h.back;
    start_is = h.start_is;
    list_is = h.list_is ∙ ap (λ (l : List (List ℕ)). h.front ++ l) (append_assoc a b h.back);
  }

  pub has_right : (a b : List (List ℕ)) → HasAt start (a ++ b) entries → HasAt (start + length a) b entries
  has_right a b h = record {
    front = h.front ++ a;
    back = h.back;
    start_is = length-append h.front a ∙ ap (λ n. n + length a) h.start_is;
    list_is = h.list_is ∙ (ap (λ (l : List (List ℕ)). h.front ++ l) (append_assoc a b h.back)
        ∙ sym (append_assoc h.front a (b ++ h.back)));
  }

pub has_all : (entries : List (List ℕ)) → HasAt 0 entries entries
has_all entries = record {
  front = [];
  back = [];
  start_is = refl;
  list_is = sym (append-nil entries);
}

module _ (digest : List ℕ → List ℕ) where
  pub covers_none : (F : Path → Type 0) (from to : ℕ) (may : Path → Option (List ℕ) → Type 0) (x : Option (List Path))
      (P : List (List ℕ) → Type 0) → from ≡ to → ((path : Path) → F path → ⊥) → ((entries : List (List ℕ)) → P entries) →
      Covers digest F from to may may x x P
  covers_none F from to may x P same none claim = record {
    more = [];
    replies = [];
    given = given_none may x;
    size_is = omega (arith, same);
    short = All-nil (λ (e : List ℕ). length e < 2 ^ 16);
    claims = λ entries h. claim entries;
    holds = λ entries h path file. absurd (none path file);
  }

  -- the same range in equal terms
  pub covers_as : (F G : Path → Type 0) (from to from' to' : ℕ) (may later : Path → Option (List ℕ) → Type 0)
      (x y : Option (List Path)) (P Q : List (List ℕ) → Type 0) → from ≡ from' → to ≡ to' →
      ((path : Path) → G path → F path) → ((entries : List (List ℕ)) → to ≤ length entries → P entries → Q entries) →
      Covers digest F from to may later x y P → Covers digest G from' to' may later x y Q
  covers_as F G from to from' to' may later x y P Q start end files claim c =
      let size = c.size_is in
      record {
        more = c.more;
        replies = c.replies;
        given = c.given;
        size_is = omega (arith, size, start, end);
        short = c.short;
        claims = λ entries h.
            let at = subst (λ n. HasAt n c.more entries) (sym start) h in
            claim entries (omega (arith, size, has_within from entries c.more at)) (c.claims entries at);
        holds = λ entries h path file.
            c.holds entries (subst (λ n. HasAt n c.more entries) (sym start) h) path (files path file);
      }

  pub covers_then : (F G A : Path → Type 0) (from mid to : ℕ) (P Q R : List (List ℕ) → Type 0)
      (a b c : Path → Option (List ℕ) → Type 0) (x y z : Option (List Path)) →
      ((path : Path) → A path → (F path) ⊎ (G path)) →
      ((entries : List (List ℕ)) → P entries → Q entries → R entries) →
      Covers digest F from mid a b x y P → Covers digest G mid to b c y z Q → Covers digest A from to a c x z R
  covers_then F G A from mid to P Q R a b c x y z split claim p q =
      let first = p.size_is in
      let second = q.size_is in
      let next : (entries : List (List ℕ)) → HasAt from (p.more ++ q.more) entries → HasAt mid q.more entries =
      λ entries h. subst (λ n. HasAt n q.more entries) first (has_right from entries p.more q.more h) in
      record {
        more = p.more ++ q.more;
        replies = p.replies ++ q.replies;
        given = given_then a b c x y z p.replies q.replies p.given q.given;
        size_is = omega (arith, first, second, length-append p.more q.more);
        short = All-append (λ (e : List ℕ). length e < 2 ^ 16) p.more q.more p.short q.short;
        claims = λ entries h.
            claim entries (p.claims entries (has_left from entries p.more q.more h)) (q.claims entries (next entries h));
        holds = λ entries h path file. elim (split path file) [
          | inl before ↦ had_left p.replies q.replies path (true_bytes digest entries path)
              (p.holds entries (has_left from entries p.more q.more h) path before)
          | inr after ↦ had_right p.replies q.replies path (true_bytes digest entries path)
              (q.holds entries (next entries h) path after)
        ];
      }
