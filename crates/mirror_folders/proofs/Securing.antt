-- The files that a shelf has to flush, as its record grows.
use Rattle.std.proofs.Common.{◌≡◌, ◌⊎◌, ℕ, List, [], ◌∷◌, ◌++◌, map, refl, sym, ap, subst, ◌∙◌, append_assoc, append-nil, inl, inr}
use Rattle.std.proofs.Common.{Option, Some, None, Result, Ok, Err, arith}
use Rattle.std.specs.List.{Contains}
use Rattle.std.proofs.lemmas.List.{map-append}
use Rattle.std.proofs.lemmas.List.Elements.{Contains-append_cases, Contains-append_left, Contains-append_right, Contains-push, Contains-push_cases}
use Rattle.tlog_tiles.specs.declared.paths.Path.{Path}
use Rattle.tlog_tiles.specs.declared.paths.Path.TheVariants.{Checkpoint}
use Rattle.mirror_sources.specs.Recorded.{AddsToRecord, KeepsRecord}
use Rattle.mirror_folders.specs.Shelf.{HasPut, Put, RecordsPut}
use Rattle.mirror_folders.specs.Flushes.{Flushes, FlushesAll, FlushesPuts, Gains, IsFlushedFirst, LosesNone, Secures, SecuresAtOk, SecuresPuts}
use Rattle.mirror_folders.specs.declared.shelf.ShelfError.{ShelfError}

-- one file more
pub gains_one : (f g : Flushes) (path : Path) → g.files ≡ f.files ++ path ∷ [] → Gains (λ p. p ≡ path) f g
gains_one f g path is = record {
  more = path ∷ [];
  files_are = is;
  has = λ p same. subst (Contains (path ∷ [])) (sym same) (Contains-push [] path);
}

-- a record that stays loses nothing
pub loses_none : (x y : Option Flushes) → y ≡ x → LosesNone x y
loses_none None y same = tt
loses_none (Some f) y same = subst (LosesNone (Some f)) (sym same) (record {
  more = [];
  files_are = sym (append-nil f.files);
  has = λ p no. absurd no;
})

module _ (first second so : Path → Type 0) (split : (p : Path) → so p → first p ⊎ second p) where
  -- two calls after one another: each file was recorded by the first or by the second
  pub secures_join : (x y z : Option Flushes) → Secures first x y → Secures second y z → Secures so x z
  secures_join None y z a b = tt
  secures_join (Some f) None z a b = absurd a
  secures_join (Some f) (Some g) None a b = absurd b
  secures_join (Some f) (Some g) (Some h) a b = record {
    more = a.more ++ b.more;
    files_are = b.files_are ∙ (ap (λ l. l ++ b.more) a.files_are ∙ append_assoc f.files a.more b.more);
    has = λ p is. elim (split p is) [
      | inl earlier ↦ Contains-append_left a.more b.more p (a.has p earlier)
      | inr later ↦ Contains-append_right a.more b.more p (b.has p later)
    ];
  }

module _ (so : Path → Type 0) where
  -- no record is lost after these files were recorded
  pub secures_then : (x y z : Option Flushes) → Secures so x y → LosesNone y z → Secures so x z
  secures_then = secures_join so (λ _. ⊥) so (λ p is. inl is)

  -- no record was lost before these files were recorded
  pub then_secures : (x y z : Option Flushes) → LosesNone x y → Secures so y z → Secures so x z
  then_secures = secures_join (λ _. ⊥) so so (λ p is. inr is)

  -- fewer files
  pub secures_fewer : (fewer : Path → Type 0) → ((p : Path) → fewer p → so p) → (x y : Option Flushes) →
      Secures so x y → Secures fewer x y
  secures_fewer fewer has None y a = tt
  secures_fewer fewer has (Some f) None a = absurd a
  secures_fewer fewer has (Some f) (Some g) a =
      record { more = a.more; files_are = a.files_are; has = λ p is. a.has p (has p is) }

-- ---- the files that are put

nothing : (path : Path) → HasPut [] path → ⊥
nothing path has = let lt = has.1 in omega arith

only : (path : Path) (bytes : List ℕ) (p : Path) → HasPut ((path, bytes) ∷ []) p → p ≡ path
only path bytes p has = elim (Contains-push_cases [] path p has) [ inl none ↦ absurd (nothing p none) | inr same ↦ sym same ]

put_where : (first second : List Put) (p : Path) → HasPut (first ++ second) p → HasPut first p ⊎ HasPut second p
put_where first second p has = Contains-append_cases (map (λ (put : Put). put.0) first) (map (λ (put : Put). put.0) second) p
    (subst (λ (l : List Path). Contains l p) (map-append (λ (put : Put). put.0) first second) has)

-- nothing was put
pub puts_kept : (a b : Option (List Put)) (x y : Option Flushes) → KeepsRecord a b → LosesNone x y → SecuresPuts a b x y
puts_kept None b x y kept same = tt
puts_kept (Some us) None x y kept same = absurd kept
puts_kept (Some us) (Some vs) x y kept same = record {
  added = [];
  puts_are = kept ∙ sym (append-nil us);
  secured = secures_fewer (λ _. ⊥) (λ p. HasPut [] p) (λ p has. nothing p has) x y same;
}

pub puts_none : (a b : Option (List Put)) (x y : Option Flushes) → KeepsRecord a b → y ≡ x → SecuresPuts a b x y
puts_none a b x y kept same = puts_kept a b x y kept (loses_none x y same)

-- one call that puts files, and then another one
pub puts_then : (a b c : Option (List Put)) (x y z : Option Flushes) → SecuresPuts a b x y → SecuresPuts b c y z →
    SecuresPuts a c x z
puts_then None b c x y z first second = tt
puts_then (Some us) None c x y z first second = absurd first
puts_then (Some us) (Some vs) None x y z first second = absurd second
puts_then (Some us) (Some vs) (Some ws) x y z first second = record {
  added = first.added ++ second.added;
  puts_are = second.puts_are
      ∙ (ap (λ l. l ++ second.added) first.puts_are ∙ append_assoc us first.added second.added);
  secured = secures_join (λ p. HasPut first.added p) (λ p. HasPut second.added p)
      (λ p. HasPut (first.added ++ second.added) p) (λ p has. put_where first.added second.added p has) x y z
      first.secured second.secured;
}

-- a put, for each answer
pub put_secures : {T : Type 0} (path : Path) (bytes : List ℕ) (a b : Option (List Put)) (x y : Option Flushes)
    (r : Result T ShelfError) → RecordsPut a b (path, bytes) r → SecuresAtOk (λ p. p ≡ path) x y r →
    SecuresPuts a b x y
put_secures path bytes None b x y r put secured = tt
put_secures path bytes (Some us) None x y (Ok v) put secured = absurd put
put_secures path bytes (Some us) None x y (Err e) put secured = absurd put
put_secures path bytes (Some us) (Some vs) x y (Ok v) put secured = record {
  added = (path, bytes) ∷ [];
  puts_are = put;
  secured = secures_fewer (λ p. p ≡ path) (λ p. HasPut ((path, bytes) ∷ []) p) (λ p has. only path bytes p has) x y secured;
}
put_secures path bytes (Some us) (Some vs) x y (Err e) put secured = record {
  added = [];
  puts_are = put ∙ sym (append-nil us);
  secured = secures_fewer (λ _. ⊥) (λ p. HasPut [] p) (λ p has. nothing p has) x y secured;
}

-- files, and last the checkpoint
pub puts_last : (note : List ℕ) (a b c : Option (List Put)) (x y z : Option Flushes) → SecuresPuts a b x y →
    AddsToRecord b c ((Checkpoint, note) ∷ []) → FlushesAll y z → FlushesPuts a c x z
puts_last note None b c x y z first put flushed = tt
puts_last note (Some us) None c x y z first put flushed = absurd first
puts_last note (Some us) (Some vs) None x y z first put flushed = absurd put
puts_last note (Some us) (Some vs) (Some ws) x y z first put flushed = record {
  added = first.added;
  note = note;
  puts_are = put ∙ ap (λ l. l ++ (Checkpoint, note) ∷ []) first.puts_are;
  flushed = record { before = y; secured = first.secured; last = flushed };
}

-- nothing was put before
pub then_flushes : (a b c : Option (List Put)) (x y z : Option Flushes) → KeepsRecord a b → y ≡ x → FlushesPuts b c y z →
    FlushesPuts a c x z
then_flushes None b c x y z kept same f = tt
then_flushes (Some us) None c x y z kept same f = absurd kept
then_flushes (Some us) (Some vs) None x y z kept same f = absurd f
then_flushes (Some us) (Some vs) (Some ws) x y z kept same f = record {
  added = f.added;
  note = f.note;
  puts_are = f.puts_are ∙ ap (λ l. l ++ f.added ++ (Checkpoint, f.note) ∷ []) kept;
  flushed = subst (λ q. IsFlushedFirst (λ p. HasPut f.added p) q z) same f.flushed;
}
