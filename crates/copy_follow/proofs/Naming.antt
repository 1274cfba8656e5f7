-- The damaged files that a repair names.
use Rattle.std.proofs.Common.{◌≡◌, ◌⊎◌, ℕ, List, [], ◌∷◌, ◌++◌, map, Option, Some, None, Result, Ok, Err, OnOk, inl, inr, sym, ap, subst, ◌∙◌, append_assoc}
use Rattle.std.specs.Prelude.{IsTrue}
use Rattle.std.specs.List.{Contains}
use Rattle.std.proofs.lemmas.List.{append-nil, map-append}
use Rattle.std.proofs.lemmas.List.Elements.{All-append, All-cons, All-nil, All-weaker, Contains-append_left}
use Rattle.tlog_tiles.specs.declared.paths.Path.{Path}
use Rattle.mirror_sources.specs.Honest.{true_bytes}
use Rattle.mirror_sources.specs.Recorded.{KeepsRecord}
use Rattle.mirror_folders.specs.Shelf.{HasPut, Put, RecordsNone}
use Rattle.mirror_folders.specs.declared.damaged.DamagedFile.{DamagedFile}
use Rattle.copy_follow.specs.Lacked.{IsRecorded}
use Rattle.copy_follow.specs.Named.{AddsNamed, IsDamagedFile, NamesAt, NamesDamaged, NamesLack}
use Rattle.copy_follow.specs.Repaired.{PutsTrue}
use Rattle.copy_follow.proofs.Lacking.{recorded_later}

pub on_ok : {T E : Type 0} (r : Result T E) (P Q : Type 0) → (P → Q) → OnOk r P → OnOk r Q
on_ok (Ok x) P Q f h = f h
on_ok (Err e) P Q f h = tt

-- nothing was put at the path before
none_before : (xs puts ys : List Put) (path : Path) → ys ≡ xs ++ puts → (HasPut ys path → ⊥) → HasPut xs path → ⊥
none_before xs puts ys path is none has =
    let f = λ (put : Put). put.0 in
    none (subst (λ (l : List Put). HasPut l path) (sym is)
    (subst (λ (l : List Path). Contains l path) (sym (map-append f xs puts)) (Contains-append_left (map f xs) (map f puts) path has)))

kept_none : (x y : Option (List Put)) (path : Path) → KeepsRecord x y → RecordsNone y path → RecordsNone x path
kept_none None y path kept none = tt
kept_none (Some xs) None path kept none = absurd kept
kept_none (Some xs) (Some ys) path kept none = λ has. none (subst (λ (l : List Put). HasPut l path) (sym kept) has)

module _ (digest : List ℕ → List ℕ) (log : List (List ℕ)) where
  named_none : (a b : Option (List Put)) (path : Path) → PutsTrue digest log a b → RecordsNone b path → RecordsNone a path
  named_none None b path g none = tt
  named_none (Some xs) None path g none = absurd g.recorded
  named_none (Some xs) (Some ys) path g none = none_before xs g.puts ys path g.recorded none

  named_before : (a b : Option (List Put)) → PutsTrue digest log a b → (file : DamagedFile) → IsDamagedFile digest log b file →
      IsDamagedFile digest log a file
  named_before a b g file d = record {
    damaged = λ there. d.damaged (recorded_later digest log a b file.path g there);
    missing = λ yes. named_none a b file.path g (d.missing yes);
  }

  pub names_none : (a : Option (List Put)) (l m : List DamagedFile) → m ≡ l → NamesDamaged digest log a l m
  names_none a l m is = record {
    more = [];
    new_is = is ∙ sym (append-nil l);
    are_damaged = All-nil (IsDamagedFile digest log a);
  }

  pub names_then : (a b : Option (List Put)) (l m n : List DamagedFile) → PutsTrue digest log a b → NamesDamaged digest log a l m →
      NamesDamaged digest log b m n → NamesDamaged digest log a l n
  names_then a b l m n g p q = record {
    more = p.more ++ q.more;
    new_is = q.new_is ∙ (ap (λ (k : List DamagedFile). k ++ q.more) p.new_is ∙ append_assoc l p.more q.more);
    are_damaged = All-append (IsDamagedFile digest log a) p.more q.more p.are_damaged
        (All-weaker (IsDamagedFile digest log b) (IsDamagedFile digest log a) (named_before a b g) q.more q.are_damaged);
  }

  named_one : (a : Option (List Put)) (l m : List DamagedFile) (file : DamagedFile) → m ≡ l ++ file ∷ [] →
      IsDamagedFile digest log a file → NamesDamaged digest log a l m
  named_one a l m file is d = record {
    more = file ∷ [];
    new_is = is;
    are_damaged = All-cons (IsDamagedFile digest log a) file [] d (All-nil (IsDamagedFile digest log a));
  }

  -- a file that was looked at
  pub names_at : (a : Option (List Put)) (path : Path) (bytes : List ℕ) (l m : List DamagedFile) → bytes ≡ true_bytes digest log path →
      NamesAt a path bytes l m → NamesDamaged digest log a l m
  names_at a path bytes l m true (inl same) = names_none a l m same
  names_at a path bytes l m true (inr h) =
      let file = h.0 in
      let d = h.1 in
      named_one a l m file h.2 (record {
        damaged = λ there. d.damaged (subst (λ b. IsRecorded a path b) (sym true)
            (subst (λ q. IsRecorded a q (true_bytes digest log q)) d.path_is there));
        missing = λ yes. subst (λ q. RecordsNone a q) (sym d.path_is) (d.missing yes);
      })

  -- a file that nobody has
  pub names_lack : (a b : Option (List Put)) (path : Path) (l m : List DamagedFile) → KeepsRecord a b →
      (IsRecorded a path (true_bytes digest log path) → ⊥) → NamesLack b path l m → NamesDamaged digest log a l m
  names_lack a b path l m kept damaged (inl same) = names_none a l m same
  names_lack a b path l m kept damaged (inr h) =
      let file = h.0 in
      named_one a l m file h.3 (record {
        damaged = λ there. damaged (subst (λ q. IsRecorded a q (true_bytes digest log q)) h.1 there);
        missing = λ yes. subst (λ q. RecordsNone a q) (sym h.1) (kept_none a b path kept (h.2 yes));
      })

-- a file that nobody has was named
pub names_noted : (x : Option (List Put)) (path : Path) (l k m : List DamagedFile) (file : DamagedFile) → k ≡ l → AddsNamed k m file →
    file.path ≡ path → (IsTrue file.is_missing → RecordsNone x path) → NamesLack x path l m
names_noted x path l k m file same (inl kept) at missing = inl (kept ∙ same)
names_noted x path l k m file same (inr more) at missing =
    inr (file, at, missing, more ∙ ap (λ (z : List DamagedFile). z ++ file ∷ []) same)
