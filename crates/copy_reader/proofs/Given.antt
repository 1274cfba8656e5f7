-- Replies, one after another.
use Rattle.std.proofs.Common.{◌≡◌, inl, inr, ℕ, ◌<◌, List, [], ◌∷◌, ◌++◌, Option, Some, None}
use Rattle.std.proofs.Common.{refl, sym, ap, subst, ◌∙◌, arith, append_assoc, option_map, Vec, Global}
use Rattle.std.proofs.Common.{Result, Ok, Err, OnOk, IfNone, IfOk, IfSome}
use Rattle.std.specs.List.{Contains}
use Rattle.std.proofs.lemmas.List.{append-nil, map-append}
use Rattle.std.proofs.lemmas.List.Elements.{Contains-append_left, Contains-append_right}
use Rattle.tlog_tiles.specs.declared.paths.Path.{Path}
use Rattle.mirror_sources.specs.Files.{full_of, width_named}
use Rattle.mirror_sources.specs.Replies.{Reply, reply, asked_paths, MayReply}
use Rattle.mirror_sources.specs.Source.{StaysWithin}
use Rattle.mirror_sources.specs.Recorded.{AddsToRecord}
use Rattle.copy_reader.specs.Answering.{AreGiven, IsHad}
use Rattle.copy_reader.specs.Edges.{IsFullGiven, IsGivenAt}

-- ---- possible replies

may_append : (may : Path → Option (List ℕ) → Type 0) (xs ys : List Reply) → MayReply may xs → MayReply may ys →
    MayReply may (xs ++ ys)
may_append may [] ys p q = q
may_append may (x ∷ xs) ys p q = (p.0, may_append may xs ys p.1 q)

may_before : (may later : Path → Option (List ℕ) → Type 0) (xs : List Reply) → StaysWithin may later →
    MayReply later xs → MayReply may xs
may_before may later [] s h = tt
may_before may later (x ∷ xs) s h = (s.stays x.path x.found h.0, may_before may later xs s h.1)

adds_then : (a b c : Option (List Path)) (xs ys : List Path) → AddsToRecord a b xs → AddsToRecord b c ys →
    AddsToRecord a c (xs ++ ys)
adds_then None b c xs ys p q = tt
adds_then (Some us) None c xs ys p q = absurd p
adds_then (Some us) (Some vs) None xs ys p q = absurd q
adds_then (Some us) (Some vs) (Some ws) xs ys p q = q ∙ (ap (λ (l : List Path). l ++ ys) p ∙ append_assoc us xs ys)

recorded_same : (x : Option (List Path)) → AddsToRecord x x []
recorded_same None = tt
recorded_same (Some xs) = sym (append-nil xs)

pub given_none : (may : Path → Option (List ℕ) → Type 0) (x : Option (List Path)) → AreGiven may may x x []
given_none may x = record {
  stays = record { stays = λ path answer h. h };
  may_reply = tt;
  recorded = recorded_same x;
}

pub given_one : (may later : Path → Option (List ℕ) → Type 0) (x y : Option (List Path)) (path : Path)
    (found : Option (List ℕ)) → StaysWithin may later → may path found → AddsToRecord x y (path ∷ []) →
    AreGiven may later x y (reply path found ∷ [])
given_one may later x y path found stays h recorded = record { stays = stays; may_reply = (h, tt); recorded = recorded }

pub given_then : (a b c : Path → Option (List ℕ) → Type 0) (x y z : Option (List Path)) (p q : List Reply) →
    AreGiven a b x y p → AreGiven b c y z q → AreGiven a c x z (p ++ q)
given_then a b c x y z p q f g = record {
  stays = record { stays = λ path answer h. f.stays.stays path answer (g.stays.stays path answer h) };
  may_reply = may_append a p q f.may_reply (may_before a b q f.stays g.may_reply);
  recorded = subst (λ l. AddsToRecord x z l) (sym (map-append (λ (r : Reply). r.path) p q))
      (adds_then x y z (asked_paths p) (asked_paths q) f.recorded g.recorded);
}

-- ---- replies that were given

pub first_of : {X : Type 0} (x : X) (xs : List X) → Contains (x ∷ xs) x
first_of x xs = (0, omega arith, refl)

pub had_left : (p q : List Reply) (path : Path) (bytes : List ℕ) → IsHad p path bytes → IsHad (p ++ q) path bytes
had_left p q path bytes (inl h) = inl (Contains-append_left p q (reply path (Some bytes)) h)
had_left p q path bytes (inr h) = inr (record {
  partial = h.partial;
  rest = h.rest;
  none = Contains-append_left p q (reply path None) h.none;
  full = Contains-append_left p q (reply (full_of path) (Some (bytes ++ h.rest))) h.full;
})

pub had_right : (p q : List Reply) (path : Path) (bytes : List ℕ) → IsHad q path bytes → IsHad (p ++ q) path bytes
had_right p q path bytes (inl h) = inl (Contains-append_right p q (reply path (Some bytes)) h)
had_right p q path bytes (inr h) = inr (record {
  partial = h.partial;
  rest = h.rest;
  none = Contains-append_right p q (reply path None) h.none;
  full = Contains-append_right p q (reply (full_of path) (Some (bytes ++ h.rest))) h.full;
})

pub there : (may later : Path → Option (List ℕ) → Type 0) (x y : Option (List Path)) (path : Path) (bytes : List ℕ) →
    AreGiven may later x y (reply path (Some bytes) ∷ []) → IsGivenAt path bytes may later x y
there may later x y path bytes g = record {
  replies = reply path (Some bytes) ∷ [];
  given = g;
  had = inl (first_of (reply path (Some bytes)) []);
}

pub in_its_place : (a b c : Path → Option (List ℕ) → Type 0) (x y z : Option (List Path)) (path : Path)
    (bytes : List ℕ) → width_named path < 256 → AreGiven a b x y (reply path None ∷ []) →
    IsFullGiven path bytes b c y z → IsGivenAt path bytes a c x z
in_its_place a b c x y z path bytes partial f g =
    let p = reply path None ∷ [] in
    let q = reply (full_of path) (Some (bytes ++ g.rest)) ∷ [] in
    record {
      replies = p ++ q;
      given = given_then a b c x y z p q f g.given;
      had = inr (record {
        partial = partial;
        rest = g.rest;
        none = first_of (reply path None) q;
        full = Contains-append_right p q (reply (full_of path) (Some (bytes ++ g.rest)))
            (first_of (reply (full_of path) (Some (bytes ++ g.rest))) []);
      });
    }

-- ---- answers of calls

pub on_ok : {T E P Q : Type 0} (r : Result T E) → OnOk r P → (P → Q) → OnOk r Q
on_ok (Ok x) p f = f p
on_ok (Err e) p f = tt

pub if_found : {T E : Type 0} (P Q : T → Type 0) (r : Result (Option T) E) → ((t : T) → P t → Q t) →
    IfOk r (λ o. IfSome o P) → IfOk r (λ o. IfSome o Q)
if_found P Q (Ok (Some t)) f p = f t p
if_found P Q (Ok None) f p = tt
if_found P Q (Err e) f p = tt

pub may_some : (may : Path → Option (List ℕ) → Type 0) (path : Path) (o : Option (Vec ℕ Global)) (v : Vec ℕ Global) →
    o ≡ Some v → may path (option_map (λ (w : Vec ℕ Global). w.items) o) → may path (Some v.items)
may_some may path o v is h = subst (λ (k : Option (Vec ℕ Global)). may path (option_map (λ (w : Vec ℕ Global). w.items) k)) is h

pub may_none : (may : Path → Option (List ℕ) → Type 0) (path : Path) (o : Option (Vec ℕ Global)) → o ≡ None →
    may path (option_map (λ (w : Vec ℕ Global). w.items) o) → may path None
may_none may path o is h = subst (λ (k : Option (Vec ℕ Global)). may path (option_map (λ (w : Vec ℕ Global). w.items) k)) is h

pub if_none : {T E P Q : Type 0} (r : Result (Option T) E) → (P → Q) → IfOk r (λ o. IfNone o P) → IfOk r (λ o. IfNone o Q)
if_none (Ok (Some t)) f p = tt
if_none (Ok None) f p = f p
if_none (Err e) f p = tt
