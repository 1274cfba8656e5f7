-- The paths that a pull requests, call after call.
use Rattle.std.proofs.Common.{◌≡◌, ◌≢◌, ℕ, List, [], ◌∷◌, ◌++◌, Option, Some, None, Result, Ok, Err, Contains, sym, ◌∙◌}
use Rattle.std.proofs.Common.{ap, subst, append_assoc}
use Rattle.std.proofs.lemmas.List.{append-nil, get_or_default, map-append}
use Rattle.std.proofs.lemmas.List.Quantifiers.{all_pairs_push}
use Rattle.tlog_tiles.specs.declared.paths.Path.{Path}
use Rattle.mirror_sources.specs.Recorded.{AddsToRecord, KeepsRecord}
use Rattle.mirror_pull.specs.Asking.{IsOnce, Adds, AddsTo, AddsSome, AsksPaths}
use Rattle.std.proofs.Common.{Vec, Global}
use Rattle.mirror_sources.specs.Source.{RecordsGet, StaysWithin}
use Rattle.mirror_sources.specs.Replies.{Reply, asked_paths, MayReply}
use Rattle.mirror_pull.specs.Replying.{with_replies}
use Rattle.mirror_pull.specs.Faults.{of_source}
use Rattle.mirror_sources.specs.declared.source.SourceFault.{SourceFault}
use Rattle.mirror_sources.specs.declared.source.SourceFault.TheVariants as source
use Rattle.mirror_pull.specs.declared.fault.PullFault.{PullFault}

pub adds_record_none : {X : Type 0} (a : Option (List X)) → AddsToRecord a a []
adds_record_none None = tt
adds_record_none (Some xs) = sym (append-nil xs)

pub adds_record_kept : {X : Type 0} (a b : Option (List X)) → KeepsRecord a b → AddsToRecord a b []
adds_record_kept None b k = tt
adds_record_kept (Some xs) None k = absurd k
adds_record_kept (Some xs) (Some ys) k = k ∙ sym (append-nil xs)

pub adds_record_then : {X : Type 0} (a b c : Option (List X)) (xs ys : List X) → AddsToRecord a b xs → AddsToRecord b c ys →
    AddsToRecord a c (xs ++ ys)
adds_record_then None b c xs ys p q = tt
adds_record_then (Some us) None c xs ys p q = absurd p
adds_record_then (Some us) (Some vs) None xs ys p q = absurd q
adds_record_then {X} (Some us) (Some vs) (Some ws) xs ys p q =
    q ∙ (ap (λ (l : List X). l ++ ys) p ∙ append_assoc us xs ys)

-- a path that was not requested yet is in the list once
pub once_more : (before : List Path) (path : Path) → (Contains before path → ⊥) → IsOnce before →
    IsOnce (before ++ path ∷ [])
once_more before path fresh once =
    all_pairs_push (λ (a b : Path). a ≢ b) before path once
    (λ k d lt e. fresh (k, lt, get_or_default before k path d lt ∙ e))

pub adds_none : (before : List Path) (a : Option (List Path)) → Adds before a a []
adds_none before a = record { recorded = adds_record_none a; once = λ o. subst IsOnce (sym (append-nil before)) o }

pub adds_to_none : (before : List Path) (a : Option (List Path)) → AddsTo before before a a
adds_to_none before a = record { more = []; list = sym (append-nil before); adds = adds_none before a }

pub adds_some_none : (before : List Path) (a : Option (List Path)) → AddsSome before a a
adds_some_none before a = record { more = []; adds = adds_none before a }

pub adds_one : (before : List Path) (path : Path) (a b : Option (List Path)) → (Contains before path → ⊥) →
    AddsToRecord a b (path ∷ []) → Adds before a b (path ∷ [])
adds_one before path a b fresh recorded = record { recorded = recorded; once = once_more before path fresh }

pub adds_then : (before middle : List Path) (a b c : Option (List Path)) (xs ys : List Path) → middle ≡ before ++ xs →
    Adds before a b xs → Adds middle b c ys → Adds before a c (xs ++ ys)
adds_then before middle a b c xs ys e p q =
    record {
      recorded = adds_record_then a b c xs ys p.recorded q.recorded;
      once = λ o. subst IsOnce (append_assoc before xs ys)
          (subst (λ m. IsOnce (m ++ ys)) e (q.once (subst IsOnce (sym e) (p.once o))));
    }

pub adds_to_then : (before middle after : List Path) (a b c : Option (List Path)) → AddsTo before middle a b →
    AddsTo middle after b c → AddsTo before after a c
adds_to_then before middle after a b c p q =
    record {
      more = p.more ++ q.more;
      list = q.list ∙ (ap (λ (m : List Path). m ++ q.more) p.list ∙ append_assoc before p.more q.more);
      adds = adds_then before middle a b c p.more q.more p.list p.adds q.adds;
    }

pub adds_some_then : (before middle : List Path) (a b c : Option (List Path)) → AddsTo before middle a b →
    AddsSome middle b c → AddsSome before a c
adds_some_then before middle a b c p q =
    record { more = p.more ++ q.more; adds = adds_then before middle a b c p.more q.more p.list p.adds q.adds }

pub some_of : (before after : List Path) (a b : Option (List Path)) → AddsTo before after a b → AddsSome before a b
some_of before after a b p = record { more = p.more; adds = p.adds }

-- a get failed
pub some_get : (before : List Path) (path : Path) (a b : Option (List Path)) (f : SourceFault) →
    (Contains before path → ⊥) → RecordsGet {T = Option (Vec ℕ Global)} a b path (Err f) →
    AsksPaths {T = Option (Vec ℕ Global)} before before a b (Err (of_source f))
some_get before path a b source.Failed fresh recorded =
    record { more = path ∷ []; adds = adds_one before path a b fresh recorded }
some_get before path a b source.OutOfMemory fresh recorded =
    record { more = []; adds = record { recorded = adds_record_kept a b recorded; once = (adds_none before a).once } }

-- the requests of a part, followed by a part without requests, for every answer
pub asks_late : {T : Type 0} (before after : List Path) (a b : Option (List Path)) (r : Result T PullFault) →
    AddsTo before after a b → AsksPaths before after a b r
asks_late before after a b (Ok x) p = p
asks_late before after a b (Err e) p = some_of before after a b p

pub from_none : (before : List Path) (a b : Option (List Path)) → before ≡ [] → AddsSome before a b → AddsSome [] a b
from_none before a b e p = subst (λ (l : List Path). AddsSome l a b) e p

-- ---- replies, in order

pub paths_then : (xs ys : List Reply) → asked_paths (xs ++ ys) ≡ asked_paths xs ++ asked_paths ys
paths_then xs ys = map-append (λ (r : Reply). r.path) xs ys

pub with_then : (asked : List Path) (xs ys : List Reply) →
    with_replies asked (xs ++ ys) ≡ with_replies (with_replies asked xs) ys
with_then asked xs ys =
    ap (λ (l : List Path). asked ++ l) (paths_then xs ys) ∙ sym (append_assoc asked (asked_paths xs) (asked_paths ys))

pub may_then : (may : Path → Option (List ℕ) → Type 0) (xs ys : List Reply) → MayReply may xs → MayReply may ys →
    MayReply may (xs ++ ys)
may_then may [] ys p q = q
may_then may (x ∷ xs) ys p q = (p.0, may_then may xs ys p.1 q)

pub may_stays : (may later : Path → Option (List ℕ) → Type 0) (xs : List Reply) → StaysWithin may later →
    MayReply later xs → MayReply may xs
may_stays may later [] stays p = tt
may_stays may later (x ∷ xs) stays p = (stays.stays x.path x.found p.0, may_stays may later xs stays p.1)
