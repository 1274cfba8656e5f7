-- How long a source waits for a busy server (RFC 9110, sections 10.2.3 and 15.6.4; RFC 6585, section 4).
use Rattle.std.specs.Prelude.{◌≡◌, ◌⊎◌, ℕ, ◌-◌, ◌^◌, ◌<◌, ◌≤◌, List, [], ◌∷◌, sum, min, max, Option}
use Rattle.std.specs.Prelude.{Some, None, All, Any, codes, length}
use Rattle.std.specs.Str.Parse.{IsNumeral, digits_value}
use Rattle.httparse.specs.Grammar.{ResponseHead, status_code}
use Rattle.mirror_client.specs.Reply.{Field, fields_of, HasReply, IsAnyCase}
use Rattle.mirror_client.specs.Site.{HostAndPrefix}

-- ---- what a server names

-- a field that names the seconds to wait
abbrev pub IsRetryAfter : Field → Type 0
IsRetryAfter field = IsAnyCase field.0 (codes "retry-after")

-- the field names that number of seconds to wait: a decimal number, where one of over 64 bits counts as the last of
-- these. No other value names any, as a date or a number with a sign
pub record NamesSeconds (field : Field) (n : ℕ) : Type 0 where
  pub is_one : IsRetryAfter field
  pub numeral : IsNumeral 10 field.1
  pub value : n ≡ min (digits_value 10 field.1) (2 ^ 64 - 1)

-- the seconds to wait that a field of a head names; None: no field names any
abbrev pub NamesWait : List Field → Option ℕ → Type 0
NamesWait fields (Some n) = Any (λ field. NamesSeconds field n) fields
NamesWait fields None = All (λ field. (n : ℕ) → ¬ NamesSeconds field n) fields

-- the status of a busy server
abbrev pub IsBusy : ℕ → Type 0
IsBusy status = (status ≡ 429) ⊎ (status ≡ 503)

-- the bytes are a reply of a busy server with this status, which names these seconds to wait, or none
pub record IsRefusal (bytes : List ℕ) (status : ℕ) (named : Option ℕ) : Type 0 where
  pub head : ResponseHead
  pub rest : List ℕ
  pub has : HasReply bytes head rest
  pub code : status ≡ status_code head
  pub busy : IsBusy status
  pub names : NamesWait (fields_of head) named

-- ---- how long it is waited

-- the wait after that number of refusals in a row, where the server names none: 1, 2, 4, 8, 16, 30, 30 and so on
pub record IsUsualWait (before wait : ℕ) : Type 0 where
  pub early : before < 5 → wait ≡ 2 ^ before
  pub late : 5 ≤ before → wait ≡ 30

-- the seconds to wait after a refusal that names these seconds, or none, after that number of refusals in a row, with
-- that number left; None: it is not waited
abbrev pub WaitIs : Option ℕ → ℕ → ℕ → Option ℕ → Type 0
WaitIs (Some n) before left (Some wait) = (wait ≡ max n 1) × (wait ≤ left)
WaitIs (Some n) before left None = left < max n 1
WaitIs None before left (Some wait) =
    (usual : ℕ) × IsUsualWait before usual × (wait ≡ min usual left) × (1 ≤ left)
WaitIs None before left None = left ≡ 0

-- ---- a run

-- a source over connections as a contract sees it: the site of its files, the gets that failed, the seconds that its
-- waits take at most, and those that are left of these
pub record Asking : Type 0 where
  pub site : HostAndPrefix
  pub failures : ℕ
  pub wait : ℕ
  pub left : ℕ

-- the site stays, and a part of the seconds that were left may be spent
pub record SpendsWait (old new : Asking) : Type 0 where
  pub site : new.site ≡ old.site
  pub wait : new.wait ≡ old.wait
  pub left : new.left ≤ old.left

-- the same, and no get failed
pub record Spends (old new : Asking) : Type 0 where
  pub failures : new.failures ≡ old.failures
  pub waits : SpendsWait old new

-- the waits of a run with that number of seconds left, in order: each is that after a refusal
pub data Waits : ℕ → List ℕ → Type 0 where
  WaitsDone : (left : ℕ) → Waits left []
  WaitsMore : (named : Option ℕ) (before left wait : ℕ) {waits : List ℕ} →
      WaitIs named before left (Some wait) → Waits (left - wait) waits → Waits left (wait ∷ waits)

-- all waits of a run together are at most the seconds that it may wait, and each takes a second at least
pub record AreWithin (left : ℕ) (waits : List ℕ) : Type 0 where
  pub together : sum waits ≤ left
  pub count : length waits ≤ left

-- so it is with the waits of each run
abbrev pub WaitsAreWithin : Type 0
WaitsAreWithin = (left : ℕ) (waits : List ℕ) → Waits left waits → AreWithin left waits
