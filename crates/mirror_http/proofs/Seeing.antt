-- The bytes that a reader gave, and all its bytes.
use Rattle.std.proofs.Common.{◌≡◌, ℕ, ◌+◌, ◌-◌, ◌<◌, ◌≤◌, List, [], ◌∷◌, ◌++◌, length, take, Option, Some, None, refl}
use Rattle.std.proofs.Common.{sym, ap, subst, ◌∙◌, append_assoc, arith}
use Rattle.std.specs.Prelude.{IfSome}
use Rattle.std.specs.Io.KnownBytes.{Consumes, IsAtEnd}
use Rattle.std.proofs.lemmas.List.{append-nil, length-append, take_all}
use Rattle.std.proofs.Math.Seq.{take-append-add}
use Rattle.std.proofs.KnownBytes.{Consumes-trans}
use Rattle.httparse.specs.Grammar.{print_request, ReadsRequest, HasNoRequest}
use Rattle.httparse.specs.Spans.{RequestOverflows}
use Rattle.httparse.specs.declared.spans.Span.{Span}
use Rattle.byte_streams.specs.Streams.{TakesAtMost}
use Rattle.mirror_http.specs.Answered.{FailsBeforeHead}
use Rattle.mirror_http.specs.Response.{HasRequest, LacksRequest}
use Rattle.mirror_http.specs.Looks.{HasRequestAt, ReadsMore, ReadsEnd, SeesIn}
use Rattle.mirror_http.specs.declared.limits.TheConstants.{MAX_REQUEST_FIELDS, MAX_REQUEST_LEN}
use Rattle.mirror_http.specs.declared.head.Received.TheVariants.{NoHead, Head}

-- ---- the bytes of a head and the bytes after them

-- the first bytes continue after those that were read
front_of : (xs ys : List ℕ) → length xs ≤ MAX_REQUEST_LEN →
    take MAX_REQUEST_LEN (xs ++ ys) ≡ xs ++ take (MAX_REQUEST_LEN - length xs) ys
front_of xs ys le =
    let n : MAX_REQUEST_LEN ≡ length xs + (MAX_REQUEST_LEN - length xs) = omega arith in
    ap (λ i. take i (xs ++ ys)) n ∙ take-append-add xs ys (MAX_REQUEST_LEN - length xs)

some_first : (xs ys : List ℕ) → 0 < length xs → (first : ℕ) × (others : List ℕ) × (xs ++ ys ≡ first ∷ others)
some_first [] ys lt = absurd (omega arith)
some_first (x ∷ xs) ys lt = (x, xs ++ ys, refl)

bad_head : (xs ys : List ℕ) → length xs ≤ MAX_REQUEST_LEN → RequestOverflows MAX_REQUEST_FIELDS xs → LacksRequest (xs ++ ys)
bad_head xs ys le over h has =
    let far = over (take (MAX_REQUEST_LEN - length xs) ys) h has.rest
    (subst (λ (b : List ℕ). ReadsRequest b h has.rest) (front_of xs ys le) has.reads) in
    absurd (omega (arith, far, has.few))

-- ---- the received head

pub sees_bad : (known cur : Option (List ℕ)) (xs buf : List ℕ) → 0 < length xs → length xs ≤ MAX_REQUEST_LEN →
    Consumes known cur xs → RequestOverflows MAX_REQUEST_FIELDS xs → IfSome known (λ all. SeesIn all buf NoHead)
sees_bad None cur xs buf lt le c over = tt
sees_bad (Some all) None xs buf lt le c over = absurd c
sees_bad (Some all) (Some ys) xs buf lt le c over =
    let f = some_first xs ys lt in
    (f.0, f.1, c ∙ f.2, subst LacksRequest (sym c) (bad_head xs ys le over))

pub sees_end : (known cur : Option (List ℕ)) (xs buf : List ℕ) → 0 < length xs → length xs ≤ MAX_REQUEST_LEN →
    Consumes known cur xs → IsAtEnd cur → HasNoRequest xs → IfSome known (λ all. SeesIn all buf NoHead)
sees_end None cur xs buf lt le c e none = tt
sees_end (Some all) None xs buf lt le c e none = absurd c
sees_end (Some all) (Some ys) xs buf lt le c e none =
    let f = some_first xs ys lt in
    let same : all ≡ xs = c ∙ (ap (λ (y : List ℕ). xs ++ y) e ∙ append-nil xs) in (
      f.0,
      f.1,
      c ∙ f.2,
      subst LacksRequest (sym same) (λ h has. none h has.rest
          (subst (λ (b : List ℕ). ReadsRequest b h has.rest) (take_all MAX_REQUEST_LEN xs le) has.reads)),
    )

pub sees_full : (known cur : Option (List ℕ)) (xs buf : List ℕ) → length xs ≡ MAX_REQUEST_LEN → Consumes known cur xs →
    HasNoRequest xs → IfSome known (λ all. SeesIn all buf NoHead)
sees_full None cur xs buf len c none = tt
sees_full (Some all) None xs buf len c none = absurd c
sees_full (Some all) (Some ys) xs buf len c none =
    let f = some_first xs ys (omega (arith, len)) in
    let zero_left : MAX_REQUEST_LEN - length xs ≡ 0 = omega (arith, len) in
    let front : take MAX_REQUEST_LEN (xs ++ ys) ≡ xs = front_of xs ys (omega (arith, len))
    ∙ rw zero_left (append-nil xs) in (
      f.0,
      f.1,
      c ∙ f.2,
      subst LacksRequest (sym c)
          (λ h has. none h has.rest (subst (λ (b : List ℕ). ReadsRequest b h has.rest) front has.reads)),
    )

pub sees_head : (known cur : Option (List ℕ)) (xs : List ℕ) (method target : Span) → length xs ≤ MAX_REQUEST_LEN →
    Consumes known cur xs → HasRequestAt xs method target → IfSome known (λ all. SeesIn all xs (Head method target))
sees_head None cur xs method target le c l = tt
sees_head (Some all) None xs method target le c l = absurd c
sees_head (Some all) (Some ys) xs method target le c l =
    let more : List ℕ = take (MAX_REQUEST_LEN - length xs) ys in
    let reads : ReadsRequest (take MAX_REQUEST_LEN (xs ++ ys)) l.head (l.rest ++ more) = (
      l.reads.0,
      front_of xs ys le
          ∙ (ap (λ (x : List ℕ). x ++ more) l.reads.1 ∙ append_assoc (print_request l.head) l.rest more),
    ) in (
      l.head,
      subst (λ (b : List ℕ). HasRequest b l.head) (sym c)
          (record { rest = l.rest ++ more; reads = reads; few = l.few }),
      l.method_is,
      l.target_is,
    )

-- a read failed, and the bytes before it contain no head
pub fails_before : (known cur : Option (List ℕ)) (xs : List ℕ) → Consumes known cur xs →
    length xs < MAX_REQUEST_LEN → (0 < length xs → HasNoRequest xs) → FailsBeforeHead known cur
fails_before known cur xs c lt none =
    record {
      taken = xs;
      consumes = c;
      within = lt;
      lacks = λ some h has. none some h has.rest
          (subst (λ (b : List ℕ). ReadsRequest b h has.rest) (take_all MAX_REQUEST_LEN xs (omega (arith, lt))) has.reads);
    }

-- ---- one more read

module _ (a b c : Option (List ℕ)) (old new : List ℕ) where
  pub taken_more : Consumes a b old → ReadsMore b c old new → Consumes a c new
  taken_more p r = subst (λ (x : List ℕ). Consumes a c x) (sym r.adds) (Consumes-trans a b c old r.bytes p r.consumes)

  pub taken_end : Consumes a b old → ReadsEnd b c old new → Consumes a c new
  taken_end p r =
      subst (λ (x : List ℕ). Consumes a c x) (append-nil old ∙ sym r.same) (Consumes-trans a b c old [] p r.consumes)

  pub taken_within : (n : ℕ) → n ≡ length old → n < MAX_REQUEST_LEN → Consumes a b old →
      TakesAtMost (MAX_REQUEST_LEN - n) b c → TakesAtMost MAX_REQUEST_LEN a c
  taken_within n is room p r =
      record {
        taken = old ++ r.taken;
        within = omega (arith, length-append old r.taken, r.within, room, is);
        consumes = Consumes-trans a b c old r.taken p r.consumes;
      }
