-- Pieces that are sent in order.
use Rattle.std.proofs.Common.{◌≡◌, ℕ, zero, suc, ◌+◌, List, [], ◌∷◌, ◌++◌, length, take, Option, sym, ap, subst}
use Rattle.std.proofs.Common.{◌∙◌, inl, inr, append_assoc, append-nil, arith}
use Rattle.std.specs.Prelude.{Result, Ok, Err, OnErr}
use Rattle.std.specs.Io.KnownBytes.{Appends}
use Rattle.std.proofs.KnownBytes.{Appends-nil, Appends-trans}
use Rattle.std.proofs.lemmas.Bool.{cases_lt}
use Rattle.std.proofs.lemmas.List.{take-append-le, take_all}
use Rattle.byte_streams.specs.Streams.{AppendsPrefix}
use Rattle.tlog_mirror.specs.Pieces.{Sends}

-- a property that is always true is true at an Err
pub in_err : {T E P : Type 0} (r : Result T E) → P → OnErr r P
in_err (Ok x) h = tt
in_err (Err e) h = h

take_past : (xs ys : List ℕ) (n : ℕ) → take (length xs + n) (xs ++ ys) ≡ xs ++ take n ys
take_past [] ys n = let e : zero + n ≡ n = omega arith in ap (λ k. take k ys) e
take_past (x ∷ xs) ys n =
    let e : suc (length xs) + n ≡ suc (length xs + n) = omega arith in
    ap (λ k. take k (x ∷ (xs ++ ys))) e ∙ ap (λ zs. x ∷ zs) (take_past xs ys n)

module _ (a b : Option (List ℕ)) where
  -- a prefix of a text is a prefix of a longer text
  pub prefix_more : (x y : List ℕ) → AppendsPrefix a b x → AppendsPrefix a b (x ++ y)
  prefix_more x y (n, is) = elim (cases_lt (length x) n) [
    | inl more ↦ (
      length x,
      subst (Appends a b)
          (take_all n x (omega (arith, more)) ∙ sym (take_all (length x) x (omega arith))
          ∙ sym (take-append-le (length x) x y (omega arith))) is,
    )
    | inr within ↦ (n, subst (Appends a b) (sym (take-append-le n x y within)) is)
  ]

  -- the written bytes, and then a prefix of the next ones
  pub prefix_then : (c : Option (List ℕ)) (x y : List ℕ) → Appends a b x → AppendsPrefix b c y →
      AppendsPrefix a c (x ++ y)
  prefix_then c x y p (n, q) =
      (length x + n, subst (Appends a c) (sym (take_past x y n)) (Appends-trans a b c x (take n y) p q))

  pub held_back : (held bytes new : List ℕ) → a ≡ b → new ≡ held ++ bytes → Sends a b new (held ++ bytes)
  held_back held bytes new same is =
      record { bytes = []; appends = subst (λ o. Appends a o []) same (Appends-nil a); is = is }

  pub all_sent : (c : Option (List ℕ)) (x y none : List ℕ) → Appends a b x → Appends b c y → none ≡ [] →
      Sends a c none (x ++ y)
  all_sent c x y none p q empty = record {
    bytes = x ++ y;
    appends = Appends-trans a b c x y p q;
    is = ap (λ zs. (x ++ y) ++ zs) empty ∙ append-nil (x ++ y);
  }

  -- two pieces in order
  module _ (c : Option (List ℕ)) (had mid first second : List ℕ) (p : Sends a b mid (had ++ first)) where
    joined : p.bytes ++ (mid ++ second) ≡ had ++ (first ++ second)
    joined =
        sym (append_assoc p.bytes mid second) ∙ ap (λ zs. zs ++ second) p.is ∙ append_assoc had first second

    pub sends_then : (new : List ℕ) → Sends b c new (mid ++ second) → Sends a c new (had ++ (first ++ second))
    sends_then new q = record {
      bytes = p.bytes ++ q.bytes;
      appends = Appends-trans a b c p.bytes q.bytes p.appends q.appends;
      is = append_assoc p.bytes q.bytes new ∙ ap (λ zs. p.bytes ++ zs) q.is ∙ joined;
    }

    pub fails_then : AppendsPrefix b c (mid ++ second) → AppendsPrefix a c (had ++ (first ++ second))
    fails_then q = subst (AppendsPrefix a c) joined (prefix_then c p.bytes (mid ++ second) p.appends q)

-- the bytes that are held back are written last
module _ (a b c : Option (List ℕ)) (held text : List ℕ) (p : Sends a b held text) where
  pub ends : Appends b c held → Appends a c text
  ends q = subst (Appends a c) p.is (Appends-trans a b c p.bytes held p.appends q)

  pub ends_early : AppendsPrefix b c held → AppendsPrefix a c text
  ends_early q = subst (AppendsPrefix a c) p.is (prefix_then a b c p.bytes held p.appends q)
